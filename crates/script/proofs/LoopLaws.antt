-- A loop over the lines of a script: what it has reached, and what one line more does.
use Rattle.std.proofs.Common.{◌≡◌, ℕ, ◌+◌, true, List, [], ◌∷◌, ◌++◌, refl, ap, sym, ◌∙◌, Option}
use Rattle.texts.specs.Lines.{line_feed, IsOneLine}
use Rattle.rows.specs.Tables.{Table}
use Rattle.script.specs.Replies.{text, reply_line}
use Rattle.texts.specs.Output.{IsWhole, no_line}
use Rattle.texts.specs.Runs as run
use Rattle.script.specs.Machine.{Bounds, State, opening, step}
use Rattle.script.specs.Grammar.{forms, commands, command_in}
use Rattle.script.specs.Script.{machine, replies, commits, after}
use Rattle.script.specs.declared.command.Command.{Command}
use Rattle.texts.proofs.LinesLaws.{commands-whole, commands_line, commands-ended}
use Rattle.texts.proofs.TextLaws.{text-append}
use Rattle.texts.proofs.RunsLaws.{state_after-append, replies-append, commits-append, after_so_far, after_next}
use Rattle.texts.proofs.OutputLaws.{IsWhole-line, IsWhole-append}
use Rattle.script.proofs.MachineLaws.{step_keeps, tells}

-- ---- what is reached

-- After these whole lines, from these tables, the plain machine is in this state.
pub record Reached (bounds : Bounds) (tables : List Table) (lines : List ℕ) (s : State) : Type 0 where
  pub whole : IsWhole lines
  pub state : s ≡ run.state_after (machine bounds) (opening tables) (commands lines)

module _ (bounds : Bounds) (tables : List Table) where
  pub Reached-start : Reached bounds tables [] (opening tables)
  Reached-start = record { whole = no_line; state = refl }

  -- one line more, with its line feed
  pub Reached-line : (lines line : List ℕ) (s : State) → IsOneLine line → Reached bounds tables lines s →
      Reached bounds tables (lines ++ (line ++ line_feed ∷ [])) (run.state_after (machine bounds) s (command_in line))
  Reached-line lines line s one r = record {
    whole = IsWhole-append r.whole (IsWhole-line line);
    state =
        let cs : commands (lines ++ (line ++ line_feed ∷ [])) ≡ commands lines ++ command_in line =
        commands-whole forms (line ++ line_feed ∷ []) r.whole ∙ ap (λ l. commands lines ++ l) (commands-ended forms line ∙ commands_line forms line one) in
        rw (cs, state_after-append (machine bounds) (opening tables) (commands lines) (command_in line)) (ap (λ t. run.state_after (machine bounds) t (command_in line)) r.state);
  }

  -- what follows the lines has its replies from the state that is reached
  pub replies-reached : (lines rest : List ℕ) (s : State) → Reached bounds tables lines s →
      replies bounds tables (lines ++ rest) ≡ replies bounds tables lines ++ run.replies (machine bounds) s (commands rest)
  replies-reached lines rest s r =
      rw (commands-whole forms rest r.whole) (replies-append (machine bounds) (opening tables) (commands lines) (commands rest)
      ∙ ap (λ t. replies bounds tables lines ++ run.replies (machine bounds) t (commands rest)) (sym r.state))

  pub commits-reached : (lines rest : List ℕ) (s : State) → Reached bounds tables lines s →
      commits bounds tables (lines ++ rest) ≡ commits bounds tables lines + run.commits (machine bounds) s (commands rest)
  commits-reached lines rest s r =
      rw (commands-whole forms rest r.whole) (commits-append (machine bounds) (opening tables) (commands lines) (commands rest)
      ∙ ap (λ t. commits bounds tables lines + run.commits (machine bounds) t (commands rest)) (sym r.state))

  -- the committed tables that are reached are those after the commits so far
  pub after-reached : (lines rest : List ℕ) (s : State) → Reached bounds tables lines s →
      after bounds tables (lines ++ rest) (commits bounds tables lines) ≡ s.tables
  after-reached lines rest s r =
      rw (commands-whole forms rest r.whole) (after_so_far (machine bounds) (step_keeps bounds) (opening tables) (commands lines) (commands rest)
      ∙ ap (λ (t : State). t.tables) (sym r.state))

  -- and while a commit is carried out, the next tables are those that it leaves
  pub after-committing : (lines rest : List ℕ) (s : State) (c : Option Command) (cs : List (Option Command)) → Reached bounds tables lines s →
      commands rest ≡ c ∷ cs → tells (step bounds s c) ≡ true →
      after bounds tables (lines ++ rest) (commits bounds tables lines + 1) ≡ (step bounds s c).0.tables
  after-committing lines rest s c cs r e t =
      let there : tells (step bounds (run.state_after (machine bounds) (opening tables) (commands lines)) c) ≡ true = rw r.state at t in
      rw (commands-whole forms rest r.whole, e)
      (after_next (machine bounds) (step_keeps bounds) (opening tables) (commands lines) c cs there
      ∙ ap (λ (t : State). (step bounds t c).0.tables) (sym r.state))

-- ---- one line more, for a loop that keeps what is left of the script

-- the state and the text after a script, from those after its first line
pub state-first : (bounds : Bounds) (s : State) (script line rest : List ℕ) → commands script ≡ command_in line ++ commands rest →
    run.state_after (machine bounds) (run.state_after (machine bounds) s (command_in line)) (commands rest) ≡ run.state_after (machine bounds) s (commands script)
state-first bounds s script line rest e = rw e (sym (state_after-append (machine bounds) s (command_in line) (commands rest)))

pub text-first : (bounds : Bounds) (s : State) (script line rest : List ℕ) → commands script ≡ command_in line ++ commands rest →
    text (run.replies (machine bounds) s (command_in line)) ++ text (run.replies (machine bounds) (run.state_after (machine bounds) s (command_in line)) (commands rest)) ≡ text (run.replies (machine bounds) s (commands script))
text-first bounds s script line rest e =
    rw e (sym (ap text (replies-append (machine bounds) s (command_in line) (commands rest))
    ∙ text-append reply_line (run.replies (machine bounds) s (command_in line)) (run.replies (machine bounds) (run.state_after (machine bounds) s (command_in line)) (commands rest))))

-- From the way of a run to what is promised of it.
use Rattle.std.proofs.Common.{◌≡◌, ℕ, ◌+◌, Bool, true, false, List, [], ◌∷◌, ◌++◌, length, refl, sym, ◌∙◌, ap, subst, arith, length-append, get_or, IsTrue}
use Rattle.std.proofs.lemmas.List.{append-nil}
use Rattle.std.proofs.Math.Seq.{get_or-append_seam}
use Rattle.devices.specs.State.{Image, fresh}
use Rattle.devices.specs.World.{Standing, Outside, Goes, GoesOn, IsTimed, Moments, now, sent}
use Rattle.devices.proofs.MomentLaws.{Goes-sent}
use Rattle.flat_transactions.specs.Order.{Sizes}
use Rattle.rows.specs.Tables.{Table}
use Rattle.script.specs.Grammar.{commands}
use Rattle.script.specs.Machine.{State, opening}
use Rattle.script.specs.Script.{machine, replies, commits, after}
use Rattle.script.specs.Replies.{text}
use Rattle.texts.specs.Runs as run
use Rattle.engine.specs.declared.engine.Engine.{Engine}
use Rattle.engine.specs.Holds.{bounds_in, Holds, HasOnly, InOrder}
use Rattle.engine.specs.Engine.{engine_sizes, StandsFor, IsSteadyFor, Shows}
use Rattle.engine.specs.Opening.{ShowsHeld}
use Rattle.engine.proofs.DoesLaws.{engine_in_order, engine_holds}
use Rattle.runner.specs.Run.{Aim, aim_of as aim_of_run, IsKept, AreSafe, IsReached}
use Rattle.runner.proofs.RunLaws.{safe_then}
use Rattle.spitfire_app.specs.Promises.{Replies, Recovers, Survives}

-- the aim of a run over a store of these sizes and devices, with these tables, this input, and behind what was sent
abbrev pub aim_at : List ℕ → Sizes → List Table → List ℕ → ℕ → ℕ → Bool → Aim
aim_at before g T input lines blocks sure = record {
  before = before;
  replies = text (replies (bounds_in g) T input);
  versions = T ∷ run.versions (machine (bounds_in g)) (opening T) (commands input);
  sizes = g;
  lines = lines;
  blocks = blocks;
  in_order = sure;
}

module _ (g : Sizes) (T : List Table) (old : Standing) where
  -- what a run over these tables is to do
  abbrev pub aim_of : Bool → Aim
  aim_of sure = aim_at (sent old) g T old.outside.input old.lines old.blocks sure

  -- while the store is opened nothing is sent
  module _ (mid : Standing) (timed : IsTimed old) (goes : Goes old mid) (sure : Bool) where
    pub opening_safe : (IsTrue sure → Moments old mid (HasOnly g T old.lines old.blocks)) → AreSafe (aim_of sure) old mid
    opening_safe moments = record {
      each = λ m low high. record {
        said = [];
        is_said = Goes-sent timed goes m low ∙ sym (append-nil (sent old));
        begins = (text (replies (bounds_in g) T old.outside.input), refl);
        images = λ in_order i left. record {
          tables = T;
          past = [];
          later = run.versions (machine (bounds_in g)) (opening T) (commands old.outside.input);
          version = refl;
          in_order = (moments in_order).each m low high i left;
          acknowledged = omega arith;
          one_more = omega arith;
        };
      };
    }

    -- and then the aim of the script is that of the whole
    pub aim_same : (engine : Engine) → engine_sizes engine ≡ g → aim_of_run engine (opening T) mid sure ≡ aim_of sure
    aim_same engine sizes =
        ap (λ (x : Sizes). aim_at (sent mid) x T mid.outside.input mid.lines mid.blocks sure) sizes
        ∙ ap (λ (l : List ℕ). aim_at l g T mid.outside.input mid.lines mid.blocks sure) (Goes-sent timed goes mid.clock goes.clock)
        ∙ ap (λ (o : Outside). aim_at (sent old) g T o.input mid.lines mid.blocks sure) goes.outside
        ∙ ap (λ n. aim_at (sent old) g T old.outside.input n mid.blocks sure) goes.lines
        ∙ ap (λ n. aim_at (sent old) g T old.outside.input old.lines n sure) goes.blocks

  -- the tables after so many commits are those that stand behind so many
  after_past : (past later : List (List Table)) (tables : List Table) → past ++ (tables ∷ later) ≡ T ∷ run.versions (machine (bounds_in g)) (opening T) (commands old.outside.input)
      → after (bounds_in g) T old.outside.input (length past) ≡ tables
  after_past past later tables version = ap (λ (l : List (List Table)). get_or l (length past) T) (sym version) ∙ get_or-append_seam past tables later T

  within_past : (past later : List (List Table)) (tables : List Table) → past ++ (tables ∷ later) ≡ T ∷ run.versions (machine (bounds_in g)) (opening T) (commands old.outside.input)
      → length past + length later ≡ commits (bounds_in g) T old.outside.input
  within_past past later tables version =
      let counts : length past + length (tables ∷ later) ≡ length (T ∷ run.versions (machine (bounds_in g)) (opening T) (commands old.outside.input)) = sym (length-append past (tables ∷ later)) ∙ ap length version in
      omega arith

  recovers : (said : List ℕ) (i : Image) → IsKept (aim_of true) said i → Recovers g T old.outside.input old.lines old.blocks said i
  recovers said i kept = record {
    kept = length kept.past;
    within = let all : length kept.past + length kept.later ≡ commits (bounds_in g) T old.outside.input = within_past kept.past kept.later kept.tables kept.version in omega arith;
    in_order = subst (λ (x : List Table). InOrder g x old.lines old.blocks (fresh i)) (sym (after_past kept.past kept.later kept.tables kept.version)) kept.in_order;
    acknowledged = kept.acknowledged;
    one_more = kept.one_more;
  }

  -- at the end
  module _ (sure : Bool) (engine : Engine) (new : Standing) (done : IsReached (aim_of sure) engine new) where
    last : (commits (bounds_in g) T old.outside.input ≡ length done.past) × (after (bounds_in g) T old.outside.input (commits (bounds_in g) T old.outside.input) ≡ (done.s).tables)
    last =
        let all : length done.past + 0 ≡ commits (bounds_in g) T old.outside.input = within_past done.past [] (done.s).tables done.last in
        let count : commits (bounds_in g) T old.outside.input ≡ length done.past = omega arith in
        (count, ap (λ k. after (bounds_in g) T old.outside.input k) count ∙ after_past done.past [] (done.s).tables done.last)

    end_sent : sent new ≡ sent old ++ text (replies (bounds_in g) T old.outside.input)
    end_sent = done.all_sent

    module _ (stands : StandsFor engine new) (told : IsTrue new.told) where
      end_holds : Holds g (after (bounds_in g) T old.outside.input (commits (bounds_in g) T old.outside.input)) (now new)
      end_holds =
          subst (λ (x : List Table). Holds g x (now new)) (sym last.1)
          (subst (λ (x : Sizes). Holds x (done.s).tables (now new)) done.sizes (engine_holds engine new stands told done.s done.shows))

      end_in_order : IsTrue sure → InOrder g (after (bounds_in g) T old.outside.input (commits (bounds_in g) T old.outside.input)) old.lines old.blocks (now new)
      end_in_order in_order =
          subst (λ (x : List Table). InOrder g x old.lines old.blocks (now new)) (sym last.1)
          (subst (λ (x : Sizes). InOrder x (done.s).tables old.lines old.blocks (now new)) done.sizes
          (subst (λ n. InOrder (engine_sizes engine) (done.s).tables n old.blocks (now new)) done.lines
          (subst (λ n. InOrder (engine_sizes engine) (done.s).tables new.lines n (now new)) done.blocks
          (engine_in_order engine new stands told done.s done.shows (done.steady in_order)))))

  -- Where a run stands that came to its end.
  pub record Ended (sure : Bool) (new : Standing) : Type 0 where
    pub engine : Engine
    pub done : IsReached (aim_of sure) engine new
    pub stands : StandsFor engine new
    pub told : IsTrue new.told

  pub replied : (new : Standing) (status : ℕ) → AreSafe (aim_of false) old new → (status ≡ 0 → Ended false new) → (status ≡ 0 → new.outside.input ≡ []) → Replies g T old new status
  replied new status safe ended read = record {
    begin = λ m low high. let at = safe.each m low high in (at.said, at.is_said, at.begins);
    whole = λ is. let at = ended is in end_sent false at.engine new at.done;
    read = read;
    holds = λ is. let at = ended is in end_holds false at.engine new at.done at.stands at.told;
  }

  pub survived : (new : Standing) (status : ℕ) → AreSafe (aim_of true) old new → (status ≡ 0 → Ended true new) → Survives g T old new status
  survived new status safe ended = record {
    crash = λ m low high. let at = safe.each m low high in (at.said, at.is_said, (λ i left. recovers at.said i (at.images refl i left)));
    in_order = λ is. let at = ended is in end_in_order true at.engine new at.done at.stands at.told refl;
  }

-- ---- an opening

-- What a script's run does behind an opening.
pub record Runs (engine : Engine) (mid : Standing) (behind : Engine) (new : Standing) (status : ℕ) : Type 0 where
  pub goes : GoesOn mid new
  pub safe : (s : State) (sure : Bool) → Shows engine mid s → (IsTrue sure → IsSteadyFor engine mid) → AreSafe (aim_of_run engine s mid sure) mid new
  pub ends : (s : State) (sure : Bool) → Shows engine mid s → (IsTrue sure → IsSteadyFor engine mid) → status ≡ 0 → IsReached (aim_of_run engine s mid sure) behind new
  pub stands : status ≡ 0 → StandsFor behind new
  pub read : status ≡ 0 → new.outside.input ≡ []

never : {A : Type 0} → IsTrue false → A
never none = let clash : false ≡ true = none in absurd (cc)

module _ (g : Sizes) (T : List Table) (old mid : Standing) (timed : IsTimed old) (goes : Goes old mid) where
  -- that was refused
  pub refused_replies : (status : ℕ) → (status ≡ 0 → ⊥) → Replies g T old mid status
  refused_replies status other = replied g T old mid status (opening_safe g T old mid timed goes false (λ none. never none)) (λ is. absurd (other is)) (λ is. absurd (other is))

  pub refused_survives : (status : ℕ) → (status ≡ 0 → ⊥) → Moments old mid (HasOnly g T old.lines old.blocks) → Survives g T old mid status
  refused_survives status other moments = survived g T old mid status (opening_safe g T old mid timed goes true (λ in_order. moments)) (λ is. absurd (other is))

  -- and one behind which a script was run
  module _ (engine behind : Engine) (new : Standing) (status : ℕ) (runs : Runs engine mid behind new status) (told : IsTrue old.told) (held : ShowsHeld g T mid engine) where
    told_new : IsTrue new.told
    told_new = subst IsTrue (sym (runs.goes.told ∙ goes.told)) told

    ended : (sure : Bool) → (IsTrue sure → IsSteadyFor engine mid) → status ≡ 0 → Ended g T old sure new
    ended sure steady is = record {
      engine = behind;
      done = subst (λ (aim : Aim). IsReached aim behind new) (aim_same g T old mid timed goes sure engine held.sizes) (runs.ends (opening T) sure held.shows steady is);
      stands = runs.stands is;
      told = told_new;
    }

    safe : (sure : Bool) → (IsTrue sure → IsSteadyFor engine mid) → (IsTrue sure → Moments old mid (HasOnly g T old.lines old.blocks)) → AreSafe (aim_of g T old sure) old new
    safe sure steady moments =
        safe_then (opening_safe g T old mid timed goes sure moments) runs.goes
        (subst (λ (aim : Aim). AreSafe aim mid new) (aim_same g T old mid timed goes sure engine held.sizes) (runs.safe (opening T) sure held.shows steady))

    pub run_replies : Replies g T old new status
    run_replies = replied g T old new status (safe false (λ none. never none) (λ none. never none)) (ended false (λ none. never none)) runs.read

    pub run_survives : IsSteadyFor engine mid → Moments old mid (HasOnly g T old.lines old.blocks) → Survives g T old new status
    run_survives steady moments = survived g T old new status (safe true (λ in_order. steady) (λ in_order. moments)) (ended true (λ in_order. steady))

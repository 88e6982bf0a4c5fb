-- The end of a commit keeps the facts of an open store, and makes the current words the committed ones.
use Rattle.std.proofs.Common.{◌≡◌, ◌⊎◌, ℕ, ◌+◌, ◌≤◌, List, ◌++◌, refl, sym, ap, ◌∙◌, inl, inr, arith, eqb}
use Rattle.std.proofs.lemmas.Bool.{cases_eq, eq-eqb, ne_eqb, cond-true, cond-false}
use Rattle.nvm_model.specs.declared.line.Line.{Line}
use Rattle.devices.specs.State.{State, Image, Amid, Leaves, current, after_all}
use Rattle.flat_store_meaning.specs.Layout.{Sizes, pages, ring_lines}
use Rattle.flat_store_meaning.specs.Log.{Words}
use Rattle.flat_store_meaning.specs.Log.Entry.{commit}
use Rattle.flat_store_meaning.specs.Format.Format.{whole_lines}
use Rattle.flat_store_meaning.specs.Recovered.{Super, super_of, log_lines, log_of, recovered, recovered_pages, lines_of}
use Rattle.flat_store_meaning.specs.Put.{append_calls}
use Rattle.flat_store_meaning.specs.Append.{commit_lines}
use Rattle.flat_store_meaning.specs.StoreFacts.{Bookkeeping, StoreFacts, moving, committed_from}
use Rattle.flat_store_meaning.proofs.FactsLaws.{commit_facts, facts_recover}
use Rattle.flat_store_meaning.proofs.RecoveredLaws.{lines_of-same}
use Rattle.flat_store_meaning.proofs.EndsLaws.{commit_ends}
use Rattle.flat_store_laws.specs.OpenFacts.{OpenFacts, keeping}
use Rattle.flat_store_laws.specs.ShownPages.{pages_in, words_in}
use Rattle.flat_store_laws.specs.Steps.{HoldsFacts, IsStoreOf}
use Rattle.flat_store_laws.proofs.OpenLaws.{same_store, open_undoing}
use Rattle.flat_store_laws.proofs.BehindLaws.{PutsEntry, one_line, can_put, amid_put, held_behind, open_behind, lines_behind, committed_behind, log_behind}

module _ (g : Sizes) (start tail : ℕ) (s : State) (it : OpenFacts g start tail s) (room : tail + 1 ≤ start + ring_lines g) where
  abbrev xs : List Line
  xs = commit_lines

  abbrev b : Bookkeeping
  b = keeping g it.words it.kept

  abbrev sup : Super
  sup = super_of (current s)

  puts : PutsEntry g start tail it.words it.kept s xs commit
  puts = record { it = open_undoing it; are_lines = one_line _ refl; entry = refl; room = room }

  abbrev after_commit : ℕ → Words
  after_commit = committed_from (sup.tail + 1) it.words (λ n. it.kept)

  commit_moment : (mid : State) → Amid s (append_calls sup.sizes sup.tail xs) mid → StoreFacts (moving b sup.tail (sup.tail + 1) after_commit) mid
  commit_moment mid amid = commit_facts b s it.facts xs (can_put puts) (omega arith) puts.are_lines (λ at. refl) refl refl it.ends mid amid

  -- with the new tail the current words are the committed ones
  now_committed : (p l w : ℕ) → after_commit (sup.tail + 1) p l w ≡ it.words p l w
  now_committed p l w = ap (λ (x : Words). x p l w) (cond-true (eqb (sup.tail + 1) (sup.tail + 1)) it.words it.kept (eq-eqb (sup.tail + 1) (sup.tail + 1) refl))

  -- the lines of the current words
  lines_now : lines_of (pages g) it.words ≡ pages_in g s
  lines_now = lines_of-same (pages g) it.words (words_in g s) (λ p l w hp hl hw. sym (it.newest p l w (record { page = hp; line = hl; word = hw })))

  -- At each moment each image is a store that recovers to the old committed pages or to the current ones.
  pub commit_chooses : (mid : State) → Amid s (append_calls g tail xs) mid → (i : Image) → Leaves mid i
      → IsStoreOf g (lines_of (pages g) it.kept) i ⊎ IsStoreOf g (pages_in g s) i
  commit_chooses mid amid i left =
      let facts : StoreFacts (moving b sup.tail (sup.tail + 1) after_commit) mid = commit_moment mid (amid_put puts mid amid) in
      let by : (words : Words) → ((p l w : ℕ) → after_commit (super_of i).tail p l w ≡ words p l w) → IsStoreOf g (lines_of (pages g) words) i =
      (λ words same. record {
        is_sized = record { store = facts.stores i left; sizes = facts.sizes i left };
        pages = ap (λ (n : Sizes). lines_of (pages n) (recovered whole_lines i)) (facts.sizes i left)
            ∙ lines_of-same (pages g) (recovered whole_lines i) words
            (λ p l w hp hl hw. facts_recover (moving b sup.tail (sup.tail + 1) after_commit) mid facts i left p l w (record { page = hp; line = hl; word = hw }) ∙ same p l w);
      }) in
      elim (cases_eq (super_of i).tail (sup.tail + 1)) [
        | inl new ↦ inr (same_store g (lines_of (pages g) it.words) (pages_in g s) i (by it.words (λ p l w. ap (λ n. after_commit n p l w) new ∙ now_committed p l w)) lines_now)
        | inr old ↦ inl (by it.kept (λ p l w. ap (λ (x : Words). x p l w) (cond-false (eqb (super_of i).tail (sup.tail + 1)) it.words it.kept (ne_eqb (super_of i).tail (sup.tail + 1) old))))
      ]

  -- At each moment the facts of a store hold.
  pub commit_held : (mid : State) → Amid s (append_calls g tail xs) mid → HoldsFacts g mid
  commit_held mid amid = held_behind puts after_commit commit_moment mid amid

  -- When the commit is done the facts hold, and each image recovers to the current pages.
  pub commit_open : OpenFacts g start (tail + 1) (after_all (append_calls g tail xs) s)
  commit_open = open_behind puts after_commit commit_moment it.words now_committed (λ j left. commit_ends g (log_of whole_lines j) it.words (it.ends j left))

  pub commit_newest : pages_in g (after_all (append_calls g tail xs) s) ≡ pages_in g s
  commit_newest = lines_behind puts ∙ lines_now

  pub commit_committed : recovered_pages whole_lines (current (after_all (append_calls g tail xs) s)) ≡ pages_in g s
  commit_committed = committed_behind puts after_commit commit_moment it.words now_committed ∙ lines_now

  -- the log has the end last
  pub commit_log : log_lines (current (after_all (append_calls g tail xs) s)) ≡ log_lines (current s) ++ xs
  commit_log = log_behind puts

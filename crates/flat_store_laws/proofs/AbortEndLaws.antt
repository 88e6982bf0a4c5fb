-- The end of an abort: when all lines are taken back it keeps the facts of an open store.
use Rattle.std.proofs.Common.{◌≡◌, ℕ, ◌+◌, ◌≤◌, List, ◌++◌, refl, sym, ◌∙◌}
use Rattle.nvm_model.specs.declared.line.Line.{Line}
use Rattle.devices.specs.State.{State, Image, Amid, Leaves, current, after_all}
use Rattle.flat_store_meaning.specs.Layout.{Sizes, pages, ring_lines}
use Rattle.flat_store_meaning.specs.Log.{Words}
use Rattle.flat_store_meaning.specs.Log.Entry.{abort}
use Rattle.flat_store_meaning.specs.Format.Format.{whole_lines}
use Rattle.flat_store_meaning.specs.Recovered.{Super, super_of, log_lines, log_of, lines_of}
use Rattle.flat_store_meaning.specs.Put.{append_calls}
use Rattle.flat_store_meaning.specs.Append.{abort_lines}
use Rattle.flat_store_meaning.specs.StoreFacts.{IsWord, Bookkeeping, StoreFacts, moving}
use Rattle.flat_store_meaning.proofs.FactsLaws.{abort_facts}
use Rattle.flat_store_meaning.proofs.RecoveredLaws.{lines_of-same}
use Rattle.flat_store_meaning.proofs.EndsLaws.{abort_ends}
use Rattle.flat_store_laws.specs.Undoing.{Undoing}
use Rattle.flat_store_laws.specs.Steps.{HoldsFacts, IsStoreOf}
use Rattle.flat_store_laws.specs.ShownPages.{pages_in, committed_in}
use Rattle.flat_store_laws.specs.OpenFacts.{OpenFacts, keeping}
use Rattle.flat_store_laws.proofs.OpenLaws.{store_by}
use Rattle.flat_store_laws.proofs.BehindLaws.{PutsEntry, one_line, can_put, amid_put, held_behind, open_behind, lines_behind, committed_behind, log_behind}

module _ (g : Sizes) (start tail : ℕ) (words kept : Words) (s : State) (it : Undoing g start tail words kept s)
    (back : (p l w : ℕ) → IsWord g p l w → words p l w ≡ kept p l w) (room : tail + 1 ≤ start + ring_lines g) where
  abbrev xs : List Line
  xs = abort_lines

  abbrev b : Bookkeeping
  b = keeping g words kept

  abbrev sup : Super
  sup = super_of (current s)

  puts : PutsEntry g start tail words kept s xs abort
  puts = record { it = it; are_lines = one_line _ refl; entry = refl; room = room }

  abort_moment : (mid : State) → Amid s (append_calls sup.sizes sup.tail xs) mid → StoreFacts (moving b sup.tail (sup.tail + 1) (λ n. kept)) mid
  abort_moment mid amid = abort_facts b s it.facts xs (can_put puts) puts.are_lines (λ at. refl) refl (λ p l w. refl) mid amid

  -- At each moment each image is a store that recovers to the committed pages.
  pub abort_pages : (mid : State) → Amid s (append_calls g tail xs) mid → (i : Image) → Leaves mid i → IsStoreOf g (lines_of (pages g) kept) i
  abort_pages mid amid i left = store_by (moving b sup.tail (sup.tail + 1) (λ n. kept)) mid (abort_moment mid (amid_put puts mid amid)) refl kept (λ n p l w. refl) i left

  -- At each moment the facts of a store hold.
  pub abort_held : (mid : State) → Amid s (append_calls g tail xs) mid → HoldsFacts g mid
  abort_held mid amid = held_behind puts (λ n. kept) abort_moment mid amid

  -- When the abort is done the facts hold, with nothing open in the log.
  pub abort_open : OpenFacts g start (tail + 1) (after_all (append_calls g tail xs) s)
  abort_open =
      open_behind puts (λ n. kept) abort_moment kept (λ p l w. refl)
      (λ j left. abort_ends g (log_of whole_lines j) words (λ p l w word logged homes. (it.facts.log j left).logged p l w word logged homes ∙ sym (back p l w word)))

  -- The current lines and the committed ones are those that were committed before.
  pub abort_newest : pages_in g (after_all (append_calls g tail xs) s) ≡ lines_of (pages g) kept
  abort_newest = lines_behind puts ∙ lines_of-same (pages g) words kept (λ p l w hp hl hw. back p l w (record { page = hp; line = hl; word = hw }))

  pub abort_committed : committed_in (after_all (append_calls g tail xs) s) ≡ lines_of (pages g) kept
  abort_committed = committed_behind puts (λ n. kept) abort_moment kept (λ p l w. refl)

  -- the log has the end last
  pub abort_log : log_lines (current (after_all (append_calls g tail xs) s)) ≡ log_lines (current s) ++ xs
  abort_log = log_behind puts

-- What the facts of an open store say of its images.
use Rattle.std.proofs.Common.{◌≡◌, ℕ, ◌+◌, ◌-◌, ◌≤◌, false, refl, sym, ap, ◌∙◌, subst, inl, inr, arith, None}
use Rattle.std.proofs.lemmas.Bool.{cases_Bool}
use Rattle.devices.specs.State.{State, Image, Leaves, current}
use Rattle.flat_store_meaning.specs.Layout.{Sizes, pages, ring_lines}
use Rattle.flat_store_meaning.specs.Log.{Words, is_logged, named_in, changes}
use Rattle.flat_store_meaning.specs.Format.Format.{whole_lines}
use Rattle.flat_store_meaning.specs.Format.{Format}
use Rattle.flat_store_meaning.specs.Recovered.{Super, super_of, log_of, recovered, recovered_pages, lines_of, home, IsStore}
use Rattle.line_pages.specs.Lines.{Lines}
use Rattle.flat_store_meaning.specs.StoreFacts.{Bookkeeping, IsWord, is_written, StoreFacts}
use Rattle.flat_store_meaning.specs.Put.{CanPut}
use Rattle.flat_store_meaning.specs.Checked.{SuperPasses}
use Rattle.flat_store_meaning.proofs.CheckLaws.{store_passes}
use Rattle.flat_store_meaning.proofs.FactsLaws.{facts_recover, facts_can_put, current_leaves}
use Rattle.flat_store_meaning.proofs.RecoveredLaws.{lines_of-same}
use Rattle.flat_store_laws.specs.OpenFacts.{OpenFacts, keeping, super_with}
use Rattle.flat_store_laws.specs.Steps.{IsStoreOf}
use Rattle.flat_store_laws.specs.Undoing.{Undoing}
use Rattle.flat_store_meaning.proofs.EndsLaws.{commit_untouched, commit_logged}

-- where the committed words are the same for each tail, every image recovers to their lines
pub pages_by : (b : Bookkeeping) (s : State) → StoreFacts b s → (kept : Words) → ((n p l w : ℕ) → b.committed n p l w ≡ kept p l w) → (i : Image) → Leaves s i
    → recovered_pages b.format i ≡ lines_of (pages b.sizes) kept
pages_by b s facts kept same i left =
    ap (λ (g : Sizes). lines_of (pages g) (recovered b.format i)) (facts.sizes i left)
    ∙ lines_of-same (pages b.sizes) (recovered b.format i) kept
    (λ p l w hp hl hw. facts_recover b s facts i left p l w (record { page = hp; line = hl; word = hw }) ∙ same (super_of i).tail p l w)

-- and is a store of its sizes
pub store_by : (b : Bookkeeping) (s : State) → StoreFacts b s → b.format ≡ whole_lines → (kept : Words) → ((n p l w : ℕ) → b.committed n p l w ≡ kept p l w) → (i : Image) → Leaves s i
    → IsStoreOf b.sizes (lines_of (pages b.sizes) kept) i
store_by b s facts format kept same i left = record {
  is_sized = record { store = subst (λ (f : Format). IsStore f i) format (facts.stores i left); sizes = facts.sizes i left };
  pages = ap (λ (f : Format). recovered_pages f i) (sym format) ∙ pages_by b s facts kept same i left;
}

-- the same lines under another name
pub same_store : (g : Sizes) (lines others : Lines) (i : Image) → IsStoreOf g lines i → lines ≡ others → IsStoreOf g others i
same_store g lines others i it same = record { is_sized = it.is_sized; pages = it.pages ∙ same }

-- the log of a store is within its ring, so that a line may be stored in place, or the log emptied
pub facts_can_store : (b : Bookkeeping) (s : State) → StoreFacts b s → b.changing ≡ None → CanPut s 0
facts_can_store b s facts still =
    facts_can_put b s 0 facts still
    (subst (λ (x : Sizes). (super_of (current s)).tail + 0 ≤ (super_of (current s)).start + ring_lines x) (facts.sizes (current s) (current_leaves s))
    (by_checks (super_of (current s)) (store_passes b.format (current s) (facts.stores (current s) (current_leaves s)))))
  where
    by_checks : (sup : Super) → SuperPasses sup → sup.tail + 0 ≤ sup.start + ring_lines sup.sizes
    by_checks sup passes = let started : sup.start ≤ sup.tail = passes.started in let short : sup.tail - sup.start ≤ ring_lines sup.sizes = passes.in_ring in omega arith

-- the log stands between its offsets, and they are no further apart than the ring is long
pub facts_range : (g : Sizes) (start tail : ℕ) (words kept : Words) (s : State) → StoreFacts (keeping g words kept) s → super_of (current s) ≡ super_with g start tail
    → (start ≤ tail) × (tail ≤ start + ring_lines g)
facts_range g start tail words kept s facts is =
    let passes : SuperPasses (super_with g start tail) = subst (λ (x : Super). SuperPasses x) is (store_passes whole_lines (current s) (facts.stores (current s) (current_leaves s))) in
    let started : start ≤ tail = passes.started in
    let short : tail - start ≤ ring_lines g = passes.in_ring in (started, omega arith)

-- what holds between two calls holds while lines are taken back
pub open_undoing : {g : Sizes} {start tail : ℕ} {s : State} (it : OpenFacts g start tail s) → Undoing g start tail it.words it.kept s
open_undoing it = record { super_words = it.super_words; facts = it.facts; newest = it.newest; flushed = it.flushed }

module _ (g : Sizes) (start tail : ℕ) (s : State) (it : OpenFacts g start tail s) where
  -- a word that the open group doesn't name is the committed one
  pub same_words : (j : Image) → Leaves s j → (p l w : ℕ) → IsWord g p l w → named_in (changes (log_of whole_lines j).open_items) p l w ≡ false → it.words p l w ≡ it.kept p l w
  same_words j left p l w word unnamed = elim (cases_Bool (is_logged (log_of whole_lines j) p l w)) [
    | inl logged ↦
        sym (it.ends j left p l w word (commit_logged (log_of whole_lines j) p l w ∙ logged) (home j))
        ∙ commit_untouched (log_of whole_lines j) (home j) p l w unnamed
        ∙ ((it.facts).log j left).logged p l w word logged (home j)
    | inr unlogged ↦
        (let unwritten : is_written (keeping g it.words it.kept) j p l w ≡ false = rw unlogged refl in
        sym (((it.facts).homes j left).current p l w word unwritten) ∙ ((it.facts).homes j left).committed p l w word unwritten)
  ]

  pub open_store : (i : Image) → Leaves s i → IsStoreOf g (lines_of (pages g) it.kept) i
  open_store i left = store_by (keeping g it.words it.kept) s it.facts refl it.kept (λ n p l w. refl) i left

  pub open_pages : (i : Image) → Leaves s i → recovered_pages whole_lines i ≡ lines_of (pages g) it.kept
  open_pages i left = pages_by (keeping g it.words it.kept) s it.facts it.kept (λ n p l w. refl) i left

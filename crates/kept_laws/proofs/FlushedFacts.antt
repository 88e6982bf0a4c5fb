-- All homes are flushed or settled, and stay so over each kind of step; so a fence makes them durable, which is what emptying
-- the log asks for.
use Rattle.std.proofs.Common.{◌≡◌, ◌≢◌, ℕ, ◌+◌, ◌<◌, ◌≤◌, List, [], ◌∷◌, take, refl, sym, ap, ◌∙◌, subst, inl, inr, arith, IsTrue, Option, Some, None}
use Rattle.std.proofs.lemmas.Bool.{cases_eq}
use Rattle.nvm_model.specs.Word.{Word, IsSingle, IsSteady, single, trimmed}
use Rattle.devices.specs.State.{State, Image, Leaves, current, fenced, after_all, Call}
use Rattle.store_model.specs.Untouched.{Untouched}
use Rattle.devices.specs.Growth.{AreWithin, no_write}
use Rattle.store_model.specs.Layout.{Sizes, ring_start, frame_line, page_block, entry_line, entry_word}
use Rattle.store_model.specs.Recovered.{super_of, entry_at, frame_of, home_in, home, block_word}
use Rattle.store_model.specs.InOrder.{HomeStands}
use Rattle.store_model.specs.StoreFacts.{Gate, IsGate, gate_line, Bookkeeping, IsWord, StoreFacts}
use Rattle.store_model.specs.Seen.{IsQuiet, CanName, CanClear, gate_calls, gate_stores}
use Rattle.store_model.specs.Install.{entry_calls}
use Rattle.store_model.specs.Shown.{HomesFlushed}
use Rattle.nvm_model.proofs.WordLaws.{single_version}
use Rattle.home_laws.proofs.RecoveredLaws.{frame_of-same, frame_of-found}
use Rattle.home_laws.proofs.FactsLaws.{current_leaves}
use Rattle.home_laws.proofs.SeenLaws.{gate_low, facts_entry}
use Rattle.home_laws.proofs.QuietLaws.{frame_of-none_inv}
use Rattle.log_laws.proofs.HardenLaws.{fence_leaves}
use Rattle.home_laws.proofs.UntouchedLaws.{calls_untouched}

-- Calls that recovery doesn't see keep it.
pub quiet_flushed : (b : Bookkeeping) (s : State) → StoreFacts b s → (stores : ℕ → ℕ → ℕ → Type 0) (writes : ℕ → Type 0) → IsQuiet s stores writes
    → (calls : List Call) → AreWithin stores writes calls → HomesFlushed b s → HomesFlushed b (after_all calls s)
quiet_flushed b s facts stores writes quiet calls within flushed =
    let kept : Untouched stores writes s (after_all calls s) = calls_untouched stores writes calls s within in
    record {
      frames = λ k l w h named hl hw. kept.flushed (frame_line b.sizes k l) w (λ v st. quiet.frames k l w v (to_frames k h) hl (was k h named) (subst (λ (g : Sizes). stores (frame_line g k l) w v) (sym same_sizes) st))
          (flushed.frames k l w h (was k h named) hl hw);
      blocks = λ p hp none. kept.settled (page_block b.sizes p) (λ written. quiet.blocks p (λ k h named. none k (of_frames k h) (same_entry k (of_frames k h) ∙ named)) (subst (λ (g : Sizes). writes (page_block g p)) (sym same_sizes) written))
          (flushed.blocks p hp (λ k h named. none k h (same_entry k h ∙ named)));
    }
  where
    same_sizes : (super_of (current s)).sizes ≡ b.sizes
    same_sizes = facts.sizes (current s) (current_leaves s)

    to_frames : (k : ℕ) → k ≤ b.sizes.frames → k ≤ (super_of (current s)).sizes.frames
    to_frames k h = subst (λ (g : Sizes). k ≤ g.frames) (sym same_sizes) h

    of_frames : (k : ℕ) → k ≤ (super_of (current s)).sizes.frames → k ≤ b.sizes.frames
    of_frames k h = subst (λ (g : Sizes). k ≤ g.frames) same_sizes h

    same_entry : (k : ℕ) → k ≤ b.sizes.frames → entry_at (current (after_all calls s)) k ≡ entry_at (current s) k
    same_entry k h = (calls_untouched stores writes calls s within).newest (entry_line k) (entry_word k)
        (λ v. quiet.low (entry_line k) (entry_word k) v (let h' : k ≤ (super_of (current s)).sizes.frames = to_frames k h in omega arith))

    was : (k : ℕ) → k ≤ b.sizes.frames → entry_at (current (after_all calls s)) k ≢ 0 → entry_at (current s) k ≢ 0
    was k h named none = named (same_entry k h ∙ none)

gate_within : (gate : Gate) (new : ℕ) → AreWithin (gate_stores gate new) no_write (gate_calls gate new)
gate_within gate new = ((refl, refl, refl), (tt, (tt, tt)))

-- what a gate's calls leave as it was
gate_kept : (gate : Gate) (new : ℕ) (s : State) → Untouched (gate_stores gate new) no_write s (after_all (gate_calls gate new) s)
gate_kept gate new s = calls_untouched (gate_stores gate new) no_write (gate_calls gate new) s (gate_within gate new)

-- a gate has no word of a frame
gate_no_frame : (g : Sizes) (gate : Gate) → IsGate g gate → (new k l w v : ℕ) → gate_stores gate new (frame_line g k l) w v → ⊥
gate_no_frame g gate in_store new k l w v st = let low : gate_line gate < ring_start g = gate_low g gate in_store in let at : frame_line g k l ≡ gate_line gate = st.0 in omega arith

-- A gate that is no entry keeps it,
pub gate_flushed : (b : Bookkeeping) (s : State) (gate : Gate) (new : ℕ) → IsGate b.sizes gate → ((k : ℕ) → k ≤ b.sizes.frames → entry_at (current (after_all (gate_calls gate new) s)) k ≡ entry_at (current s) k)
    → HomesFlushed b s → HomesFlushed b (after_all (gate_calls gate new) s)
gate_flushed b s gate new in_store same flushed = record {
  frames = λ k l w h named hl hw. (gate_kept gate new s).flushed (frame_line b.sizes k l) w (λ v. gate_no_frame b.sizes gate in_store new k l w v)
      (flushed.frames k l w h (λ none. named (same k h ∙ none)) hl hw);
  blocks = λ p hp none. flushed.blocks p hp (λ k h named. none k h (same k h ∙ named));
}

-- an entry that is set, where the frame is flushed,
pub name_flushed : (b : Bookkeeping) (s : State) (k page : ℕ) → CanName b s k page → ((l w : ℕ) → l < 64 → w < 8 → (s.nvm (frame_line b.sizes k l) w).kept ≡ 0)
    → ((n : ℕ) → n ≤ b.sizes.frames → n ≢ k → entry_at (current (after_all (entry_calls k (page + 1)) s)) n ≡ entry_at (current s) n)
    → HomesFlushed b s → HomesFlushed b (after_all (entry_calls k (page + 1)) s)
name_flushed b s k page can filled others flushed = record {
  frames = λ n l w h named hl hw. (gate_kept (Gate.frame k) (page + 1) s).flushed (frame_line b.sizes n l) w (λ v. gate_no_frame b.sizes (Gate.frame k) can.frame (page + 1) n l w v)
      (elim (cases_eq n k) [
        | inl here ↦ subst (λ m. (s.nvm (frame_line b.sizes m l) w).kept ≡ 0) (sym here) (filled l w hl hw)
        | inr apart ↦ flushed.frames n l w h (λ none. named (others n h apart ∙ none)) hl hw
      ]);
  blocks = λ p hp none. flushed.blocks p hp (λ n h named. elim (cases_eq n k) [
    | inl here ↦ (let empty : entry_at (current s) k ≡ 0 = can.empty in let at : entry_at (current s) n ≡ entry_at (current s) k = ap (entry_at (current s)) here in absurd (omega arith))
    | inr apart ↦ none n h (others n h apart ∙ named)
  ]);
}

-- and one that is cleared, where the home block is settled.
pub clear_flushed : (b : Bookkeeping) (s : State) (k page : ℕ) → CanClear b s k page
    → entry_at (current (after_all (entry_calls k 0) s)) k ≡ 0
    → ((n : ℕ) → n ≤ b.sizes.frames → n ≢ k → entry_at (current (after_all (entry_calls k 0) s)) n ≡ entry_at (current s) n)
    → HomesFlushed b s → HomesFlushed b (after_all (entry_calls k 0) s)
clear_flushed b s k page can here others flushed = record {
  frames = λ n l w h named hl hw. (gate_kept (Gate.frame k) 0 s).flushed (frame_line b.sizes n l) w (λ v. gate_no_frame b.sizes (Gate.frame k) can.frame 0 n l w v)
      (elim (cases_eq n k) [
        | inl same ↦ absurd (named (ap (entry_at (current (after_all (entry_calls k 0) s))) same ∙ here))
        | inr apart ↦ flushed.frames n l w h (λ none. named (others n h apart ∙ none)) hl hw
      ]);
  blocks = λ p hp none. elim (cases_eq p page) [
    | inl same ↦ subst (λ m. IsTrue (s.ssd (page_block b.sizes m)).settled) (sym same) can.settled
    | inr apart ↦ flushed.blocks p hp (λ n h named. elim (cases_eq n k) [
      | inl at ↦ (let was : entry_at (current s) k ≡ page + 1 = can.named in let entry : entry_at (current s) n ≡ entry_at (current s) k = ap (entry_at (current s)) at in absurd (apart (omega arith)))
      | inr away ↦ none n h (others n h away ∙ named)
    ])
  ];
}

-- a flushed word has one version behind a fence
fenced_single : (word : Word) → word.kept ≡ 0 → IsSingle (trimmed word)
fenced_single word e = ap (λ n. take n word.older) e ∙ take_none word.older
  where
    take_none : (xs : List ℕ) → take 0 xs ≡ []
    take_none [] = refl
    take_none (x ∷ xs) = refl

-- Behind a fence every home is durable, and the same in every image: what loads give.
pub homes_durable : (b : Bookkeeping) (s : State) → StoreFacts b s → b.changing ≡ None → HomesFlushed b s → (j : Image) → Leaves (fenced s) j → (p l w : ℕ) → IsWord b.sizes p l w
    → HomeStands b.sizes (frame_of (entry_at j) (b.sizes.frames + 1) p) (fenced s) p l w × (home j p l w ≡ home (current s) p l w)
homes_durable b s facts still flushed j left p l w word = (
  record { in_frame = λ k found. steady k (one k found); in_block = λ none. settled none },
  ap (λ (g : Sizes). home_in g j (frame_of (entry_at j) (g.frames + 1) p) p l w) (facts.sizes j (fence_leaves s j left))
      ∙ by_frame (frame_of (entry_at j) (b.sizes.frames + 1) p) refl
      ∙ ap (λ (f : Option ℕ). home_in b.sizes (current s) f p l w) same_frame
      ∙ sym (ap (λ (g : Sizes). home_in g (current s) (frame_of (entry_at (current s)) (g.frames + 1) p) p l w) (facts.sizes (current s) (current_leaves s))),
)
  where
    now : (k : ℕ) → k ≤ b.sizes.frames → entry_at j k ≡ entry_at (current s) k
    now = facts_entry b s facts still j (fence_leaves s j left)

    same_frame : frame_of (entry_at j) (b.sizes.frames + 1) p ≡ frame_of (entry_at (current s)) (b.sizes.frames + 1) p
    same_frame = frame_of-same (entry_at j) (entry_at (current s)) (b.sizes.frames + 1) p (λ k less. now k (omega arith))

    one : (k : ℕ) → frame_of (entry_at j) (b.sizes.frames + 1) p ≡ Some k → IsSingle ((fenced s).nvm (frame_line b.sizes k l) w)
    one k found =
        let at : (k < b.sizes.frames + 1) × (entry_at j k ≡ p + 1) = frame_of-found (entry_at j) (b.sizes.frames + 1) p k found in
        let below : k ≤ b.sizes.frames = (let less : k < b.sizes.frames + 1 = at.0 in omega arith) in
        let named : entry_at j k ≡ p + 1 = at.1 in
        let same : entry_at j k ≡ entry_at (current s) k = now k below in
        fenced_single (s.nvm (frame_line b.sizes k l) w) (flushed.frames k l w below (λ none. omega arith) word.line word.word)

    steady : (k : ℕ) → IsSingle ((fenced s).nvm (frame_line b.sizes k l) w) → IsSteady ((fenced s).nvm (frame_line b.sizes k l) w)
    steady k single v version = single_version ((fenced s).nvm (frame_line b.sizes k l) w) v single version

    settled : frame_of (entry_at j) (b.sizes.frames + 1) p ≡ None → IsTrue (s.ssd (page_block b.sizes p)).settled
    settled none = flushed.blocks p word.page (λ k h named. frame_of-none_inv (entry_at j) (b.sizes.frames + 1) p none k (omega arith) (now k h ∙ named))

    by_frame : (f : Option ℕ) → frame_of (entry_at j) (b.sizes.frames + 1) p ≡ f → home_in b.sizes j f p l w ≡ home_in b.sizes (current s) f p l w
    by_frame None none = ap (λ xs. block_word xs l w) (left.blocks (page_block b.sizes p) (settled none))
    by_frame (Some k) found = single_version ((fenced s).nvm (frame_line b.sizes k l) w) _ (one k found) (left.words (frame_line b.sizes k l) w)

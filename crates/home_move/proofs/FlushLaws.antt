-- A page that comes into a frame, or leaves it, leaves the known lines flushed or settled; a line that is stored and flushed is one
-- more of them.
use Rattle.std.proofs.Common.{◌≡◌, ◌≢◌, ◌⊎◌, ℕ, ◌+◌, ◌<◌, ◌≤◌, Bool, true, false, ◌&&◌, ◌||◌, List, [], ◌∷◌, ◌++◌, take, get_or, refl, sym, ap, ◌∙◌, subst, inl, inr, arith, eqb, IsTrue, Option, Some, None}
use Rattle.std.proofs.lemmas.Bool.{cases_eq, ne_eqb}
use Rattle.nvm_model.specs.declared.line.Line.{Line}
use Rattle.nvm_model.specs.Word.{Word, IsSingle, IsSteady, trimmed}
use Rattle.nvm_model.proofs.WordLaws.{single_version}
use Rattle.devices.specs.State.{State, Image, Leaves, current, after_all, fenced, line_stored}
use Rattle.devices.specs.State.Call.{fence}
use Rattle.devices.specs.Growth.{no_write}
use Rattle.devices.proofs.StateLaws.{flushed_same}
use Rattle.devices.proofs.DurableLaws.{line_stores}
use Rattle.line_pages.specs.Pairs.{Pairs, with_pair}
use Rattle.store_model.specs.Layout.{Sizes, pages, frame_line, page_block, entry_line, ring_start}
use Rattle.store_model.specs.Format.{word_in, zero_line}
use Rattle.store_model.specs.Recovered.{super_of, entry_at, frame_of, home_in, home, block_word}
use Rattle.store_model.specs.InOrder.{HomeStands}
use Rattle.store_model.specs.StoreFacts.{Gate, Bookkeeping, IsWord, StoreFacts}
use Rattle.store_model.specs.Untouched.{Untouched}
use Rattle.store_model.specs.Install.{frame_calls, entry_calls, install_calls, release_calls, store_calls, CanInstall}
use Rattle.store_model.specs.Seen.{CanClear, CanGiveUp, gate_stores}
use Rattle.store_model.specs.Shown.{Placed}
use Rattle.home_laws.proofs.FactsLaws.{current_leaves}
use Rattle.home_laws.proofs.SeenLaws.{gate_low, facts_entry, facts_alone}
use Rattle.home_laws.proofs.RecoveredLaws.{frame_of-same, frame_of-found}
use Rattle.home_laws.proofs.QuietLaws.{frame_of-none_inv}
use Rattle.log_laws.proofs.HardenLaws.{fence_leaves}
use Rattle.home_laws.proofs.UntouchedLaws.{calls_untouched}
use Rattle.home_laws.proofs.InstallLaws.{frame_stores, frame_within, frame_fits}
use Rattle.home_laws.proofs.InstallFacts.{frame_quiet, full, frame_made_now, installed_is}
use Rattle.home_laws.proofs.ReleaseFacts.{settled}
use Rattle.home_laws.proofs.PlacedFacts.{install_placed, release_placed}
use Rattle.home_laws.proofs.ShownLaws.{clear_placed}
use Rattle.home_move.specs.Homes.{AreFlushed}

-- ---- what an entry's calls leave

entry_untouched : (k new : ℕ) (s : State) → Untouched (gate_stores (Gate.frame k) new) no_write s (after_all (entry_calls k new) s)
entry_untouched k new s = calls_untouched (gate_stores (Gate.frame k) new) no_write (entry_calls k new) s ((refl, refl, refl), (tt, (tt, tt)))

entry_flushed : (g : Sizes) (k new n l w : ℕ) (s : State) → k ≤ g.frames → (s.nvm (frame_line g n l) w).kept ≡ 0 → ((after_all (entry_calls k new) s).nvm (frame_line g n l) w).kept ≡ 0
entry_flushed g k new n l w s framed = (entry_untouched k new s).flushed (frame_line g n l) w
    (λ v st. let low : entry_line k < ring_start g = gate_low g (Gate.frame k) framed in let at : frame_line g n l ≡ entry_line k = st.0 in omega arith)

entry_settled : (k new block : ℕ) (s : State) → IsTrue (s.ssd block).settled → IsTrue ((after_all (entry_calls k new) s).ssd block).settled
entry_settled k new block s = (entry_untouched k new s).settled block (λ written. written)

-- ---- an install

module _ (b : Bookkeeping) (s : State) (facts : StoreFacts b s) (still : b.changing ≡ None) (k page : ℕ) (lines : List Line) (can : CanInstall b.format s k page lines) where
  abbrev g : Sizes
  g = (super_of (current s)).sizes

  same_sizes : g ≡ b.sizes
  same_sizes = facts.sizes (current s) (current_leaves s)

  framed : k ≤ b.sizes.frames
  framed = subst (λ (x : Sizes). k ≤ x.frames) same_sizes can.frame

  abbrev filled : State
  filled = full b s facts still k page lines can

  filling : Untouched (frame_stores g k) no_write s filled
  filling = calls_untouched (frame_stores g k) no_write (frame_calls g k 0 lines ++ fence ∷ []) s (frame_within g k 0 lines (frame_fits b.format s k page lines can))

  abbrev done : State
  done = after_all (entry_calls k (page + 1)) filled

  shown : Placed b.sizes s done k (page + 1) page (λ l w. word_in (get_or lines l zero_line) w)
  shown = subst (λ (t : State). Placed b.sizes s t k (page + 1) page (λ l w. word_in (get_or lines l zero_line) w)) (installed_is b s facts still k page lines can) (install_placed b s facts still k page lines can)

  filled_flushed : (n l w : ℕ) → n ≤ b.sizes.frames → entry_at (current s) n ≢ 0 → l < 64 → (s.nvm (frame_line b.sizes n l) w).kept ≡ 0 → (filled.nvm (frame_line b.sizes n l) w).kept ≡ 0
  filled_flushed n l w h named hl = filling.flushed (frame_line b.sizes n l) w (λ v st. (frame_quiet b s facts still k page lines can).frames n l w v
      (subst (λ (x : Sizes). n ≤ x.frames) (sym same_sizes) h) hl named (subst (λ (x : Sizes). frame_stores g k (frame_line x n l) w v) (sym same_sizes) st))

  -- the frame's own lines are flushed
  made_flushed : (l w : ℕ) → l < 64 → w < 8 → (filled.nvm (frame_line b.sizes k l) w).kept ≡ 0
  made_flushed l w hl hw = ap (λ (x : Word). x.kept) (frame_made_now b s facts still k page lines can l w
      (record { page = subst (λ (x : Sizes). page < pages x) same_sizes can.in_store; line = hl; word = hw }))

  done_flushed : (known : Pairs) → AreFlushed b.sizes known s → AreFlushed b.sizes known done
  done_flushed known old = record {
    frames = λ n p l w h named known_line hl hw. entry_flushed b.sizes k (page + 1) n l w filled framed (elim (cases_eq n k) [
      | inl here ↦ subst (λ m. (filled.nvm (frame_line b.sizes m l) w).kept ≡ 0) (sym here) (made_flushed l w hl hw)
      | inr apart ↦
          (let was : entry_at (current s) n ≡ p + 1 = sym (shown.others n h apart) ∙ named in
          filled_flushed n l w h (λ none. omega arith) hl (old.frames n p l w h was known_line hl hw))
    ]);
    blocks = λ p l hp known_line hl none. entry_settled k (page + 1) (page_block b.sizes p) filled
        (filling.settled (page_block b.sizes p) (λ written. written) (old.blocks p l hp known_line hl (λ n h named. elim (cases_eq n k) [
          | inl here ↦ (let empty : entry_at (current s) k ≡ 0 = can.empty in let at : entry_at (current s) n ≡ entry_at (current s) k = ap (entry_at (current s)) here in absurd (omega arith))
          | inr apart ↦ none n h (shown.others n h apart ∙ named)
        ])));
  }

  pub install_flushed : (known : Pairs) → AreFlushed b.sizes known s → AreFlushed b.sizes known (after_all (install_calls b.sizes k page lines) s)
  install_flushed known old = subst (λ (t : State). AreFlushed b.sizes known t) (sym (installed_is b s facts still k page lines can)) (done_flushed known old)

-- ---- a release with a write, behind which every block is settled, and one without

pub release_flushed : (b : Bookkeeping) (s : State) (facts : StoreFacts b s) (still : b.changing ≡ None) (k page : ℕ) (bytes : List ℕ) (can : CanGiveUp b s k page bytes) (known : Pairs)
    → AreFlushed b.sizes known s → AreFlushed b.sizes known (after_all (release_calls b.sizes k page bytes) s)
release_flushed b s facts still k page bytes can known old =
    let shown : Placed b.sizes s (after_all (release_calls b.sizes k page bytes) s) k 0 page (block_word bytes) = release_placed b s facts still k page bytes can in
    record {
      frames = λ n p l w h named known_line hl hw. entry_flushed b.sizes k 0 n l w (settled b s facts still k page bytes can) can.frame (elim (cases_eq n k) [
        | inl here ↦ (let cleared : entry_at (current (after_all (release_calls b.sizes k page bytes) s)) n ≡ 0 = ap (entry_at (current (after_all (release_calls b.sizes k page bytes) s))) here ∙ shown.here in absurd (omega arith))
        | inr apart ↦ old.frames n p l w h (sym (shown.others n h apart) ∙ named) known_line hl hw
      ]);
      blocks = λ p l hp known_line hl none. entry_settled k 0 (page_block b.sizes p) (settled b s facts still k page bytes can) refl;
    }

pub clear_flushed : (b : Bookkeeping) (s : State) → StoreFacts b s → b.changing ≡ None → (k page : ℕ) → CanClear b s k page → (known : Pairs)
    → AreFlushed b.sizes known s → AreFlushed b.sizes known (after_all (entry_calls k 0) s)
clear_flushed b s facts still k page can known old =
    let shown : Placed b.sizes s (after_all (entry_calls k 0) s) k 0 page (block_word ((current s).ssd (page_block b.sizes page))) = clear_placed b s facts still k page can in
    record {
      frames = λ n p l w h named known_line hl hw. entry_flushed b.sizes k 0 n l w s can.frame (elim (cases_eq n k) [
        | inl here ↦ (let cleared : entry_at (current (after_all (entry_calls k 0) s)) n ≡ 0 = ap (entry_at (current (after_all (entry_calls k 0) s))) here ∙ shown.here in absurd (omega arith))
        | inr apart ↦ old.frames n p l w h (sym (shown.others n h apart) ∙ named) known_line hl hw
      ]);
      blocks = λ p l hp known_line hl none. entry_settled k 0 (page_block b.sizes p) s (elim (cases_eq p page) [
        | inl same ↦ subst (λ m. IsTrue (s.ssd (page_block b.sizes m)).settled) (sym same) can.settled
        | inr other ↦ old.blocks p l hp known_line hl (λ n h named. elim (cases_eq n k) [
          | inl here ↦ (let was : entry_at (current s) k ≡ page + 1 = can.named in let at : entry_at (current s) n ≡ entry_at (current s) k = ap (entry_at (current s)) here in absurd (other (omega arith)))
          | inr apart ↦ none n h (shown.others n h apart ∙ named)
        ])
      ]);
    }

-- ---- a line that is stored in its frame and flushed

pair_parts : (p l page line : ℕ) (known : Pairs) → with_pair page line known p l ≡ true → ((p ≡ page) × (l ≡ line)) ⊎ (known p l ≡ true)
pair_parts p l page line known h = by_test (cases_eq p page) (cases_eq l line)
  where
    away : (x y z : Bool) → (x ≡ false) ⊎ (y ≡ false) → ((x && y) || z) ≡ true → z ≡ true
    away true true z e h = elim e [ inl f ↦ cc | inr f ↦ cc ]
    away true false z e h = h
    away false y z e h = h

    by_test : (p ≡ page) ⊎ (p ≢ page) → (l ≡ line) ⊎ (l ≢ line) → ((p ≡ page) × (l ≡ line)) ⊎ (known p l ≡ true)
    by_test (inl same_page) (inl same_line) = inl (same_page, same_line)
    by_test (inr apart) any = inr (away (eqb p page) (eqb l line) (known p l) (inl (ne_eqb p page apart)) h)
    by_test (inl same_page) (inr apart) = inr (away (eqb p page) (eqb l line) (known p l) (inr (ne_eqb l line apart)) h)

pub store_flushed : (g : Sizes) (b : Bookkeeping) (s : State) (facts : StoreFacts b s) (k page line : ℕ) (value : Line) → b.sizes ≡ g → k ≤ g.frames → line < 64 → entry_at (current s) k ≡ page + 1
    → ((n : ℕ) → n ≤ g.frames → entry_at (current (after_all (store_calls g k line value) s)) n ≡ entry_at (current s) n) → (known : Pairs)
    → AreFlushed g known s → AreFlushed g (with_pair page line known) (after_all (store_calls g k line value) s)
store_flushed g b s facts k page line value sized framed in_page named entries known old = record {
  frames = λ n p l w h named_p known_line hl hw. by_place n p l w h named_p hl hw (cases_eq (frame_line g n l) (frame_line g k line)) (pair_parts p l page line known known_line);
  blocks = λ p l hp known_line hl none. elim (pair_parts p l page line known known_line) [
    | inl same ↦ absurd (none k framed (entries k framed ∙ named ∙ ap (λ m. m + 1) (sym same.0)))
    | inr was ↦ old.blocks p l hp was hl (λ n h named_p. none n h (entries n h ∙ named_p))
  ];
}
  where
    storing : Untouched (line_stores (frame_line g k line) value) no_write s (after_all (store_calls g k line value) s)
    storing = calls_untouched (line_stores (frame_line g k line) value) no_write (store_calls g k line value) s ((λ w hw. (refl, hw, refl)), (tt, tt))

    alone : (n p : ℕ) → n ≤ g.frames → entry_at (current s) n ≡ p + 1 → p ≡ page → n ≡ k
    alone n p h named_p same = elim (cases_eq n k) [
      | inl here ↦ here
      | inr apart ↦ absurd (facts_alone b s facts k page (subst (λ (x : Sizes). k ≤ x.frames) (sym sized) framed) named n (subst (λ (x : Sizes). n ≤ x.frames) (sym sized) h) apart (named_p ∙ ap (λ m. m + 1) same))
    ]

    by_place : (n p l w : ℕ) → n ≤ g.frames → entry_at (current (after_all (store_calls g k line value) s)) n ≡ p + 1 → l < 64 → w < 8
        → (frame_line g n l ≡ frame_line g k line) ⊎ (frame_line g n l ≢ frame_line g k line) → ((p ≡ page) × (l ≡ line)) ⊎ (known p l ≡ true)
        → ((after_all (store_calls g k line value) s).nvm (frame_line g n l) w).kept ≡ 0
    by_place n p l w h named_p hl hw (inl here) any = ap (λ m. ((after_all (store_calls g k line value) s).nvm m w).kept) here ∙ ap (λ (x : Word). x.kept) (flushed_same (frame_line g k line) (line_stored (frame_line g k line) value s) w)
    by_place n p l w h named_p hl hw (inr apart) (inl same) = absurd (apart (ap (λ m. frame_line g m l) (alone n p h (sym (entries n h) ∙ named_p) same.0) ∙ ap (frame_line g k) same.1))
    by_place n p l w h named_p hl hw (inr apart) (inr was) = storing.flushed (frame_line g n l) w (λ v st. apart st.0) (old.frames n p l w h (sym (entries n h) ∙ named_p) was hl hw)

-- ---- behind a fence

-- a flushed word has one version behind a fence
fenced_single : (word : Word) → word.kept ≡ 0 → IsSingle (trimmed word)
fenced_single word e = ap (λ n. take n word.older) e ∙ take_none word.older
  where
    take_none : (xs : List ℕ) → take 0 xs ≡ []
    take_none [] = refl
    take_none (x ∷ xs) = refl

-- the homes of known lines are durable, and the same in every image: what loads give
pub known_durable : (b : Bookkeeping) (s : State) → StoreFacts b s → b.changing ≡ None → (known : Pairs) → AreFlushed b.sizes known s → (j : Image) → Leaves (fenced s) j
    → (p l w : ℕ) → IsWord b.sizes p l w → known p l ≡ true
    → HomeStands b.sizes (frame_of (entry_at j) (b.sizes.frames + 1) p) (fenced s) p l w × (home j p l w ≡ home (current s) p l w)
known_durable b s facts still known flushed j left p l w word known_line = (
  record { in_frame = λ k found. steady k (one k found); in_block = settles },
  ap (λ (g : Sizes). home_in g j (frame_of (entry_at j) (g.frames + 1) p) p l w) (facts.sizes j (fence_leaves s j left))
      ∙ by_frame (frame_of (entry_at j) (b.sizes.frames + 1) p) refl
      ∙ ap (λ (f : Option ℕ). home_in b.sizes (current s) f p l w) same_frame
      ∙ sym (ap (λ (g : Sizes). home_in g (current s) (frame_of (entry_at (current s)) (g.frames + 1) p) p l w) (facts.sizes (current s) (current_leaves s))),
)
  where
    entry_now : (k : ℕ) → k ≤ b.sizes.frames → entry_at j k ≡ entry_at (current s) k
    entry_now = facts_entry b s facts still j (fence_leaves s j left)

    same_frame : frame_of (entry_at j) (b.sizes.frames + 1) p ≡ frame_of (entry_at (current s)) (b.sizes.frames + 1) p
    same_frame = frame_of-same (entry_at j) (entry_at (current s)) (b.sizes.frames + 1) p (λ k less. entry_now k (omega arith))

    one : (k : ℕ) → frame_of (entry_at j) (b.sizes.frames + 1) p ≡ Some k → IsSingle ((fenced s).nvm (frame_line b.sizes k l) w)
    one k found =
        let at : (k < b.sizes.frames + 1) × (entry_at j k ≡ p + 1) = frame_of-found (entry_at j) (b.sizes.frames + 1) p k found in
        let below : k ≤ b.sizes.frames = (let less : k < b.sizes.frames + 1 = at.0 in omega arith) in
        fenced_single (s.nvm (frame_line b.sizes k l) w) (flushed.frames k p l w below (sym (entry_now k below) ∙ at.1) known_line word.line word.word)

    steady : (k : ℕ) → IsSingle ((fenced s).nvm (frame_line b.sizes k l) w) → IsSteady ((fenced s).nvm (frame_line b.sizes k l) w)
    steady k single v version = single_version ((fenced s).nvm (frame_line b.sizes k l) w) v single version

    settles : frame_of (entry_at j) (b.sizes.frames + 1) p ≡ None → IsTrue (s.ssd (page_block b.sizes p)).settled
    settles none = flushed.blocks p l word.page known_line word.line (λ k h named. frame_of-none_inv (entry_at j) (b.sizes.frames + 1) p none k (omega arith) (entry_now k h ∙ named))

    by_frame : (f : Option ℕ) → frame_of (entry_at j) (b.sizes.frames + 1) p ≡ f → home_in b.sizes j f p l w ≡ home_in b.sizes (current s) f p l w
    by_frame None none = ap (λ xs. block_word xs l w) (left.blocks (page_block b.sizes p) (settles none))
    by_frame (Some k) found = single_version ((fenced s).nvm (frame_line b.sizes k l) w) _ (one k found) (left.words (frame_line b.sizes k l) w)

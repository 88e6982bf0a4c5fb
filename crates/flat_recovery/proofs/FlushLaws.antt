-- What flushed lines and a line that is put leave.
use Rattle.std.proofs.Common.{◌≡◌, ◌≢◌, ℕ, zero, suc, ◌+◌, ◌<◌, ◌≤◌, List, [], ◌∷◌, ◌++◌, take, refl, sym, ap, ◌∙◌, subst, inl, inr, arith, slice_index}
use Rattle.std.proofs.lemmas.Bool.{cases_eq}
use Rattle.nvm_model.specs.declared.line.Line.{Line}
use Rattle.nvm_model.specs.Word.{Word, IsSingle, marked, stored, trimmed}
use Rattle.devices.specs.State.{State, Call, after_all, flushed, line_stored}
use Rattle.devices.specs.Growth.{AreWithin}
use Rattle.devices.proofs.StateLaws.{flushed_same, flushed_other, line_stored_same, line_stored_other}
use Rattle.flat_nvm_log.specs.Puts.{line_put}
use Rattle.flat_recovery.specs.Calls.{flush_calls}

pub within_append : (stores : ℕ → ℕ → ℕ → Type 0) (writes : ℕ → Type 0) (xs ys : List Call) → AreWithin stores writes xs → AreWithin stores writes ys → AreWithin stores writes (xs ++ ys)
within_append stores writes [] ys a b = b
within_append stores writes (x ∷ xs) ys a b = (a.0, within_append stores writes xs ys a.1 b)

-- flushes store nothing
pub flushes_within : (stores : ℕ → ℕ → ℕ → Type 0) (writes : ℕ → Type 0) (first n : ℕ) → AreWithin stores writes (flush_calls first n)
flushes_within stores writes first zero = tt
flushes_within stores writes first (suc n) = (tt, flushes_within stores writes (first + 1) n)

-- a flush keeps the newest version, and a mark on it
flush_newest : (line : ℕ) (s : State) (l w : ℕ) → ((flushed line s).nvm l w).newest ≡ (s.nvm l w).newest
flush_newest line s l w = elim (cases_eq l line) [
  | inl here ↦ subst (λ n. ((flushed line s).nvm n w).newest ≡ (s.nvm n w).newest) (sym here) (ap (λ (x : Word). x.newest) (flushed_same line s w))
  | inr other ↦ ap (λ (x : Word). x.newest) (flushed_other line s l w other)
]

flush_kept : (line : ℕ) (s : State) (l w : ℕ) → (s.nvm l w).kept ≡ 0 → ((flushed line s).nvm l w).kept ≡ 0
flush_kept line s l w h = elim (cases_eq l line) [
  | inl here ↦ subst (λ n. ((flushed line s).nvm n w).kept ≡ 0) (sym here) (ap (λ (x : Word). x.kept) (flushed_same line s w))
  | inr other ↦ ap (λ (x : Word). x.kept) (flushed_other line s l w other) ∙ h
]

pub flushes_newest : (first n : ℕ) (s : State) (l w : ℕ) → ((after_all (flush_calls first n) s).nvm l w).newest ≡ (s.nvm l w).newest
flushes_newest first zero s l w = refl
flushes_newest first (suc n) s l w = flushes_newest (first + 1) n (flushed first s) l w ∙ flush_newest first s l w

flushes_kept : (first n : ℕ) (s : State) (l w : ℕ) → (s.nvm l w).kept ≡ 0 → ((after_all (flush_calls first n) s).nvm l w).kept ≡ 0
flushes_kept first zero s l w h = h
flushes_kept first (suc n) s l w h = flushes_kept (first + 1) n (flushed first s) l w (flush_kept first s l w h)

-- each of the lines is marked
pub flushes_made : (first n : ℕ) (s : State) (l w : ℕ) → first ≤ l → l < first + n → ((after_all (flush_calls first n) s).nvm l w).kept ≡ 0
flushes_made first zero s l w low high = absurd (omega arith)
flushes_made first (suc n) s l w low high = elim (cases_eq l first) [
  | inl here ↦ flushes_kept (first + 1) n (flushed first s) l w (subst (λ m. ((flushed first s).nvm m w).kept ≡ 0) (sym here) (ap (λ (x : Word). x.kept) (flushed_same first s w)))
  | inr other ↦ flushes_made (first + 1) n (flushed first s) l w (omega arith) (omega arith)
]

-- a line that is put
pub put_other : (line : ℕ) (value : Line) (s : State) (l w : ℕ) → l ≢ line → (after_all (line_put line value) s).nvm l w ≡ s.nvm l w
put_other line value s l w other = flushed_other line (line_stored line value s) l w other ∙ line_stored_other line value s l w other

pub put_same : (line : ℕ) (value : Line) (s : State) (w : ℕ) → w < 8 → (after_all (line_put line value) s).nvm line w ≡ marked (stored (slice_index value.words w) (s.nvm line w))
put_same line value s w hw = flushed_same line (line_stored line value s) w ∙ ap marked (line_stored_same line value s w hw)

pub put_kept : (line : ℕ) (value : Line) (s : State) (l w : ℕ) → (s.nvm l w).kept ≡ 0 → ((after_all (line_put line value) s).nvm l w).kept ≡ 0
put_kept line value s l w h = elim (cases_eq l line) [
  | inl here ↦ subst (λ n. ((after_all (line_put line value) s).nvm n w).kept ≡ 0) (sym here) (ap (λ (x : Word). x.kept) (flushed_same line (line_stored line value s) w))
  | inr other ↦ ap (λ (x : Word). x.kept) (put_other line value s l w other) ∙ h
]

-- a fence leaves one version of a marked word
pub fenced_single : (word : Word) → word.kept ≡ 0 → IsSingle (trimmed word)
fenced_single word h = ap (λ n. take n word.older) h

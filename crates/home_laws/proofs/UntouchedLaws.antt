-- What calls leave as it was, where they may store and write only in some places.
use Rattle.std.proofs.Common.{◌≡◌, ℕ, Bool, true, false, List, [], ◌∷◌, refl, sym, ap, ◌∙◌, subst, inl, inr, IsTrue, cond, eqb, ltb, slice_index}
use Rattle.std.proofs.lemmas.Bool.{cases_Bool, cases_eq, ltb-true, eq-eqb, ne_eqb, cond-true, cond-false}
use Rattle.nvm_model.specs.Word.{Word, marked}
use Rattle.ssd_model.specs.Block.{Block}
use Rattle.devices.specs.State.{State, Call, after, after_all, word_stored, line_stored, block_written}
use Rattle.devices.specs.State.Call.{store_word, store_line, flush, fence, write_block, sync}
use Rattle.store_model.specs.Untouched.{Untouched}
use Rattle.devices.specs.Growth.{IsWithin, AreWithin}
use Rattle.devices.proofs.StateLaws.{word_stored_other, line_stored_other}

module _ (stores : ℕ → ℕ → ℕ → Type 0) (writes : ℕ → Type 0) where
  Untouched-refl : (s : State) → Untouched stores writes s s
  Untouched-refl s = record { newest = λ l w h. refl; flushed = λ l w h k. k; bytes = λ n h. refl; settled = λ n h k. k }

  pub Untouched-trans : (a b c : State) → Untouched stores writes a b → Untouched stores writes b c → Untouched stores writes a c
  Untouched-trans a b c first second = record {
    newest = λ l w h. second.newest l w h ∙ first.newest l w h;
    flushed = λ l w h k. second.flushed l w h (first.flushed l w h k);
    bytes = λ n h. second.bytes n h ∙ first.bytes n h;
    settled = λ n h k. second.settled n h (first.settled n h k);
  }

  -- words that are as they were, and blocks
  same_words : (s t : State) → ((l w : ℕ) → ((v : ℕ) → stores l w v → ⊥) → t.nvm l w ≡ s.nvm l w) → ((n : ℕ) → t.ssd n ≡ s.ssd n) → Untouched stores writes s t
  same_words s t words blocks = record {
    newest = λ l w h. ap (λ (x : Word). x.newest) (words l w h);
    flushed = λ l w h k. ap (λ (x : Word). x.kept) (words l w h) ∙ k;
    bytes = λ n h. ap (λ (x : Block). x.bytes) (blocks n);
    settled = λ n h k. subst (λ (x : Block). IsTrue x.settled) (sym (blocks n)) k;
  }

  flush_word : (t : Bool) (x : Word) → ((cond t (marked x) x).newest ≡ x.newest) × (x.kept ≡ 0 → (cond t (marked x) x).kept ≡ 0)
  flush_word true x = (refl, (λ k. refl))
  flush_word false x = (refl, (λ k. k))

  call_untouched : (call : Call) (s : State) → IsWithin stores writes call → Untouched stores writes s (after call s)
  call_untouched (store_word line word value) s within = same_words s (word_stored line word value s)
      (λ l w h. elim (cases_eq l line) [
        | inr other ↦ word_stored_other line word value s l w (inl other)
        | inl here ↦ elim (cases_eq w word) [
          | inr other ↦ word_stored_other line word value s l w (inr other)
          | inl same ↦ absurd (h value (subst (λ n. stores l n value) (sym same) (subst (λ n. stores n word value) (sym here) within)))
        ]
      ]) (λ n. refl)
  call_untouched (store_line line value) s within = same_words s (line_stored line value s)
      (λ l w h. elim (cases_eq l line) [
        | inr other ↦ line_stored_other line value s l w other
        | inl here ↦ elim (cases_Bool (ltb w 8)) [
          | inl inside ↦ absurd (h (slice_index value.words w) (subst (λ n. stores n w (slice_index value.words w)) (sym here) (within w (ltb-true w 8 inside))))
          | inr outside ↦ cond-true (eqb l line) _ (s.nvm l w) (eq-eqb l line here) ∙ cond-false (ltb w 8) _ (s.nvm l w) outside
        ]
      ]) (λ n. refl)
  call_untouched (flush line) s within = record {
    newest = λ l w h. (flush_word (eqb l line) (s.nvm l w)).0;
    flushed = λ l w h k. (flush_word (eqb l line) (s.nvm l w)).1 k;
    bytes = λ n h. refl;
    settled = λ n h k. k;
  }
  call_untouched fence s within = record { newest = λ l w h. refl; flushed = λ l w h k. k; bytes = λ n h. refl; settled = λ n h k. k }
  call_untouched (write_block block bytes) s within = record {
    newest = λ l w h. refl;
    flushed = λ l w h k. k;
    bytes = λ n h. ap (λ (x : Block). x.bytes) (other n h);
    settled = λ n h k. subst (λ (x : Block). IsTrue x.settled) (sym (other n h)) k;
  }
    where
      other : (n : ℕ) → (writes n → ⊥) → (block_written block bytes s).ssd n ≡ s.ssd n
      other n h = cond-false (eqb n block) _ (s.ssd n) (ne_eqb n block (λ e. h (subst writes (sym e) within)))
  call_untouched sync s within = record { newest = λ l w h. refl; flushed = λ l w h k. k; bytes = λ n h. refl; settled = λ n h k. refl }

  pub calls_untouched : (calls : List Call) (s : State) → AreWithin stores writes calls → Untouched stores writes s (after_all calls s)
  calls_untouched [] s within = Untouched-refl s
  calls_untouched (call ∷ calls) s within = Untouched-trans s (after call s) (after_all calls (after call s)) (call_untouched call s within.0) (calls_untouched calls (after call s) within.1)

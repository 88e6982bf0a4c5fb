-- The laws of calls as laws of a device: what holds at each moment of the calls holds at each moment of a function that makes
-- them.
use Rattle.std.proofs.Common.{ℕ, ◌+◌, List, [], ◌∷◌, sym, subst, IsTrue, Result, Ok, Err}
use Rattle.std.specs.Prelude.{OnOk}
use Rattle.devices.specs.State.{State, Call, Amid, after_all}
use Rattle.devices.specs.State.Call.{store_word, flush, fence}
use Rattle.devices.specs.World.{Standing, MakesAll, now}
use Rattle.store_model.specs.Layout.{entry_line, entry_word}
use Rattle.store_model.specs.StoreFacts.{Gate, Bookkeeping, StoreFacts}
use Rattle.store_model.specs.Seen.{changing_to}
use Rattle.store_model.specs.Kept.{KeepsFacts, ClearsEntry}
use Rattle.devices.proofs.MomentLaws.{Moments-map}
use Rattle.home_laws.proofs.ReleaseFacts.{release_clean_facts, release_clean_done}

OnOk_give : {T E : Type 0} {P Q : Type 0} (r : Result T E) → (P → Q) → OnOk r P → OnOk r Q
OnOk_give (Ok v) f p = f p
OnOk_give (Err e) f p = tt

-- Whatever function makes the calls keeps the facts by their laws.
pub makes_facts : {T E : Type 0} {a b : Standing} {r : Result T E} (during after : Bookkeeping) (calls : List Call) → IsTrue a.told
    → ((mid : State) → Amid (now a) calls mid → StoreFacts during mid) → StoreFacts after (after_all calls (now a)) → MakesAll calls a b r → KeepsFacts during after a b r
makes_facts {r = r} during after calls told moments done makes = record {
  part = Moments-map moments (makes.part told);
  whole = OnOk_give r (λ e. subst (λ (s : State). StoreFacts after s) (sym e) done) (makes.whole told);
}

-- the call that clears an entry
pub clears_entry : {T E : Type 0} {a b : Standing} {r : Result T E} (line word : ℕ) → MakesAll (store_word line word 0 ∷ flush line ∷ fence ∷ []) a b r → ClearsEntry line word a b r
clears_entry {a = a} {b = d} {r = r} line word makes = record {
  keeps = λ told b k page at_line at_word facts still can.
      makes_facts (changing_to b (Gate.frame k) (page + 1) 0 b.committed) b (store_word (entry_line k) (entry_word k) 0 ∷ flush (entry_line k) ∷ fence ∷ []) told
      (release_clean_facts b (now a) facts still k page can) (release_clean_done b (now a) facts still k page can)
      (subst (λ n. MakesAll (store_word (entry_line k) n 0 ∷ flush (entry_line k) ∷ fence ∷ []) a d r) at_word
      (subst (λ n. MakesAll (store_word n word 0 ∷ flush n ∷ fence ∷ []) a d r) at_line makes));
}

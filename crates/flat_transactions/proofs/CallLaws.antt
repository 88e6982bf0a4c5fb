-- The calls of a function that begins with a load.
use Rattle.std.proofs.Common.{◌≡◌, ℕ, List, [], subst, arith, IsTrue, Result, Ok, Err}
use Rattle.std.specs.Prelude.{OnOk}
use Rattle.devices.specs.State.{Call}
use Rattle.devices.specs.World.{Standing, Goes, Stays, MakesAll, now}

-- what holds, holds where a call answers ok
pub holds_ok : {T E : Type 0} {P : Type 0} (r : Result T E) → P → OnOk r P
holds_ok (Ok v) p = p
holds_ok (Err e) p = tt

pub at_end : {a b : Standing} → Goes a b → Stays a b → IsTrue a.told → now b ≡ now a
at_end {a} {b} goes stays told = (stays told).each b.clock goes.clock (omega arith)

-- a call that changes nothing, as no call
pub makes_none : {T E : Type 0} {a b : Standing} (r : Result T E) → Goes a b → Stays a b → MakesAll [] a b r
makes_none {a = a} {b = b} r goes stays = record { whole = λ told. holds_ok r (at_end goes stays told); part = stays }

-- calls whose list is known where the device is told
pub makes_told : {T E : Type 0} {old new : Standing} {r : Result T E} {calls calls' : List Call} → (IsTrue old.told → calls ≡ calls') → MakesAll calls old new r → MakesAll calls' old new r
makes_told {old = old} {new = new} {r = r} {calls = calls} {calls' = calls'} e makes = record {
  whole = λ told. (at_list told).whole told;
  part = λ told. (at_list told).part told;
}
  where
    at_list : IsTrue old.told → MakesAll calls' old new r
    at_list told = subst (λ (cs : List Call). MakesAll cs old new r) (e told) makes

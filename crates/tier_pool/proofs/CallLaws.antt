-- How calls on the devices join, and how they stop.
use Rattle.std.proofs.Common.{◌≡◌, ◌≤◌, ℕ, Bool, List, refl, sym, ap, ◌∙◌, subst, Result, Ok, Err}
use Rattle.std.proofs.lemmas.Result.{err_from_is_err_and}
use Rattle.std.specs.Result.{IsErrAnd}
use Rattle.nvm_layout.specs.Sizes.{sizes_of}
use Rattle.nvm_layout.specs.declared.geometry.Geometry.{Geometry}
use Rattle.store_model.specs.Layout.{Sizes, nvm_lines, ssd_blocks}
use Rattle.devices.specs.State.{Call}
use Rattle.devices.specs.World.{Standing, Goes}
use Rattle.devices.proofs.MomentLaws.{Goes-refl, Goes-trans}
use Rattle.line_pages.specs.declared.stop.Stop.{Stop}
use Rattle.device_calls.specs.Stops.{StopCause}
use Rattle.device_calls.specs.Leads.{Made, Looked}
use Rattle.device_calls.proofs.LeadsLaws.{cause_none, cause_then, cause_stop}
use Rattle.home_move.specs.Moves.{Releases}
use Rattle.tier_pool.specs.Calls.{Fits, Calls, Stores}

-- the devices keep their sizes
pub fits_later : {a b : Standing} (geometry : Geometry) → Fits geometry a → Goes a b → Fits geometry b
fits_later geometry fits goes = record {
  lines = subst (λ n. nvm_lines (sizes_of geometry) ≤ n) (sym goes.lines) fits.lines;
  blocks = subst (λ n. ssd_blocks (sizes_of geometry) ≤ n) (sym goes.blocks) fits.blocks;
}

-- another value
cause_ok : {T U : Type 0} {v : U} (w : T) {a b : Standing} → StopCause {T = U} a b (Ok v) → StopCause {T = T} a b (Ok w)
cause_ok w cause = record { failed = tt; nvm = cause.nvm; ssd = cause.ssd }

cause_exit : {T U : Type 0} {why : Stop} {a b : Standing} (r : Result T Stop) → IsErrAnd r (λ y. y ≡ why) → StopCause {T = U} a b (Err why) → StopCause a b r
cause_exit {T = T} r is cause =
    let exit = err_from_is_err_and r is in
    let stop : Stop → Result T Stop = (λ (y : Stop). Err y) in
    cause_stop cause r (exit.1 ∙ ap stop exit.2)

-- ---- no block is read

pub stores_none : {T : Type 0} {v : T} (a : Standing) → Stores {T = T} a a (Ok v)
stores_none a = record { goes = Goes-refl a; cause = cause_none a; reads = refl }

pub stores_made : {T : Type 0} {xs : List Call} {a b : Standing} {r : Result T Stop} → Made xs a b r → Stores a b r
stores_made made = record { goes = made.goes; cause = made.cause; reads = made.reads }

pub stores_then : {T U : Type 0} {v : U} {a b c : Standing} {r : Result T Stop} → Stores {T = U} a b (Ok v) → Stores b c r → Stores a c r
stores_then first second = record { goes = Goes-trans first.goes second.goes; cause = cause_then first.cause second.cause; reads = second.reads ∙ first.reads }

pub stores_ok : {T U : Type 0} {v : U} (w : T) {a b : Standing} → Stores {T = U} a b (Ok v) → Stores {T = T} a b (Ok w)
stores_ok w stores = record { goes = stores.goes; cause = cause_ok w stores.cause; reads = stores.reads }

pub stores_exit : {T U : Type 0} {why : Stop} {a b : Standing} (r : Result T Stop) → IsErrAnd r (λ y. y ≡ why) → Stores {T = U} a b (Err why) → Stores a b r
stores_exit r is stores = record { goes = stores.goes; cause = cause_exit r is stores.cause; reads = stores.reads }

pub stores_released : {T : Type 0} {g : Sizes} {k page : ℕ} {write : Bool} {a b : Standing} {r : Result T Stop} → Releases g k page write a b r → Stores a b r
stores_released released = stores_made released.made

-- ---- blocks may be read

pub calls_none : {T : Type 0} {v : T} (a : Standing) → Calls {T = T} a a (Ok v)
calls_none a = record { goes = Goes-refl a; cause = cause_none a }

pub calls_stored : {T : Type 0} {a b : Standing} {r : Result T Stop} → Stores a b r → Calls a b r
calls_stored stores = record { goes = stores.goes; cause = stores.cause }

pub calls_looked : {T : Type 0} {a b : Standing} {r : Result T Stop} → Looked a b r → Calls a b r
calls_looked looked = record { goes = looked.goes; cause = looked.cause }

pub calls_then : {T U : Type 0} {v : U} {a b c : Standing} {r : Result T Stop} → Calls {T = U} a b (Ok v) → Calls b c r → Calls a c r
calls_then first second = record { goes = Goes-trans first.goes second.goes; cause = cause_then first.cause second.cause }

pub calls_ok : {T U : Type 0} {v : U} (w : T) {a b : Standing} → Calls {T = U} a b (Ok v) → Calls {T = T} a b (Ok w)
calls_ok w calls = record { goes = calls.goes; cause = cause_ok w calls.cause }

pub calls_exit : {T U : Type 0} {why : Stop} {a b : Standing} (r : Result T Stop) → IsErrAnd r (λ y. y ≡ why) → Calls {T = U} a b (Err why) → Calls a b r
calls_exit r is calls = record { goes = calls.goes; cause = cause_exit r is calls.cause }

-- a read of a line
pub stores_looked : {T : Type 0} {a b : Standing} {r : Result T Stop} → Looked a b r → b.block_reads ≡ a.block_reads → Stores a b r
stores_looked looked reads = record { goes = looked.goes; cause = looked.cause; reads = reads }

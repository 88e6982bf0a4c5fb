-- What a call does to the log in memory.
use Rattle.std.specs.Prelude.{◌≡◌, ℕ, ◌+◌, Result, OnOk, OnErr}
use Rattle.flat_nvm_log.specs.declared.log.Log.{Log}

-- It stays where it is, and where the call answers ok the tail is n lines on.
pub record IsMoved {T E : Type 0} (old new : Log) (n : ℕ) (result : Result T E) : Type 0 where
  pub geometry : new.geometry ≡ old.geometry
  pub start : new.start ≡ old.start
  pub ok : OnOk result (new.tail ≡ old.tail + n)
  pub err : OnErr result (new.tail ≡ old.tail)

-- Its tail stays, and where the call answers ok it begins there.
pub record IsEmptied {T E : Type 0} (old new : Log) (result : Result T E) : Type 0 where
  pub geometry : new.geometry ≡ old.geometry
  pub tail : new.tail ≡ old.tail
  pub ok : OnOk result (new.start ≡ old.tail)
  pub err : OnErr result (new.start ≡ old.start)

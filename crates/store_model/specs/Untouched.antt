-- What a stretch of calls leaves alone.
use Rattle.std.specs.Prelude.{◌≡◌, ℕ, IsTrue}
use Rattle.devices.specs.State.{State}

-- Where nothing may be stored the newest version is the old one, and a flushed word stays so; a block that may not be
-- written has its bytes, and stays settled.
pub record Untouched (stores : ℕ → ℕ → ℕ → Type 0) (writes : ℕ → Type 0) (old new : State) : Type 0 where
  pub newest : (l w : ℕ) → ((v : ℕ) → stores l w v → ⊥) → (new.nvm l w).newest ≡ (old.nvm l w).newest
  pub flushed : (l w : ℕ) → ((v : ℕ) → stores l w v → ⊥) → (old.nvm l w).kept ≡ 0 → (new.nvm l w).kept ≡ 0
  pub bytes : (n : ℕ) → (writes n → ⊥) → (new.ssd n).bytes ≡ (old.ssd n).bytes
  pub settled : (n : ℕ) → (writes n → ⊥) → IsTrue (old.ssd n).settled → IsTrue (new.ssd n).settled

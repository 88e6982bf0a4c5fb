-- What calls make of the devices: named device calls, reads alone, and as many device calls as the state asks for.
use Rattle.std.specs.Prelude.{◌≡◌, ℕ, ◌+◌, min, List, IsTrue, Result, OnOk}
use Rattle.devices.specs.State.{State, Call, Amid, after_all}
use Rattle.devices.specs.World.{Standing, Goes, MakesAll, Stays, now, last_count}
use Rattle.line_pages.specs.declared.stop.Stop.{Stop}
use Rattle.device_calls.specs.Stops.{StopCause}

-- the same newest words, the same bytes
pub record ReadsAs (s t : State) : Type 0 where
  pub words : (l w : ℕ) → (s.nvm l w).newest ≡ (t.nvm l w).newest
  pub blocks : (b : ℕ) → (s.ssd b).bytes ≡ (t.ssd b).bytes

-- The calls lead from this state to what holds after them, and at each moment on the way something holds.
pub record Steps {Aim : Type 0} (Held After : Aim → State → Type 0) (calls : List Call) (aim : Aim) (s : State) : Type 0 where
  pub facts : After aim (after_all calls s)
  pub moments : (mid : State) → Amid s calls mid → Held aim mid

-- These calls were made, up to the first that failed, and no block was read.
pub record Made {T : Type 0} (calls : List Call) (old new : Standing) (result : Result T Stop) : Type 0 where
  pub goes : Goes old new
  pub cause : StopCause old new result
  pub reads : new.block_reads ≡ old.block_reads
  pub makes : MakesAll calls old new result

-- The devices were read, and stay.
pub record Looked {T : Type 0} (old new : Standing) (result : Result T Stop) : Type 0 where
  pub goes : Goes old new
  pub cause : StopCause old new result
  pub stays : Stays old new

-- A call makes some device calls, up to the first that fails. Which they are depends on the caller's plain data and on
-- what the devices read, and so on nothing but these: each state that reads as the devices do, and of which what is asked
-- holds, is led by the same calls to what is promised, and at each moment on the way something holds. `Before` and `After`
-- are of the caller's plain data before and after the call; an aim is plain data that stays the same over the call.
pub record Leads {Aim T : Type 0} (Held Before After : Aim → State → Type 0) (old new : Standing) (result : Result T Stop) : Type 0 where
  pub goes : Goes old new
  pub cause : StopCause old new result
  pub calls : List Call
  pub makes : MakesAll calls old new result
  pub facts : IsTrue old.told → (aim : Aim) (s : State) → ReadsAs s (now old) → Before aim s → OnOk result (After aim (after_all calls s))
  pub moments : IsTrue old.told → (aim : Aim) (s : State) → ReadsAs s (now old) → Before aim s → (mid : State) → Amid s calls mid → Held aim mid

-- something holds of the state and something of the aim
pub record Given {Aim : Type 0} (Of : Aim → Type 0) (A : Aim → State → Type 0) (aim : Aim) (s : State) : Type 0 where
  pub of_aim : Of aim
  pub holds : A aim s

-- A call as the layer above sees it: what that layer asks of its own plain data gives plain data of this layer, and what
-- holds there gives what it promises.
pub record Lifts {Aim Goal : Type 0} (Held A B : Aim → State → Type 0) (Above After : Goal → State → Type 0) (goal : Goal) (s : State) : Type 0 where
  pub aim : Aim
  pub before : A aim s
  pub held : (mid : State) → Held aim mid → Above goal mid
  pub after : (t : State) → B aim t → After goal t

-- so many blocks were read
abbrev pub ReadsBlocks : ℕ → Standing → Standing → Type 0
ReadsBlocks n old new = new.block_reads ≡ min (old.block_reads + n) last_count

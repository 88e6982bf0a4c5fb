-- What is sent.
use Rattle.std.specs.Prelude.{◌≡◌, ℕ, ◌≤◌, List, ◌++◌, take, IsTrue, Result, OnOk, IfErr}
use Rattle.devices.specs.World.{Standing, sent, sent_at}
use Rattle.script.specs.Replies.{text}
use Rattle.script.specs.declared.command.Reply.{Reply}
use Rattle.runner.specs.declared.stop.Halt.{Halt}
use Rattle.runner.specs.declared.stop.Halt.TheVariants.{Store, Source, Sink}

-- At each moment of the call some of the bytes were added to what was sent, and after ok all of them.
pub record SendsBytes {T E : Type 0} (bytes : List ℕ) (old new : Standing) (result : Result T E) : Type 0 where
  pub ok : OnOk result (sent new ≡ sent old ++ bytes)
  pub part : (m : ℕ) → old.clock ≤ m → m ≤ new.clock → (k : ℕ) × (sent_at new m ≡ sent old ++ take k bytes)

-- What was added to what was sent is the text of some replies, each of them whole.
pub record SendsReplies (old new : Standing) : Type 0 where
  pub replies : List Reply
  pub sends : sent new ≡ sent old ++ text replies

-- No settings were read, and whole replies were sent.
pub record Talks (old new : Standing) : Type 0 where
  pub settings : new.outside.settings ≡ old.outside.settings
  pub settings_faults : new.outside.settings_faults ≡ old.outside.settings_faults
  pub sends : IsTrue old.told → SendsReplies old new

-- where the output failed the last reply may be cut
abbrev pub IsSaid : Standing → Standing → Halt → Type 0
IsSaid old new (Store stop) = SendsReplies old new
IsSaid old new Source = SendsReplies old new
IsSaid old new Sink = Unit {0}

-- So it is with ok, and where a run stops for another cause than the output.
pub record TalksOn {T : Type 0} (old new : Standing) (result : Result T Halt) : Type 0 where
  pub settings : new.outside.settings ≡ old.outside.settings
  pub settings_faults : new.outside.settings_faults ≡ old.outside.settings_faults
  pub ok : IsTrue old.told → OnOk result (SendsReplies old new)
  pub stopped : IsTrue old.told → IfErr result (IsSaid old new)

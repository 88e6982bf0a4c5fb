use Rattle.std.proofs.Common.{refl}
use Rattle.plain_machine.proofs.machine.PlainMachine.remove.Goals as goal
use Rattle.plain_machine.proofs.machine.PlainMachine.remove.Goals.{in-Some, in_default}

pub returns : goal.returns
returns c = elim c.match-self.branch [
  | in-Some w ↦ rw (w.self-inside-is, ← c.self.view_is, w.in-Some.is, w.delete.ensures) refl
  | in_default w ↦ rw (w.self-inside-is, ← c.self.view_is, w.in_default.is) refl
]

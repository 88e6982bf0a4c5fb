use Rattle.std.proofs.Common.{refl}
use Rattle.plain_machine.proofs.machine.PlainMachine.put.Goals as goal
use Rattle.plain_machine.proofs.machine.PlainMachine.put.Goals.{in-Some+in_ok-put, in_default}

pub returns-clause-state : goal.returns-clause-state
returns-clause-state c = elim c.match-self.branch [
  | in-Some+in_ok-put w ↦ rw (w.self-inside-is, ← c.self.view_is, w.in-Some.is, w.in_ok-put.ensures.put) refl
  | in_default w ↦ rw (w.self-inside-is, ← c.self.view_is, w.in_default.is) refl
]

use Rattle.std.proofs.Common.{ap}
use Rattle.script.specs.Machine.{writes_spent, writes_so_far}
use Rattle.script.specs.declared.command.Command.{Command}
use Rattle.plain_machine.proofs.RefusalLaws.{write_left}
use Rattle.plain_machine.proofs.machine.PlainMachine.accept.Goals as goal

pub create-requires : goal.create-requires
create-requires c =
    write_left c.args.self.now.bounds c.args.self.now.state c.args.command c.requires.accepted c.requires.few
    (ap (λ (x : Command). writes_spent c.args.self.now.bounds.writes x (writes_so_far c.args.self.now.state.transaction)) c.in-Create.is)

pub put-requires : goal.put-requires
put-requires c =
    write_left c.args.self.now.bounds c.args.self.now.state c.args.command c.requires.accepted c.requires.few
    (ap (λ (x : Command). writes_spent c.args.self.now.bounds.writes x (writes_so_far c.args.self.now.state.transaction)) c.in-Put.is)

pub delete-requires : goal.delete-requires
delete-requires c =
    write_left c.args.self.now.bounds c.args.self.now.state c.args.command c.requires.accepted c.requires.few
    (ap (λ (x : Command). writes_spent c.args.self.now.bounds.writes x (writes_so_far c.args.self.now.state.transaction)) c.in-Del.is)

-- A command is refused, or done.
use Rattle.std.proofs.Common.{sym, ◌∙◌, ap}
use Rattle.script.specs.Machine.{transaction_wrong}
use Rattle.engine.proofs.StepLaws.{obeys_misplaced}
use Rattle.engine.proofs.engine.Engine.answer.Goals as goal

pub returns-then-is_misplaced : goal.returns-then-is_misplaced
returns-then-is_misplaced g c =
    obeys_misplaced c.args.command.now c.args.self.now (g.W.Devices.standing c.args.world.now) c.requires.ready (ap (transaction_wrong c.args.command.now) (sym c.is_open.ensures) ∙ sym c.is_misplaced.ensures ∙ c.if-is_misplaced.true)

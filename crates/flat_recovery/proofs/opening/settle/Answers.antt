-- Every line flushed, a fence, an empty log.
use Rattle.std.proofs.Common.{◌*◌, ap}
use Rattle.devices.proofs.MomentLaws.{Goes-trans}
use Rattle.devices.proofs.CallLaws.{makes_one, makes_then, makes_stop}
use Rattle.flat_store_meaning.specs.Put.{start_calls}
use Rattle.flat_store_laws.specs.Calls.{checkpoint_calls}
use Rattle.flat_recovery.proofs.CallsLaws.{flushes_are}
use Rattle.flat_recovery.proofs.opening.settle.Goals as goal

pub returns-in_err-flush_lines-clause-makes : goal.returns-in_err-flush_lines-clause-makes
returns-in_err-flush_lines-clause-makes g c =
    makes_stop (checkpoint_calls c.args.log.now.tail) c.from_residual.result c.from_residual.ensures.0
    (flushes_are c.frame_line-first.ensures.place (ap (λ n. 64 * n) c.pages.ensures) c.in_err-flush_lines.ensures.makes)

pub returns-in_err-fence-clause-makes : goal.returns-in_err-fence-clause-makes
returns-in_err-fence-clause-makes g c =
    let one = c.in_ok-flush_lines.ensures in
    let two = c.in_err-fence.ensures in
    makes_then one.goes two.goes (flushes_are c.frame_line-first.ensures.place (ap (λ n. 64 * n) c.pages.ensures) one.makes)
    (makes_stop (start_calls c.args.log.now.tail) c.from_residual-in_err-fence.result c.from_residual-in_err-fence.ensures.0 (makes_one two.makes))

pub returns-clause-makes : goal.returns-clause-makes
returns-clause-makes g c =
    let one = c.in_ok-flush_lines.ensures in
    let two = c.in_ok-fence.ensures in
    let three = c.move_start.ensures in
    makes_then one.goes (Goes-trans two.goes three.goes) (flushes_are c.frame_line-first.ensures.place (ap (λ n. 64 * n) c.pages.ensures) one.makes)
    (makes_then two.goes three.goes (makes_one two.makes) three.makes)

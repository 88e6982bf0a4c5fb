-- The pages, the superblock, and a fence.
use Rattle.std.proofs.Common.{[], ◌∷◌, ◌++◌}
use Rattle.devices.specs.State.Call.{fence}
use Rattle.devices.proofs.MomentLaws.{Goes-trans}
use Rattle.devices.proofs.CallLaws.{makes_one, makes_then, makes_stop}
use Rattle.flat_recovery.specs.Calls.{super_puts}
use Rattle.flat_nvm_layout.specs.Sizes.{sizes_of}
use Rattle.flat_recovery.proofs.formatting.prepare.Goals as goal

pub returns-in_err-put_pages-clause-makes : goal.returns-in_err-put_pages-clause-makes
returns-in_err-put_pages-clause-makes g c =
    makes_stop (super_puts (sizes_of c.args.geometry.now) c.args.first ++ fence ∷ []) c.from_residual.result c.from_residual.ensures.0 c.in_err-put_pages.ensures.makes

pub returns-in_err-put_super-clause-makes : goal.returns-in_err-put_super-clause-makes
returns-in_err-put_super-clause-makes g c =
    let one = c.in_ok-put_pages.ensures in
    let two = c.in_err-put_super.ensures in
    makes_then one.goes two.goes one.makes (makes_stop (fence ∷ []) c.from_residual-in_err-put_super.result c.from_residual-in_err-put_super.ensures.0 two.makes)

pub returns-clause-makes : goal.returns-clause-makes
returns-clause-makes g c =
    let one = c.in_ok-put_pages.ensures in
    let two = c.in_ok-put_super.ensures in
    makes_then one.goes (Goes-trans two.goes c.fence.ensures.goes) one.makes (makes_then two.goes c.fence.ensures.goes two.makes (makes_one c.fence.ensures.makes))

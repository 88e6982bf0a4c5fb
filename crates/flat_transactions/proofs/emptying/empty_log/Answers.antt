-- The fence and the new start join, and so the log is emptied.
use Rattle.devices.proofs.MomentLaws.{Goes-trans}
use Rattle.devices.proofs.CallLaws.{makes_one, makes_then, makes_stop}
use Rattle.flat_store_meaning.specs.Put.{start_calls}
use Rattle.flat_nvm_layout.specs.Sizes.{sizes_of}
use Rattle.flat_transactions.proofs.ClosingLaws.{checkpoint_empties}
use Rattle.flat_transactions.proofs.emptying.empty_log.Goals as goal

pub returns-clause-makes : goal.returns-clause-makes
returns-clause-makes g c = makes_then c.in_ok-fence.ensures.goes c.move_start.ensures.goes (makes_one c.in_ok-fence.ensures.makes) c.move_start.ensures.makes

pub returns-clause-empties : goal.returns-clause-empties
returns-clause-empties g c told =
    checkpoint_empties (sizes_of c.args.log.now.geometry) c.args.log.now.start c.args.log.now.tail _ _ c.move_start.result
    (Goes-trans c.in_ok-fence.ensures.goes c.move_start.ensures.goes) (returns-clause-makes g c) told

pub returns-in_err-fence-clause-makes : goal.returns-in_err-fence-clause-makes
returns-in_err-fence-clause-makes g c = makes_stop (start_calls c.args.log.now.tail) c.from_residual.result c.from_residual.ensures.0 (makes_one c.in_err-fence.ensures.makes)

pub returns-in_err-fence-clause-empties : goal.returns-in_err-fence-clause-empties
returns-in_err-fence-clause-empties g c told =
    checkpoint_empties (sizes_of c.args.log.now.geometry) c.args.log.now.start c.args.log.now.tail _ _ c.from_residual.result
    c.in_err-fence.ensures.goes (returns-in_err-fence-clause-makes g c) told

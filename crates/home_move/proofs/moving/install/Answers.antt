-- The frame is filled, a fence, and then the entry names the page.
use Rattle.home_move.proofs.MoveLaws.{install_then, install_unfilled, install_unfenced}
use Rattle.nvm_layout.specs.Sizes.{sizes_of}
use Rattle.home_move.proofs.PlaceFacts.{install_keeps}
use Rattle.home_move.proofs.moving.install.Goals as goal

pub returns-in_err-fill_frame-clause-made : goal.returns-in_err-fill_frame-clause-made
returns-in_err-fill_frame-clause-made g c = install_unfilled (sizes_of c.args.geometry.now) c.args.frame c.args.page c.args.lines.now c.from_residual.result c.from_residual.ensures.0 c.from_residual.ensures.1 c.in_err-fill_frame.ensures

pub returns-in_err-fence-clause-made : goal.returns-in_err-fence-clause-made
returns-in_err-fence-clause-made g c = install_unfenced (sizes_of c.args.geometry.now) c.args.frame c.args.page c.args.lines.now c.from_residual-in_err-fence.result c.from_residual-in_err-fence.ensures.0 c.from_residual-in_err-fence.ensures.1 c.in_ok-fill_frame.ensures c.in_err-fence.ensures

pub returns-clause-made : goal.returns-clause-made
returns-clause-made g c = install_then (sizes_of c.args.geometry.now) c.args.frame c.args.page c.args.lines.now c.in_ok-fill_frame.ensures c.in_ok-fence.ensures c.put_entry.ensures

pub returns-in_err-fill_frame-clause-keeps : goal.returns-in_err-fill_frame-clause-keeps
returns-in_err-fill_frame-clause-keeps g c = install_keeps (sizes_of c.args.geometry.now) c.args.frame c.args.page c.args.lines.now (returns-in_err-fill_frame-clause-made g c)

pub returns-in_err-fence-clause-keeps : goal.returns-in_err-fence-clause-keeps
returns-in_err-fence-clause-keeps g c = install_keeps (sizes_of c.args.geometry.now) c.args.frame c.args.page c.args.lines.now (returns-in_err-fence-clause-made g c)

pub returns-clause-keeps : goal.returns-clause-keeps
returns-clause-keeps g c = install_keeps (sizes_of c.args.geometry.now) c.args.frame c.args.page c.args.lines.now (returns-clause-made g c)

-- The block is loaded, and then written.
use Rattle.nvm_layout.specs.Sizes.{sizes_of}
use Rattle.log_drain.proofs.CopyLaws.{copies_unloaded, copies_one}
use Rattle.log_drain.proofs.copying.copy_block.Goals as goal

pub returns-in_err-load_block-clause-copies : goal.returns-in_err-load_block-clause-copies
returns-in_err-load_block-clause-copies g c =
    copies_unloaded (sizes_of c.args.geometry.now) c.args.offset 1 c.from_residual.result c.from_residual.ensures.0 c.in_err-load_block.ensures.goes c.in_err-load_block.ensures.stays

pub returns-clause-copies : goal.returns-clause-copies
returns-clause-copies g c =
    copies_one (sizes_of c.args.geometry.now) c.args.offset c.ring_block.result c.load_block.new.into c.requires.aligned c.ring_block.ensures.place
    c.in_ok-load_block.ensures.goes c.in_ok-load_block.ensures.stays c.in_ok-load_block.ensures.value c.write.ensures.goes c.write.ensures.makes

-- The frame is read, its bytes are the home block's, settled, and then the entry is cleared.
use Rattle.nvm_layout.specs.Sizes.{sizes_of}
use Rattle.home_move.proofs.MoveLaws.{release_unread, release_unwritten, release_then}
use Rattle.home_move.proofs.moving.release_written.Goals as goal

pub returns-in_err-read_frame : goal.returns-in_err-read_frame
returns-in_err-read_frame g c =
    release_unread (sizes_of c.args.geometry.now) c.args.frame c.args.page c.from_residual.result c.from_residual.ensures.0 c.from_residual.ensures.1 c.in_err-read_frame.ensures.looked c.in_err-read_frame.ensures.reads

pub returns-in_err-put_block : goal.returns-in_err-put_block
returns-in_err-put_block g c =
    release_unwritten (sizes_of c.args.geometry.now) c.args.frame c.args.page c.page_block.result c.read_frame.new.into c.from_residual-in_err-put_block.result c.from_residual-in_err-put_block.ensures.0 c.from_residual-in_err-put_block.ensures.1
    c.page_block.ensures.place c.in_ok-read_frame.ensures.looked c.in_ok-read_frame.ensures.reads c.in_ok-read_frame.ensures.value c.in_err-put_block.ensures

pub returns : goal.returns
returns g c =
    release_then (sizes_of c.args.geometry.now) c.args.frame c.args.page c.page_block.result c.read_frame.new.into
    c.page_block.ensures.place c.in_ok-read_frame.ensures.looked c.in_ok-read_frame.ensures.reads c.in_ok-read_frame.ensures.value c.in_ok-put_block.ensures c.put_entry.ensures

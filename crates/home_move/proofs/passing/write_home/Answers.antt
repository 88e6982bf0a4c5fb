-- A line goes to the frame of its page, or to the frame through which pages pass.
use Rattle.nvm_layout.specs.Sizes.{sizes_of}
use Rattle.home_move.proofs.HomeLaws.{write_kept, write_passed, write_unpassed}
use Rattle.home_move.proofs.WriteLaws.{store_writes, writes_then, writes_number, kept_leaves, passed_leaves}
use Rattle.home_move.proofs.passing.write_home.Goals as goal

pub returns-in-Some-clause-call : goal.returns-in-Some-clause-call
returns-in-Some-clause-call g c =
    write_kept (sizes_of c.args.geometry.now) c.args.passage.now.page c.args.home c.in-Some.frame c.args.page c.args.line c.args.value.now c.in-Some.is c.requires.home c.requires.page c.requires.line c.store_line.ensures.made

pub returns-in_ok-pass_page-in-None-clause-call : goal.returns-in_ok-pass_page-in-None-clause-call
returns-in_ok-pass_page-in-None-clause-call g c =
    write_passed (sizes_of c.args.geometry.now) c.args.home c.args.passage.now.page c.pass_page.new.passage.page c.args.page c.args.line c.args.value.now c.in-None.is c.requires.page c.requires.line
    c.in_ok-pass_page-in-None.ensures.page c.in_ok-pass_page-in-None.ensures.call c.store_line-in-None.ensures.made

pub returns-in-Some-clause-writes : goal.returns-in-Some-clause-writes
returns-in-Some-clause-writes g c =
    writes_number (kept_leaves c.args.home c.in-Some.frame c.args.page c.args.passage.now.page c.in-Some.is)
    (store_writes (sizes_of c.args.geometry.now) c.in-Some.frame c.args.line c.args.value.now c.store_line.ensures.made)

pub returns-in_ok-pass_page-in-None-clause-writes : goal.returns-in_ok-pass_page-in-None-clause-writes
returns-in_ok-pass_page-in-None-clause-writes g c =
    writes_number (passed_leaves c.args.home c.args.page c.args.passage.now.page c.in-None.is)
    (writes_then c.in_ok-pass_page-in-None.ensures.call.goes c.store_line-in-None.ensures.made.goes c.in_ok-pass_page-in-None.ensures.writes
    (store_writes (sizes_of c.args.geometry.now) c.args.geometry.now.frames c.args.line c.args.value.now c.store_line-in-None.ensures.made))

pub returns-in_err-pass_page-in-None-clause-call : goal.returns-in_err-pass_page-in-None-clause-call
returns-in_err-pass_page-in-None-clause-call g c =
    write_unpassed (sizes_of c.args.geometry.now) c.args.home c.args.passage.now.page c.args.page c.args.line c.args.value.now c.from_residual.result c.in-None.is c.from_residual.ensures.1 c.in_err-pass_page-in-None.ensures.call

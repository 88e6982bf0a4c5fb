-- The block is read, and the page put into the frame.
use Rattle.line_pages.specs.Pairs.{no_pairs}
use Rattle.nvm_layout.specs.Sizes.{sizes_of}
use Rattle.device_calls.proofs.LeadsLaws.{leads_exit, leads_looked}
use Rattle.home_move.specs.Frames.{page_lines}
use Rattle.home_move.specs.Passing.{WritesBlocks}
use Rattle.home_move.proofs.HomeLaws.{homes_keep, enter_leads}
use Rattle.home_move.proofs.WriteLaws.{looked_writes, install_writes, writes_then, at_exit}
use Rattle.home_move.proofs.passing.enter.Goals as goal

pub returns-in_err-read_home_block-clause-call : goal.returns-in_err-read_home_block-clause-call
returns-in_err-read_home_block-clause-call g c =
    leads_exit c.from_residual.result c.from_residual.ensures.1 (leads_looked (λ aim s before. homes_keep no_pairs aim s before.holds) c.in_err-read_home_block.ensures.looked)

pub returns-clause-call : goal.returns-clause-call
returns-clause-call g c =
    enter_leads (sizes_of c.args.geometry.now) c.args.page c.read_home_block.new.into c.requires.page c.in_ok-read_home_block.ensures.looked c.in_ok-read_home_block.ensures.value c.install.ensures.made

pub returns-in_err-read_home_block-clause-writes : goal.returns-in_err-read_home_block-clause-writes
returns-in_err-read_home_block-clause-writes g c =
    at_exit (λ r. WritesBlocks 0 (g.D.Devices.standing c.args.dev.now) (g.D.Devices.standing c.read_home_block.new.dev) r) c.from_residual.result c.from_residual.ensures.1 (looked_writes c.in_err-read_home_block.ensures.looked)

pub returns-clause-writes : goal.returns-clause-writes
returns-clause-writes g c =
    writes_then c.in_ok-read_home_block.ensures.looked.goes c.install.ensures.made.goes (looked_writes c.in_ok-read_home_block.ensures.looked)
    (install_writes (sizes_of c.args.geometry.now) c.args.geometry.now.frames c.args.page (page_lines c.read_home_block.new.into) c.install.ensures.made)

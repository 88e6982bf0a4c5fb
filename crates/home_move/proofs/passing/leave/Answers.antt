-- The page in the frame through which pages pass is released with a write.
use Rattle.line_pages.specs.Pairs.{no_pairs}
use Rattle.nvm_layout.specs.Sizes.{sizes_of}
use Rattle.home_move.proofs.HomeLaws.{homes_keep, leaves_page, release_leads}
use Rattle.home_move.proofs.WriteLaws.{release_writes}
use Rattle.home_move.proofs.passing.leave.Goals as goal

pub returns-clause-call : goal.returns-clause-call
returns-clause-call g c =
    release_leads (sizes_of c.args.geometry.now) c.args.geometry.now.frames c.args.page (λ aim s homes. homes_keep no_pairs aim s homes)
    (λ bytes aim s homes holds. leaves_page (sizes_of c.args.geometry.now) c.args.page bytes aim s homes holds) c.release.ensures.releases

pub returns-clause-writes : goal.returns-clause-writes
returns-clause-writes g c = release_writes (sizes_of c.args.geometry.now) c.args.geometry.now.frames c.args.page c.release.ensures.releases

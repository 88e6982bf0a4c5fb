use Rattle.std.proofs.Common.{◌≤◌, arith}
use Rattle.nvm_layout.specs.Sizes.{sizes_of}
use Rattle.tier_pool.specs.Fields.{parts_of}
use Rattle.tier_pool.proofs.HandingLaws.{page_installs, installs_exit}
use Rattle.tier_pool.proofs.pool.TierPool.install_page.Goals as goal

pub returns-in_err-install-clause-installs : goal.returns-in_err-install-clause-installs
returns-in_err-install-clause-installs g c =
    installs_exit c.from_residual.result c.from_residual.ensures.1
    (page_installs (sizes_of c.args.self.now.geometry) (parts_of c.args.self.now) c.args.page c.args.frame c.args.dirty c.args.lines.now c.requires.page
    (let low : c.args.frame ≤ c.args.self.now.geometry.frames = omega (arith, c.requires.frame) in low) c.requires.homeless c.requires.free c.in_err-install.ensures.made)

pub returns-clause-installs : goal.returns-clause-installs
returns-clause-installs g c =
    page_installs (sizes_of c.args.self.now.geometry) (parts_of c.args.self.now) c.args.page c.args.frame c.args.dirty c.args.lines.now c.requires.page
    (let low : c.args.frame ≤ c.args.self.now.geometry.frames = omega (arith, c.requires.frame) in low) c.requires.homeless c.requires.free c.in_ok-install.ensures.made

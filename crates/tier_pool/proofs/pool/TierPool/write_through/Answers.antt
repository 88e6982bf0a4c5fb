use Rattle.std.proofs.Common.{ap}
use Rattle.nvm_layout.specs.Sizes.{sizes_of}
use Rattle.tier_map.specs.Contents.{Sizes}
use Rattle.tier_pool.specs.Fields.{parts_of}
use Rattle.tier_pool.proofs.HandingLaws.{passes_exit, passes_page, past_end}
use Rattle.tier_pool.proofs.pool.TierPool.write_through.Goals as goal

pub returns-in_err-install-clause-passes : goal.returns-in_err-install-clause-passes
returns-in_err-install-clause-passes g c =
    passes_exit (sizes_of c.args.self.now.geometry) (parts_of c.args.self.now) c.args.page c.args.place c.requires.page
    (past_end c.args.self.now.map.frames.items c.args.self.now.geometry.frames (ap (λ (s : Sizes). s.frames) c.args.self.now.map_fits))
    c.put_copy.new.into (record { words = c.put_copy.ensures.words }) c.from_residual.ensures.1 c.in_err-install.ensures.made

pub returns-clause-passes : goal.returns-clause-passes
returns-clause-passes g c =
    passes_page (sizes_of c.args.self.now.geometry) (parts_of c.args.self.now) c.args.page c.args.place c.put_copy.new.into c.requires.page
    (past_end c.args.self.now.map.frames.items c.args.self.now.geometry.frames (ap (λ (s : Sizes). s.frames) c.args.self.now.map_fits))
    (record { words = c.put_copy.ensures.words }) c.in_ok-install.ensures.made c.release.ensures.releases

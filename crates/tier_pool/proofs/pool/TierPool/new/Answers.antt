use Rattle.std.proofs.Common.{◌≡◌, ap, sym, subst}
use Rattle.store_model.specs.Layout.{pages}
use Rattle.nvm_layout.specs.Sizes.{sizes_of}
use Rattle.nvm_layout.specs.declared.geometry.Geometry.{Geometry}
use Rattle.tier_pool.specs.Opening.{NamesWithin, empty_parts, entries_placed}
use Rattle.tier_rules.specs.Plans.{plan_of}
use Rattle.tier_pool.specs.Fields.{parts_of}
use Rattle.tier_pool.specs.Standing.{IsStanding, IsSteady}
use Rattle.tier_pool.proofs.StandingLaws.{made_parts, made_standing}
use Rattle.tier_pool.proofs.SteadyOpening.{made_steady}
use Rattle.tier_pool.proofs.pool.TierPool.new.Goals as goal

pub place_frames-requires-clause-within : goal.place_frames-requires-clause-within
place_frames-requires-clause-within c =
    subst (λ (g : Geometry). NamesWithin (pages (sizes_of g)) c.args.words.now) (sym c.in_ok-pool.ensures.of.geometry) c.requires.within

pub returns-clause-standing : goal.returns-clause-standing
returns-clause-standing c =
    let n = c.args.geometry.now.frames in
    let is : parts_of c.place_frames.new.self ≡ entries_placed n c.args.words.now (empty_parts (plan_of c.args.policy.now) n) =
    made_parts c.args.words.now (parts_of c.in_ok-pool.pool) (parts_of c.place_frames.new.self) (plan_of c.args.policy.now) c.in_ok-pool.pool.geometry.frames n
    (ap (λ (g : Geometry). g.frames) c.in_ok-pool.ensures.of.geometry) c.in_ok-pool.ensures.parts c.place_frames.ensures.parts in
    subst IsStanding (sym is) (made_standing c.args.words.now (plan_of c.args.policy.now) n c.args.policy.now.some_frame)

pub returns-clause-steady : goal.returns-clause-steady
returns-clause-steady c =
    let n = c.args.geometry.now.frames in
    let is : parts_of c.place_frames.new.self ≡ entries_placed n c.args.words.now (empty_parts (plan_of c.args.policy.now) n) =
    made_parts c.args.words.now (parts_of c.in_ok-pool.pool) (parts_of c.place_frames.new.self) (plan_of c.args.policy.now) c.in_ok-pool.pool.geometry.frames n
    (ap (λ (g : Geometry). g.frames) c.in_ok-pool.ensures.of.geometry) c.in_ok-pool.ensures.parts c.place_frames.ensures.parts in
    subst IsSteady (sym is) (made_steady c.args.words.now (plan_of c.args.policy.now) n c.args.policy.now.some_frame c.requires.table)

use Rattle.std.proofs.Common.{ℕ, ◌<◌, sym, ap, ◌∙◌, subst}
use Rattle.nvm_layout.specs.declared.geometry.Geometry.{Geometry}
use Rattle.nvm_layout.specs.Sizes.{sizes_of}
use Rattle.store_model.specs.Layout.{pages}
use Rattle.device_calls.proofs.LeadsLaws.{leads_from, leads_given}
use Rattle.tier_map.specs.declared.place.Place.TheVariants.{Full}
use Rattle.tier_facts.specs.Facts.{IsHardened}
use Rattle.tier_rules.specs.Parts.{Parts, copy_line}
use Rattle.tier_pool.specs.Fields.{parts_of as pool_parts}
use Rattle.tier_pool.specs.Standing.{IsSteady}
use Rattle.tier_pool.proofs.SteadyLaws.{full_low, mini_low, steady_promoted, steady_full_load}
use Rattle.tier_pool.proofs.WritingLaws.{facts_promoted}
use Rattle.tier_manager.specs.Fields.{parts_of}
use Rattle.tier_manager.proofs.ReadyLaws.{on_ok, promoted_place, promoted_line, has_frame, none_resident}
use Rattle.tier_manager.proofs.tiers.Tiers.promote_and_load.Goals as goal

pub promote-requires-clause-mini : goal.promote-requires-clause-mini
promote-requires-clause-mini g c = mini_low c.args.page c.args.mini (parts_of c.args.self.now) c.requires.here c.requires.steady

pub promote-requires-clause-empty : goal.promote-requires-clause-empty
promote-requires-clause-empty g c = none_resident _ (c.requires.steady.free.each (Full c.args.full) c.requires.free).empty

pub load_to_full-requires-clause-frame : goal.load_to_full-requires-clause-frame
load_to_full-requires-clause-frame g c =
    let over = c.requires.steady.standing.over.frame c.args.page c.args.mini c.requires.here in
    has_frame c.promote.new.self c.args.page over.0 c.spot-spot.result.frame c.spot-spot.ensures.frame (ap (λ (p : Parts). p.map.nvm c.args.page) c.promote.ensures.parts ∙ over.1)

pub returns-clause-leads : goal.returns-clause-leads
returns-clause-leads g c =
    let old = parts_of c.args.self.now in
    let after = steady_promoted c.args.page c.args.mini c.args.full old c.requires.here c.requires.free c.requires.full c.requires.steady in
    let is = c.promote.ensures.parts in
    leads_given IsHardened (leads_from
    (facts_promoted c.args.self.now.pool c.promote.new.self c.args.page c.args.mini c.args.full c.requires.full c.requires.here c.requires.free c.promote.ensures.same is)
    (c.load_to_full.ensures.leads c.args.page
    (record {
      in_store = subst (λ (x : Geometry). c.args.page < pages (sizes_of x)) (sym c.promote.ensures.same.geometry) c.requires.page;
      framed = sym c.spot-spot.ensures.frame;
      uncopied = ap (λ (p : Parts). copy_line p c.args.page c.args.line) is
          ∙ promoted_line c.args.page c.args.mini c.args.full c.args.line old (subst (λ (n : ℕ). c.args.full < n) (sym c.requires.steady.places.arena) c.requires.full) c.requires.here ∙ c.requires.uncopied;
    })
    (ap (λ (p : Parts). p.map.place c.args.page) is ∙ promoted_place c.args.page c.args.mini c.args.full old)
    (subst IsSteady (sym is) after).there))

pub returns-clause-keeps : goal.returns-clause-keeps
returns-clause-keeps g c =
    let old = parts_of c.args.self.now in
    let is = c.promote.ensures.parts in
    let after = subst IsSteady (sym is) (steady_promoted c.args.page c.args.mini c.args.full old c.requires.here c.requires.free c.requires.full c.requires.steady) in
    let at = ap (λ (p : Parts). p.map.place c.args.page) is ∙ promoted_place c.args.page c.args.mini c.args.full old in
    on_ok c.load_to_full.result
    (λ loaded. steady_full_load c.args.full c.args.line c.args.page (pool_parts c.promote.new.self) (pool_parts c.load_to_full.new.self) loaded at
    (full_low c.args.page c.args.full (pool_parts c.promote.new.self) at after) after)
    c.load_to_full.ensures.parts

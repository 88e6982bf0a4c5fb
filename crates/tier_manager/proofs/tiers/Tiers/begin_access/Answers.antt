use Rattle.std.proofs.Common.{ℕ, ◌<◌, sym, ap, ◌∙◌, subst}
use Rattle.std.specs.Prelude.{Option, IsSome}
use Rattle.store_model.specs.Layout.{pages}
use Rattle.nvm_layout.specs.declared.geometry.Geometry.{Geometry}
use Rattle.nvm_layout.specs.Sizes.{sizes_of}
use Rattle.device_calls.proofs.LeadsLaws.{leads_ok, leads_data}
use Rattle.tier_facts.specs.Facts.{Facts}
use Rattle.tier_rules.specs.Parts.{Parts}
use Rattle.tier_pool.specs.Standing.{IsSteady}
use Rattle.tier_pool.proofs.RoomLaws.{at_data, leads_to}
use Rattle.tier_pool.proofs.SteadyLaws.{steady_access}
use Rattle.tier_manager.specs.Fields.{parts_of}
use Rattle.tier_manager.proofs.EnterLaws.{entered_lies}
use Rattle.tier_manager.proofs.BegunLaws.{works_there}
use Rattle.tier_manager.proofs.tiers.Tiers.begin_access.Goals as goal

pub returns-clause-leads : goal.returns-clause-leads
returns-clause-leads g c =
    leads_to (at_data (ap sizes_of c.work_at.ensures.same.geometry) c.work_at.ensures.parts) (leads_ok c.in_ok-enter.ensures.leads)

pub returns-clause-quiet : goal.returns-clause-quiet
returns-clause-quiet g c = λ copied.
    leads_data Facts (at_data (ap sizes_of c.work_at.ensures.same.geometry) c.work_at.ensures.parts) (leads_ok (c.in_ok-enter.ensures.quiet copied))

pub returns-clause-lies : goal.returns-clause-lies
returns-clause-lies g c = record {
  place = c.work_at.ensures.place ∙ sym (ap (λ (p : Parts). p.map.place c.args.page) c.work_at.ensures.parts);
  frame = c.work_at.ensures.frame ∙ sym (ap (λ (p : Parts). p.map.nvm c.args.page) c.work_at.ensures.parts);
  framed = λ absent. subst (λ (o : Option ℕ). IsSome o) (sym c.work_at.ensures.frame)
      (entered_lies c.args.page c.args.writes (parts_of c.args.self.now) (parts_of c.enter.new.self) c.in_ok-enter.ensures.entered (sym c.work_at.ensures.place ∙ absent));
}

pub returns-clause-keeps : goal.returns-clause-keeps
unfolding returns-clause-lies
returns-clause-keeps g c = record {
  fields = subst IsSteady (sym c.work_at.ensures.parts) (steady_access (parts_of c.enter.new.self) c.in_ok-enter.ensures.keeps _);
  access = works_there c.work_at.new.self.pool.access c.args.page _ c.work_at.result (parts_of c.work_at.new.self).map c.work_at.ensures.of c.work_at.ensures.there
      (subst (λ (x : Geometry). c.args.page < pages (sizes_of x)) (sym (c.work_at.ensures.same.geometry ∙ c.in_ok-enter.ensures.same.geometry)) c.requires.page)
      (returns-clause-lies g c);
}

use Rattle.std.proofs.Common.{◌<◌, sym, ap, ◌∙◌, subst}
use Rattle.nvm_layout.specs.Sizes.{sizes_of}
use Rattle.nvm_layout.specs.declared.geometry.Geometry.{Geometry}
use Rattle.store_model.specs.Layout.{pages}
use Rattle.device_calls.proofs.LeadsLaws.{leads_then, leads_ok, leads_exit, leads_data}
use Rattle.tier_map.specs.declared.place.Place.TheVariants.{Full}
use Rattle.tier_facts.specs.Facts.{Hard}
use Rattle.tier_rules.specs.Parts.{Parts}
use Rattle.tier_pool.specs.Fields.{parts_of as pool_parts}
use Rattle.tier_pool.specs.Standing.{IsSteady as AreSteady}
use Rattle.tier_pool.proofs.FullRoomLaws.{full_room_free}
use Rattle.tier_pool.proofs.RoomLaws.{at_data}
use Rattle.tier_manager.specs.Fields.{parts_of}
use Rattle.tier_manager.proofs.ReadyLaws.{outgrows, room_is, room_steady, kept_homeless, kept_uncopied, promoted_ready, ReadyIn, there_in, works_there, opened_kept}
use Rattle.tier_manager.proofs.tiers.Tiers.outgrow.Given as given
use Rattle.tier_manager.proofs.tiers.Tiers.outgrow.Goals.{After-move_access}
use Rattle.tier_manager.proofs.tiers.Tiers.outgrow.Goals as goal

pub promote_to-requires-clause-steady : goal.promote_to-requires-clause-steady
promote_to-requires-clause-steady g c = room_steady c.in_ok-full.full (parts_of c.args.self.now) (pool_parts c.room_in_full.new.self) c.in_ok-full.ensures.room c.requires.steady.fields

pub promote_to-requires-clause-free : goal.promote_to-requires-clause-free
promote_to-requires-clause-free g c =
    full_room_free (parts_of c.args.self.now) (pool_parts c.room_in_full.new.self) c.in_ok-full.full c.in_ok-full.ensures.room c.requires.steady.fields.standing.fulls c.requires.steady.fields.agrees

pub promote_to-requires-clause-homeless : goal.promote_to-requires-clause-homeless
promote_to-requires-clause-homeless g c =
    let old = parts_of c.args.self.now in let after = pool_parts c.room_in_full.new.self in
    let it = outgrows c.args.page c.args.line old c.requires.copied c.requires.quiet in
    kept_homeless c.args.page it.mini old after (room_is c.args.page c.args.line c.in_ok-full.full old after it c.in_ok-full.ensures.room c.requires.steady.fields)

pub promote_to-requires-clause-uncopied : goal.promote_to-requires-clause-uncopied
promote_to-requires-clause-uncopied g c =
    let old = parts_of c.args.self.now in let after = pool_parts c.room_in_full.new.self in
    let it = outgrows c.args.page c.args.line old c.requires.copied c.requires.quiet in
    kept_uncopied c.args.page c.args.line old after it c.requires.line (room_steady c.in_ok-full.full old after c.in_ok-full.ensures.room c.requires.steady.fields)
    (room_is c.args.page c.args.line c.in_ok-full.full old after it c.in_ok-full.ensures.room c.requires.steady.fields)

pub returns-in_err-promote_to-clause-leads : goal.returns-in_err-promote_to-clause-leads
returns-in_err-promote_to-clause-leads g c =
    leads_exit c.from_residual-in_err-promote_to.result c.from_residual-in_err-promote_to.ensures.1 (leads_then (c.in_ok-full.ensures.leads c.requires.steady.fields.whole) c.in_err-promote_to.ensures.leads)

pub returns-clause-leads : goal.returns-clause-leads
returns-clause-leads g c =
    leads_data Hard (at_data (ap sizes_of c.move_access.ensures.same.geometry) c.move_access.ensures.parts)
    (leads_ok (leads_then (c.in_ok-full.ensures.leads c.requires.steady.fields.whole) c.in_ok-promote_to.ensures.leads))

-- where the line stands then
ready : (g : given.Over) (c : After-move_access g) → ReadyIn c.args.page c.args.line c.in_ok-full.full (parts_of c.promote_to.new.self)
ready g c =
    let old = parts_of c.args.self.now in let after = pool_parts c.room_in_full.new.self in
    let it = outgrows c.args.page c.args.line old c.requires.copied c.requires.quiet in
    promoted_ready c.args.page c.args.line it.mini c.in_ok-full.full old after (parts_of c.promote_to.new.self)
    (room_is c.args.page c.args.line c.in_ok-full.full old after it c.in_ok-full.ensures.room c.requires.steady.fields)
    c.in_ok-promote_to.ensures.promoted
    (full_room_free old after c.in_ok-full.full c.in_ok-full.ensures.room c.requires.steady.fields.standing.fulls c.requires.steady.fields.agrees)
    c.in_ok-full.ensures.within c.requires.line
    (room_steady c.in_ok-full.full old after c.in_ok-full.ensures.room c.requires.steady.fields)
    c.in_ok-promote_to.ensures.keeps

pub returns-clause-lies : goal.returns-clause-lies
returns-clause-lies g c =
    let same = c.move_access.ensures.parts in
    let at = c.move_access.ensures.place ∙ (ready g c).place in
    record {
      place = c.move_access.ensures.place ∙ sym (ap (λ (p : Parts). p.map.place c.args.page) same);
      frame = c.move_access.ensures.frame ∙ sym (ap (λ (p : Parts). p.map.nvm c.args.page) same);
      framed = λ absent. absurd (let both = sym absent ∙ at in let no : ⊥ = cc in no);
    }

pub returns-clause-there : goal.returns-clause-there
returns-clause-there g c =
    there_in c.move_access.result.place (Full c.in_ok-full.full) c.args.line (parts_of c.move_access.new.self) (c.move_access.ensures.place ∙ (ready g c).place)
    (subst (λ (p : Parts). (ReadyIn c.args.page c.args.line c.in_ok-full.full p)) (sym c.move_access.ensures.parts) (ready g c)).there

pub returns-clause-keeps : goal.returns-clause-keeps
unfolding returns-clause-lies
returns-clause-keeps g c = record {
  fields = subst AreSteady (sym c.move_access.ensures.parts) c.in_ok-promote_to.ensures.keeps;
  access = works_there c.move_access.new.self.pool.access c.args.page (pages (sizes_of c.move_access.new.self.pool.geometry)) c.move_access.result (parts_of c.move_access.new.self).map
      (opened_kept c.args.page c.args.line c.in_ok-full.full (parts_of c.args.self.now) (pool_parts c.room_in_full.new.self) (parts_of c.promote_to.new.self) (parts_of c.move_access.new.self)
      c.in_ok-full.ensures.room c.in_ok-promote_to.ensures.promoted c.move_access.ensures.parts c.requires.opened)
      c.move_access.ensures.access
      (subst (λ (x : Geometry). c.args.page < pages (sizes_of x)) (sym (c.move_access.ensures.same.geometry ∙ c.promote_to.ensures.same.geometry ∙ c.room_in_full.ensures.same.geometry)) c.requires.page)
      (returns-clause-lies g c);
}

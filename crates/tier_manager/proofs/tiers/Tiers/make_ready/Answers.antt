use Rattle.std.proofs.Common.{◌≡◌, ℕ, ◌<◌, sym, ◌∙◌, subst, false}
use Rattle.nvm_layout.specs.Sizes.{sizes_of}
use Rattle.device_calls.proofs.LeadsLaws.{leads_none, leads_given, leads_ok, leads_exit}
use Rattle.tier_map.specs.declared.place.Place.{Place}
use Rattle.tier_map.specs.declared.place.Place.TheVariants.{Full}
use Rattle.page_frame.specs.LineSets.{has_line}
use Rattle.tier_facts.specs.Facts.{IsHardened}
use Rattle.tier_facts.proofs.PlaceLaws.{facts_held}
use Rattle.tier_facts.proofs.CallLaws.{hard_held}
use Rattle.tier_rules.specs.Plans.{plan_of}
use Rattle.tier_pool.specs.Places.{IsPlace}
use Rattle.tier_pool.specs.Fields.{parts_of as pool_parts}
use Rattle.tier_pool.proofs.RangeLaws.{place_in}
use Rattle.tier_pool.proofs.SteadyLaws.{full_low, steady_full_load}
use Rattle.tier_manager.specs.Fields.{parts_of, data_of}
use Rattle.tier_manager.proofs.ReadyLaws.{full_frame, lies_there, full_loaded_there, full_load_map, there_in, steady_with}
use Rattle.tier_manager.proofs.tiers.Tiers.make_ready.Goals as goal

pub resident_lines-requires : goal.resident_lines-requires
resident_lines-requires g c = subst (λ (p : Place). IsPlace (plan_of c.args.self.now.pool.policy) p) (sym c.requires.lies.place) (place_in c.args.self.now.pool c.args.page)

pub load_to_full-requires-clause-frame : goal.load_to_full-requires-clause-frame
load_to_full-requires-clause-frame g c =
    let parts = parts_of c.args.self.now in let full = c.in-Full.full in
    let here : parts.map.place c.args.page ≡ Full full = sym c.requires.lies.place ∙ c.in-Full.is in
    let absent : has_line c.resident_lines.result c.args.line ≡ false = sym c.has_line.ensures ∙ c.if-not-has_line.true in
    let lies = lies_there (sizes_of c.args.self.now.pool.geometry) c.args.page c.args.line c.resident_lines.result c.args.spot parts c.requires.page c.requires.lies c.resident_lines.ensures absent in
    full_frame c.args.self.now.pool c.args.page full c.args.line c.args.spot.frame c.requires.steady.fields here c.requires.lies.frame lies.uncopied c.requires.line

pub load_to_full-requires-clause-full : goal.load_to_full-requires-clause-full
load_to_full-requires-clause-full g c =
    let parts = parts_of c.args.self.now in let full = c.in-Full.full in
    let here : parts.map.place c.args.page ≡ Full full = sym c.requires.lies.place ∙ c.in-Full.is in
    full_low c.args.page full parts here c.requires.steady.fields

pub returns-in_err-load_to_full-in-Full-clause-leads : goal.returns-in_err-load_to_full-in-Full-clause-leads
returns-in_err-load_to_full-in-Full-clause-leads g c =
    let parts = parts_of c.args.self.now in let full = c.in-Full.full in
    let here : parts.map.place c.args.page ≡ Full full = sym c.requires.lies.place ∙ c.in-Full.is in
    let absent : has_line c.resident_lines.result c.args.line ≡ false = sym c.has_line.ensures ∙ c.if-not-has_line.true in
    let lies = lies_there (sizes_of c.args.self.now.pool.geometry) c.args.page c.args.line c.resident_lines.result c.args.spot parts c.requires.page c.requires.lies c.resident_lines.ensures absent in
    leads_exit c.from_residual.result c.from_residual.ensures.1 (leads_given IsHardened (c.in_err-load_to_full-in-Full.ensures.leads c.args.page lies here c.requires.steady.fields.there))

pub returns-in_err-load_to_full-in-Full-clause-quiet : goal.returns-in_err-load_to_full-in-Full-clause-quiet
returns-in_err-load_to_full-in-Full-clause-quiet g c = λ quiet.
    let parts = parts_of c.args.self.now in let full = c.in-Full.full in
    let here : parts.map.place c.args.page ≡ Full full = sym c.requires.lies.place ∙ c.in-Full.is in
    let absent : has_line c.resident_lines.result c.args.line ≡ false = sym c.has_line.ensures ∙ c.if-not-has_line.true in
    let lies = lies_there (sizes_of c.args.self.now.pool.geometry) c.args.page c.args.line c.resident_lines.result c.args.spot parts c.requires.page c.requires.lies c.resident_lines.ensures absent in
    leads_exit c.from_residual.result c.from_residual.ensures.1 (c.in_err-load_to_full-in-Full.ensures.leads c.args.page lies here c.requires.steady.fields.there)

pub returns-in-Absent-clause-leads : goal.returns-in-Absent-clause-leads
returns-in-Absent-clause-leads g c = leads_none (hard_held (data_of c.args.self.now)) (λ aim s it. it)

pub returns-in_ok-load_to_full-in-Full-clause-leads : goal.returns-in_ok-load_to_full-in-Full-clause-leads
returns-in_ok-load_to_full-in-Full-clause-leads g c =
    let parts = parts_of c.args.self.now in let full = c.in-Full.full in
    let here : parts.map.place c.args.page ≡ Full full = sym c.requires.lies.place ∙ c.in-Full.is in
    let absent : has_line c.resident_lines.result c.args.line ≡ false = sym c.has_line.ensures ∙ c.if-not-has_line.true in
    let lies = lies_there (sizes_of c.args.self.now.pool.geometry) c.args.page c.args.line c.resident_lines.result c.args.spot parts c.requires.page c.requires.lies c.resident_lines.ensures absent in
    leads_ok (leads_given IsHardened (c.in_ok-load_to_full-in-Full.ensures.leads c.args.page lies here c.requires.steady.fields.there))

pub returns-in_ok-load_to_full-in-Full-clause-quiet : goal.returns-in_ok-load_to_full-in-Full-clause-quiet
returns-in_ok-load_to_full-in-Full-clause-quiet g c = λ quiet.
    let parts = parts_of c.args.self.now in let full = c.in-Full.full in
    let here : parts.map.place c.args.page ≡ Full full = sym c.requires.lies.place ∙ c.in-Full.is in
    let absent : has_line c.resident_lines.result c.args.line ≡ false = sym c.has_line.ensures ∙ c.if-not-has_line.true in
    let lies = lies_there (sizes_of c.args.self.now.pool.geometry) c.args.page c.args.line c.resident_lines.result c.args.spot parts c.requires.page c.requires.lies c.resident_lines.ensures absent in
    leads_ok (c.in_ok-load_to_full-in-Full.ensures.leads c.args.page lies here c.requires.steady.fields.there)

pub returns-in_ok-load_to_full-in-Full-clause-there : goal.returns-in_ok-load_to_full-in-Full-clause-there
returns-in_ok-load_to_full-in-Full-clause-there g c =
    let parts = parts_of c.args.self.now in let full = c.in-Full.full in
    let here : parts.map.place c.args.page ≡ Full full = sym c.requires.lies.place ∙ c.in-Full.is in
    let new = pool_parts c.load_to_full.new.self in let loaded = c.in_ok-load_to_full-in-Full.ensures.parts in
    let low = full_low c.args.page full parts here c.requires.steady.fields in
    there_in c.args.spot.place (Full full) c.args.line new c.in-Full.is
    (full_loaded_there full c.args.line parts new loaded (subst (λ (n : ℕ). full < n) (sym c.requires.steady.fields.places.arena) low) c.requires.line c.requires.steady.fields)

pub returns-in_ok-load_to_full-in-Full-clause-keeps : goal.returns-in_ok-load_to_full-in-Full-clause-keeps
returns-in_ok-load_to_full-in-Full-clause-keeps g c =
    let parts = parts_of c.args.self.now in let full = c.in-Full.full in
    let here : parts.map.place c.args.page ≡ Full full = sym c.requires.lies.place ∙ c.in-Full.is in
    let new = pool_parts c.load_to_full.new.self in let loaded = c.in_ok-load_to_full-in-Full.ensures.parts in
    let low = full_low c.args.page full parts here c.requires.steady.fields in
    steady_with c.args.self.now (record { pool = c.load_to_full.new.self; trace = c.args.self.now.trace }) c.requires.steady
    (steady_full_load full c.args.line c.args.page parts new loaded here low c.requires.steady.fields)
    (full_load_map full c.args.line parts new loaded) c.load_to_full.ensures.same.access c.load_to_full.ensures.same.geometry

pub returns-else-not-has_line-clause-leads : goal.returns-else-not-has_line-clause-leads
returns-else-not-has_line-clause-leads g c = leads_none (hard_held (data_of c.args.self.now)) (λ aim s it. it)

pub returns-else-not-has_line-clause-quiet : goal.returns-else-not-has_line-clause-quiet
returns-else-not-has_line-clause-quiet g c = λ quiet. leads_none (facts_held (data_of c.args.self.now)) (λ aim s it. it)

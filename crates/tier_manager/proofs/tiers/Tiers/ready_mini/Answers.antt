use Rattle.std.proofs.Common.{◌≡◌, ℕ, ◌<◌, sym, ◌∙◌, subst, rules, false}
use Rattle.nvm_layout.specs.Sizes.{sizes_of}
use Rattle.device_calls.proofs.LeadsLaws.{leads_none, leads_given, leads_ok, leads_exit}
use Rattle.tier_map.specs.declared.place.Place.{Place}
use Rattle.tier_map.specs.declared.place.Place.TheVariants.{Mini}
use Rattle.page_frame.specs.LineSets.{has_line}
use Rattle.tier_facts.specs.Facts.{IsHardened}
use Rattle.tier_facts.proofs.PlaceLaws.{facts_held}
use Rattle.tier_facts.proofs.CallLaws.{hard_held}
use Rattle.tier_rules.specs.Plans.{plan_of}
use Rattle.tier_pool.specs.Places.{IsPlace}
use Rattle.tier_pool.specs.Fields.{parts_of as pool_parts}
use Rattle.tier_pool.proofs.RangeLaws.{place_in}
use Rattle.tier_pool.proofs.SteadyLaws.{mini_low, steady_mini_load}
use Rattle.tier_manager.specs.Fields.{parts_of, data_of}
use Rattle.tier_manager.proofs.ReadyLaws.{has_frame, lies_there, mini_loaded_there, mini_load_map, there_in, steady_with}
use Rattle.tier_manager.proofs.tiers.Tiers.ready_mini.Goals as goal

pub resident_lines-lines-requires : goal.resident_lines-lines-requires
resident_lines-lines-requires g c = subst (λ (p : Place). IsPlace (plan_of c.args.self.now.pool.policy) p) (sym c.requires.lies.place) (place_in c.args.self.now.pool c.args.page)

pub returns-then-has_line-clause-leads : goal.returns-then-has_line-clause-leads
returns-then-has_line-clause-leads g c = leads_none (hard_held (data_of c.args.self.now)) (λ aim s it. it)

pub returns-then-has_line-clause-quiet : goal.returns-then-has_line-clause-quiet
returns-then-has_line-clause-quiet g c = λ quiet. leads_none (facts_held (data_of c.args.self.now)) (λ aim s it. it)

pub load_to_mini-requires-clause-frame : goal.load_to_mini-requires-clause-frame
load_to_mini-requires-clause-frame g c =
    let over = c.requires.steady.fields.standing.over.frame c.args.page c.args.mini (sym c.requires.lies.place ∙ c.requires.mini) in
    has_frame c.args.self.now.pool c.args.page over.0 c.args.spot.frame c.requires.lies.frame over.1

pub load_to_mini-requires-clause-mini : goal.load_to_mini-requires-clause-mini
load_to_mini-requires-clause-mini g c = mini_low c.args.page c.args.mini (parts_of c.args.self.now) (sym c.requires.lies.place ∙ c.requires.mini) c.requires.steady.fields

pub returns-in_err-load_to_mini-clause-leads : goal.returns-in_err-load_to_mini-clause-leads
returns-in_err-load_to_mini-clause-leads g c =
    let parts = parts_of c.args.self.now in
    let here : parts.map.place c.args.page ≡ Mini c.args.mini = sym c.requires.lies.place ∙ c.requires.mini in
    let absent : has_line c.resident_lines-lines.result c.args.line ≡ false = search rules in
    let lies = lies_there (sizes_of c.args.self.now.pool.geometry) c.args.page c.args.line c.resident_lines-lines.result c.args.spot parts c.requires.page c.requires.lies c.resident_lines-lines.ensures absent in
    leads_exit c.from_residual.result c.from_residual.ensures.1 (leads_given IsHardened (c.in_err-load_to_mini.ensures.leads c.args.page lies here c.requires.steady.fields.there))

pub returns-in_err-load_to_mini-clause-quiet : goal.returns-in_err-load_to_mini-clause-quiet
returns-in_err-load_to_mini-clause-quiet g c = λ quiet.
    let parts = parts_of c.args.self.now in
    let here : parts.map.place c.args.page ≡ Mini c.args.mini = sym c.requires.lies.place ∙ c.requires.mini in
    let absent : has_line c.resident_lines-lines.result c.args.line ≡ false = search rules in
    let lies = lies_there (sizes_of c.args.self.now.pool.geometry) c.args.page c.args.line c.resident_lines-lines.result c.args.spot parts c.requires.page c.requires.lies c.resident_lines-lines.ensures absent in
    leads_exit c.from_residual.result c.from_residual.ensures.1 (c.in_err-load_to_mini.ensures.leads c.args.page lies here c.requires.steady.fields.there)

pub returns-clause-leads : goal.returns-clause-leads
returns-clause-leads g c =
    let parts = parts_of c.args.self.now in
    let here : parts.map.place c.args.page ≡ Mini c.args.mini = sym c.requires.lies.place ∙ c.requires.mini in
    let absent : has_line c.resident_lines-lines.result c.args.line ≡ false = search rules in
    let lies = lies_there (sizes_of c.args.self.now.pool.geometry) c.args.page c.args.line c.resident_lines-lines.result c.args.spot parts c.requires.page c.requires.lies c.resident_lines-lines.ensures absent in
    leads_ok (leads_given IsHardened (c.in_ok-load_to_mini.ensures.leads c.args.page lies here c.requires.steady.fields.there))

pub returns-clause-quiet : goal.returns-clause-quiet
returns-clause-quiet g c = λ quiet.
    let parts = parts_of c.args.self.now in
    let here : parts.map.place c.args.page ≡ Mini c.args.mini = sym c.requires.lies.place ∙ c.requires.mini in
    let absent : has_line c.resident_lines-lines.result c.args.line ≡ false = search rules in
    let lies = lies_there (sizes_of c.args.self.now.pool.geometry) c.args.page c.args.line c.resident_lines-lines.result c.args.spot parts c.requires.page c.requires.lies c.resident_lines-lines.ensures absent in
    leads_ok (c.in_ok-load_to_mini.ensures.leads c.args.page lies here c.requires.steady.fields.there)

pub returns-clause-there : goal.returns-clause-there
returns-clause-there g c =
    let parts = parts_of c.args.self.now in let new = pool_parts c.load_to_mini.new.self in
    let here : parts.map.place c.args.page ≡ Mini c.args.mini = sym c.requires.lies.place ∙ c.requires.mini in
    let low = mini_low c.args.page c.args.mini parts here c.requires.steady.fields in
    there_in c.args.spot.place (Mini c.args.mini) c.args.line new c.requires.mini
    (mini_loaded_there c.args.mini c.args.line parts new c.in_ok-load_to_mini.ensures.parts (subst (λ (n : ℕ). c.args.mini < n) (sym c.requires.steady.fields.places.mini_pages) low) c.requires.line c.requires.steady.fields)

pub returns-clause-keeps : goal.returns-clause-keeps
returns-clause-keeps g c =
    let parts = parts_of c.args.self.now in let new = pool_parts c.load_to_mini.new.self in
    let here : parts.map.place c.args.page ≡ Mini c.args.mini = sym c.requires.lies.place ∙ c.requires.mini in
    let loaded = c.in_ok-load_to_mini.ensures.parts in
    steady_with c.args.self.now (record { pool = c.load_to_mini.new.self; trace = c.args.self.now.trace }) c.requires.steady
    (steady_mini_load c.args.mini c.args.line c.args.page parts new loaded here c.requires.steady.fields)
    (mini_load_map c.args.mini c.args.line parts new loaded) c.load_to_mini.ensures.same.access c.load_to_mini.ensures.same.geometry

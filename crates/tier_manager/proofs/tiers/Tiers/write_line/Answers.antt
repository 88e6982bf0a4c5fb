use Rattle.std.proofs.Common.{ℕ, ◌<◌, sym, ap, ◌∙◌, subst}
use Rattle.nvm_layout.specs.declared.geometry.Geometry.{Geometry}
use Rattle.nvm_layout.specs.Sizes.{sizes_of}
use Rattle.store_model.specs.Layout.{pages}
use Rattle.device_calls.proofs.LeadsLaws.{leads_then, leads_exit, leads_given, leads_map, leads_ok}
use Rattle.tier_map.specs.declared.place.Place.TheVariants.{Absent, Full, Mini}
use Rattle.tier_facts.specs.Facts.{IsLoose}
use Rattle.tier_rules.specs.Parts.{Parts}
use Rattle.tier_pool.proofs.RangeLaws.{nvm_in}
use Rattle.tier_pool.proofs.SteadyLaws.{full_low, mini_low}
use Rattle.tier_pool.proofs.WritingLaws.{full_put, mini_put, facts_written}
use Rattle.tier_manager.specs.Fields.{parts_of}
use Rattle.tier_manager.proofs.SteadyTouch.{steady_line_written}
use Rattle.tier_manager.proofs.WroteLaws.{steady_wrote, facts_hard, absent_line}
use Rattle.tier_manager.proofs.tiers.Tiers.write_line.Goals as goal

pub returns-in_err-spot-clause-quiet : goal.returns-in_err-spot-clause-quiet
returns-in_err-spot-clause-quiet g c = λ quiet.
    leads_exit c.from_residual.result c.from_residual.ensures.1 (leads_given (IsLoose c.args.page c.args.line) (c.in_err-spot.ensures.quiet quiet))

pub store_in_place-requires-clause-frame : goal.store_in_place-requires-clause-frame
store_in_place-requires-clause-frame g c = nvm_in c.touch.new.self.pool c.args.page c.unwrap.result (sym c.in_ok-spot.ensures.lies.frame ∙ c.unwrap.ensures)

pub returns-in_err-store_in_place-in-Absent-clause-leads : goal.returns-in_err-store_in_place-in-Absent-clause-leads
returns-in_err-store_in_place-in-Absent-clause-leads g c =
    leads_exit c.from_residual-in_err-store_in_place-in-Absent.result c.from_residual-in_err-store_in_place-in-Absent.ensures.1
    (leads_then (leads_given (IsLoose c.args.page c.args.line) c.in_ok-spot.ensures.leads) (c.in_err-store_in_place-in-Absent.ensures.leads c.args.page (record {
      in_store = subst (λ (x : Geometry). c.args.page < pages (sizes_of x)) (sym c.in_ok-spot.ensures.same.geometry) c.requires.page;
      framed = sym c.in_ok-spot.ensures.lies.frame ∙ c.unwrap.ensures;
      uncopied = absent_line c.args.page c.args.line c.in_ok-spot.spot (parts_of c.touch.new.self) c.requires.line c.in_ok-spot.ensures.lies c.in-Absent.is;
    })))

pub returns-in_ok-store_in_place-in-Absent-clause-leads : goal.returns-in_ok-store_in_place-in-Absent-clause-leads
returns-in_ok-store_in_place-in-Absent-clause-leads g c =
    leads_ok (leads_then (leads_given (IsLoose c.args.page c.args.line) c.in_ok-spot.ensures.leads) (c.in_ok-store_in_place-in-Absent.ensures.leads c.args.page (record {
      in_store = subst (λ (x : Geometry). c.args.page < pages (sizes_of x)) (sym c.in_ok-spot.ensures.same.geometry) c.requires.page;
      framed = sym c.in_ok-spot.ensures.lies.frame ∙ c.unwrap.ensures;
      uncopied = absent_line c.args.page c.args.line c.in_ok-spot.spot (parts_of c.touch.new.self) c.requires.line c.in_ok-spot.ensures.lies c.in-Absent.is;
    })))

pub returns-in_ok-store_in_place-in-Absent-clause-keeps : goal.returns-in_ok-store_in_place-in-Absent-clause-keeps
returns-in_ok-store_in_place-in-Absent-clause-keeps g c =
    let framed = sym c.in_ok-spot.ensures.lies.frame ∙ c.unwrap.ensures in
    let made = c.in_ok-store_in_place-in-Absent.ensures.parts in
    let same = c.in_ok-store_in_place-in-Absent.ensures.same in
    steady_wrote c.touch.new.self (record { pool = c.store_in_place.new.self; trace = c.touch.new.self.trace }) c.args.page c.args.line c.args.value.now c.in_ok-spot.spot Absent
    c.requires.line c.in_ok-spot.ensures.keeps c.in_ok-spot.ensures.lies c.in_ok-spot.ensures.there c.in-Absent.is
    (rw framed made) (ap (λ (p : Parts). p.map) made) same.access same.geometry

pub write_full-requires-clause-full : goal.write_full-requires-clause-full
write_full-requires-clause-full g c =
    full_low c.args.page c.in-Full.full (parts_of c.touch.new.self) (sym c.in_ok-spot.ensures.lies.place ∙ c.in-Full.is) c.in_ok-spot.ensures.keeps.fields

pub returns-in-Full-clause-leads : goal.returns-in-Full-clause-leads
returns-in-Full-clause-leads g c =
    let here = sym c.in_ok-spot.ensures.lies.place ∙ c.in-Full.is in
    leads_ok (leads_map (facts_hard c.touch.new.self.pool c.write_full.new.self c.args.page c.args.line c.args.value.now
    (full_put c.touch.new.self.pool c.write_full.new.self c.args.page c.in-Full.full c.args.line c.args.value.now
    (full_low c.args.page c.in-Full.full (parts_of c.touch.new.self) here c.in_ok-spot.ensures.keeps.fields) c.requires.line here c.write_full.ensures.same c.write_full.ensures.parts))
    (leads_given (IsLoose c.args.page c.args.line) c.in_ok-spot.ensures.leads))

pub returns-in-Full-clause-quiet : goal.returns-in-Full-clause-quiet
returns-in-Full-clause-quiet g c = λ quiet.
    let here = sym c.in_ok-spot.ensures.lies.place ∙ c.in-Full.is in
    leads_ok (leads_map (facts_written c.touch.new.self.pool c.write_full.new.self c.args.page c.args.line c.args.value.now
    (full_put c.touch.new.self.pool c.write_full.new.self c.args.page c.in-Full.full c.args.line c.args.value.now
    (full_low c.args.page c.in-Full.full (parts_of c.touch.new.self) here c.in_ok-spot.ensures.keeps.fields) c.requires.line here c.write_full.ensures.same c.write_full.ensures.parts))
    (leads_given (IsLoose c.args.page c.args.line) (c.in_ok-spot.ensures.quiet quiet)))

pub returns-in-Full-clause-keeps : goal.returns-in-Full-clause-keeps
returns-in-Full-clause-keeps g c =
    steady_wrote c.touch.new.self (record { pool = c.write_full.new.self; trace = c.touch.new.self.trace }) c.args.page c.args.line c.args.value.now c.in_ok-spot.spot (Full c.in-Full.full)
    c.requires.line c.in_ok-spot.ensures.keeps c.in_ok-spot.ensures.lies c.in_ok-spot.ensures.there c.in-Full.is
    c.write_full.ensures.parts (ap (λ (p : Parts). p.map) c.write_full.ensures.parts) c.write_full.ensures.same.access c.write_full.ensures.same.geometry

pub write_mini-requires-clause-mini : goal.write_mini-requires-clause-mini
write_mini-requires-clause-mini g c =
    mini_low c.args.page c.in-Mini.mini (parts_of c.touch.new.self) (sym c.in_ok-spot.ensures.lies.place ∙ c.in-Mini.is) c.in_ok-spot.ensures.keeps.fields

pub returns-in-Mini-clause-leads : goal.returns-in-Mini-clause-leads
returns-in-Mini-clause-leads g c =
    let here = sym c.in_ok-spot.ensures.lies.place ∙ c.in-Mini.is in
    leads_ok (leads_map (facts_hard c.touch.new.self.pool c.write_mini.new.self c.args.page c.args.line c.args.value.now
    (mini_put c.touch.new.self.pool c.write_mini.new.self c.args.page c.in-Mini.mini c.args.line c.args.value.now
    (mini_low c.args.page c.in-Mini.mini (parts_of c.touch.new.self) here c.in_ok-spot.ensures.keeps.fields) c.requires.line here c.write_mini.ensures.same c.write_mini.ensures.parts))
    (leads_given (IsLoose c.args.page c.args.line) c.in_ok-spot.ensures.leads))

pub returns-in-Mini-clause-quiet : goal.returns-in-Mini-clause-quiet
returns-in-Mini-clause-quiet g c = λ quiet.
    let here = sym c.in_ok-spot.ensures.lies.place ∙ c.in-Mini.is in
    leads_ok (leads_map (facts_written c.touch.new.self.pool c.write_mini.new.self c.args.page c.args.line c.args.value.now
    (mini_put c.touch.new.self.pool c.write_mini.new.self c.args.page c.in-Mini.mini c.args.line c.args.value.now
    (mini_low c.args.page c.in-Mini.mini (parts_of c.touch.new.self) here c.in_ok-spot.ensures.keeps.fields) c.requires.line here c.write_mini.ensures.same c.write_mini.ensures.parts))
    (leads_given (IsLoose c.args.page c.args.line) (c.in_ok-spot.ensures.quiet quiet)))

pub returns-in-Mini-clause-keeps : goal.returns-in-Mini-clause-keeps
returns-in-Mini-clause-keeps g c =
    steady_wrote c.touch.new.self (record { pool = c.write_mini.new.self; trace = c.touch.new.self.trace }) c.args.page c.args.line c.args.value.now c.in_ok-spot.spot (Mini c.in-Mini.mini)
    c.requires.line c.in_ok-spot.ensures.keeps c.in_ok-spot.ensures.lies c.in_ok-spot.ensures.there c.in-Mini.is
    c.write_mini.ensures.parts (ap (λ (p : Parts). p.map) c.write_mini.ensures.parts) c.write_mini.ensures.same.access c.write_mini.ensures.same.geometry

use Rattle.std.proofs.Common.{◌<◌, sym, ap, ◌∙◌, subst}
use Rattle.store_model.specs.Layout.{pages}
use Rattle.nvm_layout.specs.declared.geometry.Geometry.{Geometry}
use Rattle.nvm_layout.specs.Sizes.{sizes_of}
use Rattle.device_calls.proofs.LeadsLaws.{leads_then, leads_exit, leads_given}
use Rattle.tier_map.specs.declared.place.Place.{Place}
use Rattle.tier_facts.specs.Facts.{IsHardened}
use Rattle.tier_pool.specs.Places.{IsPlace}
use Rattle.tier_pool.proofs.RangeLaws.{place_in}
use Rattle.tier_manager.specs.Fields.{parts_of, data_of}
use Rattle.tier_manager.proofs.TouchedLaws.{has_frame, lies_in_frame, then_current, then_current_hard, then_loaded, then_loaded_hard, copied_there, leads_by}
use Rattle.tier_manager.proofs.tiers.Tiers.current_line.Goals.{in-Some, in-None+in_ok-value-in-None}
use Rattle.tier_manager.proofs.tiers.Tiers.current_line.Goals as goal

pub copy_line-requires-clause-place : goal.copy_line-requires-clause-place
copy_line-requires-clause-place g c =
    subst (λ (p : Place). IsPlace (parts_of c.touch.new.self).plan p) (sym c.in_ok-spot.ensures.lies.place) (place_in c.touch.new.self.pool c.args.page)

pub load_line-requires-clause-frame : goal.load_line-requires-clause-frame
load_line-requires-clause-frame g c =
    has_frame c.touch.new.self.pool c.args.page c.args.line c.in_ok-spot.spot c.in_ok-spot.ensures.lies c.in_ok-spot.ensures.there (sym c.copy_line.ensures ∙ c.in-None.is)

pub returns-in_err-value-in-None-clause-leads : goal.returns-in_err-value-in-None-clause-leads
returns-in_err-value-in-None-clause-leads g c =
    let t = c.touch.new.self in
    leads_exit c.from_residual-in_err-value-in-None.result c.from_residual-in_err-value-in-None.ensures.1
    (leads_then c.in_ok-spot.ensures.leads (leads_given IsHardened (c.in_err-value-in-None.ensures.leads c.args.page
    (lies_in_frame (sizes_of t.pool.geometry) c.args.page c.args.line c.in_ok-spot.spot (parts_of t)
    (subst (λ (x : Geometry). c.args.page < pages (sizes_of x)) (sym c.in_ok-spot.ensures.same.geometry) c.requires.page) c.in_ok-spot.ensures.lies (sym c.copy_line.ensures ∙ c.in-None.is)))))

pub returns-in_err-value-in-None-clause-quiet : goal.returns-in_err-value-in-None-clause-quiet
returns-in_err-value-in-None-clause-quiet g c = λ quiet.
    let t = c.touch.new.self in
    leads_exit c.from_residual-in_err-value-in-None.result c.from_residual-in_err-value-in-None.ensures.1
    (leads_then (c.in_ok-spot.ensures.quiet quiet) (c.in_err-value-in-None.ensures.leads c.args.page
    (lies_in_frame (sizes_of t.pool.geometry) c.args.page c.args.line c.in_ok-spot.spot (parts_of t)
    (subst (λ (x : Geometry). c.args.page < pages (sizes_of x)) (sym c.in_ok-spot.ensures.same.geometry) c.requires.page) c.in_ok-spot.ensures.lies (sym c.copy_line.ensures ∙ c.in-None.is))))

pub returns-clause-leads : goal.returns-clause-leads
returns-clause-leads g c =
    let t = c.touch.new.self in
    let low = subst (λ (x : Geometry). c.args.page < pages (sizes_of x)) (sym c.in_ok-spot.ensures.same.geometry) c.requires.page in
    elim c.match-copy_line.branch [
      | in-Some w ↦
          leads_by (ap g.D.Devices.standing w.dev-is)
          (then_current_hard (data_of t) c.args.page c.args.line w.in-Some.value c.whole_line.result (c.whole_line.ensures.value ∙ w.value-is) low c.requires.line
          (copied_there c.args.page c.args.line c.in_ok-spot.spot (parts_of t) w.in-Some.value c.in_ok-spot.ensures.lies (sym c.copy_line.ensures ∙ w.in-Some.is))
          c.in_ok-spot.ensures.leads)
      | in-None+in_ok-value-in-None w ↦
          leads_by (ap g.D.Devices.standing w.dev-is)
          (then_loaded_hard (data_of t) c.args.page c.args.line w.in_ok-value-in-None.value c.whole_line.result (c.whole_line.ensures.value ∙ w.value-is)
          c.in_ok-spot.ensures.leads
          (w.in_ok-value-in-None.ensures.leads c.args.page
          (lies_in_frame (sizes_of t.pool.geometry) c.args.page c.args.line c.in_ok-spot.spot (parts_of t) low c.in_ok-spot.ensures.lies (sym c.copy_line.ensures ∙ w.in-None.is))))
    ]

pub returns-clause-quiet : goal.returns-clause-quiet
returns-clause-quiet g c = λ quiet.
    let t = c.touch.new.self in
    let low = subst (λ (x : Geometry). c.args.page < pages (sizes_of x)) (sym c.in_ok-spot.ensures.same.geometry) c.requires.page in
    elim c.match-copy_line.branch [
      | in-Some w ↦
          leads_by (ap g.D.Devices.standing w.dev-is)
          (then_current (data_of t) c.args.page c.args.line w.in-Some.value c.whole_line.result (c.whole_line.ensures.value ∙ w.value-is) low c.requires.line
          (copied_there c.args.page c.args.line c.in_ok-spot.spot (parts_of t) w.in-Some.value c.in_ok-spot.ensures.lies (sym c.copy_line.ensures ∙ w.in-Some.is))
          (c.in_ok-spot.ensures.quiet quiet))
      | in-None+in_ok-value-in-None w ↦
          leads_by (ap g.D.Devices.standing w.dev-is)
          (then_loaded (data_of t) c.args.page c.args.line w.in_ok-value-in-None.value c.whole_line.result (c.whole_line.ensures.value ∙ w.value-is)
          (c.in_ok-spot.ensures.quiet quiet)
          (w.in_ok-value-in-None.ensures.leads c.args.page
          (lies_in_frame (sizes_of t.pool.geometry) c.args.page c.args.line c.in_ok-spot.spot (parts_of t) low c.in_ok-spot.ensures.lies (sym c.copy_line.ensures ∙ w.in-None.is))))
    ]

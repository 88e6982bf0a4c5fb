use Rattle.std.proofs.Common.{ap, ◌∙◌, subst}
use Rattle.nvm_layout.specs.Sizes.{sizes_of}
use Rattle.device_calls.proofs.LeadsLaws.{leads_then, leads_data}
use Rattle.tier_facts.specs.Facts.{Facts}
use Rattle.tier_rules.specs.Parts.{Parts}
use Rattle.tier_pool.proofs.RoomLaws.{at_data, leads_to}
use Rattle.tier_manager.specs.Fields.{parts_of}
use Rattle.tier_manager.specs.Quiet.{quiet_in}
use Rattle.tier_manager.specs.Touching.{Readied}
use Rattle.tier_manager.proofs.EnterLaws.{opened_quiet, quiet_copied}
use Rattle.tier_manager.proofs.BegunLaws.{on_ok}
use Rattle.tier_manager.proofs.tiers.Tiers.touch.Goals as goal

pub returns-clause-leads : goal.returns-clause-leads
returns-clause-leads g c =
    leads_then (leads_to (at_data (ap sizes_of c.tell_touch.ensures.same.geometry) c.tell_touch.ensures.parts) c.in_ok-spot.ensures.leads) c.make_ready.ensures.leads

pub returns-clause-quiet : goal.returns-clause-quiet
returns-clause-quiet g c = λ quiet.
    leads_then (leads_data Facts (at_data (ap sizes_of c.tell_touch.ensures.same.geometry) c.tell_touch.ensures.parts)
    (c.in_ok-spot.ensures.quiet (quiet_copied c.args.page c.args.line (parts_of c.args.self.now) quiet)))
    (c.make_ready.ensures.quiet (ap (λ (p : Parts). quiet_in p c.args.page c.args.line) c.tell_touch.ensures.parts
    ∙ opened_quiet c.args.page c.args.line c.args.writes (parts_of c.args.self.now) (parts_of c.open_access.new.self) c.in_ok-spot.ensures.opened quiet))

pub returns-clause-copied : goal.returns-clause-copied
returns-clause-copied g c = λ quiet.
    c.make_ready.ensures.copied (ap (λ (p : Parts). quiet_in p c.args.page c.args.line) c.tell_touch.ensures.parts
    ∙ opened_quiet c.args.page c.args.line c.args.writes (parts_of c.args.self.now) (parts_of c.open_access.new.self) c.in_ok-spot.ensures.opened quiet)

pub returns-clause-touched : goal.returns-clause-touched
returns-clause-touched g c =
    on_ok c.make_ready.result
    (λ readied. record {
      opened = parts_of c.open_access.new.self;
      opens = c.in_ok-spot.ensures.opened;
      readied = subst (λ (p : Parts). Readied c.args.page c.args.line p (parts_of c.make_ready.new.self)) c.tell_touch.ensures.parts readied;
    })
    c.make_ready.ensures.readied

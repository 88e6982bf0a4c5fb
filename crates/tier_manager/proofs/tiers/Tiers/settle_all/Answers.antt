use Rattle.std.proofs.Common.{◌≡◌, ◌≤◌, arith, ◌∙◌}
use Rattle.std.specs.Prelude.{Result, Ok, Err, OnOk}
use Rattle.device_calls.proofs.LeadsLaws.{leads_then}
use Rattle.nvm_layout.specs.Sizes.{sizes_of}
use Rattle.tier_facts.specs.Facts.{AreClean}
use Rattle.tier_facts.proofs.CallLaws.{leads_settled}
use Rattle.tier_manager.specs.Cleaning.{settled}
use Rattle.tier_manager.specs.Fields.{parts_of, data_of}
use Rattle.tier_manager.proofs.SettledLaws.{cleaned_all, all_clean}
use Rattle.tier_manager.proofs.KeptLaws.{kept}
use Rattle.tier_manager.proofs.tiers.Tiers.settle_all.Given as given
use Rattle.tier_manager.proofs.tiers.Tiers.settle_all.Goals as goal
use Rattle.tier_manager.proofs.tiers.Tiers.settle_all.Goals.{After-fence}

on_ok : {T E X : Type 0} (r : Result T E) → X → OnOk r X
on_ok (Ok v) x = x
on_ok (Err e) x = tt

is_settled : (g : given.Over) (c : After-fence g) → parts_of c.clean_copies.new.self ≡ settled (parts_of c.args.self.now)
is_settled g c =
    let fulls : c.args.self.now.pool.policy.dram_frames ≤ 65536 = c.args.self.now.pool.policy.frames_in_range in
    let minis : c.args.self.now.pool.policy.minis ≤ 65536 = c.args.self.now.pool.policy.minis_in_range in
    c.in_ok-clean_copies.ensures.parts ∙ cleaned_all 4294967295 (parts_of c.args.self.now) (omega arith)

are_clean : (g : given.Over) (c : After-fence g) → AreClean (data_of c.clean_copies.new.self)
are_clean g c = all_clean (sizes_of c.clean_copies.new.self.pool.geometry) (parts_of c.args.self.now) (parts_of c.clean_copies.new.self) c.requires.steady.fields (is_settled g c)

pub returns-clause-leads : goal.returns-clause-leads
returns-clause-leads g c = leads_then c.in_ok-clean_copies.ensures.leads (leads_settled (are_clean g c) c.fence.ensures)

pub returns-clause-clean : goal.returns-clause-clean
returns-clause-clean g c = on_ok c.fence.result (are_clean g c)

pub returns-clause-parts : goal.returns-clause-parts
returns-clause-parts g c = on_ok c.fence.result (is_settled g c)

pub returns-clause-keeps : goal.returns-clause-keeps
returns-clause-keeps g c = on_ok c.fence.result
    (kept 4294967295 c.args.self.now c.clean_copies.new.self c.in_ok-clean_copies.ensures.parts c.in_ok-clean_copies.ensures.keeps c.in_ok-clean_copies.ensures.same c.requires.steady)

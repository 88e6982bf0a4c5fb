use Rattle.std.proofs.Common.{sym, ap, subst}
use Rattle.tier_rules.specs.Parts.{Parts}
use Rattle.tier_pool.specs.Standing.{IsSteady}
use Rattle.tier_pool.proofs.SteadyLaws.{steady_counted}
use Rattle.tier_manager.specs.Fields.{parts_of}
use Rattle.tier_manager.proofs.KeptLaws.{still_there}
use Rattle.tier_manager.proofs.tiers.Tiers.count_log_reads.Goals as goal

pub returns-then-count-gt0-clause-keeps : goal.returns-then-count-gt0-clause-keeps
returns-then-count-gt0-clause-keeps c = λ steady. record {
  fields = subst IsSteady (sym c.count_log_reads.ensures.parts) (steady_counted (parts_of c.args.self.now) steady.fields _);
  access = still_there c.args.self.now (record { pool = c.count_log_reads.new.self; trace = c.tell.new.self }) (ap (λ (p : Parts). p.map) c.count_log_reads.ensures.parts) c.count_log_reads.ensures.same steady;
}

pub returns-else-count-gt0-clause-keeps : goal.returns-else-count-gt0-clause-keeps
returns-else-count-gt0-clause-keeps c = λ steady. record {
  fields = subst IsSteady (sym c.count_log_reads.ensures.parts) (steady_counted (parts_of c.args.self.now) steady.fields _);
  access = still_there c.args.self.now (record { pool = c.count_log_reads.new.self; trace = c.args.self.now.trace }) (ap (λ (p : Parts). p.map) c.count_log_reads.ensures.parts) c.count_log_reads.ensures.same steady;
}

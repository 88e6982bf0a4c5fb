use Rattle.std.proofs.Common.{◌≡◌}
use Rattle.tier_manager.specs.Fields.{parts_of}
use Rattle.tier_manager.specs.Cleaning.{cleaned}
use Rattle.tier_manager.proofs.CleanLaws.{Cleans}
use Rattle.tier_manager.proofs.DirtyLaws.{fulls_written}
use Rattle.tier_manager.proofs.tiers.Tiers.clean_fulls.Given as goal

abbrev pub invariant-loop-full : goal.invariant-loop-full
invariant-loop-full g l = record {
  cleans : Cleans l.fn.self l.self (g.D.Devices.standing l.fn.dev) (g.D.Devices.standing l.dev) l.left;
  parts : fulls_written l.full l.left (parts_of l.self) ≡ cleaned l.fn.count (parts_of l.fn.self);
}

use Rattle.std.proofs.Common.{◌≡◌}
use Rattle.tier_manager.specs.Fields.{parts_of}
use Rattle.tier_manager.specs.Cleaning.{minis_cleaned}
use Rattle.tier_manager.proofs.CleanLaws.{Cleans}
use Rattle.tier_manager.proofs.DirtyLaws.{minis_written}
use Rattle.tier_manager.proofs.tiers.Tiers.clean_minis.Given as goal

abbrev pub invariant-loop-mini : goal.invariant-loop-mini
invariant-loop-mini g l = record {
  cleans : Cleans l.fn.self l.self (g.D.Devices.standing l.fn.dev) (g.D.Devices.standing l.dev) l.left;
  parts : minis_written l.mini l.left (parts_of l.self) ≡ minis_cleaned l.fn.count (parts_of l.fn.self);
}

use Rattle.std.proofs.Common.{Ok}
use Rattle.nvm_layout.specs.Sizes.{sizes_of}
use Rattle.tier_pool.specs.Fields.{parts_of}
use Rattle.tier_pool.specs.Calls.{Stores}
use Rattle.tier_pool.specs.Storing.{StoresLines}
use Rattle.tier_pool.proofs.pool.TierPool.store_lines_back.Given as goal

abbrev pub invariant-loop-line : goal.invariant-loop-line
invariant-loop-line g l = Stores {T = Unit {0}} (g.D.Devices.standing l.fn.dev) (g.D.Devices.standing l.dev) (Ok tt)
    × StoresLines {T = Unit {0}} (sizes_of l.fn.self.geometry) l.fn.place l.fn.frame 0 l.line (parts_of l.fn.self) (g.D.Devices.standing l.fn.dev) (g.D.Devices.standing l.dev) (Ok tt)

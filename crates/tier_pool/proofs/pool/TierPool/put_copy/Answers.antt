use Rattle.std.proofs.Common.{◌≡◌, ℕ, arith, subst}
use Rattle.tier_pool.specs.Fields.{parts_of}
use Rattle.tier_pool.specs.Handing.{HoldsCopy}
use Rattle.tier_pool.proofs.HandingLaws.{copy_none}
use Rattle.tier_pool.proofs.pool.TierPool.put_copy.Goals as goal

pub loop-line-init : goal.loop-line-init
loop-line-init c = copy_none (parts_of c.args.self.now) c.args.place c.args.into.now

pub loop-line-preserved : goal.loop-line-preserved
loop-line-preserved c = c.put_copy_line.ensures c.loop-line.invariant

pub returns : goal.returns
returns c =
    let end : c.loop-line.line ≡ 64 = omega (arith, c.loop-line.auto.line-end, c.loop-line-test.false) in
    subst (λ (n : ℕ). HoldsCopy (parts_of c.args.self.now) c.args.place n c.loop-line.into) end c.loop-line.invariant

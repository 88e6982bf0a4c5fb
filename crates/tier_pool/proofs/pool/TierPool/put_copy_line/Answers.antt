use Rattle.std.proofs.Common.{sym, ◌+◌, ◌∙◌, subst}
use Rattle.tier_pool.specs.Fields.{parts_of}
use Rattle.tier_pool.specs.Handing.{HoldsCopy}
use Rattle.tier_pool.proofs.HandingLaws.{copy_more}
use Rattle.tier_pool.proofs.pool.TierPool.put_copy_line.Goals as goal

pub returns-in-Some : goal.returns-in-Some
returns-in-Some c = λ so.
    subst (HoldsCopy (parts_of c.args.self.now) c.args.place (c.args.line + 1)) (sym c.set_page_line.ensures.bytes)
    (copy_more (parts_of c.args.self.now) c.args.place c.args.line c.args.into.now c.in-Some.value c.whole_line.result c.set_page_line.ensures.size_old c.requires.line
    (sym c.copy_line.ensures ∙ c.in-Some.is) c.whole_line.ensures.value c.whole_line.ensures.is_line so)

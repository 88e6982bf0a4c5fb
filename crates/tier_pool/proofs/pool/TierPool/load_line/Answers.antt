use Rattle.std.proofs.Common.{◌∙◌}
use Rattle.tier_facts.proofs.CurrentLaws.{leads_framed}
use Rattle.tier_pool.specs.Storing.{data_of}
use Rattle.tier_pool.proofs.pool.TierPool.load_line.Goals as goal

pub returns-clause-leads : goal.returns-clause-leads
returns-clause-leads g c = λ page lies.
    leads_framed c.load_line.result (data_of c.args.self.now) page c.unwrap.result c.args.line (record { in_store = lies.in_store; placed = lies.framed ∙ c.unwrap.ensures })
    c.requires.line lies.uncopied c.load_line.ensures.looked c.load_line.ensures.value

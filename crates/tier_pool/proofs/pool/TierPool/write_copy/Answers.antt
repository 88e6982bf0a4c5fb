use Rattle.device_calls.proofs.LeadsLaws.{leads_exit, leads_ok}
use Rattle.tier_pool.proofs.pool.TierPool.write_copy.Goals as goal

pub returns-in_err-store_or_pass-clause-leads : goal.returns-in_err-store_or_pass-clause-leads
returns-in_err-store_or_pass-clause-leads g c = λ stands. leads_exit c.from_residual.result c.from_residual.ensures.1 (c.in_err-store_or_pass.ensures.leads stands)

pub returns-clause-leads : goal.returns-clause-leads
returns-clause-leads g c = λ stands. leads_ok (c.in_ok-store_or_pass.ensures.leads stands)

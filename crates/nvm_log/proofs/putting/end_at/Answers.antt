-- The calls that were made join.
use Rattle.std.proofs.Common.{[], ◌∷◌}
use Rattle.nvm_model.specs.declared.line.Line.{Line}
use Rattle.devices.proofs.CallLaws.{makes_then}
use Rattle.store_model.specs.Put.{put_calls}
use Rattle.nvm_layout.specs.Sizes.{sizes_of}
use Rattle.nvm_log.specs.Entries.{end_head}
use Rattle.nvm_log.proofs.ClauseLaws.{made_with}
use Rattle.nvm_log.proofs.putting.end_at.Goals as goal

pub returns-clause-makes : goal.returns-clause-makes
returns-clause-makes g c =
    makes_then c.in_ok-put_log_line.ensures.goes c.harden_to.ensures.goes
    (made_with (λ (x : Line). put_calls (sizes_of c.args.geometry.now) c.args.offset (x ∷ [])) c.end_line-head.result (end_head c.args.kind) c.end_line-head.ensures c.in_ok-put_log_line.ensures.makes)
    c.harden_to.ensures.makes

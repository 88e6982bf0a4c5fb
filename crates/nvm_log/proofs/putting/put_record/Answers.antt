-- The calls that were made join, up to the first that failed.
use Rattle.std.proofs.Common.{[], ◌∷◌, ◌+◌}
use Rattle.nvm_model.specs.declared.line.Line.{Line}
use Rattle.devices.proofs.MomentLaws.{Goes-trans}
use Rattle.devices.proofs.CallLaws.{makes_then, makes_stop}
use Rattle.store_model.specs.Put.{put_calls}
use Rattle.store_model.specs.Append.{head_line}
use Rattle.nvm_layout.specs.Sizes.{sizes_of}
use Rattle.nvm_log.proofs.ClauseLaws.{made_with}
use Rattle.nvm_log.proofs.putting.put_record.Goals as goal

pub returns-in_err-put_log_line-2-clause-makes : goal.returns-in_err-put_log_line-2-clause-makes
returns-in_err-put_log_line-2-clause-makes g c =
    makes_then c.in_ok-put_log_line.ensures.goes c.in_err-put_log_line-2.ensures.goes
    (made_with (λ (x : Line). put_calls (sizes_of c.args.geometry.now) c.args.offset (x ∷ [])) c.record_head-head.result
    (head_line 1 c.args.change.now.page c.args.change.now.line 0) c.record_head-head.ensures c.in_ok-put_log_line.ensures.makes)
    (makes_stop (put_calls (sizes_of c.args.geometry.now) (c.args.offset + 1 + 1) (c.args.change.now.after ∷ []))
    c.from_residual-in_err-put_log_line-2.result c.from_residual-in_err-put_log_line-2.ensures.0 c.in_err-put_log_line-2.ensures.makes)

pub returns-clause-makes : goal.returns-clause-makes
returns-clause-makes g c =
    makes_then c.in_ok-put_log_line.ensures.goes (Goes-trans c.in_ok-put_log_line-2.ensures.goes c.put_log_line-3.ensures.goes)
    (made_with (λ (x : Line). put_calls (sizes_of c.args.geometry.now) c.args.offset (x ∷ [])) c.record_head-head.result
    (head_line 1 c.args.change.now.page c.args.change.now.line 0) c.record_head-head.ensures c.in_ok-put_log_line.ensures.makes)
    (makes_then c.in_ok-put_log_line-2.ensures.goes c.put_log_line-3.ensures.goes c.in_ok-put_log_line-2.ensures.makes c.put_log_line-3.ensures.makes)

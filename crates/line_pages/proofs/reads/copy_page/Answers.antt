use Rattle.std.proofs.Common.{◌≡◌, ◌+◌, ◌*◌, take, IsTrue, arith, refl, ap, sym, subst, ◌∙◌}
use Rattle.std.proofs.lemmas.List.{take_all}
use Rattle.line_pages.specs.Bytes.{page_bytes}
use Rattle.nvm_model.specs.LineBytes.{pieces, line_bytes}
use Rattle.line_pages.proofs.ByteLaws.{line_copied}
use Rattle.line_pages.proofs.StandingLaws.{ReadsPage-trans, one_read, KeepsPages-then, KeepsPages-gives}
use Rattle.line_pages.specs.Cost.{lines_from}
use Rattle.line_pages.proofs.CostLaws.{one_line, lines_then, lines_more, AddsLines-weaker}
use Rattle.line_pages.proofs.reads.copy_page.Goals as goal

pub loop-line-init : goal.loop-line-init
loop-line-init g c =
    let read = c.in_ok-header.ensures in
    record {
      call = KeepsPages-gives read.call;
      reads = one_read c.in_ok-header.header read.call.continues.told read.reads;
      lines = one_line c.in_ok-header.header read.reads;
      nvm_kept = read.cause.kept.0;
      ssd_kept = read.cause.kept.1;
      size = c.set_page_line.ensures.size;
      copied = λ told. ap (take 64) c.set_page_line.ensures.bytes
          ∙ line_copied c.args.into.now (λ k. line_bytes ((g.P.Pages.standing c.args.pages.now).current c.args.page k)) 0 c.in_ok-header.header c.set_page_line.ensures.size_old (omega arith) refl (ap line_bytes (read.value told));
    }

pub loop-line-preserved : goal.loop-line-preserved
loop-line-preserved g c =
    let read = c.in_ok-value.ensures in
    let before = c.loop-line.invariant in
    let l = c.loop-line.line in
    let old = g.P.Pages.standing c.args.pages.now in
    record {
      call = KeepsPages-then before.call read.call;
      reads = ReadsPage-trans before.reads (one_read c.in_ok-value.value read.call.continues.told read.reads);
      lines = AddsLines-weaker (λ x is. is ∙ lines_more 0 l l (omega arith)) (lines_then before.lines (one_line c.in_ok-value.value read.reads));
      nvm_kept = read.cause.kept.0 ∙ before.nvm_kept;
      ssd_kept = read.cause.kept.1 ∙ before.ssd_kept;
      size = c.set_page_line-in-loop-line.ensures.size;
      copied = λ told. ap (take (64 * (l + 1))) c.set_page_line-in-loop-line.ensures.bytes
          ∙ line_copied c.loop-line.into (λ k. line_bytes (old.current c.args.page k)) l c.in_ok-value.value before.size c.loop-line-test.true
          (before.copied told)
          (ap line_bytes (read.value (subst IsTrue (sym before.call.continues.told) told) ∙ ap (λ lines. lines c.args.page l) (before.reads.current told)));
    }

pub returns-clause-bytes : goal.returns-clause-bytes
unfolding page_bytes
returns-clause-bytes g c =
    λ told.
    let before = c.loop-line.invariant in
    let all : c.loop-line.line ≡ 64 = omega arith in
    sym (take_all 4096 c.loop-line.into (omega (arith, before.size)))
    ∙ ap (λ k. take (64 * k) c.loop-line.into) (sym all) ∙ before.copied told
    ∙ ap (pieces (λ k. line_bytes ((g.P.Pages.standing c.args.pages.now).current c.args.page k)) 0) all

pub returns-clause-lines : goal.returns-clause-lines
returns-clause-lines g c =
    let all : c.loop-line.line ≡ 64 = omega arith in
    AddsLines-weaker (λ x is. is ∙ ap (lines_from 0) all) c.loop-line.invariant.lines

use Rattle.std.proofs.Common.{◌+◌, ◌-◌, ◌*◌, ◌<◌, ℕ, List, IsTrue, arith, refl, ap, sym, subst, ◌∙◌}
use Rattle.ssd_model.specs.Page.{Same}
use Rattle.line_pages.specs.Lines.{Lines}
use Rattle.line_pages.specs.Bytes.{bytes_of}
use Rattle.line_pages.proofs.NumberLaws.{same_then, same_part}
use Rattle.line_pages.proofs.StandingLaws.{ReadsPage-refl, ReadsPage-trans, one_read, still_open, KeepsPages-then, KeepsPages-refl}
use Rattle.line_pages.proofs.CostLaws.{Costs-trans, Costs-weaker}
use Rattle.page_alloc.proofs.CostLaws.{costs_none, costs_read}
use Rattle.leaf_lines.proofs.LineLaws.{read_more, read_before, read_after, none_begun}
use Rattle.leaf_lines.proofs.lines.read_lines.Goals as goal

pub loop-line-init : goal.loop-line-init
loop-line-init g c =
    let old = g.P.Pages.standing c.args.pages.now in
    record {
      call = KeepsPages-refl c.requires.ready;
      reads = ReadsPage-refl c.args.page old c.requires.open;
      again = omega arith;
      costs = costs_none (c.args.from - c.args.from) old;
      nvm_kept = refl;
      ssd_kept = refl;
      size = c.byte.ensures.size;
      known = λ told. record { each = λ j low high. absurd (omega arith) };
      before = record { each = λ j low high. refl };
      after = record { each = λ j low high. refl };
    }

pub loop-line-preserved : goal.loop-line-preserved
loop-line-preserved g c =
    let read = c.in_ok-value.ensures in
    let before = c.loop-line.invariant in
    let l = c.loop-line.line in
    let old = g.P.Pages.standing c.args.pages.now in
    let reads = ReadsPage-trans before.reads (one_read c.in_ok-value.value read.call.continues.told read.reads) in
    let below : l < 64 = omega (arith, c.requires.within) in
    let is = c.set_page_line.ensures.bytes in
    let buffer = c.loop-line.into in
    record {
      call = KeepsPages-then before.call read.call;
      reads = reads;
      costs = Costs-weaker (omega arith) (Costs-trans before.costs (costs_read c.in_ok-value.value read.reads));
      again = none_begun old.visits (g.P.Pages.standing c.loop-line.pages).visits (g.P.Pages.standing c.read_line.new.self).visits _ before.again (still_open before.reads) read.reads.touch.visits;
      nvm_kept = read.cause.kept.0 ∙ before.nvm_kept;
      ssd_kept = read.cause.kept.1 ∙ before.ssd_kept;
      size = c.set_page_line.ensures.size;
      known = λ told.
          subst (λ (b : List ℕ). Same (64 * c.args.from) (64 * (l + 1)) (bytes_of old.current c.args.page) b) (sym is)
          (read_more (old.current c.args.page) buffer c.args.from l c.in_ok-value.value below before.size (read.value (subst IsTrue (sym before.call.continues.told) told) ∙ ap (λ (lines : Lines). lines c.args.page l) (before.reads.current told)) (before.known told));
      before = same_then 0 (64 * c.args.from) c.args.into.now buffer c.set_page_line.new.page before.before
          (subst (λ (b : List ℕ). Same 0 (64 * c.args.from) buffer b) (sym is) (same_part 0 (64 * c.args.from) 0 (64 * l) _ _ (read_before buffer l c.in_ok-value.value below before.size) (omega arith) (omega arith)));
      after = same_then (64 * (l + 1)) 4096 c.args.into.now buffer c.set_page_line.new.page (same_part (64 * (l + 1)) 4096 (64 * l) 4096 _ _ before.after (omega arith) (omega arith))
          (subst (λ (b : List ℕ). Same (64 * (l + 1)) 4096 buffer b) (sym is) (read_after buffer l c.in_ok-value.value below before.size));
    }

pub returns-clause-costs : goal.returns-clause-costs
returns-clause-costs g c = Costs-weaker (omega arith) c.loop-line.invariant.costs

use Rattle.std.proofs.Common.{◌≡◌, ◌+◌, ◌-◌, ◌*◌, IsTrue, arith, refl, ap, sym, subst, ◌∙◌}
use Rattle.ssd_model.specs.Page.{Same}
use Rattle.line_pages.specs.Bytes.{bytes_of}
use Rattle.line_pages.proofs.StandingLaws.{ReadsPage-refl, ReadsPage-trans, one_read, KeepsPages-then, KeepsPages-refl}
use Rattle.tree_search.proofs.PartLaws.{part_step, part_end, no_more}
use Rattle.line_pages.specs.Cost.{lines_from}
use Rattle.line_pages.proofs.CostLaws.{AddsLines-refl, AddsLines-weaker, one_line, lines_then, lines_more}
use Rattle.tree_search.proofs.row.read_lines.Goals as goal

pub loop-line-init : goal.loop-line-init
loop-line-init g c =
    let old = g.P.Pages.standing c.args.pages.now in
    let none : 0 ≡ c.args.first - c.args.first = omega arith in
    record {
      call = KeepsPages-refl c.requires.ready;
      reads = ReadsPage-refl c.args.page old c.requires.open;
      lines = AddsLines-refl {Fact = λ lines. lines ≡ lines_from c.args.first (c.args.first - c.args.first)} old (ap (lines_from c.args.first) none);
      from = omega arith;
      within = λ some. some;
      again = omega arith;
      nvm_kept = refl;
      ssd_kept = refl;
      size = c.byte.ensures.size;
      same = λ told. record { each = λ j low high. absurd (omega (arith, low, high)) };
    }

pub loop-line-preserved : goal.loop-line-preserved
loop-line-preserved g c =
    let read = c.in_ok-value.ensures in
    let before = c.loop-line.invariant in
    let l = c.loop-line.line in
    let old = g.P.Pages.standing c.args.pages.now in
    let next : l - c.args.first + 1 ≡ l + 1 - c.args.first = omega (arith, before.from) in
    let more = ReadsPage-trans before.reads (one_read c.in_ok-value.value read.call.continues.told read.reads) in
    record {
      call = KeepsPages-then before.call read.call;
      reads = more;
      lines = AddsLines-weaker (λ x is. is ∙ lines_more c.args.first (l - c.args.first) l (omega (arith, before.from)) ∙ ap (lines_from c.args.first) next) (lines_then before.lines (one_line c.in_ok-value.value read.reads));
      from = omega (arith, before.from);
      within = λ some. omega (arith, c.loop-line-test.true);
      again = no_more more c.requires.open;
      nvm_kept = read.cause.kept.0 ∙ before.nvm_kept;
      ssd_kept = read.cause.kept.1 ∙ before.ssd_kept;
      size = c.set_page_line.ensures.size;
      same = λ told.
          subst (Same (64 * c.args.first) (64 * (l + 1)) (bytes_of old.current c.args.page)) (sym c.set_page_line.ensures.bytes)
          (part_step (old.current c.args.page) c.loop-line.into (64 * c.args.first) l c.in_ok-value.value before.size (omega (arith, c.requires.end, c.loop-line-test.true))
          (read.value (subst IsTrue (sym before.call.continues.told) told) ∙ ap (λ lines. lines c.args.page l) (before.reads.current told)) (before.same told));
    }

pub returns-clause-bytes : goal.returns-clause-bytes
returns-clause-bytes g c = λ told. part_end _ _ c.args.first c.loop-line.line c.args.end (c.loop-line.invariant.same told) (omega arith)

pub returns-clause-lines : goal.returns-clause-lines
returns-clause-lines g c = λ some.
    let all : c.loop-line.line - c.args.first ≡ c.args.end - c.args.first = omega (arith, c.loop-line-test.false, c.loop-line.invariant.within some) in
    AddsLines-weaker (λ x is. is ∙ ap (lines_from c.args.first) all) c.loop-line.invariant.lines

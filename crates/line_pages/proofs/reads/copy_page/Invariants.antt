-- So far the lines below are in their place, by reads of this page alone.
use Rattle.std.proofs.Common.{◌≡◌, ◌*◌, length, take, IsTrue}
use Rattle.nvm_model.specs.LineBytes.{pieces, line_bytes}
use Rattle.line_pages.specs.PagesCall.{PagesCalls}
use Rattle.line_pages.specs.Cost.{lines_from, AddsLines}
use Rattle.line_pages.specs.Standing.{ReadsPage}
use Rattle.line_pages.proofs.reads.copy_page.Given as goal

abbrev pub invariant-loop-line : goal.invariant-loop-line
invariant-loop-line g l = record {
  call : PagesCalls g.P.Pages l.fn.pages l.pages;
  reads : ReadsPage l.page (g.P.Pages.standing l.fn.pages) (g.P.Pages.standing l.pages);
  lines : AddsLines (λ lines. lines ≡ lines_from 0 l.line) (g.P.Pages.standing l.fn.pages) (g.P.Pages.standing l.pages);
  nvm_kept : (g.P.Pages.standing l.pages).nvm_faults ≡ (g.P.Pages.standing l.fn.pages).nvm_faults;
  ssd_kept : (g.P.Pages.standing l.pages).ssd_faults ≡ (g.P.Pages.standing l.fn.pages).ssd_faults;
  size : length l.into ≡ 4096;
  copied : IsTrue (g.P.Pages.standing l.fn.pages).told → take (64 * l.line) l.into ≡ pieces (λ k. line_bytes ((g.P.Pages.standing l.fn.pages).current l.page k)) 0 l.line;
}

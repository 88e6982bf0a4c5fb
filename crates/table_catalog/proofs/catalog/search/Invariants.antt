-- So far no entry has the name, by reads of page 0 alone.
use Rattle.std.proofs.Common.{◌≡◌, ◌+◌, ◌-◌, ◌≤◌, ◌++◌, IsTrue}
use Rattle.line_pages.specs.PagesCall.{PagesCalls}
use Rattle.line_pages.specs.Standing.{ReadsPage}
use Rattle.page_alloc.specs.Space.{word}
use Rattle.table_catalog.specs.Catalog.{entries, entries_from, place_of, entry_touches}
use Rattle.table_catalog.proofs.catalog.search.Given as goal

abbrev pub invariant-loop-at : goal.invariant-loop-at
invariant-loop-at g l = record {
  call : PagesCalls g.P.Pages l.fn.pages l.pages;
  reads : ReadsPage 0 (g.P.Pages.standing l.fn.pages) (g.P.Pages.standing l.pages);
  again : (g.P.Pages.standing l.pages).visits ≤ (g.P.Pages.standing l.fn.pages).visits;
  nvm_kept : (g.P.Pages.standing l.pages).nvm_faults ≡ (g.P.Pages.standing l.fn.pages).nvm_faults;
  ssd_kept : (g.P.Pages.standing l.pages).ssd_faults ≡ (g.P.Pages.standing l.fn.pages).ssd_faults;
  lines : (g.P.Pages.standing l.pages).touches ≡ (g.P.Pages.standing l.fn.pages).touches ++ entry_touches 2 l.at;
  so_far : IsTrue (g.P.Pages.standing l.fn.pages).told
      → place_of l.name 0 (entries (g.P.Pages.standing l.fn.pages).current) ≡ place_of l.name l.at (entries_from (g.P.Pages.standing l.fn.pages).current (2 + l.at) (word l.header 1 - l.at));
}

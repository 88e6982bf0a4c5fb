-- A new book over a store that was recovered is ready.
use Rattle.std.proofs.Common.{◌≡◌, ◌^◌, ◌≤◌, sym, ap, ◌∙◌, subst, arith, true, IsTrue}
use Rattle.devices.specs.State.{fresh, current}
use Rattle.devices.specs.World.{Standing, Goes, now}
use Rattle.line_pages.specs.LineSets.{pages_of}
use Rattle.flat_store_meaning.specs.Layout.{Sizes, pages, nvm_lines, is_allowed}
use Rattle.flat_store_laws.specs.OpenFacts.{OpenFacts}
use Rattle.flat_nvm_layout.specs.Sizes.{sizes_of}
use Rattle.flat_nvm_layout.specs.declared.geometry.Geometry.{Geometry}
use Rattle.flat_transactions.specs.declared.book.Book.{Book}
use Rattle.flat_transactions.specs.BookCalls.{IsNew}
use Rattle.flat_transactions.specs.StoreStanding.{IsReady}
use Rattle.flat_transactions.proofs.NewLaws.{new_ready}
use Rattle.flat_recovery.specs.Opening.{Recovered, AreParts}
use Rattle.flat_recovery.specs.declared.opening.Parts.{Parts}

module _ (parts : Parts) (book : Book) (a b : Standing) (goes : Goes a b) (are : AreParts parts a.lines a.blocks) (made : IsNew parts.log parts.loose book) where
  log_sizes : sizes_of parts.log.geometry ≡ sizes_of parts.geometry
  log_sizes = ap (λ (x : Geometry). sizes_of x) are.geometry

  pub recovered_ready : (IsTrue a.told → Recovered parts a b) → IsReady book b
  recovered_ready recovered =
      new_ready parts.log parts.loose book b made are.empty
      (subst (λ (x : Sizes). nvm_lines x ≤ b.lines) (sym log_sizes) (subst (λ n. nvm_lines (sizes_of parts.geometry) ≤ n) (sym goes.lines) are.nvm))
      (subst (λ (x : Sizes). is_allowed x ≡ true) (sym log_sizes) are.allowed)
      (let same : pages_of parts.loose ≡ pages (sizes_of parts.log.geometry) = are.pages_are ∙ ap pages (sym log_sizes) in omega (arith, same))
      (let low : parts.log.tail ≤ 2 ^ 61 = are.tail in omega (arith, low))
      (λ told. subst (λ (x : Sizes). OpenFacts x parts.log.start parts.log.tail (fresh (current (now b)))) (sym log_sizes) (recovered (subst IsTrue goes.told told)).read)

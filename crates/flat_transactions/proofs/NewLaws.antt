-- The book of a store just opened, whose log is empty.
use Rattle.std.proofs.Common.{◌≡◌, ℕ, ◌^◌, ◌≤◌, true, sym, ap, ◌∙◌, subst, arith, IsTrue}
use Rattle.devices.specs.State.{State, current, fresh}
use Rattle.devices.specs.World.{Standing as Device, now}
use Rattle.line_pages.specs.LineSets.{pages_of}
use Rattle.line_pages.specs.Lines.{Lines}
use Rattle.line_pages.specs.declared.line_set.LineSet.{LineSet}
use Rattle.flat_store_meaning.specs.Layout.{Sizes, pages, nvm_lines, is_allowed}
use Rattle.flat_store_laws.specs.OpenFacts.{OpenFacts}
use Rattle.flat_store_laws.specs.ShownPages.{pages_in}
use Rattle.flat_nvm_layout.specs.Sizes.{sizes_of}
use Rattle.flat_nvm_log.specs.declared.log.Log.{Log}
use Rattle.flat_transactions.specs.declared.book.Book.{Book}
use Rattle.flat_transactions.specs.StoreStanding.{book_sizes, reserve, kept_lines, Stands, IsReady, IsSteady}
use Rattle.flat_transactions.specs.BookCalls.{IsNew}
use Rattle.flat_transactions.specs.OpenStore.{current_lines}
use Rattle.flat_transactions.specs.Closing.{IsClosed}
use Rattle.flat_transactions.proofs.ClosingLaws.{empty_closed}

-- A store with an empty log stands, and nothing is open in it.
pub empty_stands : (g : Sizes) (at : ℕ) (s : State) → OpenFacts g at at s → Stands g at at at s
empty_stands g at s it = let closed : IsClosed g at at s = empty_closed g at s it in record { facts = closed.facts; group = closed.group }

module _ (log : Log) (loose : LineSet) (book : Book) (d : Device) (made : IsNew log loose book) (empty : log.start ≡ log.tail) where
  stands_new : (s : State) → OpenFacts (sizes_of log.geometry) log.start log.tail s → Stands (book_sizes book) book.log.start book.log.tail book.first s
  stands_new s it =
      subst (λ n. Stands (book_sizes book) book.log.start book.log.tail n s) (sym made.first)
      (subst (λ (x : Log). Stands (sizes_of x.geometry) x.start x.tail log.tail s) (sym made.log_is)
      (subst (λ n. Stands (sizes_of log.geometry) n log.tail log.tail s) (sym empty) (empty_stands (sizes_of log.geometry) log.tail s (subst (λ n. OpenFacts (sizes_of log.geometry) n log.tail s) empty it))))

  -- It is ready where its sizes are allowed and fit, and the facts of an open store hold as one reads the device;
  pub new_ready : nvm_lines (sizes_of log.geometry) ≤ d.lines → is_allowed (sizes_of log.geometry) ≡ true → pages (sizes_of log.geometry) ≤ pages_of loose → log.tail ≤ 2 ^ 62
      → (IsTrue d.told → OpenFacts (sizes_of log.geometry) log.start log.tail (fresh (current (now d)))) → IsReady book d
  new_ready fits allowed sized low read =
      let none : kept_lines book ≡ 0 = ap (λ o. reserve o book.log.geometry.writes book.accepted) made.is_open in
      let no_room : book.room ≡ 0 = made.room in
      let same : book.log ≡ log = made.log_is in
      let tail : book.log.tail ≡ log.tail = ap (λ (x : Log). x.tail) same in
      let start : book.log.start ≡ log.tail = ap (λ (x : Log). x.start) same ∙ empty in
      let first : book.first ≡ log.tail = made.first in
      record {
        fits = subst (λ (x : Log). nvm_lines (sizes_of x.geometry) ≤ d.lines) (sym same) fits;
        allowed = subst (λ (x : Log). is_allowed (sizes_of x.geometry) ≡ true) (sym same) allowed;
        sized = subst (λ (x : Log). pages (sizes_of x.geometry) ≤ pages_of book.loose) (sym same) (subst (λ (x : LineSet). pages (sizes_of log.geometry) ≤ pages_of x) (sym made.loose_is) sized);
        room = omega (arith, none, no_room, tail, start);
        below = omega (arith, none, no_room, tail, low);
        few = omega (arith, no_room);
        begins = omega (arith, start, first);
        within = omega (arith, tail, first);
        closed = λ shut. record { room = no_room; first = first ∙ sym tail };
        read = λ told. stands_new (fresh (current (now d))) (read told);
      }

  -- and steady where they hold whatever a crash leaves.
  pub new_steady : (IsTrue d.told → OpenFacts (sizes_of log.geometry) log.start log.tail (now d)) → IsSteady book d
  new_steady steady told = stands_new (now d) (steady told)

  -- Its sizes and its current lines are those of the log's store.
  pub new_sizes : book_sizes book ≡ sizes_of log.geometry
  new_sizes = ap (λ (x : Log). sizes_of x.geometry) made.log_is

  pub new_tail : book.log.tail ≡ log.tail
  new_tail = ap (λ (x : Log). x.tail) made.log_is

  pub new_lines : (lines : Lines) → pages_in (sizes_of log.geometry) (now d) ≡ lines → current_lines book d ≡ lines
  new_lines lines is = ap (λ (x : Sizes). pages_in x (now d)) new_sizes ∙ is

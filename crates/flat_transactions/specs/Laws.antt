-- The law of pages for a book over its device.
use Rattle.std.proofs.Common.{◌≡◌, ap, sym, ◌∙◌, IsTrue}
use Rattle.devices.specs.World.{Standing as Device, now}
use Rattle.line_pages.specs.Lines.{Lines}
use Rattle.flat_store_laws.specs.Steps.{MayLeave}
use Rattle.flat_store_laws.proofs.OrderLaws as order
use Rattle.flat_transactions.specs.declared.book.Book.{Book}
use Rattle.flat_transactions.specs.OpenStore.{committed_lines}
use Rattle.flat_transactions.specs.StoreStanding.{book_sizes, IsSteady}

-- Of a steady book a crash at the present moment leaves what recovers to the committed lines.
pub committed_left : (book : Book) (d : Device) → IsSteady book d → IsTrue d.told → (lines : Lines)
    → MayLeave (book_sizes book) d d.clock lines → lines ≡ committed_lines d
committed_left book d steady told lines left =
    let store = order.open_image (book_sizes book) book.log.start book.log.tail (now d) (steady told).facts left.0 left.1 in
    sym (left.2 store.is_sized) ∙ store.pages

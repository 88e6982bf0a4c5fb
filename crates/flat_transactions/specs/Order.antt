-- What images and devices stand for, in the words that the layers above use.
pub use Rattle.flat_store_meaning.specs.Layout.{Sizes, pages, nvm_lines, ssd_blocks, is_allowed, in_ranges, is_between}
pub use Rattle.flat_store_laws.specs.Order.{recovered_lines, Fits, IsOrdered, IsOrderedWith}
pub use Rattle.flat_store_laws.specs.Steps.{IsStoreOf}

-- A leaf with no row.
use Rattle.std.proofs.Common.{◌≡◌, ℕ, true, List, [], None, refl, sym, arith}
use Rattle.line_pages.specs.Lines.{Lines}
use Rattle.line_pages.specs.Bytes.{bytes_of, u64_at}
use Rattle.line_pages.proofs.ByteLaws.{header_word}
use Rattle.rows.specs.Rows.{last_key}
use Rattle.page_format.specs.Node.{slots, leaf_rows, first_failing}
use Rattle.tree_search.specs.Tree.{IsTree, tree_rows}
use Rattle.table_store.specs.Created.{leaf_line}

empty_leaf : (bytes : List ℕ) (count : ℕ) → u64_at bytes 0 ≡ 1 → u64_at bytes 8 ≡ 0 → u64_at bytes 16 ≡ 0 → u64_at bytes 24 ≡ 4096
    → first_failing bytes (record { level = 0; low = 0; high = last_key; root = true; pages = count }) ≡ None
unfolding first_failing slots leaf_rows
empty_leaf bytes count kind none level heap = rw (kind, none, level, heap) refl

no_rows : (bytes : List ℕ) → u64_at bytes 8 ≡ 0 → leaf_rows bytes ≡ []
unfolding slots leaf_rows
no_rows bytes none = rw none refl

pub leaf_is_tree : (count : ℕ) (lines : Lines) (page : ℕ) → lines page 0 ≡ leaf_line → IsTree count lines 0 page 0 last_key true
leaf_is_tree count lines page is =
    empty_leaf (bytes_of lines page) count (header_word lines page 0 leaf_line (sym is) (omega arith) (omega arith)) (header_word lines page 1 leaf_line (sym is) (omega arith) (omega arith))
    (header_word lines page 2 leaf_line (sym is) (omega arith) (omega arith)) (header_word lines page 3 leaf_line (sym is) (omega arith) (omega arith))

pub leaf_has_none : (lines : Lines) (page : ℕ) → lines page 0 ≡ leaf_line → tree_rows lines 0 page ≡ []
leaf_has_none lines page is = no_rows (bytes_of lines page) (header_word lines page 1 leaf_line (sym is) (omega arith) (omega arith))

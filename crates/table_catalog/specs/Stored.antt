-- A store of pages in order, and its tables by name.
use Rattle.std.specs.Prelude.{◌≡◌, ℕ, ◌-◌, Bool, true, false, List, [], ◌∷◌, ◌++◌, length, None, Option, Some, if◌then◌else◌, flat_map, bytes_eq}
use Rattle.line_pages.specs.Lines.{Lines}
use Rattle.damage.specs.Checks.{first_failure}
use Rattle.rows.specs.Rows.{Row, Each, last_key}
use Rattle.page_alloc.specs.Space.{high_of, IsFreeList}
use Rattle.page_alloc.specs.Moves.{AreExactly}
use Rattle.tree_search.specs.Tree.{IsTree}
use Rattle.rows.specs.declared.limits.Limits.{Limits}
use Rattle.table_catalog.specs.declared.entry.Entry.{Entry}
use Rattle.table_catalog.specs.declared.entry.TableEntry.{TableEntry}
use Rattle.table_catalog.specs.Catalog.{entries, catalog_checks, entry_rows, entry_pages}
use Rattle.rows.specs.Tables.{Table}

-- the entry's tree is well formed, and its number of rows is right
abbrev pub HasTree : ℕ → Lines → Entry → Type 0
HasTree count lines entry = IsTree count lines (entry.levels - 1) entry.root 0 last_key true × (length (entry_rows lines entry) ≡ entry.rows)

-- all pages of all tables
abbrev pub all_pages : Lines → List Entry → List ℕ
all_pages lines all = flat_map (entry_pages lines) all

-- The catalog passes its checks, each entry has its tree, and page 0, the pages of the trees and the free list are exactly
-- the pages below the high water, each once.
pub record IsStore (limits : Limits) (count : ℕ) (lines : Lines) : Type 0 where
  pub catalog : first_failure (catalog_checks limits count lines) ≡ None
  pub trees : Each (HasTree count lines) (entries lines)
  pub free : List ℕ
  pub is_free : IsFreeList lines free
  pub exact : AreExactly (high_of lines) (0 ∷ (all_pages lines (entries lines) ++ free))

-- the rows of the tree of an entry, if there is one
abbrev pub place_rows : Lines → Option TableEntry → Option (List Row)
place_rows lines None = None
place_rows lines (Some place) = Some (entry_rows lines place.entry)

-- What pages in order hold are tables whose rows a script can write.
use Rattle.std.proofs.Common.{◌≡◌, ℕ, zero, suc, ◌+◌, ◌-◌, ◌≤◌, Bool, true, false, List, [], ◌∷◌, ◌++◌, length, Option, Some, None, refl, subst, arith, flat_map, map, drop, length-take, nat_le}
use Rattle.std.specs.Prelude.{IfSome}
use Rattle.std.specs.List.{list_all, AllByRecursion}
use Rattle.std.proofs.lemmas.Bool.{le-leb, and_parts, and_from}
use Rattle.devices.specs.World.{Standing}
use Rattle.line_pages.specs.Lines.{Lines}
use Rattle.line_pages.specs.Bytes.{bytes_of}
use Rattle.flat_transactions.specs.Order.{Sizes, pages}
use Rattle.page_format.specs.declared.root.Expect.{Expect}
use Rattle.rows.specs.Rows.{Row, keys, last_key, Ascends, Each}
use Rattle.page_format.specs.Node.{Slot, Child, slots, children, leaf_rows, row_in, heap_start, is_in_heap, has_printable_value, IsWellFormed}
use Rattle.rows.specs.Value.{is_printable}
use Rattle.page_format.specs.Spans.{Span, spans}
use Rattle.rows.specs.Value.{IsValue}
use Rattle.page_format.proofs.PageFacts.{leaf_facts}
use Rattle.page_format.proofs.SlotLemmas.{in_heap_one}
use Rattle.tree_search.specs.Tree.{IsTree, tree_rows}
use Rattle.tree_search.proofs.TreeLaws.{Each-map}
use Rattle.tree_search.proofs.OrderLaws.{tree_rows-ascend}
use Rattle.table_catalog.specs.Catalog.{entries, table_of}
use Rattle.rows.specs.Tables.{Table}
use Rattle.table_catalog.specs.Stored.{HasTree}
use Rattle.script.specs.Tables.{AreRows, AreTables}
use Rattle.script.specs.Machine.{Open, State, tables_of_open}
use Rattle.engine.specs.declared.engine.Engine.{Engine}
use Rattle.engine.specs.Holds.{HoldsTables}
use Rattle.engine.specs.Engine.{Shows}

-- each row has a value that a script can write
abbrev HaveValues : List Row → Type 0
HaveValues rows = AllByRecursion (λ (row : Row). IsValue row.1) rows

HaveValues-append : (xs ys : List Row) → HaveValues xs → HaveValues ys → HaveValues (xs ++ ys)
HaveValues-append [] ys first second = second
HaveValues-append (x ∷ xs) ys first second = (first.0, HaveValues-append xs ys first.1 second)

-- a record in the heap is short enough, and its bytes are tested
values_in : (heap : ℕ) (bytes : List ℕ) (all : List Slot) → list_all (is_in_heap heap) all ≡ true → list_all has_printable_value (map (row_in bytes) all) ≡ true
    → HaveValues (map (row_in bytes) all)
values_in heap bytes [] inside printable = tt
values_in heap bytes (slot ∷ rest) inside printable =
    let here = and_parts (is_in_heap heap slot) (list_all (is_in_heap heap) rest) inside in
    let tested = and_parts (has_printable_value (row_in bytes slot)) (list_all has_printable_value (map (row_in bytes) rest)) printable in
    let short : length (row_in bytes slot).1 ≤ 480 = omega (arith, length-take (slot.place + slot.size - (slot.place + 8)) (drop (slot.place + 8) bytes), (in_heap_one heap slot here.0).value) in
    (and_from (nat_le (length (row_in bytes slot).1) 480) (list_all is_printable (row_in bytes slot).1) (le-leb (length (row_in bytes slot).1) 480 short) tested.0, values_in heap bytes rest here.1 tested.1)

leaf_values : (bytes : List ℕ) (expect : Expect) → expect.level ≡ 0 → IsWellFormed bytes expect → HaveValues (leaf_rows bytes)
unfolding leaf_rows
leaf_values bytes expect level well =
    let facts = leaf_facts bytes expect level well in
    values_in (heap_start bytes) bytes (slots bytes) facts.in_heap facts.printable

-- and so have the rows of a tree
fan_values : (rows_at : ℕ → List Row) (cs : List Child) (high : ℕ) → Each (λ (s : Span). HaveValues (rows_at s.page)) (spans cs high) → HaveValues (flat_map (λ (child : Child). rows_at child.1) cs)
fan_values rows_at [] high all = tt
fan_values rows_at (c ∷ cs) high all = HaveValues-append (rows_at c.1) (flat_map (λ (child : Child). rows_at child.1) cs) all.0 (fan_values rows_at cs high all.1)

tree_values : (count : ℕ) (lines : Lines) (level page low high : ℕ) (root : Bool) → IsTree count lines level page low high root → HaveValues (tree_rows lines level page)
tree_values count lines zero page low high root is = leaf_values (bytes_of lines page) _ refl is
tree_values count lines (suc level) page low high root is =
    fan_values (tree_rows lines level) (children (bytes_of lines page)) high
    (Each-map (λ (s : Span). IsTree count lines level s.page s.low s.high false) (λ (s : Span). HaveValues (tree_rows lines level s.page)) (spans (children (bytes_of lines page)) high)
    (λ s. tree_values count lines level s.page s.low s.high false) is.1)

-- with keys that ascend up to the last one
ascending_are : (low : ℕ) (rows : List Row) → Ascends low last_key (keys rows) → HaveValues rows → AreRows rows
ascending_are low [] up values = tt
ascending_are low (row ∷ rows) up values = ((omega (arith, up.1), values.0), ascending_are (row.0 + 1) rows up.2 values.1)

tree_are : (count : ℕ) (lines : Lines) (levels root : ℕ) → IsTree count lines levels root 0 last_key true → AreRows (tree_rows lines levels root)
tree_are count lines levels root is = ascending_are 0 (tree_rows lines levels root) (tree_rows-ascend count lines levels root 0 last_key true is) (tree_values count lines levels root 0 last_key true is)

each_are : {E : Type 0} (table : E → Table) (Has : E → Type 0) → ((e : E) → Has e → AreRows (table e).1) → (es : List E) → Each Has es → AreTables (map table es)
each_are table Has rows [] all = tt
each_are table Has rows (e ∷ es) all = (rows e all.0, each_are table Has rows es all.1)

pub holds_are_tables : {g : Sizes} {lines : Lines} {T : List Table} → HoldsTables g lines T → AreTables T
holds_are_tables {g} {lines} {T} holds =
    subst AreTables holds.tables_are (each_are (table_of lines) (HasTree (pages g) lines) (λ e it. tree_are (pages g) lines (e.levels - 1) e.root it.0) (entries lines) holds.store.trees)

copy_are : (tables : List Table) (t : Option Open) → AreTables (tables_of_open tables t) → IfSome t (λ (o : Open). AreTables o.tables)
copy_are tables None are = tt
copy_are tables (Some o) are = are

-- the state that an engine shows has such tables, and so has the copy of its open transaction
pub shows_tables : {engine : Engine} {d : Standing} {s : State} → Shows engine d s → AreTables s.tables
shows_tables shows = holds_are_tables shows.committed

pub shows_copy : {engine : Engine} {d : Standing} {s : State} → Shows engine d s → IfSome s.transaction (λ (o : Open). AreTables o.tables)
shows_copy {engine} {d} {s} shows = copy_are s.tables s.transaction (holds_are_tables shows.seen)

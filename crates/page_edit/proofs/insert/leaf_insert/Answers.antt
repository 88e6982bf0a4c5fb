use Rattle.page_format.proofs.RowLemmas.{row_bytes-insert}
use Rattle.line_pages.proofs.NumberLaws.{same_then, same_part}
use Rattle.std.proofs.Common.{ap, ◌∙◌, sym, subst, ◌+◌, ◌*◌, ℕ, List, length, inl, inr, arith}
use Rattle.std.specs.List.{insert}
use Rattle.std.proofs.lemmas.Bool.{cases_lt}
use Rattle.rows.specs.Rows.{Row}
use Rattle.page_format.specs.Node.{leaf_rows, entry_count, heap_start}
use Rattle.page_format.specs.Sound.{IsRows, row_bytes}
use Rattle.page_edit.specs.Packed.{PutsBelow, heap_for}
use Rattle.page_format.proofs.FactLemmas.{leaf_is}
use Rattle.page_edit.proofs.LeafLemmas.{rows_insert}
use Rattle.page_edit.proofs.insert.leaf_insert.Goals as goal

pub returns-clause-leaf : goal.returns-clause-leaf
returns-clause-leaf c =
    let row : Row = (c.args.key, c.args.value.now) in
    let rows = c.insert_here.ensures.rows ∙ ap (λ xs. insert xs c.args.at row) c.make_room.ensures.rows in
    leaf_is c.insert_here.new.page c.insert_here.ensures.sound
    (subst IsRows (sym rows) (rows_insert (leaf_rows c.args.page.now) c.args.at row c.open_leaf.ensures.rows c.requires.room c.requires.order c.requires.printable))

pub returns-clause-rest : goal.returns-clause-rest
returns-clause-rest c =
    let old = c.args.page.now in
    let mid = c.make_room.new.page in
    let new = c.insert_here.new.page in
    let from = 64 + 4 * entry_count new in
    let end = heap_start new in
    same_then from end old mid new (same_part from end (64 + 4 * entry_count mid) (heap_start mid) old mid c.make_room.ensures.rest (omega (arith, c.insert_here.ensures.count)) (omega (arith, c.insert_here.ensures.heap))) c.insert_here.ensures.rest

pub returns-clause-below : goal.returns-clause-below
returns-clause-below c = λ room.
    let new = c.insert_here.new.page in
    subst (λ (bytes : List ℕ). PutsBelow c.args.at (8 + length c.args.value.now) bytes new) (c.make_room.ensures.stays room)
    (record { adds = record { heap = c.insert_here.ensures.heap; kept = c.insert_here.ensures.above }; slots_are = c.insert_here.ensures.slots })

pub returns-clause-packed : goal.returns-clause-packed
returns-clause-packed c = λ full.
    let mid = c.make_room.new.page in
    let in_order = c.make_room.ensures.packed full in
    record {
      packed = mid;
      rows = c.make_room.ensures.rows;
      in_order = in_order;
      puts = record { adds = record { heap = c.insert_here.ensures.heap; kept = c.insert_here.ensures.above }; slots_are = c.insert_here.ensures.slots };
      tight = record {
        sound = c.insert_here.ensures.sound;
        tight = let more = ap row_bytes c.insert_here.ensures.rows ∙ row_bytes-insert (leaf_rows mid) c.args.at (c.args.key, c.args.value.now) in
            omega (arith, in_order.packed.tight, more, c.insert_here.ensures.heap, c.insert_here.ensures.count);
      };
    }

pub returns-clause-placed : goal.returns-clause-placed
returns-clause-placed c =
    elim (cases_lt (heap_start c.args.page.now) (heap_for (8 + length c.args.value.now) c.args.page.now)) [
      | inl full ↦ inr (returns-clause-packed c full).tight
      | inr room ↦ inl (returns-clause-below c room).adds
    ]

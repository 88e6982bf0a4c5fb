-- The rows of a leaf after one was put by its lines.
use Rattle.std.proofs.Common.{◌≡◌, ℕ, zero, suc, ◌+◌, ◌-◌, ◌*◌, ◌≤◌, ◌||◌, Bool, true, false, IsTrue, List, [], ◌∷◌, length, take, drop, nat_le, refl, ap, sym, subst, ◌∙◌, arith}
use Rattle.std.specs.List.{list_all, insert}
use Rattle.std.proofs.lemmas.Bool.{lt-ltb, le-ltb, ne_eqb, le-leb, leb-true}
use Rattle.page_format.specs.declared.root.Expect.{Expect}
use Rattle.page_format.specs.declared.spot.Spot.TheVariants as spots
use Rattle.rows.specs.Rows.{Row, row_put, Ascends, AllBelow, AllAbove, last_key}
use Rattle.rows.specs.Rows.{keys}
use Rattle.page_format.specs.Node.{leaf_rows, entry_count, heap_start, slots, IsWellFormed}
use Rattle.rows.specs.Value.{is_printable}
use Rattle.page_format.specs.Search.{IsSpot}
use Rattle.page_format.specs.Sound.{IsRows, row_bytes}
use Rattle.page_format.proofs.RowLemmas.{row_bytes-insert}
use Rattle.page_format.proofs.SlotLemmas.{length_rows}
use Rattle.page_format.proofs.PageFacts.{leaf_facts}
use Rattle.page_format.proofs.FactLemmas.{leaf_from, sound_of, rows_of_leaf, leaf_is}
use Rattle.page_edit.proofs.InsertLemmas.{Puts, rows_put, sound_put, slots_put}
use Rattle.page_edit.proofs.LeafLemmas.{rows_insert}
use Rattle.node_edit.specs.Edit.{Holds, place_of, has_key}
use Rattle.node_edit.proofs.KeyPlaceLaws.{row_puts, put_new}
use Rattle.node_edit.proofs.LeafLaws.{leaf_within, wide_order, put_order, enter_full}
use Rattle.line_pages.specs.Lines.{Lines}
use Rattle.line_pages.specs.Bytes.{bytes_of, u64_at}
use Rattle.line_pages.specs.Standing.{Standing, ReadsPage}
use Rattle.line_pages.proofs.ByteLaws.{length-page_bytes}
use Rattle.line_pages.proofs.NumberLaws.{u64_at-same, same_part}
use Rattle.line_pages.proofs.StandingLaws.{ReadsPage-trans}
use Rattle.ssd_model.specs.Page.{Same}
use Rattle.page_alloc.specs.Written.{Differs, WritesOnly, lines_changed}
use Rattle.page_alloc.proofs.TouchedLaws.{only_then, only_nothing, nothing_read}
use Rattle.node_edit.specs.Record.{HoldsLength}
use Rattle.node_edit.proofs.SameLength.{held_place}
use Rattle.leaf_lines.specs.declared.spread.Spread.{Spread}
use Rattle.leaf_lines.specs.Spread.{InOrder, Covers, AlikeIn, StandsFor}
use Rattle.page_edit.specs.Laid.{Lays}
use Rattle.page_alloc.specs.Written.{OtherPages}
use Rattle.page_edit.specs.Packed.{PutsBelow}
use Rattle.leaf_lines.specs.Put.{PutByLines, PlacesRecord}
use Rattle.leaf_lines.proofs.SpreadLaws.{lays_puts}
use Rattle.leaf_lines.proofs.CountLaws.{lays_beyond, only_alike, count_alike}
use Rattle.leaf_lines.proofs.RoomLaws.{used_room}

-- the place of a key that is in no row
pub gap_place : (key at : ℕ) (rows : List Row) → at ≤ length rows → AllBelow key (take at rows) → AllAbove key (drop at rows) → (at ≡ place_of key rows) × (has_key key rows ≡ false)
gap_place key zero [] within below above = (refl, refl)
gap_place key (suc at) [] within below above = absurd (omega (arith, within))
gap_place key zero (row ∷ rest) within below above =
    let e = le-ltb row.0 key (omega (arith, above.0)) in
    let ne = ne_eqb row.0 key (λ same. omega (arith, same, above.0)) in
    (rw e refl, rw e ne)
gap_place key (suc at) (row ∷ rest) within below above =
    let ih = gap_place key at rest (omega (arith, within)) below.1 above in
    let e = lt-ltb row.0 key below.0 in
    (rw e (ap suc ih.0), rw e ih.1)

full_more : (root : Bool) (n m : ℕ) → n ≤ m → (root || nat_le 1344 n) ≡ true → (root || nat_le 1344 m) ≡ true
full_more true n m more full = refl
full_more false n m more full = le-leb 1344 m (omega (arith, more, leb-true 1344 n full))

-- a new row, put where the search says, just below the heap
pub insert_holds : (expect : Expect) (key at : ℕ) (value old new : List ℕ) → expect.level ≡ 0 → expect.high ≤ last_key → expect.low ≤ key → key ≤ expect.high → length value ≤ 480 → list_all is_printable value ≡ true
    → length old ≡ 4096 → IsWellFormed old expect → IsSpot old expect key (spots.Gap at) → 68 + 4 * entry_count old + (8 + length value) ≤ heap_start old
    → Puts at (heap_start old - (8 + length value)) (8 + length value) (key, value) old new → Holds leaf_rows expect new (row_put key value (leaf_rows old))
insert_holds expect key at value old new level top above within few printable size well spot room puts =
    let leaf = leaf_from old expect size level top well in
    let sound = sound_of old size leaf in
    let rows = rows_of_leaf old size leaf in
    let count = length_of old in
    let at_in : at ≤ entry_count old = omega (arith, spot.1, count) in
    let place = gap_place key at (leaf_rows old) spot.1 spot.2 spot.3 in
    let is = put_new (row_puts key value) (leaf_rows old) at place.1 place.0 in
    let put = rows_put at (heap_start old - (8 + length value)) (8 + length value) (key, value) old new puts at_in (omega (arith, room)) sound in
    let sound_new = sound_put at (heap_start old - (8 + length value)) (8 + length value) (key, value) old new puts at_in (omega (arith, room)) sound (omega arith) (omega (arith, few)) (omega (arith, room)) in
    let used = used_room old sound in
    let facts = leaf_facts old expect level well in
    let order = put_order expect.low expect.high key value (leaf_rows old) (insert (leaf_rows old) at (key, value)) above within facts.order is in
    let rows_new = rows_insert (leaf_rows old) at (key, value) rows (omega (arith, used, room)) (wide_order expect.low expect.high (keys (insert (leaf_rows old) at (key, value))) top order) printable in
    let leaf_new = leaf_is new sound_new (subst IsRows (sym put) rows_new) in
    let more = ap row_bytes put ∙ row_bytes-insert (leaf_rows old) at (key, value) in
    record {
      well = leaf_within new expect puts.size_new level leaf_new (subst (λ (all : List Row). Ascends expect.low expect.high (keys all)) (sym put) order)
          (full_more expect.root (row_bytes (leaf_rows old)) (row_bytes (leaf_rows new)) (omega (arith, more)) (enter_full old expect size level top well));
      are = put ∙ sym is;
    }
  where
    length_of : (bytes : List ℕ) → length (leaf_rows bytes) ≡ entry_count bytes
    length_of bytes = length_rows bytes

-- a key in no row has no value of any length
gap_holds : (expect : Expect) (key at size : ℕ) (bytes : List ℕ) → expect.level ≡ 0 → IsWellFormed bytes expect → IsSpot bytes expect key (spots.Gap at) → HoldsLength key size (leaf_rows bytes) → ⊥
gap_holds expect key at size bytes level well spot holds =
    let facts = leaf_facts bytes expect level well in
    let place = gap_place key at (leaf_rows bytes) spot.1 spot.2 spot.3 in
    let there = held_place expect.low expect.high key holds.held (leaf_rows bytes) facts.order holds.is in
    let clash : true ≡ false = sym there.0 ∙ place.1 in
    absurd (cc)

-- it stands just below the heap
puts_below : (at size : ℕ) (row : Row) (old new : List ℕ) → Puts at (heap_start old - size) size row old new → at ≤ entry_count old → size ≤ heap_start old → PutsBelow at size old new
puts_below at size row old new puts within room = record {
  adds = record {
    heap = omega (arith, puts.heap, room);
    kept = same_part (heap_start old) 4096 (heap_start old - size + size) 4096 _ _ puts.rest (omega (arith, room)) (omega arith);
  };
  slots_are = slots_put at (heap_start old - size) size row old new puts within ∙ ap (λ (place : ℕ). insert (slots old) at (record { place = place; size = size })) (sym puts.heap);
}

gap_placed : (expect : Expect) (key at long : ℕ) (row : Row) (old new : List ℕ) → expect.level ≡ 0 → IsWellFormed old expect → IsSpot old expect key (spots.Gap at) → Puts at (heap_start old - (8 + long)) (8 + long) row old new
    → at ≤ entry_count old → 8 + long ≤ heap_start old → PlacesRecord key long old new
gap_placed expect key at long row old new level well spot puts within room =
    let place = gap_place key at (leaf_rows old) spot.1 spot.2 spot.3 in
    record {
      fresh = λ none. subst (λ (i : ℕ). PutsBelow i (8 + long) old new) place.0 (puts_below at (8 + long) row old new puts within room);
      same = λ some is. let clash : true ≡ false = sym some ∙ place.1 in absurd (cc);
      other = λ some is. let clash : true ≡ false = sym some ∙ place.1 in absurd (cc);
    }

-- a row that was put by its lines
pub inserted : {A : Type 0} (page at count heap key : ℕ) (value : List ℕ) (expect : Expect) (s : Spread) (header read spare changed : List ℕ) (old first mid new : Standing A) → IsTrue old.told
    → expect.level ≡ 0 → expect.high ≤ last_key → expect.low ≤ key → key ≤ expect.high → length value ≤ 480 → list_all is_printable value ≡ true
    → at ≤ count → heap ≤ 4096 → 68 + 4 * count + (8 + length value) ≤ heap → InOrder s → Covers at count (heap - (8 + length value)) (8 + length value) s
    → Same 0 64 (bytes_of old.current page) header → count ≡ u64_at header 8 → heap ≡ u64_at header 24 → ReadsPage page old first → ReadsPage page first mid
    → (Same 0 64 (bytes_of first.current page) header → AlikeIn s (bytes_of first.current page) read) → spare ≡ read → Lays at count (count + 1) (heap - (8 + length value)) (8 + length value) (key, value) read changed
    → length read ≡ 4096 → length changed ≡ 4096
    → (AlikeIn s (bytes_of mid.current page) spare → StandsFor s spare changed (bytes_of mid.current page) (bytes_of new.current page)) → (AlikeIn s (bytes_of mid.current page) spare → OtherPages page mid.current new.current)
    → WritesOnly page (Differs spare changed) mid new → new.room + lines_changed spare changed ≡ mid.room
    → (IsWellFormed (bytes_of old.current page) expect → IsSpot (bytes_of old.current page) expect key (spots.Gap at)) → PutByLines page expect key value old new
inserted page at count heap key value expect s header read spare changed old first mid new told level top above within few printable at_in heap_in room order covers header_known count_is heap_is r1 r2 knows spare_is lays size_read size_changed standing others touches room_is spot =
    let w = bytes_of old.current page in
    let w_new = bytes_of new.current page in
    let size = 8 + length value in
    let same1 = r1.current told in
    let told1 = subst IsTrue (sym r1.told) told in
    let same2 = r2.current told1 ∙ same1 in
    let known : AlikeIn s w read = subst (λ (lines : Lines). AlikeIn s (bytes_of lines page) read) same1 (knows (subst (λ (lines : Lines). Same 0 64 (bytes_of lines page) header) (sym same1) header_known)) in
    let known_mid : AlikeIn s (bytes_of mid.current page) spare = subst (λ (b : List ℕ). AlikeIn s (bytes_of mid.current page) b) (sym spare_is) (subst (λ (lines : Lines). AlikeIn s (bytes_of lines page) read) (sym same2) known) in
    let stands : StandsFor s read changed w w_new = subst (λ (b : List ℕ). StandsFor s b changed w w_new) spare_is (subst (λ (lines : Lines). StandsFor s spare changed (bytes_of lines page) w_new) same2 (standing known_mid)) in
    let n3 = length-page_bytes (old.current page) in
    let n4 = length-page_bytes (new.current page) in
    let beyond = lays_beyond at count (count + 1) (heap - size) size (key, value) s read changed order covers lays in
    let count_w : count ≡ entry_count w = count_is ∙ u64_at-same 0 64 8 w header header_known (omega arith) (omega arith) in
    let heap_w : heap ≡ heap_start w = heap_is ∙ u64_at-same 0 64 24 w header header_known (omega arith) (omega arith) in
    let puts = lays_puts at count (heap - size) size (key, value) s read changed w w_new order covers stands lays at_in (omega (arith, room)) (omega (arith, room, heap_in)) (omega arith) count_w n3 n4 size_changed in
    let puts_w = subst (λ (h : ℕ). Puts at (h - size) size (key, value) w w_new) heap_w puts in
    let reads = ReadsPage-trans r1 r2 in
    let touched : WritesOnly page (Differs read changed) mid new = subst (λ (b : List ℕ). WritesOnly page (Differs b changed) mid new) spare_is touches in
    let counted = count_alike s read changed w w_new order stands beyond size_read size_changed n3 n4 in
    let spent : lines_changed spare changed ≡ lines_changed read changed = ap (λ b. lines_changed b changed) spare_is in
    record {
      rows = λ well. insert_holds expect key at value w w_new level top above within few printable n3 well (spot well) (omega (arith, room, count_w, heap_w)) puts_w;
      placed = λ well. gap_placed expect key at (length value) (key, value) w w_new level well (spot well) puts_w (omega (arith, at_in, count_w)) (omega (arith, room, heap_w));
      others = λ n ne. others known_mid n ne ∙ ap (λ (lines : Lines). lines n) same2;
      only = only_then page (Differs w w_new) (only_nothing page (Differs w w_new) (nothing_read reads)) (only_alike page s read changed w w_new order stands beyond size_read size_changed n3 n4 touched);
      once = omega (arith, room_is, reads.room, counted, spent);
      again = λ well holds line differs. absurd (gap_holds expect key at (length value) w level well (spot well) holds);
    }

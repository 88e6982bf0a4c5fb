-- A value put in place of another of its length, by its lines.
use Rattle.std.proofs.Common.{◌≡◌, ℕ, zero, suc, ◌+◌, ◌*◌, ◌<◌, ◌≤◌, inl, inr, ◌||◌, true, false, IsTrue, List, [], ◌∷◌, Some, length, get_or, set, slice_set, slice_range, nat_le, refl, ap, sym, subst, ◌∙◌, arith}
use Rattle.std.specs.Prelude.{slice_get}
use Rattle.std.specs.List.{list_all}
use Rattle.std.proofs.lemmas.Bool.{cases_lt, lt-ltb, le-ltb, eq-eqb}
use Rattle.std.proofs.lemmas.List.Edits.{length-between}
use Rattle.ssd_model.specs.Page.{Same}
use Rattle.line_pages.specs.Lines.{Lines}
use Rattle.line_pages.specs.Bytes.{bytes_of, u16_at, u64_at}
use Rattle.line_pages.specs.Standing.{Standing, ReadsPage}
use Rattle.line_pages.proofs.ByteLaws.{length-page_bytes}
use Rattle.line_pages.proofs.NumberLaws.{u64_at-same, range-same, same_part}
use Rattle.line_pages.proofs.StandingLaws.{ReadsPage-trans}
use Rattle.page_format.specs.declared.root.Expect.{Expect}
use Rattle.page_format.specs.declared.spot.Spot.TheVariants as spots
use Rattle.rows.specs.Rows.{Row, row_put, Ascends, last_key}
use Rattle.rows.specs.Rows.{keys}
use Rattle.page_format.specs.Node.{leaf_rows, entry_count, IsWellFormed}
use Rattle.rows.specs.Value.{is_printable}
use Rattle.page_format.specs.Search.{IsSpot}
use Rattle.page_format.specs.Sound.{IsRows, row_bytes, slot_of}
use Rattle.page_format.proofs.PageFacts.{leaf_facts}
use Rattle.page_format.proofs.SlotLemmas.{length_rows, row_at, slot_inside}
use Rattle.page_format.proofs.FactLemmas.{leaf_from, sound_of, rows_of_leaf, leaf_is}
use Rattle.page_edit.proofs.InsertLemmas.{slot_of-same}
use Rattle.page_edit.proofs.LeafLemmas.{rows_set_is}
use Rattle.page_edit.proofs.SetLemmas.{Sets, slots_set, rows_set, sound_set}
use Rattle.page_alloc.specs.Written.{Differs, WritesOnly, lines_changed}
use Rattle.page_alloc.proofs.TouchedLaws.{only_then, only_nothing, nothing_read}
use Rattle.node_edit.specs.Edit.{Holds, place_of, has_key}
use Rattle.node_edit.proofs.KeyPlaceLaws.{put_same}
use Rattle.node_edit.proofs.LeafLaws.{leaf_within, put_order, set_bytes, enter_full}
use Rattle.node_edit.proofs.SameLength.{set_record}
use Rattle.leaf_lines.specs.declared.spread.Spread.{Spread}
use Rattle.leaf_lines.specs.Spread.{InOrder, Covers, AlikeIn, AlikeBeyond, StandsFor}
use Rattle.page_alloc.specs.Written.{OtherPages}
use Rattle.leaf_lines.specs.Put.{PutByLines, PlacesRecord}
use Rattle.leaf_lines.proofs.SpreadLaws.{through}
use Rattle.leaf_lines.proofs.CountLaws.{only_alike, count_alike}

-- bytes that were put into one part change the lines of that part alone
pub value_beyond : (at place size : ℕ) (s : Spread) (old new : List ℕ) → Covers at at place size s → 68 + 4 * at ≤ place → Same 0 place old new → Same (place + size) 4096 old new → AlikeBeyond s old new
value_beyond at place size s old new covers behind before after = record {
  low = record { each = λ j low high. before.each j (omega arith) (omega (arith, high, covers.slots, behind)) };
  middle = record {
    each = λ j low high.
        elim covers.heap [
          | inl starts ↦ before.each j (omega arith) (omega (arith, high, starts))
          | inr meets ↦ absurd (omega (arith, meets, low, high))
        ];
  };
  high = record { each = λ j low high. after.each j (omega (arith, low, covers.heap_end)) high };
}

-- they stand in lines that were read
part_in : (at place size : ℕ) (s : Spread) (one other : List ℕ) → Covers at at place size s → 68 + 4 * at ≤ place → AlikeIn s one other → Same place (place + size) one other
part_in at place size s one other covers behind alike = record {
  each = λ j low high.
      elim (cases_lt j (64 * s.slots_end)) [
        | inl before ↦ alike.slots.each j (omega (arith, covers.slots)) before
        | inr past ↦ elim covers.heap [
          | inl starts ↦ alike.heap.each j (omega (arith, starts)) (omega (arith, covers.heap_end))
          | inr meets ↦ alike.heap.each j (omega (arith, meets, past)) (omega (arith, covers.heap_end))
        ]
      ];
}

pub key_at : (rows : List Row) (at key : ℕ) (d : Row) → slice_get (keys rows) at ≡ Some key → (at < length rows) × ((get_or rows at d).0 ≡ key)
key_at [] at key d got = absurd (cc)
key_at (row ∷ rest) zero key d got = (omega arith, (cc))
key_at (row ∷ rest) (suc at) key d got = let ih = key_at rest at key d got in (omega (arith, ih.0), ih.1)

-- the place of a key that is in a row
pub row_place : (low high key at : ℕ) (rows : List Row) (d : Row) → Ascends low high (keys rows) → at < length rows → (get_or rows at d).0 ≡ key → (at ≡ place_of key rows) × (has_key key rows ≡ true) × (low ≤ key)
row_place low high key at [] d up within is = absurd (omega (arith, within))
row_place low high key zero (row ∷ rest) d up within is = (rw (le-ltb row.0 key (omega (arith, is))) refl, rw (le-ltb row.0 key (omega (arith, is))) (eq-eqb row.0 key is), omega (arith, is, up.0))
row_place low high key (suc at) (row ∷ rest) d up within is =
    let ih = row_place (row.0 + 1) high key at rest d up.2 (omega (arith, within)) is in
    let e = lt-ltb row.0 key (omega (arith, ih.2)) in
    (rw e (ap suc ih.0), rw e ih.1, omega (arith, ih.2, up.0))

pub set_holds : (expect : Expect) (key at : ℕ) (value old new : List ℕ) → expect.level ≡ 0 → expect.high ≤ last_key → expect.low ≤ key → key ≤ expect.high → list_all is_printable value ≡ true
    → length old ≡ 4096 → IsWellFormed old expect → IsSpot old expect key (spots.Row at) → Sets at value old new → (slot_of old at).size ≡ 8 + length value → (at ≡ place_of key (leaf_rows old)) × Holds leaf_rows expect new (row_put key value (leaf_rows old))
set_holds expect key at value old new level top above within printable size well spot sets long =
    let d : Row = (key, value) in
    let rows = leaf_rows old in
    let leaf = leaf_from old expect size level top well in
    let sound = sound_of old size leaf in
    let facts = leaf_facts old expect level well in
    let got = key_at rows at key d spot.1 in
    let count = length_rows old in
    let at_in : at < entry_count old = omega (arith, got.0, count) in
    let there = row_place expect.low expect.high key at rows d facts.order got.0 got.1 in
    let row = row_at old at d at_in in
    let inside = slot_inside old at sound at_in in
    let key_is : key ≡ u64_at old (slot_of old at).place = sym got.1 ∙ ap (λ (r : Row). r.0) row in
    let put = rows_set at key value old new sets at_in sound key_is in
    let length_is : length value ≡ length (get_or rows at d).1 =
    omega (arith, ap (λ (r : Row). length r.1) row, length-between old ((slot_of old at).place + 8) ((slot_of old at).place + (slot_of old at).size) (omega (arith, inside.below, size)), long) in
    let rows_new = rows_set_is rows at d (rows_of_leaf old size leaf) (sym got.1) length_is printable in
    let leaf_new = leaf_is new (sound_set at value old new sets sound) (subst IsRows (sym put) rows_new) in
    let is : row_put key value rows ≡ set rows at d = put_same key value rows d there.1 ∙ ap (λ (i : ℕ). slice_set rows i ((get_or rows i d).0, value)) (sym there.0) ∙ ap (λ (k : ℕ). slice_set rows at (k, value)) got.1 in
    let order = put_order expect.low expect.high key value rows (set rows at d) above within facts.order is in
    let bytes = ap row_bytes put ∙ set_bytes rows at key value d got.0 length_is in (
      there.0,
      record {
        well = leaf_within new expect sets.size level leaf_new (subst (λ (all : List Row). Ascends expect.low expect.high (keys all)) (sym put) order) (ap (λ (n : ℕ). expect.root || nat_le 1344 n) bytes ∙ enter_full old expect size level top well);
        are = put ∙ sym is;
      },
    )

-- the page by its lines
value_sets : (expect : Expect) (key at place : ℕ) (value : List ℕ) (s : Spread) (read changed old new : List ℕ) → expect.level ≡ 0 → expect.high ≤ last_key → Covers at at (place + 8) (length value) s → StandsFor s read changed old new → 68 + 4 * at ≤ place + 8
    → Same 0 (place + 8) read changed → Same (place + 8 + length value) 4096 read changed → slice_range changed (place + 8) (place + 8 + length value) ≡ value → place + 8 + length value ≤ 4096
    → length old ≡ 4096 → length new ≡ 4096 → length changed ≡ 4096 → IsWellFormed old expect → IsSpot old expect key (spots.Row at) → slot_of old at ≡ record { place = place; size = 8 + length value } → Sets at value old new
value_sets expect key at place value s read changed old new level top covers stands behind before after here within size_old size_new size_changed well spot slot_is =
    let leaf = leaf_from old expect size_old level top well in
    let sound = sound_of old size_old leaf in
    let d : Row = (key, value) in
    let got = key_at (leaf_rows old) at key d spot.1 in
    let at_in : at < entry_count old = omega (arith, got.0, length_rows old) in
    let inside = slot_inside old at sound at_in in
    let place_is : (slot_of old at).place ≡ place = ap (λ (x : _). x.place) slot_is in
    let size_is : (slot_of old at).size ≡ 8 + length value = ap (λ (x : _). x.size) slot_is in
    let b = through s 0 (place + 8) read changed old new stands (omega arith) before in
    let a = through s (place + 8 + length value) 4096 read changed old new stands (omega arith) after in
    let same = part_in at (place + 8) (length value) s new changed covers behind stands.put in
    record {
      kind = u64_at-same 0 (place + 8) 0 old new b (omega arith) (omega (arith, place_is, inside.above, sound.below_heap));
      level = u64_at-same 0 (place + 8) 16 old new b (omega arith) (omega (arith, place_is, inside.above, sound.below_heap));
      count = u64_at-same 0 (place + 8) 8 old new b (omega arith) (omega (arith, place_is, inside.above, sound.below_heap));
      heap = u64_at-same 0 (place + 8) 24 old new b (omega arith) (omega (arith, place_is, inside.above, sound.below_heap));
      each = λ k low. slot_of-same 0 (place + 8) k old new b (omega arith) (omega (arith, place_is, inside.above, sound.below_heap, low));
      key = u64_at-same 0 (place + 8) (slot_of old at).place old new b (omega arith) (omega (arith, place_is));
      put = ap (λ (n : ℕ). slice_range new (n + 8) ((slot_of old at).place + (slot_of old at).size)) place_is ∙ ap (slice_range new (place + 8)) (omega (arith, place_is, size_is))
          ∙ sym (range-same (place + 8) (place + 8 + length value) (place + 8) (place + 8 + length value) new changed same (omega arith) (omega arith) (omega (arith, size_new)) (size_changed ∙ sym size_new)) ∙ here;
      before = same_part 0 ((slot_of old at).place) 0 (place + 8) old new b (omega arith) (omega (arith, place_is));
      after = same_part ((slot_of old at).place + (slot_of old at).size) 4096 (place + 8 + length value) 4096 old new a (omega (arith, place_is, size_is)) (omega arith);
      size = size_new;
    }

-- no record moved
set_placed : (expect : Expect) (key at : ℕ) (value old new : List ℕ) → expect.level ≡ 0 → IsWellFormed old expect → IsSpot old expect key (spots.Row at) → (slot_of old at).size ≡ 8 + length value → Sets at value old new → PlacesRecord key (length value) old new
set_placed expect key at value old new level well spot size_is sets =
    let d : Row = (key, value) in
    let facts = leaf_facts old expect level well in
    let got = key_at (leaf_rows old) at key d spot.1 in
    let there = row_place expect.low expect.high key at (leaf_rows old) d facts.order got.0 got.1 in
    record {
      fresh = λ none. let clash : true ≡ false = sym there.1 ∙ none in absurd (cc);
      same = λ some is. slots_set at value old new sets;
      other = λ some ne. absurd (ne (sym (ap (λ (i : ℕ). (slot_of old i).size) there.0) ∙ size_is));
    }

pub was_set : {A : Type 0} (page at place size key : ℕ) (value : List ℕ) (expect : Expect) (s : Spread) (header read spare changed : List ℕ) (old first second mid new : Standing A) → IsTrue old.told
    → expect.level ≡ 0 → expect.high ≤ last_key → expect.low ≤ key → key ≤ expect.high → list_all is_printable value ≡ true → size ≡ 8 + length value → 68 + 4 * at ≤ place → place + size ≤ 4096 → InOrder s → Covers at at (place + 8) (length value) s
    → Same 0 64 (bytes_of old.current page) header → place ≡ u16_at (bytes_of first.current page) (64 + 4 * at) → size ≡ u16_at (bytes_of first.current page) (64 + 4 * at + 2)
    → ReadsPage page old first → ReadsPage page first second → ReadsPage page second mid → (Same 0 64 (bytes_of second.current page) header → AlikeIn s (bytes_of second.current page) read) → spare ≡ read
    → slice_range changed (place + 8) (place + 8 + length value) ≡ value → Same 0 (place + 8) read changed → Same (place + 8 + length value) 4096 read changed → length read ≡ 4096 → length changed ≡ 4096
    → (AlikeIn s (bytes_of mid.current page) spare → StandsFor s spare changed (bytes_of mid.current page) (bytes_of new.current page)) → (AlikeIn s (bytes_of mid.current page) spare → OtherPages page mid.current new.current)
    → WritesOnly page (Differs spare changed) mid new → new.room + lines_changed spare changed ≡ mid.room
    → (IsWellFormed (bytes_of old.current page) expect → IsSpot (bytes_of old.current page) expect key (spots.Row at)) → PutByLines page expect key value old new
was_set page at place size key value expect s header read spare changed old first second mid new told level top above within printable long behind inside order covers header_known place_is size_is r1 r2 r3 knows spare_is here before after size_read size_changed standing others touches room_is spot =
    let w = bytes_of old.current page in
    let w_new = bytes_of new.current page in
    let same1 = r1.current told in
    let told1 = subst IsTrue (sym r1.told) told in
    let same2 = r2.current told1 ∙ same1 in
    let told2 = subst IsTrue (sym r2.told) told1 in
    let same3 = r3.current told2 ∙ same2 in
    let known : AlikeIn s w read = subst (λ (lines : Lines). AlikeIn s (bytes_of lines page) read) same2 (knows (subst (λ (lines : Lines). Same 0 64 (bytes_of lines page) header) (sym same2) header_known)) in
    let known_mid : AlikeIn s (bytes_of mid.current page) spare = subst (λ (b : List ℕ). AlikeIn s (bytes_of mid.current page) b) (sym spare_is) (subst (λ (lines : Lines). AlikeIn s (bytes_of lines page) read) (sym same3) known) in
    let stands : StandsFor s read changed w w_new = subst (λ (b : List ℕ). StandsFor s b changed w w_new) spare_is (subst (λ (lines : Lines). StandsFor s spare changed (bytes_of lines page) w_new) same3 (standing known_mid)) in
    let n3 = length-page_bytes (old.current page) in
    let n4 = length-page_bytes (new.current page) in
    let beyond = value_beyond at (place + 8) (length value) s read changed covers (omega (arith, behind)) before after in
    let reads = ReadsPage-trans (ReadsPage-trans r1 r2) r3 in
    let touched : WritesOnly page (Differs read changed) mid new = subst (λ (b : List ℕ). WritesOnly page (Differs b changed) mid new) spare_is touches in
    let counted = count_alike s read changed w w_new order stands beyond size_read size_changed n3 n4 in
    let spent : lines_changed spare changed ≡ lines_changed read changed = ap (λ b. lines_changed b changed) spare_is in
    let place_w : place ≡ u16_at w (64 + 4 * at) = place_is ∙ ap (λ (lines : Lines). u16_at (bytes_of lines page) (64 + 4 * at)) same1 in
    let size_w : 8 + length value ≡ u16_at w (64 + 4 * at + 2) = sym long ∙ size_is ∙ ap (λ (lines : Lines). u16_at (bytes_of lines page) (64 + 4 * at + 2)) same1 in
    let slot_is : slot_of w at ≡ record { place = place; size = 8 + length value } = rw (place_w, size_w) refl in
    let sets = λ (well : IsWellFormed w expect). value_sets expect key at place value s read changed w w_new level top covers stands (omega (arith, behind)) before after here (omega (arith, long, inside)) n3 n4 size_changed well (spot well) slot_is in
    let holds = λ (well : IsWellFormed w expect). set_holds expect key at value w w_new level top above within printable n3 well (spot well) (sets well) (sym size_w) in
    record {
      rows = λ well. (holds well).1;
      placed = λ well. set_placed expect key at value w w_new level well (spot well) (sym size_w) (sets well);
      others = λ n ne. others known_mid n ne ∙ ap (λ (lines : Lines). lines n) same3;
      only = only_then page (Differs w w_new) (only_nothing page (Differs w w_new) (nothing_read reads)) (only_alike page s read changed w w_new order stands beyond size_read size_changed n3 n4 touched);
      once = omega (arith, room_is, reads.room, counted, spent);
      again = λ well old_holds. set_record w w_new key at (holds well).0 n3 n4
          (same_part 0 ((slot_of w at).place + 8) 0 (place + 8) w w_new (through s 0 (place + 8) read changed w w_new stands (omega (arith, long, inside)) before) (omega arith) (omega (arith, place_w)))
          (sets well).after;
    }

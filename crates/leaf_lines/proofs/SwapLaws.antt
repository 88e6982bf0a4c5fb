-- A value put in place of another of any length, by its lines.
use Rattle.std.proofs.Common.{◌≡◌, ◌≢◌, ℕ, zero, suc, ◌+◌, ◌-◌, ◌*◌, ◌<◌, ◌≤◌, inl, inr, ◌⊎◌, ◌||◌, Bool, true, false, IsTrue, List, [], ◌∷◌, length, get_or, set, slice_set, nat_le, refl, ap, sym, subst, ◌∙◌, arith}
use Rattle.std.specs.List.{list_all}
use Rattle.std.proofs.lemmas.Bool.{and_parts, cases_eq, le-leb, leb-true}
use Rattle.std.proofs.lemmas.List.{same_lists, length-set, get_or-set_same, get_or-set_other}
use Rattle.std.proofs.lemmas.List.Edits.{length-between}
use Rattle.std.proofs.Math.Bool.{or-true}
use Rattle.ssd_model.specs.Page.{Same}
use Rattle.line_pages.specs.Lines.{Lines}
use Rattle.line_pages.specs.Bytes.{bytes_of, u16_at, u64_at}
use Rattle.line_pages.specs.Standing.{Standing, ReadsPage}
use Rattle.line_pages.proofs.ByteLaws.{length-page_bytes}
use Rattle.line_pages.proofs.NumberLaws.{u64_at-same, same_part}
use Rattle.line_pages.proofs.StandingLaws.{ReadsPage-trans}
use Rattle.page_format.specs.declared.root.Expect.{Expect}
use Rattle.page_format.specs.declared.spot.Spot.TheVariants as spots
use Rattle.rows.specs.Rows.{Row, row_put, Ascends, last_key}
use Rattle.rows.specs.Rows.{keys}
use Rattle.page_format.specs.Node.{Slot, slots, leaf_rows, entry_count, heap_start, is_in_heap, are_apart, all_apart, has_printable_value, row_in, IsWellFormed}
use Rattle.rows.specs.Value.{is_printable}
use Rattle.page_format.specs.Search.{IsSpot}
use Rattle.page_format.specs.Sound.{IsSound, IsRows, row_bytes, slot_of}
use Rattle.page_format.proofs.PageFacts.{leaf_facts}
use Rattle.page_format.proofs.RowLemmas.{row_bytes-cons}
use Rattle.page_format.proofs.SlotLemmas.{length-slots, length_rows, slot_at, row_at, slot_inside, in_heap_one, in_heap_is}
use Rattle.page_format.proofs.FactLemmas.{leaf_from, sound_of, leaf_is}
use Rattle.page_edit.proofs.InsertLemmas.{row_in-same}
use Rattle.page_alloc.specs.Written.{Differs, WritesOnly, lines_changed}
use Rattle.page_alloc.proofs.TouchedLaws.{only_then, only_nothing, nothing_read}
use Rattle.node_edit.specs.Edit.{Holds}
use Rattle.node_edit.specs.Record.{HoldsLength}
use Rattle.node_edit.proofs.KeyPlaceLaws.{put_same}
use Rattle.node_edit.proofs.LeafLaws.{leaf_within, wide_order, put_order, enter_full}
use Rattle.node_edit.proofs.SameLength.{held_place}
use Rattle.leaf_lines.specs.declared.spread.Spread.{Spread}
use Rattle.leaf_lines.specs.Spread.{InOrder, Covers, AlikeIn, StandsFor}
use Rattle.page_edit.specs.Laid.{Lays}
use Rattle.page_alloc.specs.Written.{OtherPages}
use Rattle.leaf_lines.specs.Put.{PutByLines, PlacesRecord, SwapsBelow}
use Rattle.leaf_lines.proofs.SpreadLaws.{Swapped, lays_swaps}
use Rattle.leaf_lines.proofs.CountLaws.{lays_beyond, only_alike, count_alike}
use Rattle.leaf_lines.proofs.RoomLaws.{used_room}
use Rattle.leaf_lines.proofs.SetLaws.{key_at, row_place}

all_put : {X : Type 0} (p : X → Bool) (xs : List X) (i : ℕ) (x : X) → list_all p xs ≡ true → p x ≡ true → list_all p (set xs i x) ≡ true
all_put p [] i x all one = refl
all_put p (y ∷ ys) zero x all one = rw (one, (and_parts (p y) (list_all p ys) all).1) refl
all_put p (y ∷ ys) (suc i) x all one =
    let parts = and_parts (p y) (list_all p ys) all in
    rw (parts.0, all_put p ys i x parts.1 one) refl

lower : (heap low : ℕ) (ys : List Slot) → low ≤ heap → list_all (is_in_heap heap) ys ≡ true → list_all (is_in_heap low) ys ≡ true
lower heap low [] h ok = refl
lower heap low (y ∷ ys) h ok =
    let parts = and_parts (is_in_heap heap y) (list_all (is_in_heap heap) ys) ok in
    let one = in_heap_one heap y parts.0 in
    rw (in_heap_is low y (record { above = omega (arith, one.above); below = one.below; key = one.key; value = one.value }), lower heap low ys h parts.1) refl

apart_both : (heap : ℕ) (x y : Slot) → x.place + x.size ≤ heap → is_in_heap heap y ≡ true → (are_apart x y ≡ true) × (are_apart y x ≡ true)
apart_both heap x y below ok =
    let one = in_heap_one heap y ok in
    let fact = le-leb (x.place + x.size) y.place (omega (arith, one.above)) in
    (rw fact refl, rw (fact, or-true (nat_le (y.place + y.size) x.place)) refl)

apart_all : (heap : ℕ) (x : Slot) (ys : List Slot) → x.place + x.size ≤ heap → list_all (is_in_heap heap) ys ≡ true → list_all (are_apart x) ys ≡ true
apart_all heap x [] below ok = refl
apart_all heap x (y ∷ ys) below ok =
    let parts = and_parts (is_in_heap heap y) (list_all (is_in_heap heap) ys) ok in
    rw ((apart_both heap x y below parts.0).0, apart_all heap x ys below parts.1) refl

apart_set : (heap : ℕ) (x : Slot) (ys : List Slot) (i : ℕ) → x.place + x.size ≤ heap → list_all (is_in_heap heap) ys ≡ true → all_apart ys ≡ true → all_apart (set ys i x) ≡ true
apart_set heap x [] i below ok apart = refl
apart_set heap x (y ∷ ys) zero below ok apart =
    let parts = and_parts (is_in_heap heap y) (list_all (is_in_heap heap) ys) ok in
    let aparts = and_parts (list_all (are_apart y) ys) (all_apart ys) apart in
    rw (apart_all heap x ys below parts.1, aparts.1) refl
apart_set heap x (y ∷ ys) (suc i) below ok apart =
    let parts = and_parts (is_in_heap heap y) (list_all (is_in_heap heap) ys) ok in
    let aparts = and_parts (list_all (are_apart y) ys) (all_apart ys) apart in
    rw (all_put (are_apart y) ys i x aparts.0 (apart_both heap x y below parts.0).1, apart_set heap x ys i below parts.1 aparts.1) refl

slots_swapped : (at place size : ℕ) (row : Row) (old new : List ℕ) → Swapped at place size row old new → at < entry_count old → slots new ≡ set (slots old) at (record { place = place; size = size })
slots_swapped at place size row old new swaps within =
    let slot : Slot = record { place = place; size = size } in
    let count = length-slots old in
    let count_new = length-slots new in
    let longer = length-set (slots old) at slot in
    same_lists (slots new) (set (slots old) at slot) (omega (arith, swaps.count, longer)) (λ k d k_in.
    let here : k < entry_count old = omega (arith, swaps.count) in
    elim (cases_eq k at) [
      | inl e ↦ rw e (slot_at new at d (omega (arith, swaps.count)) ∙ swaps.here ∙ sym (get_or-set_same (slots old) at slot d (omega arith)))
      | inr ne ↦ slot_at new k d (omega arith) ∙ swaps.each k ne here ∙ sym (slot_at old k d here) ∙ sym (get_or-set_other (slots old) at k slot d ne)
    ])

sound_swapped : (at place size : ℕ) (row : Row) (old new : List ℕ) → Swapped at place size row old new → at < entry_count old → place + size ≡ heap_start old → IsSound old → 8 ≤ size → size ≤ 488 → 64 + 4 * entry_count old ≤ place → IsSound new
sound_swapped at place size row old new swaps within below sound least most room =
    let slot : Slot = record { place = place; size = size } in
    let is = slots_swapped at place size row old new swaps within in
    record {
      size = swaps.size_new;
      kind = swaps.kind ∙ sound.kind;
      level = swaps.level ∙ sound.level;
      below_heap = omega (arith, swaps.count, swaps.heap, room);
      heap = omega (arith, swaps.heap, sound.heap);
      in_heap = rw (swaps.heap, is) (all_put (is_in_heap place) (slots old) at slot (lower (heap_start old) place (slots old) (omega arith) sound.in_heap)
          (in_heap_is place slot (record { above = omega arith; below = omega (arith, sound.heap); key = least; value = most })));
      apart = rw is (apart_set (heap_start old) slot (slots old) at (omega arith) sound.in_heap sound.apart);
    }

rows_swapped : (at place size : ℕ) (row : Row) (old new : List ℕ) → Swapped at place size row old new → at < entry_count old → place + size ≡ heap_start old → IsSound old → leaf_rows new ≡ set (leaf_rows old) at row
rows_swapped at place size row old new swaps within below sound =
    let count = length_rows old in
    let count_new = length_rows new in
    let longer = length-set (leaf_rows old) at row in
    same_lists (leaf_rows new) (set (leaf_rows old) at row) (omega (arith, swaps.count, longer)) (λ k d k_in.
    let here : k < entry_count old = omega (arith, swaps.count) in
    elim (cases_eq k at) [
      | inl e ↦ rw e (row_at new at d (omega (arith, swaps.count)) ∙ ap (row_in new) swaps.here ∙ swaps.record_is ∙ sym (get_or-set_same (leaf_rows old) at row d (omega arith)))
      | inr ne ↦
          let inside = slot_inside old k sound here in
          row_at new k d (omega arith) ∙ ap (row_in new) (swaps.each k ne here)
          ∙ row_in-same (place + size) 4096 old new (slot_of old k) swaps.rest (omega (arith, inside.above)) (omega (arith, inside.below, inside.key)) inside.below (omega (arith, swaps.size_old)) (omega (arith, swaps.size_old, swaps.size_new))
          ∙ sym (row_at old k d here) ∙ sym (get_or-set_other (leaf_rows old) at k row d ne)
    ])

bytes_more : (rows : List Row) (at key : ℕ) (value : List ℕ) (d : Row) → at < length rows → length (get_or rows at d).1 ≤ length value → row_bytes rows ≤ row_bytes (slice_set rows at (key, value))
bytes_more [] at key value d within more = absurd (omega (arith, within))
bytes_more (row ∷ rows) zero key value d within more = omega (arith, row_bytes-cons (key, value) rows, row_bytes-cons row rows, more)
bytes_more (row ∷ rows) (suc at) key value d within more = omega (arith, row_bytes-cons row (slice_set rows at (key, value)), row_bytes-cons row rows, bytes_more rows at key value d (omega (arith, within)) more)

full_or : (root : Bool) (n m : ℕ) → (root ≡ true) ⊎ (n ≤ m) → (root || nat_le 1344 n) ≡ true → (root || nat_le 1344 m) ≡ true
full_or true n m more full = refl
full_or false n m (inl is) full = absurd (cc)
full_or false n m (inr more) full = le-leb 1344 m (omega (arith, more, leb-true 1344 n full))

pub swap_holds : (expect : Expect) (key at : ℕ) (value old new : List ℕ) → expect.level ≡ 0 → expect.high ≤ last_key → expect.low ≤ key → key ≤ expect.high → length value ≤ 480 → list_all is_printable value ≡ true
    → length old ≡ 4096 → IsWellFormed old expect → IsSpot old expect key (spots.Row at) → 64 + 4 * entry_count old + (8 + length value) ≤ heap_start old → (expect.root ≡ true) ⊎ ((slot_of old at).size ≤ 8 + length value)
    → Swapped at (heap_start old - (8 + length value)) (8 + length value) (key, value) old new → Holds leaf_rows expect new (row_put key value (leaf_rows old))
swap_holds expect key at value old new level top above within few printable size well spot room more swaps =
    let d : Row = (key, value) in
    let rows = leaf_rows old in
    let long = 8 + length value in
    let leaf = leaf_from old expect size level top well in
    let sound = sound_of old size leaf in
    let facts = leaf_facts old expect level well in
    let got = key_at rows at key d spot.1 in
    let at_in : at < entry_count old = omega (arith, got.0, length_rows old) in
    let there = row_place expect.low expect.high key at rows d facts.order got.0 got.1 in
    let below : heap_start old - long + long ≡ heap_start old = omega (arith, room) in
    let put = rows_swapped at (heap_start old - long) long d old new swaps at_in below sound in
    let sound_new = sound_swapped at (heap_start old - long) long d old new swaps at_in below sound (omega arith) (omega (arith, few)) (omega (arith, room)) in
    let used = used_room new sound_new in
    let is : row_put key value rows ≡ set rows at d = put_same key value rows d there.1 ∙ ap (λ (i : ℕ). slice_set rows i ((get_or rows i d).0, value)) (sym there.0) ∙ ap (λ (k : ℕ). slice_set rows at (k, value)) got.1 in
    let order = put_order expect.low expect.high key value rows (set rows at d) above within facts.order is in
    let rows_new : IsRows (leaf_rows new) = record {
      used = omega (arith, used, swaps.heap, swaps.count, room);
      order = subst (λ (all : List Row). Ascends 0 last_key (keys all)) (sym put) (wide_order expect.low expect.high (keys (set rows at d)) top order);
      printable = subst (λ (all : List Row). list_all has_printable_value all ≡ true) (sym put) (all_put has_printable_value rows at d facts.printable printable);
    } in
    let leaf_new = leaf_is new sound_new rows_new in
    let inside = slot_inside old at sound at_in in
    let was : length (get_or rows at d).1 + 8 ≡ (slot_of old at).size =
    omega (arith, ap (λ (r : Row). length r.1) (row_at old at d at_in), length-between old ((slot_of old at).place + 8) ((slot_of old at).place + (slot_of old at).size) (omega (arith, inside.below, size)), inside.key) in
    let grows : (expect.root ≡ true) ⊎ (row_bytes rows ≤ row_bytes (leaf_rows new)) = elim more [
      | inl root ↦ inl root
      | inr longer ↦ inr (subst (λ (all : List Row). row_bytes rows ≤ row_bytes all) (sym put) (bytes_more rows at key value d got.0 (omega (arith, was, longer))))
    ] in
    record {
      well = leaf_within new expect swaps.size_new level leaf_new (subst (λ (all : List Row). Ascends expect.low expect.high (keys all)) (sym put) order) (full_or expect.root (row_bytes rows) (row_bytes (leaf_rows new)) grows (enter_full old expect size level top well));
      are = put ∙ sym is;
    }

-- a row whose record has another length has no value of this one
other_length : (expect : Expect) (key at size : ℕ) (bytes : List ℕ) → expect.level ≡ 0 → expect.high ≤ last_key → length bytes ≡ 4096 → IsWellFormed bytes expect → IsSpot bytes expect key (spots.Row at) → (slot_of bytes at).size ≢ 8 + size → HoldsLength key size (leaf_rows bytes) → ⊥
other_length expect key at size bytes level top long well spot other holds =
    let d : Row = (0, []) in
    let rows = leaf_rows bytes in
    let sound = sound_of bytes long (leaf_from bytes expect long level top well) in
    let facts = leaf_facts bytes expect level well in
    let got = key_at rows at key d spot.1 in
    let at_in : at < entry_count bytes = omega (arith, got.0, length_rows bytes) in
    let there = row_place expect.low expect.high key at rows d facts.order got.0 got.1 in
    let held = held_place expect.low expect.high key holds.held rows facts.order holds.is in
    let inside = slot_inside bytes at sound at_in in
    let value = ap length (ap (λ (i : ℕ). (get_or rows i d).1) there.0 ∙ held.1 d) ∙ holds.long in
    let was = length-between bytes ((slot_of bytes at).place + 8) ((slot_of bytes at).place + (slot_of bytes at).size) (omega (arith, inside.below, long)) in
    other (omega (arith, value, was, ap (λ (r : Row). length r.1) (row_at bytes at d at_in), inside.key))

-- the record of the row stands just below the heap
swaps_below : (at size : ℕ) (row : Row) (old new : List ℕ) → Swapped at (heap_start old - size) size row old new → at < entry_count old → size ≤ heap_start old → SwapsBelow at size old new
swaps_below at size row old new swaps within room = record {
  adds = record {
    heap = omega (arith, swaps.heap, room);
    kept = same_part (heap_start old) 4096 (heap_start old - size + size) 4096 _ _ swaps.rest (omega (arith, room)) (omega arith);
  };
  slots_are = slots_swapped at (heap_start old - size) size row old new swaps within ∙ ap (λ (place : ℕ). slice_set (slots old) at (record { place = place; size = size })) (sym swaps.heap);
}

swap_placed : (expect : Expect) (key at long : ℕ) (row : Row) (old new : List ℕ) → expect.level ≡ 0 → IsWellFormed old expect → IsSpot old expect key (spots.Row at) → (slot_of old at).size ≢ 8 + long
    → Swapped at (heap_start old - (8 + long)) (8 + long) row old new → 8 + long ≤ heap_start old → PlacesRecord key long old new
swap_placed expect key at long row old new level well spot other swaps room =
    let facts = leaf_facts old expect level well in
    let got = key_at (leaf_rows old) at key row spot.1 in
    let at_in : at < entry_count old = omega (arith, got.0, length_rows old) in
    let there = row_place expect.low expect.high key at (leaf_rows old) row facts.order got.0 got.1 in
    record {
      fresh = λ none. let clash : true ≡ false = sym there.1 ∙ none in absurd (cc);
      same = λ some is. absurd (other (ap (λ (i : ℕ). (slot_of old i).size) there.0 ∙ is));
      other = λ some ne. subst (λ (i : ℕ). SwapsBelow i (8 + long) old new) there.0 (swaps_below at (8 + long) row old new swaps at_in room);
    }

pub was_swapped : {A : Type 0} (page at count heap size key : ℕ) (value : List ℕ) (expect : Expect) (s : Spread) (header read spare changed : List ℕ) (old first second mid new : Standing A) → IsTrue old.told
    → expect.level ≡ 0 → expect.high ≤ last_key → expect.low ≤ key → key ≤ expect.high → length value ≤ 480 → list_all is_printable value ≡ true
    → size ≢ 8 + length value → at < count → heap ≤ 4096 → 64 + 4 * count + (8 + length value) ≤ heap → (expect.root ≡ true) ⊎ (size ≤ 8 + length value) → InOrder s → Covers at at (heap - (8 + length value)) (8 + length value) s
    → Same 0 64 (bytes_of old.current page) header → count ≡ u64_at header 8 → heap ≡ u64_at header 24 → size ≡ u16_at (bytes_of first.current page) (64 + 4 * at + 2)
    → ReadsPage page old first → ReadsPage page first second → ReadsPage page second mid → (Same 0 64 (bytes_of second.current page) header → AlikeIn s (bytes_of second.current page) read) → spare ≡ read
    → Lays at at count (heap - (8 + length value)) (8 + length value) (key, value) read changed → length read ≡ 4096 → length changed ≡ 4096
    → (AlikeIn s (bytes_of mid.current page) spare → StandsFor s spare changed (bytes_of mid.current page) (bytes_of new.current page)) → (AlikeIn s (bytes_of mid.current page) spare → OtherPages page mid.current new.current)
    → WritesOnly page (Differs spare changed) mid new → new.room + lines_changed spare changed ≡ mid.room
    → (IsWellFormed (bytes_of old.current page) expect → IsSpot (bytes_of old.current page) expect key (spots.Row at)) → PutByLines page expect key value old new
was_swapped page at count heap size key value expect s header read spare changed old first second mid new told level top above within few printable other at_in heap_in room more order covers header_known count_is heap_is size_is r1 r2 r3 knows spare_is lays size_read size_changed standing others touches room_is spot =
    let w = bytes_of old.current page in
    let w_new = bytes_of new.current page in
    let long = 8 + length value in
    let same1 = r1.current told in
    let told1 = subst IsTrue (sym r1.told) told in
    let same2 = r2.current told1 ∙ same1 in
    let told2 = subst IsTrue (sym r2.told) told1 in
    let same3 = r3.current told2 ∙ same2 in
    let known : AlikeIn s w read = subst (λ (lines : Lines). AlikeIn s (bytes_of lines page) read) same2 (knows (subst (λ (lines : Lines). Same 0 64 (bytes_of lines page) header) (sym same2) header_known)) in
    let known_mid : AlikeIn s (bytes_of mid.current page) spare = subst (λ (b : List ℕ). AlikeIn s (bytes_of mid.current page) b) (sym spare_is) (subst (λ (lines : Lines). AlikeIn s (bytes_of lines page) read) (sym same3) known) in
    let stands : StandsFor s read changed w w_new = subst (λ (b : List ℕ). StandsFor s b changed w w_new) spare_is (subst (λ (lines : Lines). StandsFor s spare changed (bytes_of lines page) w_new) same3 (standing known_mid)) in
    let n3 = length-page_bytes (old.current page) in
    let n4 = length-page_bytes (new.current page) in
    let beyond = lays_beyond at at count (heap - long) long (key, value) s read changed order covers lays in
    let count_w : count ≡ entry_count w = count_is ∙ u64_at-same 0 64 8 w header header_known (omega arith) (omega arith) in
    let heap_w : heap ≡ heap_start w = heap_is ∙ u64_at-same 0 64 24 w header header_known (omega arith) (omega arith) in
    let swaps = lays_swaps at count (heap - long) long (key, value) s read changed w w_new order covers stands lays at_in (omega (arith, room)) (omega (arith, room, heap_in)) (omega arith) count_w n3 n4 size_changed in
    let swaps_w = subst (λ (h : ℕ). Swapped at (h - long) long (key, value) w w_new) heap_w swaps in
    let size_w : size ≡ u16_at w (64 + 4 * at + 2) = size_is ∙ ap (λ (lines : Lines). u16_at (bytes_of lines page) (64 + 4 * at + 2)) same1 in
    let reads = ReadsPage-trans (ReadsPage-trans r1 r2) r3 in
    let touched : WritesOnly page (Differs read changed) mid new = subst (λ (b : List ℕ). WritesOnly page (Differs b changed) mid new) spare_is touches in
    let counted = count_alike s read changed w w_new order stands beyond size_read size_changed n3 n4 in
    let spent : lines_changed spare changed ≡ lines_changed read changed = ap (λ b. lines_changed b changed) spare_is in
    record {
      rows = λ well. swap_holds expect key at value w w_new level top above within few printable n3 well (spot well) (omega (arith, room, count_w, heap_w)) (subst (λ (n : ℕ). (expect.root ≡ true) ⊎ (n ≤ long)) size_w more) swaps_w;
      placed = λ well. swap_placed expect key at (length value) (key, value) w w_new level well (spot well) (λ e. other (size_w ∙ e)) swaps_w (omega (arith, room, heap_w));
      others = λ n ne. others known_mid n ne ∙ ap (λ (lines : Lines). lines n) same3;
      only = only_then page (Differs w w_new) (only_nothing page (Differs w w_new) (nothing_read reads)) (only_alike page s read changed w w_new order stands beyond size_read size_changed n3 n4 touched);
      once = omega (arith, room_is, reads.room, counted, spent);
      again = λ well holds line differs. absurd (other_length expect key at (length value) w level top n3 well (spot well) (λ e. other (size_w ∙ e)) holds);
    }

-- The rows of a leaf after one was taken out by its lines.
use Rattle.std.proofs.Common.{◌≡◌, ℕ, zero, suc, ◌+◌, ◌-◌, ◌*◌, ◌<◌, ◌≤◌, ◌||◌, inl, inr, Bool, true, false, IsTrue, List, [], ◌∷◌, length, get_or, nat_le, refl, ap, sym, subst, ◌∙◌, arith}
use Rattle.std.specs.List.{list_all, remove}
use Rattle.std.proofs.lemmas.Bool.{cases_lt, le-leb, lt-leb}
use Rattle.std.proofs.lemmas.List.{same_lists}
use Rattle.std.proofs.lemmas.List.Edits.{length-between}
use Rattle.std.proofs.lemmas.List.Sums.{sum_by-cons}
use Rattle.ssd_model.specs.Page.{Same, Moved}
use Rattle.line_pages.specs.Lines.{Lines}
use Rattle.line_pages.specs.Bytes.{bytes_of, u64_at}
use Rattle.line_pages.specs.Standing.{Standing, ReadsPage}
use Rattle.line_pages.proofs.ByteLaws.{length-page_bytes}
use Rattle.line_pages.proofs.NumberLaws.{u64_at-same, same_part}
use Rattle.line_pages.proofs.StandingLaws.{ReadsPage-trans}
use Rattle.page_format.specs.declared.root.Expect.{Expect}
use Rattle.rows.specs.Rows.{Row, keys, Ascends, last_key}
use Rattle.page_format.specs.Room.{row_size}
use Rattle.page_format.specs.Node.{Slot, slots, leaf_rows, entry_count, heap_start, bytes_used, row_in, IsWellFormed}
use Rattle.page_format.specs.Sound.{IsSound, IsRows, row_bytes, slot_of}
use Rattle.page_format.proofs.PageFacts.{leaf_facts}
use Rattle.page_format.proofs.RowLemmas.{row_bytes-cons}
use Rattle.page_format.proofs.SlotLemmas.{length-slots, length_rows, slot_at, row_at, slot_inside}
use Rattle.page_format.proofs.FactLemmas.{leaf_from, sound_of, rows_of_leaf, leaf_is, leaf_used_is}
use Rattle.page_edit.specs.Laid.{Drops}
use Rattle.page_edit.proofs.InsertLemmas.{slot_of-same}
use Rattle.page_edit.proofs.RemoveLemmas.{TakesOut, dropped_out, slots_out, rows_out, sound_out, rows_remove, Ascends-remove}
use Rattle.page_alloc.specs.Written.{OtherPages, Differs, WritesOnly, lines_changed}
use Rattle.page_alloc.proofs.TouchedLaws.{only_then, only_nothing, nothing_read}
use Rattle.page_alloc.proofs.WrittenLaws.{changed_first}
use Rattle.node_edit.specs.Edit.{Holds}
use Rattle.node_edit.proofs.KeyPlaceLaws.{rows_few}
use Rattle.node_edit.proofs.LeafLaws.{leaf_within}
use Rattle.leaf_lines.specs.declared.spread.Spread.{Spread}
use Rattle.leaf_lines.specs.Spread.{InOrder, AlikeIn, AlikeBeyond, StandsFor}
use Rattle.leaf_lines.specs.Removal.{RemovedByLines, keeps_floor}
use Rattle.leaf_lines.proofs.SpreadLaws.{through}
use Rattle.leaf_lines.proofs.CountLaws.{only_alike, count_alike}

-- lines that have the slots from an index on, up to so many
pub record HasSlots (from count : ℕ) (s : Spread) : Type 0 where
  pub order : InOrder s
  pub slots : 64 * s.slots ≤ 64 + 4 * from
  pub slots_end : 64 + 4 * count ≤ 64 * s.slots_end

-- slots that are alike
slots_alike : (end : ℕ) (one other : List ℕ) → Same 0 end one other → 64 + 4 * entry_count one ≤ end → slots other ≡ slots one
slots_alike end one other same within =
    let count : entry_count other ≡ entry_count one = u64_at-same 0 end 8 one other same (omega arith) (omega (arith, within)) in
    let n = length-slots one in
    let m = length-slots other in
    same_lists (slots other) (slots one) (omega (arith, n, m, count)) (λ k d k_in.
    slot_at other k d (omega (arith, k_in, m)) ∙ slot_of-same 0 end k one other same (omega arith) (omega (arith, k_in, m, count, within)) ∙ sym (slot_at one k d (omega (arith, k_in, m, count))))

-- the line of the header and those of all slots lie together
known_slots : (count : ℕ) (s : Spread) (one other : List ℕ) → HasSlots 0 count s → AlikeIn s one other → Same 0 (64 + 4 * count) one other
known_slots count s one other has alike = record {
  each = λ j low high.
      elim (cases_lt j 64) [
        | inl header ↦ alike.header.each j low header
        | inr past ↦ alike.slots.each j (omega (arith, past, has.slots)) (omega (arith, high, has.slots_end))
      ];
}

-- what the other rows take
bytes_without : (rows : List Row) (at : ℕ) (d : Row) → at < length rows → row_bytes rows ≡ row_bytes (remove rows at) + row_size (get_or rows at d)
bytes_without [] at d within = absurd (omega (arith, within))
bytes_without (row ∷ rows) zero d within = let all = row_bytes-cons row rows in omega (arith, all)
bytes_without (row ∷ rows) (suc at) d within =
    let all = row_bytes-cons row rows in
    let left = row_bytes-cons row (remove rows at) in
    let rest = bytes_without rows at d (omega (arith, within)) in
    omega (arith, all, left, rest)

left_bytes : (at : ℕ) (w : List ℕ) → IsSound w → at < entry_count w → row_bytes (remove (leaf_rows w) at) + (4 + (slot_of w at).size) ≡ bytes_used (slots w)
left_bytes at w sound within =
    let d : Row = (0, []) in
    let inside = slot_inside w at sound within in
    let value = length-between w ((slot_of w at).place + 8) ((slot_of w at).place + (slot_of w at).size) (omega (arith, inside.below, sound.size)) in
    let row = ap (λ (r : Row). length r.1) (row_at w at d within) in
    let all = bytes_without (leaf_rows w) at d (omega (arith, within, length_rows w)) in
    let used = leaf_used_is w sound in
    omega (arith, used, all, row, value, inside.key)

le_same : (a b c n m : ℕ) → n ≡ a + c → m ≡ b + c → nat_le n m ≡ nat_le a b
le_same a b c n m is_n is_m =
    elim (cases_lt b a) [
      | inl less ↦ lt-leb n m (omega (arith, is_n, is_m, less)) ∙ sym (lt-leb a b less)
      | inr more ↦ le-leb n m (omega (arith, is_n, is_m, more)) ∙ sym (le-leb a b more)
    ]

-- the slots tell whether the leaf keeps its floor
enough_is : (root : Bool) (at : ℕ) (w read : List ℕ) → IsSound w → at < entry_count w → (root ≡ false → Same 0 (64 + 4 * entry_count w) w read)
    → (root || nat_le (1344 + (4 + (slot_of read at).size)) (bytes_used (slots read))) ≡ keeps_floor root (remove (leaf_rows w) at)
enough_is true at w read sound within same = refl
enough_is false at w read sound within same =
    let known = same refl in
    let slot = slot_of-same 0 (64 + 4 * entry_count w) at w read known (omega arith) (omega (arith, within)) in
    let all = slots_alike (64 + 4 * entry_count w) w read known (omega arith) in
    ap (λ (x : Slot). nat_le (1344 + (4 + x.size)) (bytes_used (slots read))) slot ∙ ap (λ (xs : List Slot). nat_le (1344 + (4 + (slot_of w at).size)) (bytes_used xs)) all
    ∙ le_same 1344 (row_bytes (remove (leaf_rows w) at)) (4 + (slot_of w at).size) (1344 + (4 + (slot_of w at).size)) (bytes_used (slots w)) refl (sym (left_bytes at w sound within))

-- a leaf in order has at most 336 rows
pub few_rows : (expect : Expect) (w : List ℕ) → length w ≡ 4096 → expect.level ≡ 0 → expect.high ≤ last_key → IsWellFormed w expect → entry_count w ≤ 336
few_rows expect w size level top well =
    let rows = rows_of_leaf w size (leaf_from w expect size level top well) in
    omega (arith, rows.used, rows_few (leaf_rows w), length_rows w)

-- why it is left, and that it is done
pub left_early : (expect : Expect) (at count : ℕ) (w header : List ℕ) → length w ≡ 4096 → expect.level ≡ 0 → expect.high ≤ last_key → Same 0 64 w header → count ≡ u64_at header 8 → IsWellFormed w expect → at < entry_count w
    → (count ≤ 336 → count ≤ at) → false ≡ keeps_floor expect.root (remove (leaf_rows w) at)
left_early expect at count w header size level top known count_is well within odd =
    let count_w : count ≡ entry_count w = count_is ∙ u64_at-same 0 64 8 w header known (omega arith) (omega arith) in
    let few = few_rows expect w size level top well in
    let past = odd (omega (arith, few, count_w)) in
    absurd (omega (arith, past, count_w, within))

pub floor_told : (expect : Expect) (at count from : ℕ) (w header read : List ℕ) (s : Spread) (enough : Bool) → length w ≡ 4096 → expect.level ≡ 0 → expect.high ≤ last_key → Same 0 64 w header → count ≡ u64_at header 8 → IsWellFormed w expect → at < entry_count w
    → HasSlots from count s → (expect.root ≡ false → from ≡ 0) → AlikeIn s w read → enough ≡ (expect.root || nat_le (1344 + (4 + (slot_of read at).size)) (bytes_used (slots read)))
    → enough ≡ keeps_floor expect.root (remove (leaf_rows w) at)
floor_told expect at count from w header read s enough size level top known count_is well within has starts alike is =
    let count_w : count ≡ entry_count w = count_is ∙ u64_at-same 0 64 8 w header known (omega arith) (omega arith) in
    let sound = sound_of w size (leaf_from w expect size level top well) in
    is ∙ enough_is expect.root at w read sound within (λ below.
    subst (λ (n : ℕ). Same 0 (64 + 4 * n) w read) count_w (known_slots count s w read (subst (λ (n : ℕ). HasSlots n count s) (starts below) has) alike))

-- a slot that was dropped from the buffers by these lines was dropped from the page
drops_through : (at count from : ℕ) (s : Spread) (read changed old new : List ℕ) → HasSlots from count s → from ≤ at → at < count → count ≤ 1008 → StandsFor s read changed old new → Drops at count read changed → Drops at count old new
drops_through at count from s read changed old new has order within few stands drops = record {
  count_is = ap (λ (n : ℕ). n + 1) (sym (u64_at-same 0 64 8 new changed stands.put.header (omega arith) (omega arith))) ∙ drops.count_is;
  kind = through s 0 8 read changed old new stands (omega arith) drops.kind;
  header = through s 16 64 read changed old new stands (omega arith) drops.header;
  before = through s 64 (64 + 4 * at) read changed old new stands (omega (arith, within, few)) drops.before;
  moved = record {
    each = λ j h. sym (stands.put.slots.each (64 + 4 * at + j) (omega (arith, has.slots, order)) (omega (arith, has.slots_end, h))) ∙ drops.moved.each j h
        ∙ stands.known.slots.each (68 + 4 * at + j) (omega (arith, has.slots, order)) (omega (arith, has.slots_end, h));
  };
  after = through s (60 + 4 * count) 4096 read changed old new stands (omega arith) drops.after;
}

-- it changes these lines alone
pub drops_beyond : (at count from : ℕ) (s : Spread) (old new : List ℕ) → HasSlots from count s → from ≤ at → Drops at count old new → AlikeBeyond s old new
drops_beyond at count from s old new has order drops =
    let runs = has.order in
    record {
      low = same_part 64 (64 * s.slots) 64 (64 + 4 * at) old new drops.before (omega arith) (omega (arith, has.slots, order));
      middle = same_part (64 * s.slots_end) (64 * s.heap) (60 + 4 * count) 4096 old new drops.after (omega (arith, has.slots_end)) (omega (arith, runs.third, runs.last));
      high = same_part (64 * s.heap_end) 4096 (60 + 4 * count) 4096 old new drops.after (omega (arith, has.slots_end, runs.second, runs.third)) (omega arith);
    }

-- at most 22 lines hold the header and the slots
pub few_changed : (at count : ℕ) (old new : List ℕ) → count ≤ 336 → Drops at count old new → length old ≡ 4096 → length new ≡ 4096 → lines_changed old new ≤ 22
few_changed at count old new few drops size size_new =
    changed_first old new 22 size size_new (omega arith) (same_part (64 * 22) 4096 (60 + 4 * count) 4096 old new drops.after (omega (arith, few)) (omega arith))

remove_holds : (expect : Expect) (at : ℕ) (old new : List ℕ) → expect.level ≡ 0 → expect.high ≤ last_key → length old ≡ 4096 → IsWellFormed old expect → at < entry_count old → TakesOut at old new
    → keeps_floor expect.root (remove (leaf_rows old) at) ≡ true → Holds leaf_rows expect new (remove (leaf_rows old) at)
remove_holds expect at old new level top size well within out full =
    let leaf = leaf_from old expect size level top well in
    let sound = sound_of old size leaf in
    let facts = leaf_facts old expect level well in
    let is = rows_out at old new out within sound in
    let leaf_new = leaf_is new (sound_out at old new out within sound) (subst IsRows (sym is) (rows_remove (leaf_rows old) at (rows_of_leaf old size leaf))) in
    record {
      well = leaf_within new expect out.size level leaf_new (subst (λ (rows : List Row). Ascends expect.low expect.high (keys rows)) (sym is) (Ascends-remove expect.low expect.high (leaf_rows old) at facts.order))
          (ap (λ (rows : List Row). expect.root || nat_le 1344 (row_bytes rows)) is ∙ full);
      are = is;
    }

-- a row that was taken out by its lines
pub was_removed : {A : Type 0} (page at count from : ℕ) (expect : Expect) (s : Spread) (header read spare changed : List ℕ) (old first mid new : Standing A) → IsTrue old.told → expect.level ≡ 0 → expect.high ≤ last_key
    → from ≤ at → at < count → count ≤ 336 → (expect.root ≡ false → from ≡ 0) → HasSlots from count s → Same 0 64 (bytes_of old.current page) header → count ≡ u64_at header 8 → ReadsPage page old first → ReadsPage page first mid
    → (Same 0 64 (bytes_of first.current page) header → AlikeIn s (bytes_of first.current page) read) → (expect.root || nat_le (1344 + (4 + (slot_of read at).size)) (bytes_used (slots read))) ≡ true → spare ≡ read
    → Drops at count read changed → length read ≡ 4096 → length changed ≡ 4096
    → (AlikeIn s (bytes_of mid.current page) spare → StandsFor s spare changed (bytes_of mid.current page) (bytes_of new.current page)) → (AlikeIn s (bytes_of mid.current page) spare → OtherPages page mid.current new.current)
    → WritesOnly page (Differs spare changed) mid new → new.room + lines_changed spare changed ≡ mid.room
    → (IsWellFormed (bytes_of old.current page) expect → at < entry_count (bytes_of old.current page)) → RemovedByLines page expect at old new
was_removed page at count from expect s header read spare changed old first mid new told level top order at_in few starts has header_known count_is r1 r2 knows enough spare_is drops size_read size_changed standing others touches room_is there =
    let w = bytes_of old.current page in
    let w_new = bytes_of new.current page in
    let same1 = r1.current told in
    let told1 = subst IsTrue (sym r1.told) told in
    let same2 = r2.current told1 ∙ same1 in
    let known : AlikeIn s w read = subst (λ (lines : Lines). AlikeIn s (bytes_of lines page) read) same1 (knows (subst (λ (lines : Lines). Same 0 64 (bytes_of lines page) header) (sym same1) header_known)) in
    let known_mid : AlikeIn s (bytes_of mid.current page) spare = subst (λ (b : List ℕ). AlikeIn s (bytes_of mid.current page) b) (sym spare_is) (subst (λ (lines : Lines). AlikeIn s (bytes_of lines page) read) (sym same2) known) in
    let stands : StandsFor s read changed w w_new = subst (λ (b : List ℕ). StandsFor s b changed w w_new) spare_is (subst (λ (lines : Lines). StandsFor s spare changed (bytes_of lines page) w_new) same2 (standing known_mid)) in
    let n3 = length-page_bytes (old.current page) in
    let n4 = length-page_bytes (new.current page) in
    let beyond = drops_beyond at count from s read changed has order drops in
    let count_w : count ≡ entry_count w = count_is ∙ u64_at-same 0 64 8 w header header_known (omega arith) (omega arith) in
    let dropped = drops_through at count from s read changed w w_new has order at_in (omega (arith, few)) stands drops in
    let out = λ (well : IsWellFormed w expect). let facts = leaf_facts w expect level well in dropped_out at count w w_new dropped at_in count_w (omega (arith, facts.below_heap, count_w)) n4 in
    let reads = ReadsPage-trans r1 r2 in
    let touched : WritesOnly page (Differs read changed) mid new = subst (λ (b : List ℕ). WritesOnly page (Differs b changed) mid new) spare_is touches in
    let counted = count_alike s read changed w w_new has.order stands beyond size_read size_changed n3 n4 in
    let spent : lines_changed spare changed ≡ lines_changed read changed = ap (λ b. lines_changed b changed) spare_is in
    record {
      rows = λ well. remove_holds expect at w w_new level top n3 well (there well) (out well) (sym (floor_told expect at count from w header read s true n3 level top header_known count_is well (there well) has starts known (sym enough)));
      slots_are = λ well. slots_out at w w_new (out well) (there well);
      kept = λ well. same_part (64 + 4 * entry_count w) 4096 (60 + 4 * count) 4096 w w_new dropped.after (omega (arith, count_w)) (omega arith);
      others = λ n ne. others known_mid n ne ∙ ap (λ (lines : Lines). lines n) same2;
      only = only_then page (Differs w w_new) (only_nothing page (Differs w w_new) (nothing_read reads)) (only_alike page s read changed w w_new has.order stands beyond size_read size_changed n3 n4 touched);
      once = omega (arith, room_is, reads.room, counted, spent);
    }

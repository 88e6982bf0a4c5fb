use Rattle.std.proofs.Common.{◌≡◌, ◌≤◌, ℕ, List, IsTrue, arith, sym, subst, rules, ◌∙◌}
use Rattle.line_pages.specs.Bytes.{bytes_of}
use Rattle.line_pages.specs.Lines.{Lines}
use Rattle.ssd_model.specs.Page.{Same}
use Rattle.line_pages.proofs.ByteLaws.{length-page_bytes}
use Rattle.line_pages.proofs.NumberLaws.{u64_at-same}
use Rattle.line_pages.proofs.CostLaws.{Costs-trans, Costs-weaker}
use Rattle.line_pages.proofs.StandingLaws.{ReadsPage-trans, KeepsPages-trans, KeepsPages-then, KeepsPages-stops}
use Rattle.page_format.specs.Node.{entry_count}
use Rattle.page_edit.specs.Laid.{Drops}
use Rattle.leaf_lines.specs.Spread.{AlikeIn, AlikeBeyond}
use Rattle.leaf_lines.proofs.RemovalLaws.{HasSlots, left_early, floor_told, drops_beyond, few_changed, was_removed}
use Rattle.leaf_lines.proofs.removal.remove_by_lines.Goals as goal

pub is_enough-requires-clause-count : goal.is_enough-requires-clause-count
is_enough-requires-clause-count g c =
    c.page_word-rows.ensures.value ∙ sym (u64_at-same 0 64 8 c.read_header.new.into c.read_spread.new.into c.in_ok-read_spread.ensures.header (omega arith) (omega arith))

pub write_spread-requires-clause-alike : goal.write_spread-requires-clause-alike
write_spread-requires-clause-alike g c =
    let lines = c.slot_lines-lines.ensures in
    subst (λ (b : List ℕ). AlikeBeyond c.slot_lines-lines.result b c.drop_slot.new.page) (sym c.copy_from.ensures.value)
    (drops_beyond c.args.at c.page_word-rows.result c.first_slot.result c.slot_lines-lines.result c.read_spread.new.into c.drop_slot.new.page (record { order = lines.order; slots = lines.slots; slots_end = lines.slots_end }) c.first_slot.ensures.order c.drop_slot.ensures.drops)

pub write_spread-requires-clause-room : goal.write_spread-requires-clause-room
write_spread-requires-clause-room g c =
    let drops = subst (λ (b : List ℕ). Drops c.args.at c.page_word-rows.result b c.drop_slot.new.page) (sym c.copy_from.ensures.value) c.drop_slot.ensures.drops in
    let few = few_changed c.args.at c.page_word-rows.result c.copy_from.new.self c.drop_slot.new.page (omega arith) drops c.copy_from.ensures.size c.drop_slot.ensures.size in
    omega (arith, few, c.requires.room, c.in_ok-read_header.ensures.reads.room, c.in_ok-read_spread.ensures.reads.room)

pub returns-clause-room : goal.returns-clause-room
returns-clause-room g c =
    let drops = subst (λ (b : List ℕ). Drops c.args.at c.page_word-rows.result b c.drop_slot.new.page) (sym c.copy_from.ensures.value) c.drop_slot.ensures.drops in
    let few = few_changed c.args.at c.page_word-rows.result c.copy_from.new.self c.drop_slot.new.page (omega arith) drops c.copy_from.ensures.size c.drop_slot.ensures.size in
    omega (arith, few, c.in_ok-read_header.ensures.reads.room, c.in_ok-read_spread.ensures.reads.room, c.in_ok-write_spread.ensures.room)

pub returns-clause-removed : goal.returns-clause-removed
returns-clause-removed g c = λ told.
    let old = g.P.Pages.standing c.args.pages.now in
    let first = g.P.Pages.standing c.read_header.new.pages in
    let mid = g.P.Pages.standing c.read_spread.new.pages in
    let new = g.P.Pages.standing c.write_spread.new.pages in
    let a = c.in_ok-read_header.ensures in
    let b = c.in_ok-read_spread.ensures in
    let d = c.in_ok-write_spread.ensures in
    let lines = c.slot_lines-lines.ensures in
    let told1 = subst IsTrue (sym a.call.continues.told) told in
    let told2 = subst IsTrue (sym b.call.continues.told) told1 in
    was_removed c.args.page c.args.at c.page_word-rows.result c.first_slot.result c.args.expect.now c.slot_lines-lines.result c.read_header.new.into c.read_spread.new.into c.copy_from.new.self c.drop_slot.new.page old first mid new
    told c.requires.level c.top_of.ensures.top c.first_slot.ensures.order (omega arith) (omega arith) c.first_slot.ensures.all (record { order = lines.order; slots = lines.slots; slots_end = lines.slots_end }) (a.known told) c.page_word-rows.ensures.value
    a.reads b.reads (b.known told1) (sym c.is_enough.ensures ∙ c.if-not-is_enough.false) c.copy_from.ensures.value c.drop_slot.ensures.drops c.copy_from.ensures.size_from c.drop_slot.ensures.size (d.stands told2) (d.others told2) d.touches d.room (c.requires.at told)

pub returns-clause-when : goal.returns-clause-when
returns-clause-when g c = λ told well.
    let old = g.P.Pages.standing c.args.pages.now in
    let w = bytes_of old.current c.args.page in
    let a = c.in_ok-read_header.ensures in
    let b = c.in_ok-read_spread.ensures in
    let lines = c.slot_lines-lines.ensures in
    let told1 = subst IsTrue (sym a.call.continues.told) told in
    let same = a.reads.current told in
    let alike = subst (λ (all : Lines). Same 0 64 (bytes_of all c.args.page) c.read_header.new.into → AlikeIn c.slot_lines-lines.result (bytes_of all c.args.page) c.read_spread.new.into) same (b.known told1) in
    sym c.if-not-is_enough.false ∙ floor_told c.args.expect.now c.args.at c.page_word-rows.result c.first_slot.result w c.read_header.new.into c.read_spread.new.into c.slot_lines-lines.result c.is_enough.result (length-page_bytes (old.current c.args.page))
    c.requires.level c.top_of.ensures.top (a.known told) c.page_word-rows.ensures.value well (c.requires.at told well) (record { order = lines.order; slots = lines.slots; slots_end = lines.slots_end }) c.first_slot.ensures.all (alike (a.known told)) c.is_enough.ensures

pub returns-then-not-is_enough-clause-when : goal.returns-then-not-is_enough-clause-when
returns-then-not-is_enough-clause-when g c = λ told well.
    let old = g.P.Pages.standing c.args.pages.now in
    let w = bytes_of old.current c.args.page in
    let a = c.in_ok-read_header.ensures in
    let b = c.in_ok-read_spread.ensures in
    let lines = c.slot_lines-lines.ensures in
    let told1 = subst IsTrue (sym a.call.continues.told) told in
    let same = a.reads.current told in
    let alike = subst (λ (all : Lines). Same 0 64 (bytes_of all c.args.page) c.read_header.new.into → AlikeIn c.slot_lines-lines.result (bytes_of all c.args.page) c.read_spread.new.into) same (b.known told1) in
    sym c.if-not-is_enough.true ∙ floor_told c.args.expect.now c.args.at c.page_word-rows.result c.first_slot.result w c.read_header.new.into c.read_spread.new.into c.slot_lines-lines.result c.is_enough.result (length-page_bytes (old.current c.args.page))
    c.requires.level c.top_of.ensures.top (a.known told) c.page_word-rows.ensures.value well (c.requires.at told well) (record { order = lines.order; slots = lines.slots; slots_end = lines.slots_end }) c.first_slot.ensures.all (alike (a.known told)) c.is_enough.ensures

pub returns-then-rows-gt-MOST_ROWS-clause-when : goal.returns-then-rows-gt-MOST_ROWS-clause-when
returns-then-rows-gt-MOST_ROWS-clause-when g c = λ told well.
    let old = g.P.Pages.standing c.args.pages.now in
    left_early c.args.expect.now c.args.at c.page_word-rows.result (bytes_of old.current c.args.page) c.read_header.new.into (length-page_bytes (old.current c.args.page)) c.requires.level c.top_of.ensures.top (c.in_ok-read_header.ensures.known told)
    c.page_word-rows.ensures.value well (c.requires.at told well) (λ few. omega (arith, few))

pub returns-then-not-is_enough-clause-left : goal.returns-then-not-is_enough-clause-left
returns-then-not-is_enough-clause-left g c = ReadsPage-trans c.in_ok-read_header.ensures.reads c.in_ok-read_spread.ensures.reads

pub returns-clause-costs : goal.returns-clause-costs
returns-clause-costs g c = λ told.
    let w = bytes_of (g.P.Pages.standing c.args.pages.now).current c.args.page in
    let a = c.in_ok-read_header.ensures in
    let lines = c.slot_lines-lines.ensures in
    let count : c.page_word-rows.result ≡ entry_count w = c.page_word-rows.ensures.value ∙ u64_at-same 0 64 8 w c.read_header.new.into (a.known told) (omega arith) (omega arith) in
    Costs-weaker (omega (arith, count, lines.few_slots, lines.none)) (Costs-trans (Costs-trans a.costs c.in_ok-read_spread.ensures.costs) c.in_ok-write_spread.ensures.costs)

pub returns-then-not-is_enough-clause-costs : goal.returns-then-not-is_enough-clause-costs
returns-then-not-is_enough-clause-costs g c = λ told.
    let w = bytes_of (g.P.Pages.standing c.args.pages.now).current c.args.page in
    let a = c.in_ok-read_header.ensures in
    let lines = c.slot_lines-lines.ensures in
    let count : c.page_word-rows.result ≡ entry_count w = c.page_word-rows.ensures.value ∙ u64_at-same 0 64 8 w c.read_header.new.into (a.known told) (omega arith) (omega arith) in
    Costs-weaker (omega (arith, count, lines.few_slots, lines.none)) (Costs-trans a.costs c.in_ok-read_spread.ensures.costs)

pub returns-clause-call : goal.returns-clause-call
returns-clause-call g c =
    let a = c.in_ok-read_header.ensures in
    let b = c.in_ok-read_spread.ensures in
    KeepsPages-then (KeepsPages-trans a.call b.call) c.in_ok-write_spread.ensures.call

pub returns-then-not-is_enough-clause-call : goal.returns-then-not-is_enough-clause-call
returns-then-not-is_enough-clause-call g c =
    let a = c.in_ok-read_header.ensures in
    KeepsPages-then a.call c.in_ok-read_spread.ensures.call

pub returns-in_err-read_spread-clause-call : goal.returns-in_err-read_spread-clause-call
returns-in_err-read_spread-clause-call g c =
    let a = c.in_ok-read_header.ensures in
    KeepsPages-stops _ (search rules) (KeepsPages-trans a.call c.in_err-read_spread.ensures.call)

pub returns-in_err-write_spread-clause-call : goal.returns-in_err-write_spread-clause-call
returns-in_err-write_spread-clause-call g c =
    let a = c.in_ok-read_header.ensures in
    let b = c.in_ok-read_spread.ensures in
    KeepsPages-stops _ (search rules) (KeepsPages-trans (KeepsPages-trans a.call b.call) c.in_err-write_spread.ensures.call)

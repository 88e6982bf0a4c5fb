use Rattle.std.proofs.Common.{◌+◌, ◌-◌, ◌*◌, ◌∙◌, List, ℕ, IsTrue, ap, arith, sym, subst, length, rules}
use Rattle.ssd_model.specs.Page.{Same}
use Rattle.leaf_lines.specs.Spread.{AlikeBeyond}
use Rattle.line_pages.proofs.CostLaws.{Costs-trans, Costs-weaker}
use Rattle.line_pages.proofs.StandingLaws.{ReadsPage-trans, KeepsPages-trans, KeepsPages-then, KeepsPages-stops}
use Rattle.page_alloc.proofs.WrittenLaws.{changed_most}
use Rattle.leaf_lines.proofs.CountLaws.{lays_beyond}
use Rattle.leaf_lines.proofs.SetLaws.{value_beyond, was_set}
use Rattle.leaf_lines.proofs.SwapLaws.{was_swapped}
use Rattle.leaf_lines.proofs.FitLaws.{over_few, over_same, over_done, over_left}
use Rattle.line_pages.specs.Lines.{Lines}
use Rattle.line_pages.specs.Bytes.{bytes_of, u16_at}
use Rattle.leaf_lines.proofs.put.put_over.Goals as goal

pub returns-then-has_length-clause-call : goal.returns-then-has_length-clause-call
returns-then-has_length-clause-call g c =
    let a = c.in_ok-read_header.ensures in
    let b = c.in_ok-slot.ensures in
    let d = c.in_ok-read_spread.ensures in
    KeepsPages-then (KeepsPages-trans (KeepsPages-trans a.call b.call) d.call) c.in_ok-write_spread.ensures.call

pub returns-in_err-write_spread-clause-call : goal.returns-in_err-write_spread-clause-call
returns-in_err-write_spread-clause-call g c =
    let a = c.in_ok-read_header.ensures in
    let b = c.in_ok-slot.ensures in
    let d = c.in_ok-read_spread.ensures in
    KeepsPages-stops _ (search rules) (KeepsPages-trans (KeepsPages-trans (KeepsPages-trans a.call b.call) d.call) c.in_err-write_spread.ensures.call)

pub returns-in_err-read_spread-clause-call : goal.returns-in_err-read_spread-clause-call
returns-in_err-read_spread-clause-call g c =
    let a = c.in_ok-read_header.ensures in
    let b = c.in_ok-slot.ensures in
    KeepsPages-stops _ (search rules) (KeepsPages-trans (KeepsPages-trans a.call b.call) c.in_err-read_spread.ensures.call)

pub returns-then-has_length-clause-room : goal.returns-then-has_length-clause-room
returns-then-has_length-clause-room g c =
    let most = changed_most c.copy_from.new.self c.set_part.new.self in
    omega (arith, most, c.in_ok-read_header.ensures.reads.room, c.in_ok-slot.ensures.reads.room, c.in_ok-read_spread.ensures.reads.room, c.in_ok-write_spread.ensures.room)

pub write_spread-requires-clause-alike : goal.write_spread-requires-clause-alike
write_spread-requires-clause-alike g c =
    value_beyond c.args.at (c.in_ok-slot.slot.place + 8) (length c.args.value.now) c.spread_of-spread.result c.copy_from.new.self c.set_part.new.self c.spread_of-spread.ensures.covers (omega (arith, c.has_length.ensures.behind c.if-has_length.true))
    (subst (λ (b : List ℕ). Same 0 (c.in_ok-slot.slot.place + 8) b c.set_part.new.self) (sym c.copy_from.ensures.value) c.set_part.ensures.before)
    (subst (λ (b : List ℕ). Same (c.in_ok-slot.slot.place + 8 + length c.args.value.now) 4096 b c.set_part.new.self) (sym c.copy_from.ensures.value) c.set_part.ensures.after)

pub returns-then-has_length-clause-put : goal.returns-then-has_length-clause-put
returns-then-has_length-clause-put g c = λ told.
    let old = g.P.Pages.standing c.args.pages.now in
    let first = g.P.Pages.standing c.read_header.new.pages in
    let second = g.P.Pages.standing c.read_slot.new.pages in
    let mid = g.P.Pages.standing c.read_spread.new.pages in
    let new = g.P.Pages.standing c.write_spread.new.pages in
    let a = c.in_ok-read_header.ensures in
    let b = c.in_ok-slot.ensures in
    let d = c.in_ok-read_spread.ensures in
    let e = c.in_ok-write_spread.ensures in
    let told1 = subst IsTrue (sym a.call.continues.told) told in
    let told2 = subst IsTrue (sym b.call.continues.told) told1 in
    let told3 = subst IsTrue (sym d.call.continues.told) told2 in
    let is = c.if-has_length.true in
    let slot = c.in_ok-slot.slot in
    was_set c.args.page c.args.at slot.place slot.size c.args.key c.args.value.now c.args.expect.now c.spread_of-spread.result c.read_header.new.into c.read_spread.new.into c.copy_from.new.self c.set_part.new.self
    old first second mid new told c.requires.level c.top_of.ensures.top c.requires.above c.requires.within c.requires.printable (c.has_length.ensures.size is) (c.has_length.ensures.behind is) (c.has_length.ensures.within is)
    c.spread_of-spread.ensures.order c.spread_of-spread.ensures.covers (a.known told) (b.place told1) (b.size told1) a.reads b.reads d.reads (d.known told2) c.copy_from.ensures.value
    c.set_part.ensures.value c.set_part.ensures.before c.set_part.ensures.after c.copy_from.ensures.size_from c.set_part.ensures.size (e.stands told3) (e.others told3) e.touches e.room (c.requires.spot told)

pub write_spread-requires-2-clause-alike : goal.write_spread-requires-2-clause-alike
write_spread-requires-2-clause-alike g c =
    let size = 8 + length c.args.value.now in
    subst (λ (b : List ℕ). AlikeBeyond c.spread_of-swap.result b c.lay_row.new.page) (sym c.copy_from-2.ensures.value)
    (lays_beyond c.args.at c.args.at c.page_word-count.result (c.page_word-heap.result - size) size (c.args.key, c.args.value.now) c.spread_of-swap.result c.read_spread-2.new.into c.lay_row.new.page c.spread_of-swap.ensures.order c.spread_of-swap.ensures.covers c.lay_row.ensures.lays)

pub returns-clause-call : goal.returns-clause-call
returns-clause-call g c =
    let a = c.in_ok-read_header.ensures in
    let b = c.in_ok-slot.ensures in
    let d = c.in_ok-read_spread-2.ensures in
    KeepsPages-then (KeepsPages-trans (KeepsPages-trans a.call b.call) d.call) c.in_ok-write_spread-2.ensures.call

pub returns-in_err-write_spread-2-clause-call : goal.returns-in_err-write_spread-2-clause-call
returns-in_err-write_spread-2-clause-call g c =
    let a = c.in_ok-read_header.ensures in
    let b = c.in_ok-slot.ensures in
    let d = c.in_ok-read_spread-2.ensures in
    KeepsPages-stops _ (search rules) (KeepsPages-trans (KeepsPages-trans (KeepsPages-trans a.call b.call) d.call) c.in_err-write_spread-2.ensures.call)

pub returns-in_err-read_spread-2-clause-call : goal.returns-in_err-read_spread-2-clause-call
returns-in_err-read_spread-2-clause-call g c =
    let a = c.in_ok-read_header.ensures in
    let b = c.in_ok-slot.ensures in
    KeepsPages-stops _ (search rules) (KeepsPages-trans (KeepsPages-trans a.call b.call) c.in_err-read_spread-2.ensures.call)

pub returns-then-not-can_swap-clause-left : goal.returns-then-not-can_swap-clause-left
returns-then-not-can_swap-clause-left g c = ReadsPage-trans c.in_ok-read_header.ensures.reads c.in_ok-slot.ensures.reads

pub returns-clause-room : goal.returns-clause-room
returns-clause-room g c =
    let most = changed_most c.copy_from-2.new.self c.lay_row.new.page in
    omega (arith, most, c.in_ok-read_header.ensures.reads.room, c.in_ok-slot.ensures.reads.room, c.in_ok-read_spread-2.ensures.reads.room, c.in_ok-write_spread-2.ensures.room)

pub returns-clause-put : goal.returns-clause-put
returns-clause-put g c = λ told.
    let old = g.P.Pages.standing c.args.pages.now in
    let first = g.P.Pages.standing c.read_header.new.pages in
    let second = g.P.Pages.standing c.read_slot.new.pages in
    let mid = g.P.Pages.standing c.read_spread-2.new.pages in
    let new = g.P.Pages.standing c.write_spread-2.new.pages in
    let a = c.in_ok-read_header.ensures in
    let b = c.in_ok-slot.ensures in
    let d = c.in_ok-read_spread-2.ensures in
    let e = c.in_ok-write_spread-2.ensures in
    let told1 = subst IsTrue (sym a.call.continues.told) told in
    let told2 = subst IsTrue (sym b.call.continues.told) told1 in
    let told3 = subst IsTrue (sym d.call.continues.told) told2 in
    let is = c.if-not-can_swap.false in
    let swap = c.can_swap.ensures in
    was_swapped c.args.page c.args.at c.page_word-count.result c.page_word-heap.result c.in_ok-slot.slot.size c.args.key c.args.value.now c.args.expect.now c.spread_of-swap.result c.read_header.new.into c.read_spread-2.new.into c.copy_from-2.new.self c.lay_row.new.page
    old first second mid new told c.requires.level c.top_of.ensures.top c.requires.above c.requires.within c.requires.few c.requires.printable (swap.other is) (swap.at is) (swap.heap is) (swap.room is) (swap.full is)
    c.spread_of-swap.ensures.order c.spread_of-swap.ensures.covers (a.known told) c.page_word-count.ensures.value c.page_word-heap.ensures.value (b.size told1) a.reads b.reads d.reads (d.known told2) c.copy_from-2.ensures.value
    c.lay_row.ensures.lays c.copy_from-2.ensures.size_from c.lay_row.ensures.size (e.stands told3) (e.others told3) e.touches e.room (c.requires.spot told)

pub returns-clause-costs : goal.returns-clause-costs
returns-clause-costs g c =
    let spread = c.spread_of-swap.ensures in
    Costs-weaker (omega (arith, spread.few_slots, spread.few)) (Costs-trans (Costs-trans (Costs-trans c.in_ok-read_header.ensures.costs c.in_ok-slot.ensures.costs) c.in_ok-read_spread-2.ensures.costs) c.in_ok-write_spread-2.ensures.costs)

pub returns-then-has_length-clause-costs : goal.returns-then-has_length-clause-costs
returns-then-has_length-clause-costs g c =
    let spread = c.spread_of-spread.ensures in
    Costs-weaker (omega (arith, spread.few_slots, spread.few)) (Costs-trans (Costs-trans (Costs-trans c.in_ok-read_header.ensures.costs c.in_ok-slot.ensures.costs) c.in_ok-read_spread.ensures.costs) c.in_ok-write_spread.ensures.costs)

pub returns-then-not-can_swap-clause-costs : goal.returns-then-not-can_swap-clause-costs
returns-then-not-can_swap-clause-costs g c = Costs-weaker (omega arith) (Costs-trans c.in_ok-read_header.ensures.costs c.in_ok-slot.ensures.costs)

pub returns-in_err-slot-clause-call : goal.returns-in_err-slot-clause-call
returns-in_err-slot-clause-call g c =
    let a = c.in_ok-read_header.ensures in
    KeepsPages-stops _ (search rules) (KeepsPages-trans a.call c.in_err-slot.ensures.call)

pub returns-then-not-can_swap-clause-call : goal.returns-then-not-can_swap-clause-call
returns-then-not-can_swap-clause-call g c =
    let a = c.in_ok-read_header.ensures in
    KeepsPages-then a.call c.in_ok-slot.ensures.call

pub returns-then-has_length-clause-when : goal.returns-then-has_length-clause-when
returns-then-has_length-clause-when g c = λ told well.
    let w = bytes_of (g.P.Pages.standing c.args.pages.now).current c.args.page in
    let a = c.in_ok-read_header.ensures in
    let told1 = subst IsTrue (sym a.call.continues.told) told in
    let size = c.in_ok-slot.ensures.size told1 ∙ ap (λ (lines : Lines). u16_at (bytes_of lines c.args.page) (64 + 4 * c.args.at + 2)) (a.reads.current told) in
    over_same c.args.expect.now c.args.key c.args.at c.in_ok-slot.slot.size (length c.args.value.now) w c.requires.level well (c.requires.spot told well) size (c.has_length.ensures.size c.if-has_length.true)

pub returns-then-at-ge1008-clause-when : goal.returns-then-at-ge1008-clause-when
returns-then-at-ge1008-clause-when g c = λ told well.
    over_few c.args.expect.now c.args.key c.args.at (bytes_of (g.P.Pages.standing c.args.pages.now).current c.args.page) c.requires.level well (c.requires.spot told well) (omega arith)

pub returns-clause-when : goal.returns-clause-when
returns-clause-when g c = λ told well.
    let w = bytes_of (g.P.Pages.standing c.args.pages.now).current c.args.page in
    let a = c.in_ok-read_header.ensures in
    let told1 = subst IsTrue (sym a.call.continues.told) told in
    let size = c.in_ok-slot.ensures.size told1 ∙ ap (λ (lines : Lines). u16_at (bytes_of lines c.args.page) (64 + 4 * c.args.at + 2)) (a.reads.current told) in
    let is = c.if-not-can_swap.false in
    let swap = c.can_swap.ensures in
    over_done c.args.expect.now c.args.key c.args.at c.page_word-count.result c.page_word-heap.result c.in_ok-slot.slot.size (length c.args.value.now) w c.read_header.new.into (a.known told)
    c.page_word-count.ensures.value c.page_word-heap.ensures.value c.requires.level well (c.requires.spot told well) size (swap.other is) (swap.full is) (swap.room is)

pub returns-then-not-can_swap-clause-when : goal.returns-then-not-can_swap-clause-when
returns-then-not-can_swap-clause-when g c = λ told well.
    let w = bytes_of (g.P.Pages.standing c.args.pages.now).current c.args.page in
    let a = c.in_ok-read_header.ensures in
    let told1 = subst IsTrue (sym a.call.continues.told) told in
    let place = c.in_ok-slot.ensures.place told1 ∙ ap (λ (lines : Lines). u16_at (bytes_of lines c.args.page) (64 + 4 * c.args.at)) (a.reads.current told) in
    let size = c.in_ok-slot.ensures.size told1 ∙ ap (λ (lines : Lines). u16_at (bytes_of lines c.args.page) (64 + 4 * c.args.at + 2)) (a.reads.current told) in
    over_left c.args.expect.now c.args.key c.args.at c.page_word-count.result c.page_word-heap.result c.in_ok-slot.slot.place c.in_ok-slot.slot.size (length c.args.value.now) w c.read_header.new.into (a.known told)
    c.page_word-count.ensures.value c.page_word-heap.ensures.value c.requires.level well (c.requires.spot told well) place size (c.has_length.ensures.none c.if-has_length.false) (c.can_swap.ensures.none c.if-not-can_swap.true)

pub write_spread-requires-clause-room : goal.write_spread-requires-clause-room
write_spread-requires-clause-room g c =
    let most = changed_most c.copy_from.new.self c.set_part.new.self in
    omega (arith, most, c.requires.room, c.in_ok-read_header.ensures.reads.room, c.in_ok-slot.ensures.reads.room, c.in_ok-read_spread.ensures.reads.room)

pub write_spread-requires-2-clause-room : goal.write_spread-requires-2-clause-room
write_spread-requires-2-clause-room g c =
    let most = changed_most c.copy_from-2.new.self c.lay_row.new.page in
    omega (arith, most, c.requires.room, c.in_ok-read_header.ensures.reads.room, c.in_ok-slot.ensures.reads.room, c.in_ok-read_spread-2.ensures.reads.room)

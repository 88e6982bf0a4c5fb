use Rattle.std.proofs.Common.{◌≡◌, ◌∙◌, IsTrue, arith, sym, subst, rules, length}
use Rattle.line_pages.specs.Bytes.{bytes_of}
use Rattle.line_pages.proofs.NumberLaws.{u64_at-same}
use Rattle.line_pages.proofs.CostLaws.{Costs-trans, Costs-weaker}
use Rattle.line_pages.proofs.StandingLaws.{KeepsPages-trans, KeepsPages-stops, KeepsPages-then}
use Rattle.page_format.specs.Node.{entry_count}
use Rattle.page_alloc.proofs.WrittenLaws.{changed_most}
use Rattle.leaf_lines.proofs.PutLaws.{inserted}
use Rattle.leaf_lines.proofs.FitLaws.{insert_done, insert_left}
use Rattle.leaf_lines.proofs.put.insert_row.Goals as goal

pub returns-clause-call : goal.returns-clause-call
returns-clause-call g c =
    let a = c.in_ok-read_header.ensures in
    let b = c.in_ok-read_spread.ensures in
    KeepsPages-then (KeepsPages-trans a.call b.call) c.in_ok-write_spread.ensures.call

pub returns-clause-room : goal.returns-clause-room
returns-clause-room g c =
    let most = changed_most c.copy_from.new.self c.lay_row.new.page in
    omega (arith, most, c.in_ok-read_header.ensures.reads.room, c.in_ok-read_spread.ensures.reads.room, c.in_ok-write_spread.ensures.room)

pub returns-clause-put : goal.returns-clause-put
returns-clause-put g c = λ told.
    let old = g.P.Pages.standing c.args.pages.now in
    let first = g.P.Pages.standing c.read_header.new.pages in
    let mid = g.P.Pages.standing c.read_spread.new.pages in
    let new = g.P.Pages.standing c.write_spread.new.pages in
    let a = c.in_ok-read_header.ensures in
    let b = c.in_ok-read_spread.ensures in
    let d = c.in_ok-write_spread.ensures in
    let told1 = subst IsTrue (sym a.call.continues.told) told in
    let told2 = subst IsTrue (sym b.call.continues.told) told1 in
    let is = c.if-not-has_room.false in
    inserted c.args.page c.args.at c.page_word-count.result c.page_word-heap.result c.args.key c.args.value.now c.args.expect.now c.spread_of-spread.result c.read_header.new.into c.read_spread.new.into c.copy_from.new.self c.lay_row.new.page
    old first mid new told c.requires.level c.top_of.ensures.top c.requires.above c.requires.within c.requires.few c.requires.printable (c.has_room.ensures.at is) (c.has_room.ensures.heap is) (c.has_room.ensures.room is)
    c.spread_of-spread.ensures.order c.spread_of-spread.ensures.covers (a.known told) c.page_word-count.ensures.value c.page_word-heap.ensures.value a.reads b.reads (b.known told1) c.copy_from.ensures.value c.lay_row.ensures.lays
    c.copy_from.ensures.size_from c.lay_row.ensures.size (d.stands told2) (d.others told2) d.touches d.room (c.requires.spot told)

pub returns-clause-costs : goal.returns-clause-costs
returns-clause-costs g c = λ told.
    let w = bytes_of (g.P.Pages.standing c.args.pages.now).current c.args.page in
    let a = c.in_ok-read_header.ensures in
    let spread = c.spread_of-spread.ensures in
    let count : c.page_word-count.result ≡ entry_count w = c.page_word-count.ensures.value ∙ u64_at-same 0 64 8 w c.read_header.new.into (a.known told) (omega arith) (omega arith) in
    Costs-weaker (omega (arith, count, spread.few_slots, spread.few)) (Costs-trans (Costs-trans a.costs c.in_ok-read_spread.ensures.costs) c.in_ok-write_spread.ensures.costs)

pub returns-then-not-has_room-clause-costs : goal.returns-then-not-has_room-clause-costs
returns-then-not-has_room-clause-costs g c = λ told. Costs-weaker (omega arith) c.in_ok-read_header.ensures.costs

pub returns-in_err-read_spread-clause-call : goal.returns-in_err-read_spread-clause-call
returns-in_err-read_spread-clause-call g c =
    let a = c.in_ok-read_header.ensures in
    KeepsPages-stops _ (search rules) (KeepsPages-trans a.call c.in_err-read_spread.ensures.call)

pub returns-in_err-write_spread-clause-call : goal.returns-in_err-write_spread-clause-call
returns-in_err-write_spread-clause-call g c =
    let a = c.in_ok-read_header.ensures in
    let b = c.in_ok-read_spread.ensures in
    KeepsPages-stops _ (search rules) (KeepsPages-trans (KeepsPages-trans a.call b.call) c.in_err-write_spread.ensures.call)

pub returns-clause-when : goal.returns-clause-when
returns-clause-when g c = λ told well.
    let w = bytes_of (g.P.Pages.standing c.args.pages.now).current c.args.page in
    insert_done c.args.expect.now c.args.key c.args.at c.page_word-count.result c.page_word-heap.result (length c.args.value.now) w c.read_header.new.into (c.in_ok-read_header.ensures.known told)
    c.page_word-count.ensures.value c.page_word-heap.ensures.value (c.requires.spot told well) (c.has_room.ensures.room c.if-not-has_room.false)

pub returns-then-not-has_room-clause-when : goal.returns-then-not-has_room-clause-when
returns-then-not-has_room-clause-when g c = λ told well.
    let w = bytes_of (g.P.Pages.standing c.args.pages.now).current c.args.page in
    insert_left c.args.expect.now c.args.key c.args.at c.page_word-count.result c.page_word-heap.result (length c.args.value.now) w c.read_header.new.into (c.in_ok-read_header.ensures.known told)
    c.page_word-count.ensures.value c.page_word-heap.ensures.value c.requires.level well (c.requires.spot told well) (c.has_room.ensures.none c.if-not-has_room.true)

pub write_spread-requires-clause-room : goal.write_spread-requires-clause-room
write_spread-requires-clause-room g c =
    let most = changed_most c.copy_from.new.self c.lay_row.new.page in
    omega (arith, most, c.requires.room, c.in_ok-read_header.ensures.reads.room, c.in_ok-read_spread.ensures.reads.room)

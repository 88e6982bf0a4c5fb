use Rattle.std.proofs.Common.{◌*◌, IsTrue, arith, sym, subst, rules}
use Rattle.line_pages.specs.Bytes.{bytes_of}
use Rattle.line_pages.proofs.CostLaws.{Costs-trans}
use Rattle.line_pages.proofs.StandingLaws.{KeepsPages-trans, KeepsPages-stops, KeepsPages-then}
use Rattle.page_alloc.specs.Written.{Differs}
use Rattle.page_alloc.proofs.TouchedLaws.{only_then}
use Rattle.leaf_lines.proofs.SpreadLaws.{stands_after, known_later}
use Rattle.leaf_lines.proofs.CountLaws.{spread_count}
use Rattle.leaf_lines.proofs.lines.write_spread.Goals as goal

pub write_lines-requires-clause-room : goal.write_lines-requires-clause-room
write_lines-requires-clause-room g c =
    let all = spread_count c.args.spread.now c.args.old.now c.args.new.now c.requires.order c.requires.alike c.byte.ensures.size c.byte-2.ensures.size in
    omega (arith, all, c.requires.room)

pub write_lines-requires-2-clause-room : goal.write_lines-requires-2-clause-room
write_lines-requires-2-clause-room g c =
    let all = spread_count c.args.spread.now c.args.old.now c.args.new.now c.requires.order c.requires.alike c.write_lines.ensures.size_old c.write_lines.ensures.size in
    omega (arith, all, c.requires.room, c.in_ok-write_lines.ensures.room)

pub write_lines-requires-3-clause-room : goal.write_lines-requires-3-clause-room
write_lines-requires-3-clause-room g c =
    let all = spread_count c.args.spread.now c.args.old.now c.args.new.now c.requires.order c.requires.alike c.write_lines.ensures.size_old c.write_lines.ensures.size in
    omega (arith, all, c.requires.room, c.in_ok-write_lines.ensures.room, c.in_ok-write_lines-2.ensures.room)

pub returns-in_err-write_lines-3-clause-call : goal.returns-in_err-write_lines-3-clause-call
returns-in_err-write_lines-3-clause-call g c =
    let a = c.in_ok-write_lines.ensures in
    let b = c.in_ok-write_lines-2.ensures in
    KeepsPages-stops _ (search rules) (KeepsPages-trans (KeepsPages-trans a.call b.call) c.in_err-write_lines-3.ensures.call)

pub returns-clause-call : goal.returns-clause-call
returns-clause-call g c =
    let a = c.in_ok-write_lines.ensures in
    let b = c.in_ok-write_lines-2.ensures in
    KeepsPages-then (KeepsPages-trans a.call b.call) c.in_ok-write_lines-3.ensures.call

pub returns-clause-stands : goal.returns-clause-stands
returns-clause-stands g c = λ told known.
    let s = c.args.spread.now in
    let a = c.in_ok-write_lines.ensures in
    let b = c.in_ok-write_lines-2.ensures in
    let d = c.in_ok-write_lines-3.ensures in
    let w0 = bytes_of (g.P.Pages.standing c.args.pages.now).current c.args.page in
    let w1 = bytes_of (g.P.Pages.standing c.write_lines.new.pages).current c.args.page in
    let w2 = bytes_of (g.P.Pages.standing c.write_lines-2.new.pages).current c.args.page in
    let w3 = bytes_of (g.P.Pages.standing c.write_lines-3.new.pages).current c.args.page in
    let order = c.requires.order in
    let told1 = subst IsTrue (sym a.call.continues.told) told in
    let told2 = subst IsTrue (sym b.call.continues.told) told1 in
    let read = c.args.old.now in
    let after1 = a.after told known.header in
    let known1 = known_later (64 * s.slots) (64 * s.slots_end) 64 w0 w1 read known.slots after1 (omega (arith, order)) (omega (arith, order)) in
    let after2 = b.after told1 known1 in
    let known_heap = known_later (64 * s.heap) (64 * s.heap_end) 64 w0 w1 read known.heap after1 (omega (arith, order)) (omega (arith, order)) in
    let known2 = known_later (64 * s.heap) (64 * s.heap_end) (64 * s.slots_end) w1 w2 read known_heap after2 (omega (arith, order)) (omega (arith, order)) in
    stands_after s read c.args.new.now w0 w1 w2 w3 order known (a.put told known.header) after1 (b.put told1 known1) (b.before told1 known1) after2 (d.put told2 known2) (d.before told2 known2) (d.after told2 known2)

pub returns-clause-room : goal.returns-clause-room
returns-clause-room g c =
    let all = spread_count c.args.spread.now c.args.old.now c.args.new.now c.requires.order c.requires.alike c.write_lines.ensures.size_old c.write_lines.ensures.size in
    omega (arith, all, c.in_ok-write_lines.ensures.room, c.in_ok-write_lines-2.ensures.room, c.in_ok-write_lines-3.ensures.room)

pub returns-clause-touches : goal.returns-clause-touches
returns-clause-touches g c =
    let Fact = Differs c.args.old.now c.args.new.now in
    only_then c.args.page Fact (only_then c.args.page Fact c.in_ok-write_lines.ensures.touches c.in_ok-write_lines-2.ensures.touches) c.in_ok-write_lines-3.ensures.touches

pub returns-clause-costs : goal.returns-clause-costs
returns-clause-costs g c = Costs-trans (Costs-trans c.in_ok-write_lines.ensures.costs c.in_ok-write_lines-2.ensures.costs) c.in_ok-write_lines-3.ensures.costs

pub returns-in_err-write_lines-2-clause-call : goal.returns-in_err-write_lines-2-clause-call
returns-in_err-write_lines-2-clause-call g c =
    let a = c.in_ok-write_lines.ensures in
    KeepsPages-stops _ (search rules) (KeepsPages-trans a.call c.in_err-write_lines-2.ensures.call)

-- The log has room for the longest transaction.
use Rattle.std.proofs.Common.{sym, subst, ◌≤◌, ◌+◌, ◌^◌}
use Rattle.flat_transactions.specs.declared.book.Book.{Book}
use Rattle.flat_transactions.specs.StoreStanding.{IsReady}
use Rattle.flat_transactions.specs.StoreCalls.{KeepsLines}
use Rattle.flat_transactions.proofs.OpeningLaws.{opened_ready, opened_lines}
use Rattle.flat_transactions.proofs.store.Store.begin.Goals as goal

pub returns-clause-lines : goal.returns-clause-lines
returns-clause-lines g c told =
    subst (λ (x : Book). KeepsLines c.args.self.now.book.now (g.D.Devices.standing c.args.self.now.dev.now) x (g.D.Devices.standing c.make_room.new.self.dev.now)) (sym c.open.ensures)
    (opened_lines c.args.self.now.book.now c.make_room.new.self.book.now (g.D.Devices.standing c.args.self.now.dev.now) (g.D.Devices.standing c.make_room.new.self.dev.now) (c.in_ok-make_room.ensures.lines told))

pub returns-clause-ready : goal.returns-clause-ready
returns-clause-ready g c =
    subst (λ (x : Book). IsReady x (g.D.Devices.standing c.make_room.new.self.dev.now)) (sym c.open.ensures)
    (opened_ready c.make_room.new.self.book.now (g.D.Devices.standing c.make_room.new.self.dev.now) c.in_ok-make_room.ensures.ready c.in_ok-make_room.ensures.makes.is_open
    (subst (λ n. n ≤ 2 ^ 61 + 2 ^ 46) (sym c.in_ok-make_room.ensures.makes.tail) c.requires.tail) c.in_ok-make_room.ensures.makes.takes)

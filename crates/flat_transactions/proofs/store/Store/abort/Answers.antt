-- The open group is taken back and ended, and what that keeps is known of the device.
use Rattle.std.proofs.Common.{sym, subst, refl, Ok, Err}
use Rattle.flat_transactions.specs.declared.book.Book.{Book}
use Rattle.flat_transactions.specs.StoreStanding.{IsReady, IsSteady}
use Rattle.flat_transactions.specs.StoreCalls.{AbortsLines, StoreCall, IsCommitted}
use Rattle.flat_transactions.proofs.EndingLaws.{ended, abort_ready, abort_steady, abort_lines_are, abort_call}
use Rattle.flat_transactions.proofs.store.Store.abort.Goals as goal

pub returns-clause-lines : goal.returns-clause-lines
returns-clause-lines g c told =
    subst (λ (x : Book). AbortsLines c.args.self.now.book.now (g.D.Devices.standing c.args.self.now.dev.now) x (g.D.Devices.standing c.undo.new.dev)) (sym c.close.ensures)
    (abort_lines_are c.args.self.now.book.now c.undo.new.log (g.D.Devices.standing c.args.self.now.dev.now) (g.D.Devices.standing c.undo.new.dev) {T = Unit {0}} (Ok tt)
    c.requires.ready c.requires.is_open c.in_ok-undo.ensures.moved c.in_ok-undo.ensures.aborts c.in_ok-undo.ensures.goes told)

pub returns-clause-ready : goal.returns-clause-ready
returns-clause-ready g c =
    subst (λ (x : Book). IsReady x (g.D.Devices.standing c.undo.new.dev)) (sym c.close.ensures)
    (abort_ready c.args.self.now.book.now c.undo.new.log (g.D.Devices.standing c.args.self.now.dev.now) (g.D.Devices.standing c.undo.new.dev) {T = Unit {0}} (Ok tt)
    c.requires.ready c.requires.is_open c.in_ok-undo.ensures.moved c.in_ok-undo.ensures.aborts c.in_ok-undo.ensures.goes)

pub returns-clause-steady : goal.returns-clause-steady
returns-clause-steady g c steady =
    subst (λ (x : Book). IsSteady x (g.D.Devices.standing c.undo.new.dev)) (sym c.close.ensures)
    (abort_steady c.args.self.now.book.now c.undo.new.log (g.D.Devices.standing c.args.self.now.dev.now) (g.D.Devices.standing c.undo.new.dev) {T = Unit {0}} (Ok tt)
    c.requires.ready c.requires.is_open c.in_ok-undo.ensures.moved c.in_ok-undo.ensures.aborts c.in_ok-undo.ensures.goes steady)

pub returns-clause-call : goal.returns-clause-call
returns-clause-call g c =
    subst (λ (x : Book). StoreCall (IsCommitted (g.D.Devices.standing c.args.self.now.dev.now)) c.args.self.now.book.now (g.D.Devices.standing c.args.self.now.dev.now) x (g.D.Devices.standing c.undo.new.dev)) (sym c.close.ensures)
    (abort_call c.args.self.now.book.now c.undo.new.log (g.D.Devices.standing c.args.self.now.dev.now) (g.D.Devices.standing c.undo.new.dev) {T = Unit {0}} (Ok tt)
    c.requires.ready c.requires.is_open c.in_ok-undo.ensures.moved c.in_ok-undo.ensures.aborts c.in_ok-undo.ensures.goes
    (ended c.args.self.now.book.now c.undo.new.log) c.in_ok-undo.ensures.moved.geometry refl c.in_ok-undo.ensures.cause.reads)

pub returns-in_err-undo-clause-call : goal.returns-in_err-undo-clause-call
returns-in_err-undo-clause-call g c =
    abort_call c.args.self.now.book.now c.undo.new.log (g.D.Devices.standing c.args.self.now.dev.now) (g.D.Devices.standing c.undo.new.dev) {T = Unit {0}} (Err c.in_err-undo.field-0.0)
    c.requires.ready c.requires.is_open c.in_err-undo.ensures.moved c.in_err-undo.ensures.aborts c.in_err-undo.ensures.goes
    (record c.args.self.now.book.now { log = c.undo.new.log }) c.in_err-undo.ensures.moved.geometry refl c.in_err-undo.ensures.cause.reads

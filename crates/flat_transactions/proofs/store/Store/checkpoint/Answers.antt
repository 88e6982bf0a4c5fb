-- The log is emptied, and what that keeps is known of the device.
use Rattle.std.proofs.Common.{refl, Ok, Err}
use Rattle.devices.specs.declared.traits.Failed.{Failed}
use Rattle.flat_transactions.proofs.EmptiedLaws.{emptied_book, emptied_ready, emptied_steady, emptied_lines, emptied_call}
use Rattle.flat_transactions.proofs.store.Store.checkpoint.Goals as goal

pub returns-in-Ok-clause-lines : goal.returns-in-Ok-clause-lines
returns-in-Ok-clause-lines g c told =
    emptied_lines c.args.self.now.book.now c.empty_log.new.log c.clear.new.self (g.D.Devices.standing c.args.self.now.dev.now) (g.D.Devices.standing c.empty_log.new.dev) {T = Unit {0}} {E = Failed} (Ok c.in-Ok.field-0)
    c.requires.ready c.requires.closed c.clear.ensures.pages c.in-Ok.ensures.emptied c.in-Ok.ensures.empties c.in-Ok.ensures.goes told

pub returns-in-Ok-clause-ready : goal.returns-in-Ok-clause-ready
returns-in-Ok-clause-ready g c =
    emptied_ready c.args.self.now.book.now c.empty_log.new.log c.clear.new.self (g.D.Devices.standing c.args.self.now.dev.now) (g.D.Devices.standing c.empty_log.new.dev) {T = Unit {0}} {E = Failed} (Ok c.in-Ok.field-0)
    c.requires.ready c.requires.closed c.clear.ensures.pages c.in-Ok.ensures.emptied c.in-Ok.ensures.empties c.in-Ok.ensures.goes

pub returns-in-Ok-clause-steady : goal.returns-in-Ok-clause-steady
returns-in-Ok-clause-steady g c steady =
    emptied_steady c.args.self.now.book.now c.empty_log.new.log c.clear.new.self (g.D.Devices.standing c.args.self.now.dev.now) (g.D.Devices.standing c.empty_log.new.dev) {T = Unit {0}} {E = Failed} (Ok c.in-Ok.field-0)
    c.requires.ready c.requires.closed c.clear.ensures.pages c.in-Ok.ensures.emptied c.in-Ok.ensures.empties c.in-Ok.ensures.goes steady

pub returns-in-Ok-clause-call : goal.returns-in-Ok-clause-call
returns-in-Ok-clause-call g c =
    emptied_call c.args.self.now.book.now c.empty_log.new.log c.clear.new.self (g.D.Devices.standing c.args.self.now.dev.now) (g.D.Devices.standing c.empty_log.new.dev) {T = Unit {0}} {E = Failed} (Ok c.in-Ok.field-0)
    c.requires.ready c.requires.closed c.clear.ensures.pages c.in-Ok.ensures.emptied c.in-Ok.ensures.empties c.in-Ok.ensures.goes
    (emptied_book c.args.self.now.book.now c.empty_log.new.log c.clear.new.self) c.in-Ok.ensures.emptied.geometry refl c.in-Ok.ensures.cause.reads

pub returns-in-Err-clause-call : goal.returns-in-Err-clause-call
returns-in-Err-clause-call g c =
    emptied_call c.args.self.now.book.now c.empty_log.new.log c.args.self.now.book.now.loose (g.D.Devices.standing c.args.self.now.dev.now) (g.D.Devices.standing c.empty_log.new.dev) {T = Unit {0}} {E = Failed} (Err c.in-Err.field-0)
    c.requires.ready c.requires.closed refl c.in-Err.ensures.emptied c.in-Err.ensures.empties c.in-Err.ensures.goes
    (record c.args.self.now.book.now { log = c.empty_log.new.log }) c.in-Err.ensures.emptied.geometry refl c.in-Err.ensures.cause.reads

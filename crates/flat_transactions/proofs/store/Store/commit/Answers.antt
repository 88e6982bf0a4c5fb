-- The calls of the end choose between the old and the current pages, and keep the facts.
use Rattle.std.proofs.Common.{sym, subst, refl, Ok, Err}
use Rattle.devices.specs.declared.traits.Failed.{Failed}
use Rattle.flat_transactions.specs.declared.book.Book.{Book}
use Rattle.flat_transactions.specs.StoreStanding.{IsReady, IsSteady}
use Rattle.flat_transactions.specs.StoreCalls.{CommitsLines, StoreCall, IsOldOrNew}
use Rattle.flat_transactions.proofs.EndingLaws.{ended, commit_ready, commit_steady, commit_lines_are, commit_leaves, commit_call}
use Rattle.flat_transactions.proofs.store.Store.commit.Goals as goal

pub returns-in-Ok-clause-lines : goal.returns-in-Ok-clause-lines
returns-in-Ok-clause-lines g c told =
    subst (λ (x : Book). CommitsLines c.args.self.now.book.now (g.D.Devices.standing c.args.self.now.dev.now) x (g.D.Devices.standing c.end.new.dev)) (sym c.close.ensures)
    (commit_lines_are c.args.self.now.book.now c.end.new.self (g.D.Devices.standing c.args.self.now.dev.now) (g.D.Devices.standing c.end.new.dev) {T = Unit {0}} {E = Failed} (Ok c.in-Ok.field-0)
    c.requires.ready c.requires.is_open c.in-Ok.ensures.moved c.in-Ok.ensures.makes c.in-Ok.ensures.goes told)

pub returns-in-Ok-clause-ready : goal.returns-in-Ok-clause-ready
returns-in-Ok-clause-ready g c =
    subst (λ (x : Book). IsReady x (g.D.Devices.standing c.end.new.dev)) (sym c.close.ensures)
    (commit_ready c.args.self.now.book.now c.end.new.self (g.D.Devices.standing c.args.self.now.dev.now) (g.D.Devices.standing c.end.new.dev) {T = Unit {0}} {E = Failed} (Ok c.in-Ok.field-0)
    c.requires.ready c.requires.is_open c.in-Ok.ensures.moved c.in-Ok.ensures.makes c.in-Ok.ensures.goes)

pub returns-in-Ok-clause-steady : goal.returns-in-Ok-clause-steady
returns-in-Ok-clause-steady g c steady =
    subst (λ (x : Book). IsSteady x (g.D.Devices.standing c.end.new.dev)) (sym c.close.ensures)
    (commit_steady c.args.self.now.book.now c.end.new.self (g.D.Devices.standing c.args.self.now.dev.now) (g.D.Devices.standing c.end.new.dev) {T = Unit {0}} {E = Failed} (Ok c.in-Ok.field-0)
    c.requires.ready c.requires.is_open c.in-Ok.ensures.moved c.in-Ok.ensures.makes c.in-Ok.ensures.goes steady)

pub returns-in-Ok-clause-call : goal.returns-in-Ok-clause-call
returns-in-Ok-clause-call g c =
    subst (λ (x : Book). StoreCall (IsOldOrNew c.args.self.now.book.now (g.D.Devices.standing c.args.self.now.dev.now)) c.args.self.now.book.now (g.D.Devices.standing c.args.self.now.dev.now) x (g.D.Devices.standing c.end.new.dev)) (sym c.close.ensures)
    (commit_call c.args.self.now.book.now c.end.new.self (g.D.Devices.standing c.args.self.now.dev.now) (g.D.Devices.standing c.end.new.dev) {T = Unit {0}} {E = Failed} (Ok c.in-Ok.field-0)
    c.requires.ready c.requires.is_open c.in-Ok.ensures.moved c.in-Ok.ensures.makes c.in-Ok.ensures.goes (ended c.args.self.now.book.now c.end.new.self) c.in-Ok.ensures.moved.geometry refl c.in-Ok.ensures.cause.reads)

pub returns-in-Err-clause-call : goal.returns-in-Err-clause-call
returns-in-Err-clause-call g c =
    commit_call c.args.self.now.book.now c.end.new.self (g.D.Devices.standing c.args.self.now.dev.now) (g.D.Devices.standing c.end.new.dev) {T = Unit {0}} {E = Failed} (Err c.in-Err.field-0)
    c.requires.ready c.requires.is_open c.in-Err.ensures.moved c.in-Err.ensures.makes c.in-Err.ensures.goes (record c.args.self.now.book.now { log = c.end.new.self }) c.in-Err.ensures.moved.geometry refl c.in-Err.ensures.cause.reads

pub returns-in-Ok-clause-leaves : goal.returns-in-Ok-clause-leaves
returns-in-Ok-clause-leaves g c told steady =
    commit_leaves c.args.self.now.book.now c.end.new.self (g.D.Devices.standing c.args.self.now.dev.now) (g.D.Devices.standing c.end.new.dev) {T = Unit {0}} {E = Failed} (Ok c.in-Ok.field-0)
    c.requires.ready c.requires.is_open c.in-Ok.ensures.moved c.in-Ok.ensures.makes c.in-Ok.ensures.goes told steady

use Rattle.std.proofs.Common.{◌∙◌, ap, refl, rules, Ok, List}
use Rattle.rows.specs.Tables.{Table}
use Rattle.rows.specs.Tables.{rows_of}
use Rattle.table_store.specs.Scanning.{next_of}
use Rattle.table_store.specs.declared.answer.Next.{Next}
use Rattle.table_store.specs.declared.answer.Next.TheVariants as next
use Rattle.script.specs.Machine.{State, current}
use Rattle.engine.specs.Scanning.{reply_by, scan_by}
use Rattle.flat_transactions.proofs.OpenStoreLaws.{pages_keep}
use Rattle.engine.proofs.TransactionLaws.{does_still}
use Rattle.engine.proofs.CommandLaws.{on_device, does_fails, does_stays, cause_fails, store_shown}
use Rattle.engine.proofs.ScanningLaws.{ends_empty}
use Rattle.engine.proofs.RestLaws.{reads_row, reads_stays, reads_still}
use Rattle.engine.proofs.engine.Engine.seek.Goals as goal

pub returns-then-scan-clause-reply : goal.returns-then-scan-clause-reply
returns-then-scan-clause-reply g c = λ told s shows.
    ends_empty (reply_by c.args.scan.now) c.args.scan.now refl c.if-scan.true (rows_of c.args.scan.now.name (current s))

pub returns-then-scan-clause-left : goal.returns-then-scan-clause-left
returns-then-scan-clause-left g c = λ told s shows.
    ends_empty (scan_by c.args.scan.now) c.args.scan.now refl c.if-scan.true (rows_of c.args.scan.now.name (current s))

pub returns-then-scan-clause-does : goal.returns-then-scan-clause-does
returns-then-scan-clause-does g c = does_still (λ (s : State). s) c.args.self.now (g.W.Devices.standing c.args.world.now) next.End c.requires (λ told s shows. refl)

pub returns-in_err-next-clause-does : goal.returns-in_err-next-clause-does
returns-in_err-next-clause-does g c =
    let a = g.W.Devices.standing c.args.world.now in
    on_device g.W.Devices.standing (λ (s : State). s) c.args.self.now a _ _ c.scan_next.new.pages.dev.now c.from_residual.result (search rules)
    (does_fails c.args.self.now a (g.W.Devices.standing c.scan_next.new.pages.dev.now) c.scan_next.new.pages.book.now c.scan_next.new.work c.requires
    (rw (c.over-store.ensures.same.0, c.over-store.ensures.same.1) at c.scan_next.ensures.call.continues) (ap (λ x. (g.W.Devices.standing x).clock) c.over-store.ensures.before)
    _ c.from_residual.result c.in_err-next.field-0.0 c.from_residual.ensures
    (λ told s shows. ((rw (c.over-store.ensures.same.0, c.over-store.ensures.same.1) at c.in_err-next.ensures.sound) told (store_shown c.args.self.now a s c.requires shows))))

pub returns-in_err-next-clause-cause : goal.returns-in_err-next-clause-cause
returns-in_err-next-clause-cause g c =
    cause_fails g.W.Devices.standing _ _ c.args.self.now.book c.scan_next.new.pages.book.now (g.W.Devices.standing c.args.world.now) _ c.scan_next.new.pages.dev.now _ _ _ _ _ _ c.from_residual.result c.in_err-next.field-0.0 (search rules) c.from_residual.ensures
    (rw c.over-store.ensures.same.0 at c.in_err-next.ensures.fails)
    (rw (c.over-store.ensures.same.0, c.over-store.ensures.same.1) at c.in_err-next.ensures.cause)

pub returns-clause-does : goal.returns-clause-does
returns-clause-does g c =
    let a = g.W.Devices.standing c.args.world.now in
    on_device g.W.Devices.standing (λ (s : State). s) c.args.self.now a _ _ c.scan_next.new.pages.dev.now (Ok c.in_ok-next.next) (search rules)
    (does_stays c.args.self.now a (g.W.Devices.standing c.scan_next.new.pages.dev.now) c.scan_next.new.pages.book.now c.scan_next.new.work c.requires
    (rw (c.over-store.ensures.same.0, c.over-store.ensures.same.1) at c.scan_next.ensures.call.continues) (ap (λ x. (g.W.Devices.standing x).clock) c.over-store.ensures.before)
    c.in_ok-next.ensures.call.ready.0 (rw (c.over-store.ensures.same.0, c.over-store.ensures.same.1) at c.in_ok-next.ensures.keeps) (λ (s : State). s) c.in_ok-next.next
    (rw (c.over-store.ensures.same.0, c.over-store.ensures.same.1) at c.in_ok-next.ensures.call.steady) (λ told s shows. refl))

pub returns-clause-same_reach : goal.returns-clause-same_reach
returns-clause-same_reach g c =
    (pages_keep c.args.self.now.book c.scan_next.new.pages.book.now (g.W.Devices.standing c.args.world.now) (g.W.Devices.standing c.scan_next.new.pages.dev.now)
    (rw (c.over-store.ensures.same.0, c.over-store.ensures.same.1) at c.scan_next.ensures.call.continues) (ap (λ x. (g.W.Devices.standing x).clock) c.over-store.ensures.before)).reach_is

pub returns-clause-reply : goal.returns-clause-reply
returns-clause-reply g c = λ told s shows.
    let a = g.W.Devices.standing c.args.world.now in
    ap (λ (n : Next). reply_by c.args.scan.now n)
    ((rw (c.over-store.ensures.same.0, c.over-store.ensures.same.1) at c.in_ok-next.ensures.row) told (store_shown c.args.self.now a s c.requires shows)
    ∙ ap (λ (T : List Table). next_of c.args.scan.now.from c.args.scan.now.to (rows_of c.args.scan.now.name T)) shows.seen.tables_are)

pub returns-clause-left : goal.returns-clause-left
returns-clause-left g c = λ told s shows.
    let a = g.W.Devices.standing c.args.world.now in
    ap (λ (n : Next). scan_by c.args.scan.now n)
    ((rw (c.over-store.ensures.same.0, c.over-store.ensures.same.1) at c.in_ok-next.ensures.row) told (store_shown c.args.self.now a s c.requires shows)
    ∙ ap (λ (T : List Table). next_of c.args.scan.now.from c.args.scan.now.to (rows_of c.args.scan.now.name T)) shows.seen.tables_are)

pub returns-in_err-next-clause-reads : goal.returns-in_err-next-clause-reads
returns-in_err-next-clause-reads g c =
    reads_row _ _ _ _ c.from_residual.result c.from_residual.ensures.0
    (cause_fails g.W.Devices.standing _ _ c.args.self.now.book c.scan_next.new.pages.book.now (g.W.Devices.standing c.args.world.now) _ c.scan_next.new.pages.dev.now _ _ _ _ _ _ c.from_residual.result c.in_err-next.field-0.0 (search rules) c.from_residual.ensures
    (rw c.over-store.ensures.same.0 at c.in_err-next.ensures.fails)
    (rw (c.over-store.ensures.same.0, c.over-store.ensures.same.1) at c.in_err-next.ensures.cause))

pub returns-clause-reads : goal.returns-clause-reads
returns-clause-reads g c =
    reads_stays g.W.Devices.standing c.args.self.now (g.W.Devices.standing c.args.world.now) _ c.scan_next.new.pages.dev.now c.scan_next.new.pages.book.now c.scan_next.new.work c.in_ok-next.next (search rules)
    (rw (c.over-store.ensures.same.0, c.over-store.ensures.same.1) at c.scan_next.ensures.call.continues) (ap (λ x. (g.W.Devices.standing x).clock) c.over-store.ensures.before)
    (rw (c.over-store.ensures.same.0, c.over-store.ensures.same.1) at c.in_ok-next.ensures.keeps)

pub returns-then-scan-clause-reads : goal.returns-then-scan-clause-reads
returns-then-scan-clause-reads g c = reads_still _ _ _

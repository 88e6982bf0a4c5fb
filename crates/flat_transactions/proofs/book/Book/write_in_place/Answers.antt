-- The load changes nothing; the calls of the record and those of the line follow.
use Rattle.std.proofs.Common.{◌++◌, ap, ◌∙◌, Ok}
use Rattle.nvm_model.specs.declared.line.Line.{Line}
use Rattle.devices.specs.State.{line_at}
use Rattle.devices.specs.World.{now}
use Rattle.devices.proofs.MomentLaws.{Goes-trans}
use Rattle.devices.proofs.CallLaws.{makes_then, makes_stop}
use Rattle.flat_store_meaning.specs.Layout.{frame_line}
use Rattle.flat_store_meaning.specs.Append.{record_of}
use Rattle.flat_store_meaning.specs.Put.{append_calls}
use Rattle.flat_store_meaning.specs.InPlace.{store_calls}
use Rattle.flat_nvm_log.specs.Puts.{line_put}
use Rattle.flat_transactions.specs.StoreStanding.{book_sizes}
use Rattle.flat_transactions.proofs.CallLaws.{makes_none, makes_told}
use Rattle.flat_transactions.proofs.BookLaws.{write_holds}
use Rattle.flat_transactions.proofs.book.Book.write_in_place.Goals as goal

pub returns-clause-makes : goal.returns-clause-makes
returns-clause-makes g c =
    let sizes = book_sizes c.args.self.now in
    makes_told
    (λ told. ap (λ (x : Line). append_calls sizes c.args.self.now.log.tail (record_of c.args.page c.args.line x c.args.value.now) ++ line_put c.place-place.result c.args.value.now)
    (c.in_ok-before.ensures.value told ∙ ap (line_at (now (g.D.Devices.standing c.args.dev.now))) c.place-place.ensures.place)
    ∙ ap (λ n. append_calls sizes c.args.self.now.log.tail (record_of c.args.page c.args.line (line_at (now (g.D.Devices.standing c.args.dev.now)) (frame_line sizes c.args.page c.args.line)) c.args.value.now) ++ line_put n c.args.value.now) c.place-place.ensures.place)
    (makes_then c.in_ok-before.ensures.goes (Goes-trans c.in_ok-record.ensures.goes c.put_line.ensures.goes) (makes_none {T = Unit {0}} (Ok tt) c.in_ok-before.ensures.goes c.in_ok-before.ensures.stays)
    (makes_then c.in_ok-record.ensures.goes c.put_line.ensures.goes c.in_ok-record.ensures.makes c.put_line.ensures.makes))

pub returns-in_err-record-clause-makes : goal.returns-in_err-record-clause-makes
returns-in_err-record-clause-makes g c =
    let sizes = book_sizes c.args.self.now in
    makes_told
    (λ told. ap (λ (x : Line). append_calls sizes c.args.self.now.log.tail (record_of c.args.page c.args.line x c.args.value.now) ++ store_calls sizes c.args.page c.args.line c.args.value.now)
    (c.in_ok-before.ensures.value told ∙ ap (line_at (now (g.D.Devices.standing c.args.dev.now))) c.place-place.ensures.place))
    (makes_then c.in_ok-before.ensures.goes c.in_err-record.ensures.goes (makes_none {T = Unit {0}} (Ok tt) c.in_ok-before.ensures.goes c.in_ok-before.ensures.stays)
    (makes_stop (store_calls sizes c.args.page c.args.line c.args.value.now) c.from_residual-in_err-record.result c.from_residual-in_err-record.ensures.0 c.in_err-record.ensures.makes))

pub returns-clause-goes : goal.returns-clause-goes
returns-clause-goes g c = Goes-trans c.in_ok-before.ensures.goes (Goes-trans c.in_ok-record.ensures.goes c.put_line.ensures.goes)

pub returns-clause-held : goal.returns-clause-held
returns-clause-held g c =
    write_holds c.args.self.now (g.D.Devices.standing c.args.dev.now) (g.D.Devices.standing c.put_line.new.dev) c.args.page c.args.line c.args.value.now c.put_line.result
    c.requires.ready c.requires.page c.requires.line c.requires.is_line c.requires.room (returns-clause-makes g c) (returns-clause-goes g c)

pub returns-in_err-record-clause-held : goal.returns-in_err-record-clause-held
returns-in_err-record-clause-held g c =
    write_holds c.args.self.now (g.D.Devices.standing c.args.dev.now) (g.D.Devices.standing c.record.new.dev) c.args.page c.args.line c.args.value.now c.from_residual-in_err-record.result
    c.requires.ready c.requires.page c.requires.line c.requires.is_line c.requires.room (returns-in_err-record-clause-makes g c) (Goes-trans c.in_ok-before.ensures.goes c.in_err-record.ensures.goes)

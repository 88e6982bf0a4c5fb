-- The calls of the write keep the facts; the touch is as in a read.
use Rattle.std.proofs.Common.{◌∷◌, ◌∙◌, [], true, Ok, Err, ap, arith}
use Rattle.devices.specs.declared.traits.Failed.{Failed}
use Rattle.line_pages.specs.Touch.{touch_of}
use Rattle.line_pages.specs.declared.touches.Accesses.{Accesses}
use Rattle.flat_transactions.proofs.BookLaws.{touched_by, write_continues, write_ready, write_steady, write_current, write_room}
use Rattle.flat_transactions.proofs.store.StorePages.write_line.Goals as goal

pub returns-in-Ok-clause-call : goal.returns-in-Ok-clause-call
returns-in-Ok-clause-call g c = record {
  continues = write_continues c.args.self.now.book.now c.touch.new.self c.write_in_place.new.self (g.D.Devices.standing c.args.self.now.dev.now) (g.D.Devices.standing c.write_in_place.new.dev) c.args.page c.args.line c.args.value.now {T = Unit {0}} {E = Failed} (Ok c.in-Ok.field-0)
      c.requires.ready.0 c.requires.page c.requires.line c.eight.ensures c.requires.room c.in-Ok.ensures.written c.in-Ok.ensures.makes c.in-Ok.ensures.goes
      _ _ _ (touch_of c.args.self.now.book.now.accesses.open_access c.args.page c.args.line true ∷ []) c.touch.ensures.touches c.requires.ready.1 c.in-Ok.ensures.cause.reads;
  ready = (
    write_ready c.args.self.now.book.now c.touch.new.self c.write_in_place.new.self (g.D.Devices.standing c.args.self.now.dev.now) (g.D.Devices.standing c.write_in_place.new.dev) c.args.page c.args.line c.args.value.now {T = Unit {0}} {E = Failed} (Ok c.in-Ok.field-0)
        c.requires.ready.0 c.requires.page c.requires.line c.eight.ensures c.requires.room c.in-Ok.ensures.written c.in-Ok.ensures.makes c.in-Ok.ensures.goes,
    omega (arith, c.requires.ready.1, c.in-Ok.ensures.goes.clock),
  );
  steady = λ steady. write_steady c.args.self.now.book.now c.touch.new.self c.write_in_place.new.self (g.D.Devices.standing c.args.self.now.dev.now) (g.D.Devices.standing c.write_in_place.new.dev) c.args.page c.args.line c.args.value.now {T = Unit {0}} {E = Failed} (Ok c.in-Ok.field-0)
      c.requires.ready.0 c.requires.page c.requires.line c.eight.ensures c.requires.room c.in-Ok.ensures.written c.in-Ok.ensures.makes c.in-Ok.ensures.goes steady;
}

pub returns-in-Ok-clause-writes : goal.returns-in-Ok-clause-writes
returns-in-Ok-clause-writes g c = record {
  touch = touched_by c.args.self.now.book.now c.write_in_place.new.self (g.D.Devices.standing c.args.self.now.dev.now) (g.D.Devices.standing c.write_in_place.new.dev) _ _ _ c.args.page c.args.line true _
      (ap (λ (x : Accesses). x.open_access) c.in-Ok.ensures.written.accesses ∙ c.touch.ensures.access) (ap (λ (x : Accesses). x.touches.list) c.in-Ok.ensures.written.accesses ∙ c.touch.ensures.touches);
  current = write_current c.args.self.now.book.now c.touch.new.self c.write_in_place.new.self (g.D.Devices.standing c.args.self.now.dev.now) (g.D.Devices.standing c.write_in_place.new.dev) c.args.page c.args.line c.args.value.now {T = Unit {0}} {E = Failed} (Ok c.in-Ok.field-0)
      c.requires.ready.0 c.requires.page c.requires.line c.eight.ensures c.requires.room c.in-Ok.ensures.written c.in-Ok.ensures.makes c.in-Ok.ensures.goes;
  room = write_room c.args.self.now.book.now c.touch.new.self c.write_in_place.new.self (g.D.Devices.standing c.args.self.now.dev.now) (g.D.Devices.standing c.write_in_place.new.dev) c.args.page c.args.line c.args.value.now {T = Unit {0}} {E = Failed} (Ok c.in-Ok.field-0)
      c.requires.ready.0 c.requires.page c.requires.line c.eight.ensures c.requires.room c.in-Ok.ensures.written c.in-Ok.ensures.makes c.in-Ok.ensures.goes;
}

pub returns-in-Err-clause-call : goal.returns-in-Err-clause-call
returns-in-Err-clause-call g c = record {
  continues = write_continues c.args.self.now.book.now c.touch.new.self c.write_in_place.new.self (g.D.Devices.standing c.args.self.now.dev.now) (g.D.Devices.standing c.write_in_place.new.dev) c.args.page c.args.line c.args.value.now {T = Unit {0}} {E = Failed} (Err c.in-Err.field-0)
      c.requires.ready.0 c.requires.page c.requires.line c.eight.ensures c.requires.room c.in-Err.ensures.written c.in-Err.ensures.makes c.in-Err.ensures.goes
      _ _ _ (touch_of c.args.self.now.book.now.accesses.open_access c.args.page c.args.line true ∷ []) c.touch.ensures.touches c.requires.ready.1 c.in-Err.ensures.cause.reads;
  ready = tt;
  steady = λ steady. tt;
}

pub returns-in-Err-clause-writes : goal.returns-in-Err-clause-writes
returns-in-Err-clause-writes g c = record {
  touch = touched_by c.args.self.now.book.now c.write_in_place.new.self (g.D.Devices.standing c.args.self.now.dev.now) (g.D.Devices.standing c.write_in_place.new.dev) _ _ _ c.args.page c.args.line true _
      (ap (λ (x : Accesses). x.open_access) c.in-Err.ensures.written.accesses ∙ c.touch.ensures.access) (ap (λ (x : Accesses). x.touches.list) c.in-Err.ensures.written.accesses ∙ c.touch.ensures.touches);
  current = λ told. tt;
  room = tt;
}

-- A read changes no device, and its touch begins an access or not.
use Rattle.std.proofs.Common.{ap, ◌∷◌, [], false, refl, rules}
use Rattle.line_pages.specs.Touch.{touch_of}
use Rattle.flat_transactions.specs.StoreStanding.{book_sizes}
use Rattle.flat_store_laws.specs.ShownPages.{pages_in}
use Rattle.flat_transactions.proofs.CallLaws.{at_end}
use Rattle.flat_transactions.proofs.BookLaws.{reads_over, touched_by}
use Rattle.flat_transactions.proofs.store.StorePages.read_line.Goals as goal

pub returns-in-Ok-clause-call : goal.returns-in-Ok-clause-call
returns-in-Ok-clause-call g c = record {
  continues = reads_over c.args.self.now.book.now c.touch.new.self (g.D.Devices.standing c.args.self.now.dev.now) (g.D.Devices.standing c.load.new.self) _ _ _
      (touch_of c.args.self.now.book.now.accesses.open_access c.args.page c.args.line false ∷ []) c.touch.ensures.touches c.requires.ready.1 c.load.ensures.goes c.load.ensures.cause.reads c.load.ensures.stays;
  ready = search rules;
  steady = search rules;
}

pub returns-in-Ok-clause-reads : goal.returns-in-Ok-clause-reads
returns-in-Ok-clause-reads g c = record {
  touch = touched_by c.args.self.now.book.now (record c.args.self.now.book.now { accesses = c.touch.new.self }) (g.D.Devices.standing c.args.self.now.dev.now) (g.D.Devices.standing c.load.new.self) _ _ _ c.args.page c.args.line false _ c.touch.ensures.access c.touch.ensures.touches;
  current = λ told. ap (pages_in (book_sizes c.args.self.now.book.now)) (at_end c.load.ensures.goes c.load.ensures.stays told);
  room = refl;
}

pub returns-in-Err-clause-call : goal.returns-in-Err-clause-call
returns-in-Err-clause-call g c = record {
  continues = reads_over c.args.self.now.book.now c.touch.new.self (g.D.Devices.standing c.args.self.now.dev.now) (g.D.Devices.standing c.load.new.self) _ _ _
      (touch_of c.args.self.now.book.now.accesses.open_access c.args.page c.args.line false ∷ []) c.touch.ensures.touches c.requires.ready.1 c.load.ensures.goes c.load.ensures.cause.reads c.load.ensures.stays;
  ready = tt;
  steady = λ steady. tt;
}

pub returns-in-Err-clause-reads : goal.returns-in-Err-clause-reads
returns-in-Err-clause-reads g c = record {
  touch = touched_by c.args.self.now.book.now (record c.args.self.now.book.now { accesses = c.touch.new.self }) (g.D.Devices.standing c.args.self.now.dev.now) (g.D.Devices.standing c.load.new.self) _ _ _ c.args.page c.args.line false _ c.touch.ensures.access c.touch.ensures.touches;
  current = λ told. tt;
  room = tt;
}

use Rattle.std.proofs.Common.{IsTrue}
use Rattle.table_store.proofs.RoomLaws.{sound_take}
use Rattle.table_store.proofs.creation.take_one.Goals as goal

pub returns-clause-sound : goal.returns-clause-sound
returns-clause-sound g c = λ told store fewer enough.
    let old = g.P.Pages.standing c.args.pages.now in
    sound_take c.args._limits.now old.count old.current (IsTrue old.told) c.take_page.new.work.page old (g.P.Pages.standing c.take_page.new.pages) c.take_page.result told store fewer enough c.take_page.ensures.cause

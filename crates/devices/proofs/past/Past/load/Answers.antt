use Rattle.std.proofs.Common.{◌≡◌}
use Rattle.std.specs.Prelude.{slice_index_or}
use Rattle.devices.specs.Past.{standing_state}
use Rattle.devices.proofs.ContentLaws.{newest_loaded}
use Rattle.devices.proofs.past.Past.load.Goals as goal

pub returns : goal.returns
returns c =
    let self = c.args.self.now in
    let sound = c.requires.sound in
    let found : c.copy_of.result ≡ slice_index_or self.current.nvm.items c.args.line c.copy_of.result = rw c.copy_of.ensures.same c.index.ensures in
    newest_loaded self.lines self.current.nvm.items (standing_state self) (record { size = sound.size; words = sound.words }) c.args.line c.copy_of.result c.requires.line found c.copy_of.ensures.size

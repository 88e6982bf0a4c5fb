use Rattle.page_format.proofs.PageFacts.{sound_of_well}
use Rattle.page_format.proofs.scan.open_rows.Goals as goal

pub returns-clause-sound : goal.returns-clause-sound
returns-clause-sound c = sound_of_well c.args.page.now c.args.expect.now c.page_word.ensures.size c.requires.leaf c.requires.well

-- The words that were loaded decide.
use Rattle.std.proofs.Common.{refl}
use Rattle.nvm_layout.proofs.SuperLaws.{answer_counted, answer_at, answer_opened, answer_sound}
use Rattle.nvm_layout.specs.Opening.{Answers, super_from}
use Rattle.nvm_layout.proofs.superblock.read_super.Given as given
use Rattle.nvm_layout.proofs.superblock.read_super.Goals.{After-judged}
use Rattle.nvm_layout.proofs.superblock.read_super.Goals as goal

found : (g : given.Over) (c : After-judged g) → Answers (g.D.Devices.standing c.args.dev.now) c.judged.result
found g c = record {
  name = c.in-Ok.found.name;
  words = c.in-Ok.found.words;
  held_name = c.in-Ok.ensures.name;
  held = c.in-Ok.ensures.words;
  answer = answer_at c.in-Ok.found.name c.in-Ok.found.words c.nvm_lines-lines.result c.ssd_blocks-blocks.result _ _ (super_from c.in-Ok.found.name c.in-Ok.found.words) c.judged.result
      c.nvm_lines-lines.ensures c.ssd_blocks-blocks.ensures c.judged.ensures;
}

pub returns-in-Ok-clause-opened : goal.returns-in-Ok-clause-opened
returns-in-Ok-clause-opened g c told = answer_opened _ c.judged.result told (found g c)

pub returns-in-Ok-clause-sound : goal.returns-in-Ok-clause-sound
returns-in-Ok-clause-sound g c = answer_sound _ c.judged.result (found g c)

pub returns-in-Ok-clause-answers : goal.returns-in-Ok-clause-answers
returns-in-Ok-clause-answers g c four other = found g c

pub returns-in-Ok-clause-cause : goal.returns-in-Ok-clause-cause
returns-in-Ok-clause-cause g c =
    answer_counted c.in-Ok.found.name c.in-Ok.found.words _ _ _ c.judged.result c.judged.ensures (record { nvm = c.in-Ok.ensures.cause.nvm; ssd = c.in-Ok.ensures.cause.ssd }) c.in-Ok.ensures.cause.reads

pub returns-in-Err-clause-answers : goal.returns-in-Err-clause-answers
returns-in-Err-clause-answers g c four other = absurd (other refl)

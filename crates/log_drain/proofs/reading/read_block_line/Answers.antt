-- The line of the bytes that were read.
use Rattle.std.proofs.Common.{ap, ◌∙◌}
use Rattle.store_model.specs.Recovered.{block_line}
use Rattle.log_drain.proofs.CopyLaws.{line_at-block}
use Rattle.log_drain.proofs.reading.read_block_line.Goals as goal

pub returns-in-Ok-clause-reads : goal.returns-in-Ok-clause-reads
returns-in-Ok-clause-reads g c = record {
  value = λ told. c.page_line.ensures.value ∙ line_at-block c.read_block.new.into c.args.line ∙ ap (λ bytes. block_line bytes c.args.line) (c.in-Ok.ensures.value told);
  counts = c.read_block.ensures.counts;
}

use Rattle.std.proofs.Common.{refl, arith}
use Rattle.byteorder.specs.Endian.{little_bytes}
use Rattle.line_pages.proofs.NumberLaws.{word_value, after_value, word_written}
use Rattle.line_pages.proofs.number.put_word.Goals as goal

pub returns-clause-bytes : goal.returns-clause-bytes
returns-clause-bytes c = word_written c.args.bytes.now c.args.at c.args.value c.write_u64.new.buf c.requires c.write_u64.ensures

pub returns-clause-value : goal.returns-clause-value
returns-clause-value c = word_value c.args.bytes.now c.args.at c.args.value c.write_u64.new.buf c.requires (omega arith) c.write_u64.ensures

pub returns-clause-after : goal.returns-clause-after
returns-clause-after c = after_value c.args.bytes.now c.args.at 8 (little_bytes 8 c.args.value) c.write_u64.new.buf refl c.requires c.write_u64.ensures

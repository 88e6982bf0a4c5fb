use Rattle.std.proofs.Common.{refl, arith}
use Rattle.byteorder.specs.Endian.{little_bytes}
use Rattle.line_pages.proofs.NumberLaws.{half_value, after_value, half_written}
use Rattle.line_pages.proofs.number.put_half.Goals as goal

pub returns-clause-bytes : goal.returns-clause-bytes
returns-clause-bytes c = half_written c.args.bytes.now c.args.at c.args.value c.write_u16.new.buf c.requires c.write_u16.ensures

pub returns-clause-value : goal.returns-clause-value
returns-clause-value c = half_value c.args.bytes.now c.args.at c.args.value c.write_u16.new.buf c.requires (omega arith) c.write_u16.ensures

pub returns-clause-after : goal.returns-clause-after
returns-clause-after c = after_value c.args.bytes.now c.args.at 2 (little_bytes 2 c.args.value) c.write_u16.new.buf refl c.requires c.write_u16.ensures

use Rattle.std.proofs.Common.{◌≡◌, ◌<◌, ◌^◌, drop}
use Rattle.std.specs.Str.{all_ascii_digits}
use Rattle.std.specs.Str.Parse.{digits_value_after, digits_value}
use Rattle.texts.proofs.numbers.digits.Given as goal

-- the rest of the bytes tells what all of them tell
abbrev pub invariant-loop-byte : goal.invariant-loop-byte
invariant-loop-byte l = record {
  digits : all_ascii_digits (drop l.byte-index l.bytes) ≡ all_ascii_digits l.bytes;
  fits : l.value < 2 ^ 64;
  value : digits_value_after 10 l.value (drop l.byte-index l.bytes) ≡ digits_value 10 l.bytes;
}

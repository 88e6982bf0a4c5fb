use Rattle.std.proofs.Common.{◌≡◌, ◌∙◌, sym, ◌+◌, ◌*◌, ◌≤◌, ◌^◌, arith, get_or}
use Rattle.std.specs.Char.{digit_value}
use Rattle.std.proofs.lemmas.Str.{digit_value_digit}
use Rattle.texts.proofs.NumbersLaws.{too_large, all_read}
use Rattle.texts.proofs.numbers.digits.Goals as goal

pub returns-in_err-checked_mul : goal.returns-in_err-checked_mul
returns-in_err-checked_mul c =
    let large : 2 ^ 64 ≤ c.loop-byte.value * 10 = omega (arith, c.in_err-checked_mul.ensures) in
    c.from_residual.ensures ∙ sym (too_large c.args.bytes.now c.loop-byte.value c.loop-byte.byte-index c.loop-byte-test.true c.loop-byte.invariant.value (omega arith))

pub returns-in_err-value : goal.returns-in_err-value
returns-in_err-value c =
    let digit : digit_value (get_or c.args.bytes.now c.loop-byte.byte-index 0) + 48 ≡ get_or c.args.bytes.now c.loop-byte.byte-index 0 = digit_value_digit _ c.if-not-is_ascii_digit.ensures.cases in
    let large : 2 ^ 64 ≤ c.loop-byte.value * 10 + digit_value (get_or c.args.bytes.now c.loop-byte.byte-index 0) = omega (arith, c.in_err-value.ensures, c.in_ok-checked_mul.ensures) in
    c.from_residual-in_err-value.ensures ∙ sym (too_large c.args.bytes.now c.loop-byte.value c.loop-byte.byte-index c.loop-byte-test.true c.loop-byte.invariant.value large)

pub returns : goal.returns
returns c = sym (all_read c.args.bytes.now c.loop-byte.value c.loop-byte.byte-index c.loop-byte-test.false c.loop-byte.invariant.digits c.loop-byte.invariant.value c.loop-byte.invariant.fits)

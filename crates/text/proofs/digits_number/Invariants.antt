-- The value of the digits to come after `sum` is that of all, and they are digits if all are.
use Rattle.std.proofs.Common.{◌≡◌, drop}
use Rattle.text.specs.Number.{all_digits, value_after}
use Rattle.text.proofs.digits_number.Given as goal

abbrev pub invariant-loop-byte : goal.invariant-loop-byte
invariant-loop-byte l = record {
  value : value_after l.base l.sum (drop l.byte-index l.digits) ≡ value_after l.base 0 l.digits;
  digits : all_digits l.base (drop l.byte-index l.digits) ≡ all_digits l.base l.digits;
}

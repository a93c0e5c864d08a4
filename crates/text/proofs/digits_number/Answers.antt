-- Where the sum would not fit, the value is over any limit, since it only grows.
use Rattle.std.proofs.Common.{ℕ, ◌+◌, ◌*◌, ◌≤◌, ◌<◌, ◌≡◌, refl, sym, ◌∙◌, ◌&&◌, List, [], ◌∷◌, length, get_or, drop, None, Some, Bool, true, false, cond, le_refl, le_trans, add-one, drop-cons, drop_of_length-le, lt-ltb, le-ltb, arith}
use Rattle.std.proofs.Math.Dec.{ltb, leb}
use Rattle.std.specs.Bool.{then_some}
use Rattle.std.proofs.Math.Bool.{and-false}
use native.Mathlib.Nat.{le-mul_of_pos_right}
use borrow.Author.Tests.{lt-leb}
use Rattle.std.proofs.lemmas.Bool.Decides.{nat_tests}
use Rattle.std.specs.Char.{digit_value as char_value}
use Rattle.text.specs.Number.{digit_value, all_digits, value_after, digits_number}
use Rattle.text.proofs.digits_number.Goals as goal

-- the library's digits are the call script's
digit : (base c : ℕ) → base ≤ 16 → char_value c < base → digit_value c ≡ char_value c
unfolding digit_value
digit base c h d = grind (arith, nat_tests)

digit_at : (base x d i : ℕ) (w : List ℕ) → base ≤ 16 → x ≡ get_or w i 0 → char_value x < base → d ≡ char_value x → (digit_value (get_or w i 0) ≡ d) × (d < base)
digit_at base x d i w h e l k = (rw (← e) (digit base x h l ∙ sym k), omega (arith, k, l))

no_digit_value : (base c : ℕ) → base ≤ 16 → (char_value c < base → ⊥) → base ≤ digit_value c
unfolding digit_value
no_digit_value base c h d = grind (arith, nat_tests)

-- a value only grows with the digits that follow
grows : (base n : ℕ) (ds : List ℕ) → 0 < base → n ≤ value_after base n ds
grows base n [] p = le_refl n
grows base n (c ∷ cs) p =
    let m = le-mul_of_pos_right n p in
    le_trans (omega arith) (grows base (n * base + digit_value c) cs p)

-- the digit at a place, taken from those to come
next-value : (base n i : ℕ) (w : List ℕ) → i < length w → value_after base n (drop i w) ≡ value_after base (n * base + digit_value (get_or w i 0)) (drop (i + 1) w)
next-value base n i w h = rw (add-one i, drop-cons w i 0 h)

next-digits : (base i : ℕ) (w : List ℕ) → i < length w → all_digits base (drop i w) ≡ (ltb (digit_value (get_or w i 0)) base && all_digits base (drop (i + 1) w))
next-digits base i w h = rw (add-one i, drop-cons w i 0 h)

-- a digit of the base passed: the bytes to come are digits if all are
one_more : (base i : ℕ) (w : List ℕ) → i < length w → digit_value (get_or w i 0) < base → all_digits base (drop i w) ≡ all_digits base w → all_digits base (drop (i + 1) w) ≡ all_digits base w
one_more base i w h d e = sym (rw (lt-ltb (digit_value (get_or w i 0)) base d) at (next-digits base i w h)) ∙ e

-- a byte that is no digit of the base
no_digit : (base limit i : ℕ) (w : List ℕ) → i < length w → base ≤ digit_value (get_or w i 0) → all_digits base (drop i w) ≡ all_digits base w → None ≡ digits_number base w limit
unfolding digits_number
no_digit base limit i w h d e =
    rw (← e, next-digits base i w h, le-ltb (digit_value (get_or w i 0)) base d, lt-ltb 0 (length w) (omega arith))

-- a value over the limit
too_large : (base n limit i : ℕ) (w : List ℕ) → 0 < base → i < length w → limit < n * base + digit_value (get_or w i 0) → value_after base n (drop i w) ≡ value_after base 0 w → None ≡ digits_number base w limit
unfolding digits_number
too_large base n limit i w p h over e =
    let g = grows base (n * base + digit_value (get_or w i 0)) (drop (i + 1) w) p in
    let f = sym (next-value base n i w h) ∙ e in
    rw (lt-leb (value_after base 0 w) limit (omega arith), and-false)

-- all digits passed
whole : (base n limit i : ℕ) (w : List ℕ) → 0 < length w → length w ≤ i → value_after base n (drop i w) ≡ value_after base 0 w → all_digits base (drop i w) ≡ all_digits base w → then_some (leb n limit) n ≡ digits_number base w limit
unfolding digits_number
whole base n limit i w some all e f =
    rw (← e, ← f, drop_of_length-le w {i = i} all, lt-ltb 0 (length w) some) (by_test (leb n limit) n)
  where
    by_test : (t : Bool) (n : ℕ) → then_some t n ≡ cond t (Some n) None
    by_test true n = refl
    by_test false n = refl

pub returns-then-is_empty : goal.returns-then-is_empty
unfolding digits_number
returns-then-is_empty c =
    let h : length c.args.digits.now ≤ 0 = grind (arith, nat_tests) in
    rw (le-ltb 0 (length c.args.digits.now) h)

pub returns-in_err-digit : goal.returns-in_err-digit
returns-in_err-digit c =
    let l = c.loop-byte in
    let d = no_digit_value c.args.base c.from.result c.requires.at_most c.in_err-digit.ensures.value in
    c.from_residual.ensures ∙ no_digit c.args.base c.args.limit l.byte-index c.args.digits.now (omega arith) (rw c.from.ensures at d) l.invariant.digits

pub returns-in_err-checked_mul : goal.returns-in_err-checked_mul
returns-in_err-checked_mul c =
    let l = c.loop-byte in
    let m : c.args.limit < l.sum * c.args.base = omega (arith, rw c.into.ensures at c.in_err-checked_mul.ensures) in
    c.from_residual-in_err-checked_mul.ensures
    ∙ too_large c.args.base l.sum c.args.limit l.byte-index c.args.digits.now (omega arith) (omega arith) (omega arith) l.invariant.value

pub returns-in_err-sum : goal.returns-in_err-sum
returns-in_err-sum c =
    let l = c.loop-byte in
    let k = c.in_ok-digit.ensures.value in
    let d = digit_at c.args.base c.from.result c.in_ok-digit.digit l.byte-index c.args.digits.now c.requires.at_most c.from.ensures k.0 k.1 in
    let p : c.in_ok-checked_mul.field-0 ≡ l.sum * c.args.base = c.in_ok-checked_mul.ensures.1 ∙ rw c.into.ensures in
    let over : c.args.limit < l.sum * c.args.base + digit_value (get_or c.args.digits.now l.byte-index 0) =
    omega (arith, c.in_err-sum.ensures, p, c.into-in-loop-byte.ensures, d.0) in
    c.from_residual-in_err-sum.ensures
    ∙ too_large c.args.base l.sum c.args.limit l.byte-index c.args.digits.now (omega arith) (omega arith) over l.invariant.value

pub loop-byte-preserved : goal.loop-byte-preserved
loop-byte-preserved c =
    let l = c.loop-byte in
    let k = c.in_ok-digit.ensures.value in
    let d = digit_at c.args.base c.from.result c.in_ok-digit.digit l.byte-index c.args.digits.now c.requires.at_most c.from.ensures k.0 k.1 in
    let p : c.in_ok-checked_mul.field-0 ≡ l.sum * c.args.base = c.in_ok-checked_mul.ensures.1 ∙ rw c.into.ensures in
    let s : c.in_ok-sum.sum ≡ l.sum * c.args.base + digit_value (get_or c.args.digits.now l.byte-index 0) =
    omega (arith, c.in_ok-sum.ensures, p, c.into-in-loop-byte.ensures, d.0) in
    let h : l.byte-index < length c.args.digits.now = omega arith in
    record {
      value = rw s (sym (next-value c.args.base l.sum l.byte-index c.args.digits.now h) ∙ l.invariant.value);
      digits = one_more c.args.base l.byte-index c.args.digits.now h (omega (arith, d.0, d.1)) l.invariant.digits;
    }

pub returns : goal.returns
returns c =
    let l = c.loop-byte in
    let some : 0 < length c.args.digits.now = grind (arith, nat_tests) in
    c.then_some.ensures ∙ whole c.args.base l.sum c.args.limit l.byte-index c.args.digits.now some (omega arith) l.invariant.value l.invariant.digits

-- `whole::highest` is right: the leading zeros give the number of bits past the 24 highest.
use Rattle.std.proofs.Common.{◌≡◌, ℕ, zero, suc, ◌+◌, ◌-◌, ◌*◌, ◌/◌, ◌%◌, ◌^◌, ◌<◌, ◌≤◌, pos, ap, sym, ◌∙◌, le_trans, le_of_eq, le_refl, le-add_right, mul-le-mul_left, le-add_left, mod-eq_of_lt, arith}
use native.Mathlib.Nat.{pow-succ'}
use Rattle.std.specs.Float.{binary32}
use Rattle.std.specs.Float.Ieee.{size, of_int}
use Rattle.std.specs.Float.Ieee.Digits.{size-lt, size-le, size_reaches}
use Rattle.std.specs.Int.Count.{count_leading_zeros, leading_unique}
use Rattle.numbers.specs.Whole.{highest_bits}
use Rattle.numbers.proofs.whole.highest.Goals as goal

double : (z m : ℕ) → ((j : ℕ) → j < z → 2 ^ j ≤ m) → 2 ^ z ≤ 2 * m + 1
double zero m h = le-add_left 1 (2 * m)
double (suc j) m h = le_trans (le_of_eq (pow-succ' 2 j)) (le_trans (mul-le-mul_left 2 (h j (le_refl (suc j)))) (le-add_right (2 * m) 1))

zeros-are : (m : ℕ) → m < 2 ^ 64 → count_leading_zeros 64 m ≡ 64 - size m
zeros-are m h =
    let z : size m ≤ 64 = size-le m 64 h in
    sym (leading_unique 64 m (64 - size m) (size m) (omega arith) (size-lt m) (double (size m) m (size_reaches m)))

cleared : (m : ℕ) → m < 2 ^ 64 → 40 - count_leading_zeros 64 m ≡ size m - 24
cleared m h = let z : size m ≤ 64 = size-le m 64 h in let e = zeros-are m h in omega arith

-- clearing bits makes no number larger, so none is lost on the way back
kept : (m k : ℕ) → m < 2 ^ 64 → m / k * k % 2 ^ 64 ≡ m / k * k
kept m k h = mod-eq_of_lt (grind arith)

pub returns : goal.returns
unfolding highest_bits
returns c =
    let m = c.args.m in
    let h = c.ranges.m.fits in
    c.nearest_u64_to_f32.ensures ∙ ap (λ (x : ℕ). of_int binary32 (pos x)) (rw (c.saturating_sub-low.ensures, cleared m h) (kept m (2 ^ (size m - 24)) h))

-- `whole::value_of` is right: `highest` gives the magnitude's float, and of a negative total, whose highest bits are not 0, its sign is turned.
use Rattle.std.proofs.Common.{◌≡◌, ℕ, zero, suc, ◌<◌, true, false, ℤ, pos, negsuc, neg_ℤ, unsigned_abs, sym, refl, true≢false, lt_irrefl, zero-lt-suc, arith, lit<, to_z-of_z, ltb-true}
use Rattle.std.specs.Int.Signed.{lt_z}
use Rattle.std.specs.Float.{binary32}
use Rattle.std.specs.Float.Ieee.{neg, of_int}
use Rattle.numbers.specs.Whole.{highest24, highest24ℤ}
use Rattle.numbers.specs.WholeLaws.{highest-pos}
use Rattle.numbers.specs.Order.{round-neg}
use Rattle.numbers.proofs.whole.value_of.Goals as goal

-- the float of -n, for an n above 0
turned : (n : ℕ) → 0 < n → neg (of_int binary32 (pos n)) ≡ of_int binary32 (neg_ℤ (pos n))
unfolding of_int
turned zero h = absurd (lt_irrefl 0 h)
turned (suc n) h = sym (round-neg binary32 (suc n) 1)

below : (z : ℤ) → lt_z z (pos 0) ≡ true → neg (of_int binary32 (pos (highest24 (unsigned_abs z)))) ≡ of_int binary32 (highest24ℤ z)
unfolding highest24ℤ
below (pos k) n = let l : k < 0 = ltb-true k 0 n in absurd (omega arith)
below (negsuc k) n = turned (highest24 (suc k)) (highest-pos 24 (suc k) (lit< tt) (zero-lt-suc k))

not-below : (z : ℤ) → lt_z z (pos 0) ≡ false → of_int binary32 (pos (highest24 (unsigned_abs z))) ≡ of_int binary32 (highest24ℤ z)
unfolding highest24ℤ
not-below (pos k) n = refl
not-below (negsuc k) n = absurd (true≢false n)

pub returns-then-total-lt0 : goal.returns-then-total-lt0
returns-then-total-lt0 c =
    let f = to_z-of_z c.ranges.total in
    rw (c.highest-value.ensures, c.unsigned_abs.ensures.value, f) (below c.args.total (rw f at c.if-total-lt0.true))

pub returns-else-total-lt0 : goal.returns-else-total-lt0
returns-else-total-lt0 c =
    let f = to_z-of_z c.ranges.total in
    rw (c.highest-value.ensures, c.unsigned_abs.ensures.value, f) (not-below c.args.total (rw f at c.if-total-lt0.false))

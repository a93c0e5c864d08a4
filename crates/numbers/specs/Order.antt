-- Laws of the order of floats that callers cite: `le` is transitive and excludes the opposite `lt`; subtracting what is at least 0 never leads above and
-- adding it never below, so no alarm rises and falls at one value; cutting to an integer keeps the order. A signed magnitude ±a is read as its positive
-- part less its negative part, so that the order of signed fractions is one in ℕ. Assumes nothing.
use Rattle.std.specs.Prelude.{◌≡◌, ℕ, zero, suc, ◌+◌, ◌-◌, ◌*◌, ◌/◌, ◌%◌, ◌^◌, ◌<◌, ◌≤◌, min, Bool, true, false, cond, not, ◌&&◌, ◌||◌, T, ℤ, pos, negsuc, neg_ℤ, ◌==◌, int_le, nat_le, nat_lt, refl, Float}
use Rattle.std.proofs.Common.{sym, ap, ap₂, ◌∙◌, true≢false, le_of_suc-le-suc, lt_of_not-le, zero-mul, one-mul, mul-one, add-mul, mul_assoc, mul_comm, mul_left_comm, mul-pos, mul-le-mul_right, mul-lt-mul_of_pos_right, le_of_mul-le-mul_right, lt_of_mul-lt-mul_right, arith, leb→le, le→leb, ltb→lt, nltb→le, eqb→eq, pow_pos, pow-add}
use Rattle.std.proofs.Math.Nat.{eq_of_mul-eq-mul_right}
use Rattle.std.proofs.Math.Pow.{pow-lt}
use Rattle.std.specs.Float.{nan, inf, fin, Format, binary32, binary64}
use Rattle.std.specs.Float.Ieee.{prec, emax, low, up, down, size, odd, units, round, neg, sum, add, sub, below, level, lt, le, to_signed, fits, is_nan, hid, top, of_bits, to_bits}
use Rattle.std.specs.Float.Ieee.Digits.{back}
use Rattle.std.specs.Float.Ieee.Fits.{down_pos, and_i, and_l, and_r, eq→eqb, round-fits, round_is}
use Rattle.std.specs.Float.Ieee.Bits.{of_bits-to_bits}
use Rattle.std.specs.Float.Ieee.Nearest.{div_mono, div_same}
use Rattle.std.specs.Float.Ieee.Exact.{HasValue, round_exact}
use Rattle.std.specs.Float.Ieee.Order.{drop, kept, round_mono}
use Rattle.std.specs.Float.Ieee.Scale.{finite}

ruleset products = (mul_assoc, mul_comm, mul_left_comm)

-- ---- signed fractions

-- ±a is its positive part less its negative part; the sign s is true for −
abbrev pos_part : Bool → ℕ → ℕ
pos_part s a = cond s 0 a

abbrev neg_part : Bool → ℕ → ℕ
neg_part s a = cond s a 0

-- ±a / c ≤ ±b / d
abbrev Le : Bool → ℕ → ℕ → Bool → ℕ → ℕ → Type 0
Le s a c t b d = pos_part s a * d + neg_part t b * c ≤ pos_part t b * c + neg_part s a * d

-- a test of `le` taken apart, and put together
cases : {X : Type 0} (p : Bool) (x y : ℕ) (q : Bool) → T (p || (x == y && q)) → (T p → X) → (x ≡ y → T q → X) → X
cases true x y q h f g = f tt
cases false x y q h f g = g (eqb→eq x y (and_l (x == y) q h)) (and_r (x == y) q h)

decide : (p : Bool) (x y : ℕ) (q : Bool) → (T (not p) → (x ≡ y) × T q) → T (p || (x == y && q))
decide true x y q f = tt
decide false x y q f = and_i (x == y) q (eq→eqb (f tt).0) (f tt).1

-- What `le` tests of two finite floats is the order of their fractions.
from_le : (s : Bool) (a c : ℕ) (t : Bool) (b d : ℕ) → T (below s (a * d) t (b * c) || level s (a * d) t (b * c)) → Le s a c t b d
from_le false a c false b d h = cases (nat_lt (a * d) (b * c)) (a * d) (b * c) true h (omega (arith, ltb→lt)) (λ p q. omega arith)
from_le false a c true b d h = cases false (a * d) (b * c) (a * d == 0) h (λ p. absurd p) (omega (arith, eqb→eq))
from_le true a c false b d h = omega arith
from_le true a c true b d h = cases (nat_lt (b * c) (a * d)) (a * d) (b * c) true h (omega (arith, ltb→lt)) (λ p q. omega arith)

to_le : (s : Bool) (a c : ℕ) (t : Bool) (b d : ℕ) → Le s a c t b d → T (below s (a * d) t (b * c) || level s (a * d) t (b * c))
to_le false a c false b d h = decide (nat_lt (a * d) (b * c)) (a * d) (b * c) true (λ p. (omega (arith, nltb→le), tt))
to_le false a c true b d h = decide false (a * d) (b * c) (a * d == 0) (λ p. (omega arith, eq→eqb {a = a * d} {b = 0} (omega arith)))
to_le true a c false b d h =
    decide (nat_lt 0 (a * d + b * c)) (a * d) (b * c) (a * d == 0) (λ p. (omega (arith, nltb→le), eq→eqb {a = a * d} {b = 0} (omega (arith, nltb→le))))
to_le true a c true b d h = decide (nat_lt (b * c) (a * d)) (a * d) (b * c) true (λ p. (omega (arith, nltb→le), tt))

-- What `lt` tests excludes the opposite order.
from-lt : (s : Bool) (a c : ℕ) (t : Bool) (b d : ℕ) → T (below s (a * d) t (b * c)) → Le t b d s a c → ⊥
from-lt false a c false b d h k = omega (arith, ltb→lt)
from-lt false a c true b d h k = h
from-lt true a c false b d h k = omega (arith, ltb→lt)
from-lt true a c true b d h k = omega (arith, ltb→lt)

-- That order is transitive: p and n, q and o, r and l are the parts of three numerators.
through : (p n c q o d r l g : ℕ) → 0 < d → p * d + o * c ≤ q * c + n * d → q * g + l * d ≤ r * d + o * g → p * g + l * c ≤ r * c + n * g
through p n c q o d r l g D h k =
    let x = simp (add-mul, products) at (mul-le-mul_right g h) in
    let y = simp (add-mul, products) at (mul-le-mul_right c k) in
    let z : (p * g + l * c) * d ≤ (r * c + n * g) * d = simp (add-mul, products) (omega arith) in
    le_of_mul-le-mul_right z D

-- ---- the order of all floats

-- What `le` relates is no NaN.
pub le-numbers : (x y : Float) → T (le x y) → (is_nan x ≡ false) × (is_nan y ≡ false)
unfolding le is_nan
le-numbers nan y h = absurd h
le-numbers (inf s) nan h = absurd h
le-numbers (inf s) (inf t) h = (refl, refl)
le-numbers (inf s) (fin t n d) h = (refl, refl)
le-numbers (fin s m e) nan h = absurd h
le-numbers (fin s m e) (inf t) h = (refl, refl)
le-numbers (fin s m e) (fin t n d) h = (refl, refl)

-- A number is no greater than itself.
pub le-refl-number : (x : Float) → is_nan x ≡ false → T (le x x)
unfolding le is_nan
le-refl-number nan n = absurd (true≢false n)
le-refl-number (inf true) n = tt
le-refl-number (inf false) n = tt
le-refl-number (fin s m e) n = to_le s (m * up e) (down e) s (m * up e) (down e) (omega arith)

-- −infinity is at most every number, and only +infinity is at least +infinity.
least : (x : Float) → is_nan x ≡ false → T (le (inf true) x)
unfolding le is_nan
least nan n = absurd (true≢false n)
least (inf true) n = tt
least (inf false) n = tt
least (fin s m e) n = tt

greatest : (x : Float) → T (le (inf false) x) → inf false ≡ x
unfolding le
greatest nan h = absurd h
greatest (inf true) h = absurd h
greatest (inf false) h = refl
greatest (fin s m e) h = absurd h

-- The order is transitive, for NaN, infinities and both zeros too.
pub le_trans : (x y z : Float) → T (le x y) → T (le y z) → T (le x z)
unfolding le
le_trans nan y z h k = absurd h
le_trans (inf true) y z h k = least z (le-numbers y z k).1
le_trans (inf false) y z h k = rw (← greatest y h) at k
le_trans (fin s m e) nan z h k = absurd h
le_trans (fin s m e) (inf true) z h k = absurd h
le_trans (fin s m e) (inf false) z h k = rw (← greatest z k) tt
le_trans (fin s m e) (fin t n d) nan h k = absurd k
le_trans (fin s m e) (fin t n d) (inf true) h k = absurd k
le_trans (fin s m e) (fin t n d) (inf false) h k = tt
le_trans (fin s m e) (fin t n d) (fin u l g) h k =
    let a = m * up e in
    let b = n * up d in
    let c = l * up g in
    to_le s a (down e) u c (down g)
    (through (pos_part s a) (neg_part s a) (down e) (pos_part t b) (neg_part t b) (down d) (pos_part u c) (neg_part u c) (down g) (down_pos d)
    (from_le s a (down e) t b (down d) h) (from_le t b (down d) u c (down g) k))

-- Less excludes at least.
pub lt-le : (x y : Float) → T (lt x y) → T (le y x) → ⊥
unfolding le
lt-le nan y h k = h
lt-le (inf s) nan h k = h
lt-le (inf true) (inf true) h k = h
lt-le (inf true) (inf false) h k = k
lt-le (inf false) (inf t) h k = h
lt-le (inf true) (fin t n d) h k = k
lt-le (inf false) (fin t n d) h k = h
lt-le (fin s m e) nan h k = h
lt-le (fin s m e) (inf true) h k = h
lt-le (fin s m e) (inf false) h k = k
lt-le (fin s m e) (fin t n d) h k = from-lt s (m * up e) (down e) t (n * up d) (down d) h (from_le t (n * up d) (down d) s (m * up e) (down e) k)

-- ---- `round` and the order

-- Two values that fit, with one sign and one size, are the same.
same-value : (f : Format) (x y : Float) (s : Bool) (a c : ℕ) → 0 < c → T (fits f x) → T (fits f y) → HasValue x s a c → HasValue y s a c → x ≡ y
unfolding to_bits
same-value f nan y s a c C p q v w = absurd v
same-value f (inf t) y s a c C p q v w = absurd v
same-value f (fin t m e) nan s a c C p q v w = absurd w
same-value f (fin t m e) (inf u) s a c C p q v w = absurd w
same-value f (fin t m e) (fin u n d) s a c C p q v w =
    let l = 2 ^ low f in
    sym (of_bits-to_bits f (fin t m e) p)
    ∙ ap₂ (λ (z : Bool) (i : ℕ). of_bits f (cond z (top f) 0 + (size i - prec f) * hid f + i / 2 ^ (size i - prec f))) (v.0 ∙ sym w.0)
    (div_same (m * up e * l) (down e) (n * up d * l) (down d) (down_pos e) (down_pos d)
    (cross (m * up e) (down e) (n * up d) (down d) a c l C v.1 w.1))
    ∙ of_bits-to_bits f (fin u n d) q
  where
    cross : (x y z w a c l : ℕ) → 0 < c → x * c ≡ a * y → z * c ≡ a * w → x * l * w ≡ z * l * y
    cross x y z w a c l C p q = eq_of_mul-eq-mul_right c C (x * l * w) (z * l * y)
        (simp products ((simp products at (ap (λ (i : ℕ). i * (l * w)) p)) ∙ sym (simp products at (ap (λ (i : ℕ). i * (l * y)) q))))

-- the last three of four tests
conjuncts : (a b c d : Bool) → T (a && b && c && d) → T b × T c × T d
conjuncts a b c d h = let k = and_l (a && b && c) d h in (and_r a b (and_l (a && b) c k), and_r (a && b) c k, and_r (a && b && c) d h)

-- 2 ^ e is a multiple 2 ^ j of 2 ^ -l, where it is not smaller.
exponent : (l : ℕ) (e : ℤ) → down e ≤ 2 ^ l → (j : ℕ) × (up e * 2 ^ l ≡ 2 ^ j * down e)
exponent l (pos a) h = (a + l, simp (pow-add, mul-one))
exponent l (negsuc a) h =
    let fit : suc a ≤ l = le_of_suc-le-suc (lt_of_not-le (λ (g : suc l ≤ suc a). omega (arith, pow-lt g))) in
    (l - suc a, one-mul (2 ^ l) ∙ ap (λ (x : ℕ). 2 ^ x) (sym (back l (suc a) fit)) ∙ pow-add 2 (l - suc a) (suc a))

-- A value that fits is m * 2 ^ j of the format's smallest values, m of no more digits than the format keeps.
in-units : (f : Format) (s : Bool) (m : ℕ) (e : ℤ) → T (fits f (fin s m e))
    → (j : ℕ) × (m < 2 ^ prec f) × (m * 2 ^ j < 2 ^ (low f + suc (emax f))) × (m * up e * 2 ^ low f ≡ m * 2 ^ j * down e)
unfolding fits
in-units f s zero e h = (0, pow_pos (prec f), pow_pos (low f + suc (emax f)), simp zero-mul)
in-units f s (suc m) e h =
    let M = suc m in
    let l = low f in
    let c = conjuncts (M % 2 == 1) (nat_lt M (2 ^ prec f)) (nat_le (down e) (2 ^ l)) (nat_lt (M * up e) (2 ^ suc (emax f) * down e)) h in
    let (j, i) = exponent l e (leb→le (down e) (2 ^ l) c.1) in
    let is : M * up e * 2 ^ l ≡ M * 2 ^ j * down e = mul_assoc M (up e) (2 ^ l) ∙ ap (λ (x : ℕ). M * x) i ∙ sym (mul_assoc M (2 ^ j) (down e)) in
    let under : M * up e * 2 ^ l < 2 ^ suc (emax f) * down e * 2 ^ l = mul-lt-mul_of_pos_right (ltb→lt (M * up e) (2 ^ suc (emax f) * down e) c.2)
    (pow_pos l) in
    let scale : 2 ^ suc (emax f) * down e * 2 ^ l ≡ 2 ^ (l + suc (emax f)) * down e = simp (pow-add, products) in
    (j, ltb→lt M (2 ^ prec f) c.0, lt_of_mul-lt-mul_right (down e) (omega arith), is)

-- A value that fits is its own rounding, with its fraction expanded by any k.
pub round-own : (f : Format) (s : Bool) (m : ℕ) (e : ℤ) (k : ℕ) → T (fits f (fin s m e)) → 0 < k → round f s (m * up e * k) (down e * k) ≡ fin s m e
round-own f s m e k h K =
    let u = in-units f s m e h in
    same-value f (round f s (m * up e * k) (down e * k)) (fin s m e) s (m * up e * k) (down e * k) (mul-pos (down_pos e) K)
    (round-fits f s (m * up e * k) (down e * k)) h
    (round_exact f s (m * up e * k) (down e * k) m u.0 (mul-pos (down_pos e) K) u.1 u.2
    (simp products (simp products at (ap (λ (x : ℕ). x * k) u.3))))
    (refl, simp products)

-- negated, fractions change their order
flip : (s : Bool) (a c : ℕ) (t : Bool) (b d : ℕ) → Le s a c t b d → Le (not t) b d (not s) a c
flip false a c false b d h = omega arith
flip false a c true b d h = omega arith
flip true a c false b d h = omega arith
flip true a c true b d h = omega arith

-- Negation reverses the order.
pub neg-le : (x y : Float) → T (le x y) → T (le (neg y) (neg x))
unfolding le neg
neg-le nan y h = absurd h
neg-le (inf s) nan h = absurd h
neg-le (inf true) (inf true) h = tt
neg-le (inf true) (inf false) h = tt
neg-le (inf false) (inf true) h = absurd h
neg-le (inf false) (inf false) h = tt
neg-le (inf true) (fin t n d) h = tt
neg-le (inf false) (fin t n d) h = absurd h
neg-le (fin s m e) nan h = absurd h
neg-le (fin s m e) (inf true) h = absurd h
neg-le (fin s m e) (inf false) h = tt
neg-le (fin s m e) (fin t n d) h =
    to_le (not t) (n * up d) (down d) (not s) (m * up e) (down e)
    (flip s (m * up e) (down e) t (n * up d) (down d) (from_le s (m * up e) (down e) t (n * up d) (down d) h))

-- Rounding is symmetric about 0.
units-neg : (f : Format) (q k : ℕ) → units f true q k ≡ neg (units f false q k)
unfolding units neg
units-neg f q k = go (nat_lt (q * 2 ^ k) (2 ^ (low f + suc (emax f)))) q
  where
    go : (b : Bool) (i : ℕ) → cond b (odd (suc (prec f)) true i k (low f)) (inf true) ≡ neg (cond b (odd (suc (prec f)) false i k (low f)) (inf false))
    go true zero = refl
    go true (suc i) = refl
    go false i = refl

pub round-neg : (f : Format) (a c : ℕ) → round f true a c ≡ neg (round f false a c)
round-neg f a c =
    let k = drop (prec f) (a * 2 ^ low f) c in
    round_is f true a c ∙ units-neg f (kept (prec f) (a * 2 ^ low f) c) k ∙ ap neg (sym (round_is f false a c))

-- Rounding keeps the order of fractions with one sign.
same_sign : (f : Format) (s : Bool) (a c b d : ℕ) → 0 < c → 0 < d → Le s a c s b d → T (le (round f s a c) (round f s b d))
same_sign f false a c b d C D h = round_mono f a c b d C D (omega arith)
same_sign f true a c b d C D h =
    rw (round-neg f a c, round-neg f b d) (neg-le (round f false b d) (round f false a c) (round_mono f b d a c D C (omega arith)))

-- Zeros of both signs are equal.
zeros : (f : Format) (s t : Bool) → T (le (round f s 0 1) (round f t 0 1))
unfolding le fits
zeros f s t = rw (round-own f s 0 (pos 0) 1 tt (pow_pos 0), round-own f t 0 (pos 0) 1 tt (pow_pos 0)) (equal s t)
  where
    equal : (s t : Bool) → T (le (fin s 0 (pos 0)) (fin t 0 (pos 0)))
    equal false false = tt
    equal false true = tt
    equal true false = tt
    equal true true = tt

-- Two roundings are in order if 0 lies between their fractions.
over_zero : (f : Format) (s : Bool) (a c : ℕ) (t : Bool) (b d : ℕ) → 0 < c → 0 < d → Le s a c s 0 1 → Le t 0 1 t b d → T (le (round f s a c) (round f t b d))
over_zero f s a c t b d C D h k =
    le_trans (round f s a c) (round f s 0 1) (round f t b d) (same_sign f s a c 0 1 C (pow_pos 0) h)
    (le_trans (round f s 0 1) (round f t 0 1) (round f t b d) (zeros f s t) (same_sign f t 0 1 b d (pow_pos 0) D k))

-- a product of at most 0, with a factor above 0
none : (x k : ℕ) → 0 < k → x * k ≤ 0 → x ≤ 0
none x k K h = le_of_mul-le-mul_right (omega arith) K

-- Rounding keeps the order of signed fractions.
round-le : (f : Format) (s : Bool) (a c : ℕ) (t : Bool) (b d : ℕ) → 0 < c → 0 < d → Le s a c t b d → T (le (round f s a c) (round f t b d))
round-le f false a c false b d C D h = same_sign f false a c b d C D h
round-le f false a c true b d C D h = over_zero f false a c true b d C D (omega (arith, none a d D (omega arith))) (omega (arith, none b c C (omega arith)))
round-le f true a c false b d C D h = over_zero f true a c false b d C D (omega arith) (omega arith)
round-le f true a c true b d C D h = same_sign f true a c b d C D h

-- ---- sums

-- x is the rounding of ±a / c + ±b / c.
abbrev Sum : Format → Float → Bool → ℕ → Bool → ℕ → ℕ → Type 0
Sum f x s a t b c = (u : Bool) × (r : ℕ) × (x ≡ round f u r c) × (pos_part u r + (neg_part s a + neg_part t b) ≡ neg_part u r + (pos_part s a + pos_part t b))

-- unlike signs: p and q are the tests a < b and b < a
difference : (f : Format) (s : Bool) (a b c : ℕ) (p q : Bool) → (T p → a < b) → (T (not p) → b ≤ a) → (T (not q) → a ≤ b)
    → Sum f (cond p (round f (not s) (b - a) c) (round f (s && q) (a - b) c)) s a (not s) b c
difference f true a b c true q h k l = (false, b - a, refl, omega (arith, h tt))
difference f true a b c false true h k l = (true, a - b, refl, omega (arith, k tt))
difference f true a b c false false h k l = (false, a - b, refl, omega (arith, k tt, l tt))
difference f false a b c true q h k l = (true, b - a, refl, omega (arith, h tt))
difference f false a b c false q h k l = (false, a - b, refl, omega (arith, k tt))

-- `sum` rounds the exact sum.
sum_is : (f : Format) (s : Bool) (a : ℕ) (t : Bool) (b c : ℕ) → Sum f (sum f s a t b c) s a t b c
unfolding sum
sum_is f true a true b c = (true, a + b, refl, omega arith)
sum_is f true a false b c = difference f true a b c (nat_lt a b) (nat_lt b a) (ltb→lt a b) (nltb→le a b) (nltb→le b a)
sum_is f false a true b c = difference f false a b c (nat_lt a b) (nat_lt b a) (ltb→lt a b) (nltb→le a b) (nltb→le b a)
sum_is f false a false b c = (false, a + b, refl, omega arith)

-- an order of numerators is one of fractions with one denominator
over : (p n q o c : ℕ) → p + o ≤ q + n → p * c + o * c ≤ q * c + n * c
over p n q o c h = simp add-mul at (mul-le-mul_right c h)

-- A second term of at most 0 leads to no greater sum, one of at least 0 to no smaller sum.
sum-side : (f : Format) (s : Bool) (a : ℕ) (t : Bool) (b c : ℕ) → 0 < c
    → (pos_part t b ≤ neg_part t b → T (le (sum f s a t b c) (round f s a c))) × (neg_part t b ≤ pos_part t b → T (le (round f s a c) (sum f s a t b c)))
sum-side f s a t b c C =
    let S = sum_is f s a t b c in
    let u = S.0 in
    let r = S.1 in (
      λ h. rw S.2 (round-le f u r c s a c C C (over (pos_part u r) (neg_part u r) (pos_part s a) (neg_part s a) c (omega (arith, S.3)))),
      λ h. rw S.2 (round-le f s a c u r c C C (over (pos_part s a) (neg_part s a) (pos_part u r) (neg_part u r) c (omega (arith, S.3)))),
    )

-- the parts of a multiple
parts-mul : (s : Bool) (a k : ℕ) → (pos_part s (a * k) ≡ pos_part s a * k) × (neg_part s (a * k) ≡ neg_part s a * k)
parts-mul true a k = (sym (zero-mul k), refl)
parts-mul false a k = (refl, sym (zero-mul k))

-- The same of floats: y is finite, and x may be an infinity.
add-side : (f : Format) (x y : Float) → T (fits f x) → is_nan x ≡ false → finite y ≡ true
    → (T (le y (fin true 0 (pos 0))) → T (le (add f x y) x)) × (T (le (fin false 0 (pos 0)) y) → T (le x (add f x y)))
unfolding add le is_nan
add-side f nan y F N Y = absurd (true≢false N)
add-side f (inf s) nan F N Y = absurd (true≢false (sym Y))
add-side f (inf s) (inf t) F N Y = absurd (true≢false (sym Y))
add-side f (inf s) (fin t n d) F N Y = (λ h. le-refl-number (inf s) refl, λ h. le-refl-number (inf s) refl)
add-side f (fin s m e) nan F N Y = absurd (true≢false (sym Y))
add-side f (fin s m e) (inf t) F N Y = absurd (true≢false (sym Y))
add-side f (fin s m e) (fin t n d) F N Y =
    let b = n * up d in
    let P = parts-mul t b (down e) in
    let own = round-own f s m e (down d) F (down_pos d) in
    let S = sum-side f s (m * up e * down d) t (b * down e) (down e * down d) (mul-pos (down_pos e) (down_pos d)) in (
      λ h. rw (← own) (S.0 (rw (P.0, P.1) (mul-le-mul_right (down e) (omega (arith, from_le t b (down d) true 0 1 h))))),
      λ h. rw (← own) (S.1 (rw (P.0, P.1) (mul-le-mul_right (down e) (omega (arith, from_le false 0 1 t b (down d) h))))),
    )

-- the bits 0 are +0
zero_bits : (f : Format) → of_bits f 0 ≡ fin false 0 (pos 0)
unfolding of_bits
zero_bits binary32 = refl
zero_bits binary64 = refl

-- the negation of a finite value is finite
neg-finite : (x : Float) → finite x ≡ true → finite (neg x) ≡ true
unfolding neg
neg-finite nan h = h
neg-finite (inf s) h = h
neg-finite (fin s m e) h = refl

-- x is a number of the format, h is finite and at least 0 (−0 too).
module _ (f : Format) (x h : Float) (F : T (fits f x)) (N : is_nan x ≡ false) (H : finite h ≡ true) (P : T (le (of_bits f 0) h)) where
  -- Subtracting h never leads above x.
  pub sub-below : T (le (sub f x h) x)
  unfolding sub neg
  sub-below = (add-side f x (neg h) F N (neg-finite h H)).0 (neg-le (fin false 0 (pos 0)) h (rw zero_bits at P))

  -- Adding h never leads below x.
  pub add-above : T (le x (add f x h))
  add-above = (add-side f x h F N H).1 (rw zero_bits at P)

  -- No value makes an alarm at the limit x with the hysteresis h both rise and fall, be it a high or a low one.
  pub not-rise-and-fall : (high : Bool) (out : Float) → T (cond high (le x out) (le out x)) → T (cond high (lt out (sub f x h)) (lt (add f x h) out)) → ⊥
  not-rise-and-fall true out r g = lt-le out (sub f x h) g (le_trans (sub f x h) x out sub-below r)
  not-rise-and-fall false out r g = lt-le (add f x h) out g (le_trans out x (add f x h) r add-above)

-- ---- cutting toward 0

-- ±a ≤ ±b, in ℤ
pub signed_le : (s : Bool) (a : ℕ) (t : Bool) (b : ℕ) → pos_part s a + neg_part t b ≤ pos_part t b + neg_part s a
    → T (int_le (cond s (neg_ℤ (pos a)) (pos a)) (cond t (neg_ℤ (pos b)) (pos b)))
signed_le false a false b h = le→leb a b (omega arith)
signed_le false a true zero h = le→leb a 0 (omega arith)
signed_le false a true (suc b) h = omega arith
signed_le true zero false b h = le→leb 0 b (omega arith)
signed_le true (suc a) false b h = tt
signed_le true zero true zero h = tt
signed_le true zero true (suc b) h = omega arith
signed_le true (suc a) true zero h = tt
signed_le true (suc a) true (suc b) h = le→leb b a (omega arith)

-- Cutting fractions toward 0 keeps their order.
quotient_le : (s : Bool) (a c : ℕ) (t : Bool) (b d : ℕ) → 0 < c → 0 < d → Le s a c t b d
    → pos_part s (a / c) + neg_part t (b / d) ≤ pos_part t (b / d) + neg_part s (a / c)
quotient_le false a c false b d C D h = omega (arith, div_mono a c b d C D (omega arith))
quotient_le false a c true b d C D h =
    omega (
      arith,
      div_mono a c 0 1 C (pow_pos 0) (omega (arith, none a d D (omega arith))),
      div_mono b d 0 1 D (pow_pos 0) (omega (arith, none b c C (omega arith))),
    )
quotient_le true a c false b d C D h = omega arith
quotient_le true a c true b d C D h = omega (arith, div_mono b d a c D C (omega arith))

-- So does moving ±q and ±r into the range of h bits and a sign.
clamped-le : (h : ℕ) (s : Bool) (q : ℕ) (t : Bool) (r : ℕ) → pos_part s q + neg_part t r ≤ pos_part t r + neg_part s q
    → T (int_le (cond s (neg_ℤ (pos (min q (2 ^ h)))) (pos (min q (2 ^ h - 1)))) (cond t (neg_ℤ (pos (min r (2 ^ h)))) (pos (min r (2 ^ h - 1)))))
clamped-le h false q false r k = signed_le false (min q (2 ^ h - 1)) false (min r (2 ^ h - 1)) (omega arith)
clamped-le h false q true r k = signed_le false (min q (2 ^ h - 1)) true (min r (2 ^ h)) (omega arith)
clamped-le h true q false r k = signed_le true (min q (2 ^ h)) false (min r (2 ^ h - 1)) (omega arith)
clamped-le h true q true r k = signed_le true (min q (2 ^ h)) true (min r (2 ^ h)) (omega arith)

-- The least integer is at most every cut.
least-cut : (h : ℕ) (x : Float) → T (int_le (neg_ℤ (pos (2 ^ h))) (to_signed h x))
unfolding to_signed
least-cut h nan = signed_le true (2 ^ h) false 0 (omega arith)
least-cut h (inf true) = signed_le true (2 ^ h) true (2 ^ h) (omega arith)
least-cut h (inf false) = signed_le true (2 ^ h) false (2 ^ h - 1) (omega arith)
least-cut h (fin true m e) = signed_le true (2 ^ h) true (min (m * up e / down e) (2 ^ h)) (omega arith)
least-cut h (fin false m e) = signed_le true (2 ^ h) false (min (m * up e / down e) (2 ^ h - 1)) (omega arith)

-- Cutting toward 0 to an integer of h bits and a sign keeps the order of all floats.
pub cut-mono : (h : ℕ) (x y : Float) → T (le x y) → T (int_le (to_signed h x) (to_signed h y))
unfolding le to_signed
cut-mono h nan y k = absurd k
cut-mono h (inf true) y k = least-cut h y
cut-mono h (inf false) y k = rw (← greatest y k) (signed_le false (2 ^ h - 1) false (2 ^ h - 1) (omega arith))
cut-mono h (fin s m e) nan k = absurd k
cut-mono h (fin s m e) (inf true) k = absurd k
cut-mono h (fin true m e) (inf false) k = signed_le true (min (m * up e / down e) (2 ^ h)) false (2 ^ h - 1) (omega arith)
cut-mono h (fin false m e) (inf false) k = signed_le false (min (m * up e / down e) (2 ^ h - 1)) false (2 ^ h - 1) (omega arith)
cut-mono h (fin s m e) (fin t n d) k =
    clamped-le h s (m * up e / down e) t (n * up d / down d)
    (quotient_le s (m * up e) (down e) t (n * up d) (down d) (down_pos e) (down_pos d) (from_le s (m * up e) (down e) t (n * up d) (down d) k))

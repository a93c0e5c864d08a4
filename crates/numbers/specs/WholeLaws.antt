-- Laws of the definitions in Whole: what a limit does to one number and to two, how far a cut goes, what clearing
-- low bits leaves, and that the result is a float exactly. Assumes nothing.
use Rattle.std.specs.Prelude.{◌≡◌, ℕ, zero, suc, ◌+◌, ◌-◌, ◌*◌, ◌/◌, ◌^◌, ◌<◌, ◌≤◌, min, Bool, true, false, cond, not, T, ℤ, pos, negsuc, ◌+ℤ◌, ◌-ℤ◌, neg_ℤ, ◌≤ℤ◌, int_le, nat_lt, unsigned_abs, refl, Float}
use Rattle.std.proofs.Common.{sym, ap, ◌∙◌, subst, true≢false, zero-le, le_trans, le_of_eq, lt_of_lt_of_le, lt_of_le_of_lt, zero-lt-suc, mul-one, mul_assoc, div-one, le-div_iff_mul-le, mul-pos, not-le_of_lt, lt_irrefl, lt_of_not-le, one-mul, zero-mul, arith, le→leb, leb→le, ltb→lt, nltb→le, lit≤, lit<, pow-add, pow_pos, pow_mono, shl_lt}
use Rattle.std.proofs.Math.IntN.{sub_ℕ, +ℤ_assoc, +ℤ_comm, +ℤ_idl, +ℤ_invr, neg_ℤ-+ℤ}
use Rattle.std.specs.Int.{w64, saturate_signed}
use Rattle.std.specs.Int.Signed.{mag, non_neg}
use Rattle.std.specs.Float.{nan, inf, fin, Format, binary32, binary64}
use Rattle.std.specs.Float.Ieee.{prec, emax, low, up, down, size, round, odd, units, neg, le, of_int, to_signed}
use Rattle.std.specs.Float.Ieee.Digits.{size-lt, size-le, size_reaches}
use Rattle.std.specs.Float.Ieee.Fits.{kept-lt, round_is}
use Rattle.std.specs.Float.Ieee.Exact.{HasValue, round_exact}
use Rattle.std.specs.Float.Ieee.Order.{round_mono, kept, drop}
use Rattle.std.specs.Float.Ieee.Scale.{finite}
use Rattle.numbers.specs.Order.{signed_le, round-neg, cut-mono}
use Rattle.numbers.specs.Whole.{cut_of, limit, bound, highest_bits, highest24, highest24ℤ}

-- ---- differences

-- what a test picks has a property that both answers have, each under its own outcome
pub cond_has : (t : Bool) (x y : ℤ) (P : ℤ → Type 0) → (T t → P x) → (T (not t) → P y) → P (cond t x y)
cond_has true x y P f g = f tt
cond_has false x y P f g = g tt

-- how far two numbers lie apart, by their signs
gap : (a b : ℕ) → unsigned_abs (sub_ℕ a b) ≡ (a - b) + (b - a)
gap a b = cond_has (nat_lt a b) (negsuc (b - suc a)) (pos (a - b)) (λ z. unsigned_abs z ≡ (a - b) + (b - a))
    (λ t. under a b (ltb→lt a b t)) (λ t. over a b (nltb→le a b t))
  where
    under : (a b : ℕ) → a < b → suc (b - suc a) ≡ (a - b) + (b - a)
    under a b h = omega arith

    over : (a b : ℕ) → b ≤ a → a - b ≡ (a - b) + (b - a)
    over a b h = omega arith

pub apart-pp : (a b : ℕ) → unsigned_abs (pos a -ℤ pos b) ≡ (a - b) + (b - a)
apart-pp a zero = omega arith
apart-pp a (suc b) = gap a (suc b)

pub apart-pn : (a b : ℕ) → unsigned_abs (pos a -ℤ neg_ℤ (pos b)) ≡ a + b
apart-pn a zero = refl
apart-pn a (suc b) = refl

pub apart-np : (a b : ℕ) → unsigned_abs (neg_ℤ (pos a) -ℤ pos b) ≡ a + b
apart-np zero zero = refl
apart-np zero (suc b) = ap unsigned_abs (+ℤ_idl (negsuc b)) ∙ omega arith
apart-np (suc a) zero = gap zero (suc a) ∙ omega arith
apart-np (suc a) (suc b) = omega arith

pub apart-nn : (a b : ℕ) → unsigned_abs (neg_ℤ (pos a) -ℤ neg_ℤ (pos b)) ≡ (a - b) + (b - a)
apart-nn zero zero = refl
apart-nn zero (suc b) = ap unsigned_abs (+ℤ_idl (pos (suc b))) ∙ omega arith
apart-nn (suc a) zero = gap zero (suc a) ∙ omega arith
apart-nn (suc a) (suc b) = gap (suc b) (suc a) ∙ omega arith

-- ---- the limit

nat_abs-neg : (a : ℕ) → unsigned_abs (neg_ℤ (pos a)) ≡ a
nat_abs-neg zero = refl
nat_abs-neg (suc a) = refl

-- it stays within plus or minus n
pub limit-within : (n : ℕ) (z : ℤ) → unsigned_abs (limit n z) ≤ n
unfolding limit
limit-within n (pos a) = omega arith
limit-within n (negsuc a) = rw nat_abs-neg (omega arith)

-- and leaves what is within as it is
pub limit-inside : (n : ℕ) (z : ℤ) → unsigned_abs z ≤ n → limit n z ≡ z
unfolding limit
limit-inside n (pos a) h = ap pos (omega arith)
limit-inside n (negsuc a) h = ap (λ (x : ℕ). neg_ℤ (pos x)) (inside a n h)
  where
    inside : (a n : ℕ) → suc a ≤ n → min (suc a) n ≡ suc a
    inside a n h = omega arith

-- and does not see where an i64 ends
pub bound-small : (n : ℤ) → mag n < 2 ^ 63 → bound n < 2 ^ 63
bound-small (pos n) h = h
bound-small (negsuc n) h = lit< tt

pub limit-saturated : (n : ℕ) (z : ℤ) → n < 2 ^ 63 → limit n (saturate_signed w64 z) ≡ limit n z
unfolding limit
limit-saturated n (pos a) h = ap pos (omega arith)
limit-saturated n (negsuc a) h = ap (λ (x : ℕ). neg_ℤ (pos x)) (same a n h)
  where
    same : (a n : ℕ) → n < 2 ^ 63 → min (suc (min a (2 ^ 63 - 1))) n ≡ min (suc a) n
    same a n h = omega arith

-- it keeps the order
pub limit-mono : (n : ℕ) (a b : ℤ) → a ≤ℤ b → limit n a ≤ℤ limit n b
unfolding limit
limit-mono n (pos a) (pos b) h = let k : a ≤ b = leb→le a b h.le in record { le = le→leb (min a n) (min b n) (omega arith) }
limit-mono n (pos a) (negsuc b) h = absurd h.le
limit-mono n (negsuc a) (pos b) h = record { le = signed_le true (min (suc a) n) false (min b n) (omega arith) }
limit-mono n (negsuc a) (negsuc b) h = let k : b ≤ a = leb→le b a h.le in record { le = signed_le true (min (suc a) n) true (min (suc b) n) (omega arith) }

-- and never moves two numbers apart
pub limit-near : (n : ℕ) (a b : ℤ) → unsigned_abs (limit n a -ℤ limit n b) ≤ unsigned_abs (a -ℤ b)
unfolding limit
limit-near n (pos a) (pos b) = rw (apart-pp (min a n) (min b n), apart-pp a b) (omega arith)
limit-near n (pos a) (negsuc b) = rw (apart-pn (min a n) (min (suc b) n), apart-pn a (suc b)) (omega arith)
limit-near n (negsuc a) (pos b) = rw (apart-np (min (suc a) n) (min b n), apart-np (suc a) b) (omega arith)
limit-near n (negsuc a) (negsuc b) = rw (apart-nn (min (suc a) n) (min (suc b) n), apart-nn (suc a) (suc b)) (omega arith)

-- nor the sums with one number added to both
same-added : (a b d : ℤ) → (a +ℤ d) -ℤ (b +ℤ d) ≡ a -ℤ b
same-added a b d =
    ap (λ (x : ℤ). (a +ℤ d) +ℤ x) (neg_ℤ-+ℤ b d ∙ +ℤ_comm (neg_ℤ b) (neg_ℤ d))
    ∙ +ℤ_assoc a d (neg_ℤ d +ℤ neg_ℤ b)
    ∙ ap (λ (x : ℤ). a +ℤ x) (sym (+ℤ_assoc d (neg_ℤ d) (neg_ℤ b)) ∙ ap (λ (x : ℤ). x +ℤ neg_ℤ b) (+ℤ_invr d) ∙ +ℤ_idl (neg_ℤ b))

pub limit-sum-near : (n : ℕ) (a b d : ℤ) → unsigned_abs (limit n (a +ℤ d) -ℤ limit n (b +ℤ d)) ≤ unsigned_abs (a -ℤ b)
limit-sum-near n a b d = subst (λ (x : ℤ). unsigned_abs (limit n (a +ℤ d) -ℤ limit n (b +ℤ d)) ≤ unsigned_abs x) (same-added a b d)
    (limit-near n (a +ℤ d) (b +ℤ d))

-- ---- the cut

-- of a finite float whose whole part is within an i64: the whole part of its magnitude, with its sign
pub cut-finite : (s : Bool) (m : ℕ) (e : ℤ) → m * up e / down e < 2 ^ 63
    → cut_of (fin s m e) ≡ cond s (neg_ℤ (pos (m * up e / down e))) (pos (m * up e / down e))
unfolding to_signed
cut-finite true m e h = ap (λ (x : ℕ). neg_ℤ (pos x)) (inside (m * up e / down e) (2 ^ 63) h)
  where
    inside : (a n : ℕ) → a < n → min a n ≡ a
    inside a n h = omega arith
cut-finite false m e h = ap pos (inside (m * up e / down e) h)
  where
    inside : (a : ℕ) → a < 2 ^ 63 → min a (2 ^ 63 - 1) ≡ a
    inside a h = omega arith

-- it never leaves an i64
pub cut-within : (x : Float) → unsigned_abs (cut_of x) ≤ 2 ^ 63
unfolding to_signed
cut-within nan = lit≤ tt
cut-within (inf true) = lit≤ tt
cut-within (inf false) = lit≤ tt
cut-within (fin true m e) = rw nat_abs-neg (omega arith)
cut-within (fin false m e) = omega arith

-- ---- the highest bits

-- a number of no more than w bits keeps them all
pub highest-small : (w m : ℕ) → m < 2 ^ w → highest_bits w m ≡ m
unfolding highest_bits
highest-small w m h =
    let k : size m - w ≡ 0 = none (size m) (size-le m w h) in
    rw k (mul-one (m / 1) ∙ div-one m)
  where
    none : (z : ℕ) → z ≤ w → z - w ≡ 0
    none z h = omega arith

-- the leading bit stays
pub highest-pos : (w m : ℕ) → 0 < w → 0 < m → 0 < highest_bits w m
unfolding highest_bits
highest-pos w m W M =
    let k = size m - w in
    let z : 0 < size m = lt_of_not-le (λ (g : size m ≤ 0). not-le_of_lt (lt_of_lt_of_le (size-lt m) (pow_mono g)) M) in
    let l : 2 ^ k ≤ m = size_reaches m k (fewer (size m) z) in
    mul-pos ((le-div_iff_mul-le (pow_pos k)).1 (le_trans (le_of_eq (one-mul (2 ^ k))) l)) (pow_pos k)
  where
    fewer : (z : ℕ) → 0 < z → z - w < z
    fewer z h = omega arith

-- ---- as a float

-- 24 bits, moved up within the range of a single, are a float exactly
pub scaled_value : (s : Bool) (q k : ℕ) → q < 2 ^ 24 → k ≤ 104 → HasValue (round binary32 s (q * 2 ^ k) 1) s (q * 2 ^ k) 1
scaled_value s q k small h =
    let few : 24 + (k + 149) ≤ 277 = omega arith in
    round_exact binary32 s (q * 2 ^ k) 1 q (k + 149) (zero-lt-suc 0) small (lt_of_lt_of_le (shl_lt 24 (k + 149) small) (pow_mono few))
    (mul_assoc q (2 ^ k) (2 ^ 149) ∙ ap (λ (x : ℕ). q * x) (sym (pow-add 2 k 149)) ∙ sym (mul-one (q * 2 ^ (k + 149))))

-- so what is left of an m within that range is one
pub highest-value : (s : Bool) (m : ℕ) → m < 2 ^ 128 → HasValue (round binary32 s (highest24 m) 1) s (highest24 m) 1
unfolding highest_bits
highest-value s m h = scaled_value s (m / 2 ^ (size m - 24)) (size m - 24) (kept-lt 24 m) (room (size m) (size-le m 128 h))
  where
    room : (z : ℕ) → z ≤ 128 → z - 24 ≤ 104
    room z h = omega arith

pub value-finite : (x : Float) (s : Bool) (a c : ℕ) → HasValue x s a c → T (finite x)
value-finite nan s a c h = absurd h
value-finite (inf t) s a c h = absurd h
value-finite (fin t m e) s a c h = tt

-- a fraction no larger than one that rounds to a finite float does so too
Sized : Float → Type 0
Sized nan = Unit
Sized (inf s) = s ≡ false
Sized (fin s m e) = Unit

sized-units : (f : Format) (q k : ℕ) → Sized (units f false q k)
unfolding units odd Sized
sized-units f q k = go (nat_lt (q * 2 ^ k) (2 ^ (low f + suc (emax f)))) q
  where
    go : (t : Bool) (r : ℕ) → Sized (cond t (odd (suc (prec f)) false r k (low f)) (inf false))
    go true zero = tt
    go true (suc r) = tt
    go false r = refl

finite-under : (x y : Float) → Sized x → T (le x y) → T (finite y) → T (finite x)
unfolding Sized le
finite-under nan y s h t = absurd h
finite-under (inf true) y s h t = absurd (true≢false s)
finite-under (inf false) nan s h t = absurd t
finite-under (inf false) (inf u) s h t = absurd t
finite-under (inf false) (fin u n d) s h t = absurd h
finite-under (fin u m e) y s h t = tt

neg-finite : (x : Float) → T (finite x) → T (finite (neg x))
neg-finite nan t = absurd t
neg-finite (inf s) t = absurd t
neg-finite (fin s m e) t = unfold neg in tt

pub round-finite : (f : Format) (s : Bool) (a c b d : ℕ) → 0 < c → 0 < d → a * d ≤ b * c → T (finite (round f false b d)) → T (finite (round f s a c))
round-finite f s a c b d C D h t = go s
  where
    plain : T (finite (round f false a c))
    plain =
        finite-under (round f false a c) (round f false b d)
        (subst Sized (sym (round_is f false a c)) (sized-units f (kept (prec f) (a * 2 ^ low f) c) (drop (prec f) (a * 2 ^ low f) c)))
        (round_mono f a c b d C D h) t

    go : (s : Bool) → T (finite (round f s a c))
    go false = plain
    go true = subst (λ (x : Float). T (finite x)) (sym (round-neg f a c)) (neg-finite (round f false a c) plain)

-- the highest bits of a whole number of an i64, as a float: exactly that number, and so finite
pub value-exact : (z : ℤ) → unsigned_abs z ≤ 2 ^ 63 → HasValue (of_int binary32 (highest24ℤ z)) (not (non_neg z)) (highest24 (unsigned_abs z)) 1
unfolding of_int highest24ℤ
value-exact (pos m) h = highest-value false m (lt_of_le_of_lt h (lit< tt))
value-exact (negsuc m) h = go (highest24 (suc m)) (highest-pos 24 (suc m) (lit< tt) (zero-lt-suc m)) (highest-value true (suc m) (lt_of_le_of_lt h (lit< tt)))
  where
    go : (n : ℕ) → 0 < n → HasValue (round binary32 true n 1) true n 1 → HasValue (of_int binary32 (neg_ℤ (pos n))) true n 1
    go zero p v = absurd (lt_irrefl 0 p)
    go (suc n) p v = v

-- ---- a rounded fraction, cut

-- the cut of -x lies as far from 0 as that of x, unless x reaches an end
pub cut-neg : (x : Float) (n : ℕ) → n < 2 ^ 63 - 1 → unsigned_abs (cut_of x) ≤ n → unsigned_abs (cut_of (neg x)) ≤ n
unfolding neg to_signed
cut-neg nan n N h = h
cut-neg (inf true) n N h = absurd (not-le_of_lt N (le_trans (lit≤ tt) h))
cut-neg (inf false) n N h = absurd (not-le_of_lt N h)
cut-neg (fin true m e) n N h = let k : min (m * up e / down e) (2 ^ 63) ≤ n = rw nat_abs-neg at h in omega arith
cut-neg (fin false m e) n N h = rw nat_abs-neg (omega arith)

between : (z : ℤ) (n : ℕ) → T (int_le (pos 0) z) → T (int_le z (pos n)) → unsigned_abs z ≤ n
between (pos a) n h k = leb→le a n k
between (negsuc a) n h k = absurd h

zero-cut : (f : Format) → cut_of (round f false 0 1) ≡ pos 0
unfolding round to_signed
zero-cut binary32 = refl
zero-cut binary64 = refl

-- a fraction no larger than one whose float is cut to n is cut to within n
pub cut-round-within : (f : Format) (s : Bool) (a c b d n : ℕ) → 0 < c → 0 < d → a * d ≤ b * c → cut_of (round f false b d) ≡ pos n → n < 2 ^ 63 - 1
    → unsigned_abs (cut_of (round f s a c)) ≤ n
cut-round-within f s a c b d n C D h e N = go s
  where
    plain : unsigned_abs (cut_of (round f false a c)) ≤ n
    plain =
        between (cut_of (round f false a c)) n
        (subst (λ (z : ℤ). T (int_le z (cut_of (round f false a c)))) (zero-cut f)
        (cut-mono 63 (round f false 0 1) (round f false a c) (round_mono f 0 1 a c (zero-lt-suc 0) C (le_trans (le_of_eq (zero-mul c)) zero-le))))
        (subst (λ (z : ℤ). T (int_le (cut_of (round f false a c)) z)) e (cut-mono 63 (round f false a c) (round f false b d) (round_mono f a c b d C D h)))

    go : (s : Bool) → unsigned_abs (cut_of (round f s a c)) ≤ n
    go false = plain
    go true = subst (λ (x : Float). unsigned_abs (cut_of x) ≤ n) (sym (round-neg f a c)) (cut-neg (round f false a c) n N plain)

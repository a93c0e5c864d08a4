-- Laws of the definitions in this folder, for proofs and for callers: a number written is read again. Assumes nothing.
use Rattle.std.specs.Prelude.{ℕ, Some, zero, suc, ◌+◌, ◌*◌, ◌/◌, ◌%◌, ◌^◌, ◌≤◌, ◌<◌, ◌≡◌, refl, Bool, true, false, cond, ◌&&◌, List, [], ◌∷◌, ◌++◌, length, get_or, ℤ, pos, negsuc, nat_abs, leb, ltb, eqb}
use Rattle.std.proofs.Common.{div-add-mod', div-lt_iff_lt-mul, mod-lt, lt_of_lt_of_le, pow-suc, arith, sym, ◌∙◌, length-append, ltb-true, ltb-false, eqb-true, lt-ltb, le-ltb, le-leb}
use Rattle.std.proofs.Math.Nat.{pow-zero}
use Rattle.std.proofs.Math.Bool.{and-true, and-false, and_assoc}
use Rattle.std.specs.Int.Signed.{lt_z}
use Rattle.text.specs.Digits.{digit, digits, hex_word, decimal_in, decimal, signed}
use Rattle.text.specs.Number.{digit_value, all_digits, value_after, digits_number, word_number}

-- ---- signs

-- a negative number is its sign and its magnitude
pub signed-negative : (z : ℤ) → lt_z z (pos 0) ≡ true → signed z ≡ 45 ∷ decimal (nat_abs z)
unfolding signed
signed-negative (pos n) t = let h = ltb-true n 0 t in absurd (omega arith)
signed-negative (negsuc n) t = refl

-- any other is its magnitude
pub signed-plain : (z : ℤ) → lt_z z (pos 0) ≡ false → signed z ≡ decimal (nat_abs z)
unfolding signed
signed-plain (pos n) t = refl
signed-plain (negsuc n) t = absurd (let e : ◌≡◌ {A = ℕ} 0 1 = cc in omega arith)

-- ---- a number written is read again

-- a digit
pub value-of-digit : (d : ℕ) → d < 16 → digit_value (digit d) ≡ d
unfolding digit_value
value-of-digit d h = go (ltb d 10) refl
  where
    go : (t : Bool) → ltb d 10 ≡ t → digit_value (cond t (48 + d) (55 + d)) ≡ d
    go true t =
        let low = ltb-true d 10 t in
        rw (le-ltb (48 + d) 48 (omega arith), lt-ltb (48 + d) 58 (omega arith)) (omega arith)
    go false t =
        let high = ltb-false d 10 t in
        rw (le-ltb (55 + d) 48 (omega arith), le-ltb (55 + d) 58 (omega arith), le-ltb (55 + d) 65 (omega arith), lt-ltb (55 + d) 71 (omega arith))
        (omega arith)

-- one digit more at the end
value-snoc : (base n c : ℕ) (w : List ℕ) → value_after base n (w ++ (c ∷ [])) ≡ value_after base n w * base + digit_value c
value-snoc base n c [] = refl
value-snoc base n c (x ∷ w) = value-snoc base (n * base + digit_value x) c w

digits-snoc : (base c : ℕ) (w : List ℕ) → all_digits base (w ++ (c ∷ [])) ≡ (all_digits base w && ltb (digit_value c) base)
digits-snoc base c [] = and-true (ltb (digit_value c) base)
digits-snoc base c (x ∷ w) = rw (digits-snoc base c w) (sym (and_assoc (ltb (digit_value x) base) (all_digits base w) (ltb (digit_value c) base)))

-- the last digit, in a base of at most 16
last-digit : (base n : ℕ) → 0 < base → base ≤ 16 → digit_value (digit (n % base)) ≡ n % base
last-digit base n p h = value-of-digit (n % base) (lt_of_lt_of_le (mod-lt n p) h)

-- a number with one digit less
shorter : (base k n : ℕ) → 0 < base → n < base ^ suc k → n / base < base ^ k
shorter base k n p h = (div-lt_iff_lt-mul {k = base} {x = n} {y = base ^ k} p).1 (rw pow-suc at h)

-- k digits of a number that has no more
all_digits-digits : (base k n : ℕ) → 0 < base → base ≤ 16 → all_digits base (digits base k n) ≡ true
all_digits-digits base zero n p h = refl
all_digits-digits base (suc k) n p h =
    digits-snoc base (digit (n % base)) (digits base k (n / base))
    ∙ rw (all_digits-digits base k (n / base) p h, last-digit base n p h, lt-ltb (n % base) base (mod-lt n p))

value-of-digits : (base k n : ℕ) → 0 < base → base ≤ 16 → n < base ^ k → value_after base 0 (digits base k n) ≡ n
value-of-digits base zero n p h l = omega (arith, rw pow-zero at l)
value-of-digits base (suc k) n p h l =
    value-snoc base 0 (digit (n % base)) (digits base k (n / base))
    ∙ rw (value-of-digits base k (n / base) p h (shorter base k n p l), last-digit base n p h) (div-add-mod' n base)

-- decimal digits, by whether the number has one
decimal-cases : (P : List ℕ → Type 0) (k n : ℕ) → (n < 10 → P (digit n ∷ [])) → (10 ≤ n → P (decimal_in k (n / 10) ++ (digit (n % 10) ∷ [])))
    → P (decimal_in (suc k) n)
unfolding decimal_in
decimal-cases P k n one more = go (ltb n 10) refl
  where
    go : (t : Bool) → ltb n 10 ≡ t → P (cond t (digit n ∷ []) (decimal_in k (n / 10) ++ (digit (n % 10) ∷ [])))
    go true t = one (ltb-true n 10 t)
    go false t = more (ltb-false n 10 t)

decimal-some : (k n : ℕ) → 0 < length (decimal_in (suc k) n)
decimal-some k n = decimal-cases (λ w. 0 < length w) k n (λ h. omega arith) (λ h. omega (arith, length-append (decimal_in k (n / 10)) (digit (n % 10) ∷ [])))

decimal-digits : (k n : ℕ) → all_digits 10 (decimal_in k n) ≡ true
unfolding decimal_in
decimal-digits zero n = refl
decimal-digits (suc k) n =
    let rest = decimal-digits k (n / 10) in
    decimal-cases (λ w. all_digits 10 w ≡ true) k n
    (λ h. rw (value-of-digit n (omega arith), lt-ltb n 10 h))
    (λ h. digits-snoc 10 (digit (n % 10)) (decimal_in k (n / 10)) ∙ rw (rest, last-digit 10 n (omega arith) (omega arith), lt-ltb (n % 10) 10 (omega arith)))

decimal-value : (k n : ℕ) → n < 10 ^ k → value_after 10 0 (decimal_in k n) ≡ n
unfolding decimal_in
decimal-value zero n l = omega arith
decimal-value (suc k) n l =
    let rest = decimal-value k (n / 10) (shorter 10 k n (omega arith) l) in
    decimal-cases (λ w. value_after 10 0 w ≡ n) k n
    (λ h. rw (value-of-digit n (omega arith)) (omega arith))
    (λ h. value-snoc 10 0 (digit (n % 10)) (decimal_in k (n / 10)) ∙ rw (rest, last-digit 10 n (omega arith) (omega arith)) (omega arith))

-- one or more digits of a base are a number
number-of-digits : (base limit n : ℕ) (w : List ℕ) → 0 < length w → all_digits base w ≡ true → value_after base 0 w ≡ n → n ≤ limit
    → digits_number base w limit ≡ Some n
unfolding digits_number
number-of-digits base limit n w some all e h = rw (lt-ltb 0 (length w) some, all, e, le-leb n limit h)

-- decimal digits do not begin with `0x`
no-mark : (w : List ℕ) → all_digits 10 w ≡ true → (leb 2 (length w) && (eqb (get_or w 0 0) 48 && eqb (get_or w 1 0) 120)) ≡ false
unfolding digit_value
no-mark [] e = refl
no-mark (a ∷ []) e = refl
no-mark (a ∷ b ∷ w) e = go (eqb b 120) refl
  where
    go : (t : Bool) → eqb b 120 ≡ t → (leb 2 (length (a ∷ b ∷ w)) && (eqb a 48 && t)) ≡ false
    go true t =
        let x : (ltb (digit_value a) 10 && false) ≡ true = rw (eqb-true b 120 t) at e in
        let y : false ≡ true = sym (and-false (ltb (digit_value a) 10)) ∙ x in
        cc
    go false t = rw (and-false (eqb a 48), and-false)

-- a word written in hexadecimal is read again
pub number-of-word : (n limit : ℕ) → n < 2 ^ 32 → n ≤ limit → word_number (hex_word n) limit ≡ Some n
unfolding word_number
number-of-word n limit h l =
    number-of-digits 16 limit n (digits 16 8 n) (omega arith) (all_digits-digits 16 8 n (omega arith) (omega arith))
    (value-of-digits 16 8 n (omega arith) (omega arith) h) l

-- a number written in decimal is read again
pub number-of-decimal : (n limit : ℕ) → n < 2 ^ 64 → n ≤ limit → word_number (decimal n) limit ≡ Some n
unfolding word_number decimal
number-of-decimal n limit h l =
    rw (no-mark (decimal_in 20 n) (decimal-digits 20 n))
    (number-of-digits 10 limit n (decimal_in 20 n) (decimal-some 19 n) (decimal-digits 20 n) (decimal-value 20 n (omega arith)) l)

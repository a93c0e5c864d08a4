-- The library's decimal text is the call script's, and how long it is. Assumes nothing.
use Rattle.std.proofs.Common.{ℕ, zero, suc, ◌/◌, ◌%◌, ◌^◌, ◌≤◌, ◌<◌, ◌≡◌, refl, ◌∙◌, Bool, true, false, cond, [], ◌∷◌, ◌++◌, length, length-append, ℤ, pos, negsuc, w64, FitsSigned, ltb-true, ltb-false, lt-ltb, arith, div-lt_iff_lt-mul, pow-suc}
use Rattle.std.proofs.Math.Dec.{ltb}
use Rattle.std.proofs.lemmas.Fmt.{decimal_digit, decimal_step}
use Rattle.std.specs.Fmt.{decimal as std_decimal, signed_decimal}
use Rattle.text.specs.Digits.{digit, decimal_in, decimal, signed}

-- by whether the number has one digit
by_cases : (k n : ℕ) → n < 2 ^ 64 → (10 ≤ n → std_decimal (n / 10) ≡ decimal_in k (n / 10)) → std_decimal n ≡ decimal_in (suc k) n
unfolding decimal_in
by_cases k n l more = go (ltb n 10) refl
  where
    go : (t : Bool) → ltb n 10 ≡ t → std_decimal n ≡ cond t (digit n ∷ []) (decimal_in k (n / 10) ++ (digit (n % 10) ∷ []))
    go true t = decimal_digit n (ltb-true n 10 t) ∙ rw (lt-ltb n 10 (ltb-true n 10 t))
    go false t =
        let d : n % 10 < 10 = omega arith in
        decimal_step n (ltb-false n 10 t) l ∙ rw (more (ltb-false n 10 t), lt-ltb (n % 10) 10 d)

-- a number of at most k + 1 digits
in_places : (k n : ℕ) → n < 10 ^ suc k → n < 2 ^ 64 → std_decimal n ≡ decimal_in (suc k) n
in_places zero n h l = by_cases zero n l (λ m. absurd (omega (arith, m, rw pow-suc at h)))
in_places (suc k) n h l =
    let p : 0 < 10 = omega arith in
    let m : n / 10 < 10 ^ suc k = (div-lt_iff_lt-mul {k = 10} {x = n} {y = 10 ^ suc k} p).1 (rw pow-suc at h) in
    by_cases (suc k) n l (λ _. in_places k (n / 10) m (omega arith))

pub decimal_is : (n : ℕ) → n < 2 ^ 64 → std_decimal n ≡ decimal n
unfolding decimal
decimal_is n h = in_places 19 n (omega arith) h

pub signed_is : (z : ℤ) → FitsSigned w64 z → signed_decimal z ≡ signed z
unfolding signed
signed_is (pos n) h = decimal_is n (let b : n < 2 ^ 63 = h.sfits in omega arith)
signed_is (negsuc n) h = let b : n < 2 ^ 63 = h.sfits in rw (decimal_is (suc n) (omega arith))

-- ---- how long it is

length_in : (k n : ℕ) → length (decimal_in k n) ≤ k
unfolding decimal_in
length_in zero n = omega arith
length_in (suc k) n = go (ltb n 10) (length_in k (n / 10))
  where
    go : (t : Bool) → length (decimal_in k (n / 10)) ≤ k → length (cond t (digit n ∷ []) (decimal_in k (n / 10) ++ (digit (n % 10) ∷ []))) ≤ suc k
    go true h = omega arith
    go false h = omega (arith, h, length-append (decimal_in k (n / 10)) (digit (n % 10) ∷ []))

pub decimal_length : (n : ℕ) → length (decimal n) ≤ 20
unfolding decimal
decimal_length n = length_in 20 n

pub signed_length : (z : ℤ) → length (signed z) ≤ 21
unfolding signed
signed_length (pos n) = omega (arith, decimal_length n)
signed_length (negsuc n) = omega (arith, decimal_length (suc n))

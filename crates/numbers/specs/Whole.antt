-- Whole numbers as document 01, TOT tick, uses them: a float cut toward zero, a number limited to plus or minus n, and a
-- number's highest bits. Over ℤ and lib.Ieee's floats. Assumes nothing.
use Rattle.std.specs.Prelude.{ℕ, suc, ◌-◌, ◌*◌, ◌/◌, ◌^◌, min, ℤ, pos, negsuc, neg_ℤ, Float}
use Rattle.std.specs.Float.Ieee.{size, to_signed}

-- T2, L4: the fraction is dropped, on both sides of 0. A NaN gives 0, and what lies beyond an i64, the infinities with it, the nearest end.
abbrev pub cut_of : Float → ℤ
cut_of x = to_signed 63 x

-- T2, T4: the number itself within plus or minus n, else the nearest of the two ends
unfoldable pub limit : ℕ → ℤ → ℤ
limit n (pos a) = pos (min a n)
limit n (negsuc a) = neg_ℤ (pos (min (suc a) n))

-- the n of a limit that comes as a signed number: one below 0 counts as 0
abbrev pub bound : ℤ → ℕ
bound (pos n) = n
bound (negsuc n) = 0

-- T10: the bits below the w highest, counted from the leading one, are cleared
unfoldable pub highest_bits : ℕ → ℕ → ℕ
highest_bits w m = m / 2 ^ (size m - w) * 2 ^ (size m - w)

-- T10: the same for 24 bits, and of a number's magnitude
abbrev pub highest24 : ℕ → ℕ
highest24 m = highest_bits 24 m

unfoldable pub highest24ℤ : ℤ → ℤ
highest24ℤ (pos m) = pos (highest24 m)
highest24ℤ (negsuc m) = neg_ℤ (pos (highest24 (suc m)))

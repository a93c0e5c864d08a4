-- The total and what it is counted in, document 01, TOT tick. The factors and limits stand here once. Assumes nothing.
use Rattle.std.specs.Prelude.{ℕ, ◌^◌, Bool, not, ◌&&◌, ◌||◌, cond, eqb, ℤ, pos, ◌+ℤ◌, Float}
use Rattle.std.specs.Int.Signed.{lt_z}
use Rattle.std.specs.Float.{binary32}
use Rattle.std.specs.Float.Ieee.{mul, div, of_int}
use Rattle.numbers.specs.Floats.{bits_of}
use Rattle.numbers.specs.Whole.{cut_of, limit, highest24ℤ}

-- T1, T2: the total counts thousandths, so a value × 1000; a tick is 0.1 s, so a rate × 100
abbrev pub total_factor : ℕ
total_factor = 1000

abbrev pub rate_factor : ℕ
rate_factor = 100

-- T2, T4: how far an increment, and a sum, may lie from 0
abbrev pub increment_limit : ℕ
increment_limit = 10 ^ 9

abbrev pub total_limit : ℕ
total_limit = 10 ^ 12

-- P12a, P12e: how far a written TOTAL, and PRESET_TOT, may lie from 0
abbrev pub value_limit : ℕ
value_limit = 10 ^ 9

-- T2: what a rate adds in a tick: the product without its fraction, no further from 0 than its limit, where an infinite product ends too
unfoldable pub increment_of : Float → ℤ
increment_of rate = limit increment_limit (cut_of (mul binary32 rate (of_int binary32 (pos rate_factor))))

abbrev pub negative : ℤ → Bool
negative z = lt_z z (pos 0)

-- T3, P12c: MODE_TOT 0 takes an increment of either sign, 1 those not below 0, 2 those below 0, 3 none; another code counts as 3
unfoldable pub wanted : ℕ → ℤ → ℤ
wanted mode_tot z = cond (eqb mode_tot 0 || eqb mode_tot 1 && not (negative z) || eqb mode_tot 2 && negative z) z (pos 0)

-- T6: PRESET_TOT, and a written TOTAL, in thousandths, without a fraction
unfoldable pub thousandths_of : Float → ℤ
thousandths_of value = cut_of (mul binary32 value (of_int binary32 (pos total_factor)))

-- T4: a sum, no further from 0 than its limit
unfoldable pub sum_of : ℤ → ℤ → ℤ
sum_of total z = limit total_limit (total +ℤ z)

-- T6, T8, P12b: the total after an Auto tick, by SET_TOT: run (0) adds, reset (1) makes it 0, preset (2) PRESET_TOT; another code counts as preset
unfoldable pub next_total : ℕ → Float → ℤ → ℤ → ℤ
next_total set_tot preset_tot total z = cond (eqb set_tot 0) (sum_of total z) (cond (eqb set_tot 1) (pos 0) (thousandths_of preset_tot))

-- T10: what is given outside O/S: the total, those bits of its magnitude cleared that are below the 24 highest, as a float, divided by 1000
unfoldable pub value_given : ℤ → Float
value_given total = div binary32 (of_int binary32 (highest24ℤ total)) (of_int binary32 (pos total_factor))

unfoldable pub given_bits : ℤ → ℕ
given_bits total = bits_of (value_given total)

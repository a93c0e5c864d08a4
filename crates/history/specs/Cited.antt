-- What the rules cite stands on both sides of the claim. So each cited definition is pinned here, beside A to I, and with them the numbers of answers and
-- the parts of an image: as a formula for all values, in the kit's operations, and by points worked by hand from documents 01 and 02. The rules' lists are
-- compared with the table. Code and a cited definition changed together are refused here. Assumes nothing.
use Rattle.std.specs.Prelude.{ℕ, suc, ◌+◌, ◌-◌, ◌*◌, ◌/◌, ◌%◌, ◌^◌, min, ◌≡◌, Bool, true, false, not, ◌&&◌, ◌||◌, cond, List, [], ◌∷◌, ◌++◌, eqb, leb, ℤ, pos, negsuc, neg_ℤ, ◌+ℤ◌, Float, length, take, drop, Ok, Some}
use Rattle.std.specs.Float.{nan, inf, fin, binary32}
use Rattle.std.specs.Float.Ieee.{of_int, of_bits, to_bits, add, sub, mul, div, le, ne, size, to_signed}
use Rattle.std.specs.Float.Ieee.Scale.{finite}
use Rattle.numbers.specs.Floats.{float_of, bits_of}
use Rattle.scaling.specs.Scaling.{fraction_of, at_fraction}
use Rattle.linearisation.specs.declared.Point.{Point}
use Rattle.linearisation.specs.Table.{pairs_in}
use Rattle.wire.specs.declared.Pair.{Pair}
use Rattle.wire.specs.declared.Discrete.{Discrete}
use Rattle.wire.specs.Refusal.{granted, answer_number}
use Rattle.wire.specs.Status.{quality_of, sub_status_of, limits_of}
use Rattle.wire.specs.Bytes.{five_bytes, pair_of, two_bytes, discrete_of}
use Rattle.wire.specs.Image.{part_of, part_place}
use Rattle.tot.specs.Total.{increment_of, thousandths_of, sum_of, value_given}
use Rattle.blocks.specs.declared.setpoint.Order.{Order}
use Rattle.parameters.specs.declared.Words.{Words}
use Rattle.parameters.specs.declared.Class.{Class}
use Rattle.parameters.specs.declared.Class.TheVariants.{S, N, D, R}
use Rattle.parameters.specs.Table.{Row, rows_of, entry_of}
use Rattle.history.specs.Past.{History, start, ◌▷◌}
use Rattle.history.specs.Calls.{Fed, Seen, Event, ticked, telegram, wrote, loaded, words}
use Rattle.history.specs.Rules.{pair, refused, allowed_in, among, statics, kepts, outputs, read_onlys, defaults, or_zeros, to_write, scaled, calculated}
use Rattle.history.specs.Rules.{linear, to_load, hi, stands_with, ao_scaled, discrete, order_d, given}

-- whole numbers as singles, and the singles at the ends
abbrev whole : ℕ → Float
whole n = of_int binary32 (pos n)

abbrev largest : ℕ
largest = 0x7f7f_ffff

abbrev smallest : ℕ
smallest = 0xff7f_ffff

abbrev infinity : ℕ
infinity = 0x7f80_0000

abbrev minus_infinity : ℕ
minus_infinity = 0xff80_0000

abbrev not_a_number : ℕ
not_a_number = 0x7fc0_0000

-- ---- allowed words

-- four bytes of a word, and the eight of a pair
abbrev four : ℕ → List ℕ
four n = n / 2 ^ 24 ∷ n / 2 ^ 16 % 256 ∷ n / 2 ^ 8 % 256 ∷ n % 256 ∷ []

abbrev eight : ℕ → ℕ → List ℕ
eight x y = four x ++ four y

-- a table of (0, 0) and (1, 10)
abbrev slope : List ℕ
slope = eight 0 0 ++ eight 0x3f80_0000 0x4120_0000

-- Man in every block, so that OUT, TOTAL and OUT_D can be written, and a table, so that LIN_TYPE can be 1
abbrev in_man : History Event
in_man = start ▷ loaded slope ▷ wrote 1 5 0x10 0 ▷ wrote 2 5 0x10 0 ▷ wrote 3 5 0x10 0 ▷ wrote 4 5 0x10 0 ▷ wrote 5 5 0x10 0

abbrev answered : ℕ → ℕ → List Words → List ℕ
answered block number [] = []
answered block number (w ∷ ws) = answer_number (to_write in_man block number w.first w.second) ∷ answered block number ws

abbrev same : ℕ → List Words → List ℕ
same n [] = []
same n (w ∷ ws) = n ∷ same n ws

-- the test that a parameter's words have to pass, whatever they are; words that it takes, and words that it refuses as 5
abbrev Takes : (ℕ → ℕ → Bool) → List Words → List Words → ℕ → ℕ → Type 0
Takes test good bad block number =
    ((a b : ℕ) → allowed_in (entry_of block number) a b ≡ test a b) × (answered block number good ≡ same 0 good) × (answered block number bad ≡ same 5 bad)

-- P7: a second word of 0
abbrev one : ℕ → Words
one a = words a 0

-- P10: a mode, RCas among them or not
abbrev Modes : Bool → List Words → List Words → ℕ → ℕ → Type 0
Modes with_rcas = Takes (λ a b. (eqb a 0x80 || eqb a 0x10 || eqb a 0x08 || with_rcas && eqb a 0x02) && eqb b 0)

abbrev Three : ℕ → Type 0
Three block = Modes false (one 0x80 ∷ one 0x10 ∷ one 0x08 ∷ []) (one 0x02 ∷ one 0 ∷ one 0x18 ∷ words 0x08 1 ∷ []) block 5

abbrev Four : ℕ → Type 0
Four block = Modes true (one 0x80 ∷ one 0x10 ∷ one 0x08 ∷ one 0x02 ∷ []) (one 0x04 ∷ one 0 ∷ one 0x0a ∷ words 0x02 1 ∷ []) block 5

-- a whole number up to n
abbrev UpTo : ℕ → ℕ → ℕ → Type 0
UpTo n = Takes (λ a b. leb a n && eqb b 0) (one 0 ∷ one n ∷ []) (one (n + 1) ∷ one 0x8000_0000 ∷ words n 1 ∷ [])

-- P6: a single from one end to the other, and the next singles outside
abbrev Within : ℕ → ℕ → ℕ → ℕ → ℕ → ℕ → Type 0
Within low under high over =
    Takes (λ a b. (le (float_of low) (float_of a) && le (float_of a) (float_of high)) && eqb b 0) (one low ∷ one high ∷ one 0 ∷ one 0x8000_0000 ∷ [])
    (one under ∷ one over ∷ one infinity ∷ one minus_infinity ∷ one not_a_number ∷ words 0 1 ∷ [])

-- P5: a single that is finite
abbrev Finite : ℕ → ℕ → Type 0
Finite =
    Takes (λ a b. finite (float_of a) && eqb b 0) (one 0 ∷ one largest ∷ one smallest ∷ [])
    (one infinity ∷ one minus_infinity ∷ one not_a_number ∷ words 0 1 ∷ [])

-- P11h, P11i: a single that is finite, or the one infinity (`below`: the one below all)
abbrev pub finite_or : Bool → Float → Bool
finite_or below nan = false
finite_or true (inf negative) = negative
finite_or false (inf negative) = not negative
finite_or below (fin s m e) = true

abbrev Limit : Bool → ℕ → ℕ → ℕ → ℕ → Type 0
Limit below this other =
    Takes (λ a b. finite_or below (float_of a) && eqb b 0) (one this ∷ one largest ∷ one smallest ∷ one 0 ∷ [])
    (one other ∷ one not_a_number ∷ words this 1 ∷ [])

-- P11c: two finite ends, unequal as numbers
abbrev Ends : ℕ → ℕ → Type 0
Ends =
    Takes (λ a b. finite (float_of a) && finite (float_of b) && ne (float_of a) (float_of b))
    (words 0 0x42c8_0000 ∷ words 0x42c8_0000 0 ∷ words 0 1 ∷ words largest smallest ∷ [])
    (words 0 0 ∷ words 0 0x8000_0000 ∷ words infinity 0 ∷ words 0 minus_infinity ∷ words not_a_number 0 ∷ words 0 not_a_number ∷ [])

-- P11b: a finite value and a status byte
abbrev Output : ℕ → ℕ → Type 0
Output =
    Takes (λ a b. finite (float_of a) && leb b 255) (words largest 255 ∷ words smallest 0 ∷ [])
    (words infinity 0 ∷ words minus_infinity 0 ∷ words not_a_number 0 ∷ words 0 256 ∷ [])

-- Q3.4b: a discrete value and a status byte
abbrev OutputD : ℕ → ℕ → Type 0
OutputD = Takes (λ a b. leb a 1 && leb b 255) (words 0 255 ∷ words 1 0 ∷ []) (words 2 0 ∷ words 0x3f80_0000 0 ∷ words 0x100 0 ∷ words 0 256 ∷ [])

-- ---- whole numbers

-- T2, T4: a whole number cut to ±n
abbrev pub cut_to : ℕ → ℤ → ℤ
cut_to n (pos a) = pos (min a n)
cut_to n (negsuc a) = neg_ℤ (pos (min (suc a) n))

-- T10: the bits of a magnitude below its 24 highest cleared
abbrev cleared : ℕ → ℕ
cleared m = m / 2 ^ (size m - 24) * 2 ^ (size m - 24)

abbrev pub cleared_of : ℤ → ℤ
cleared_of (pos m) = pos (cleared m)
cleared_of (negsuc m) = neg_ℤ (pos (cleared (suc m)))

-- ---- the table beside the rules' lists

-- OUT is dynamic, and TOTAL kept
abbrev classed : Class → ℕ → ℕ → Bool
classed S block number = among (statics block) number
classed N block number = among (kepts block) number || among (outputs block) number && eqb block 2
classed D block number = among (outputs block) number && not (eqb block 2)
classed R block number = among (read_onlys block) number

-- a row is in the list of its class, and a stored one has the default of the rules
abbrev listed : ℕ → Row → Bool
listed block r = classed r.class block r.number
    && (not (among (statics block ++ kepts block) r.number)
    || eqb r.default.first (or_zeros (defaults block) r.number).first && eqb r.default.second (or_zeros (defaults block) r.number).second)

abbrev all_listed : ℕ → List Row → Bool
all_listed block [] = true
all_listed block (r ∷ rows) = listed block r && all_listed block rows

-- and no list has more
abbrev Agrees : ℕ → Type 0
Agrees block = (all_listed block (rows_of block) ≡ true)
    × (length (rows_of block) ≡ length (statics block ++ kepts block ++ outputs block ++ read_onlys block))

-- ---- scales

-- PV_SCALE 4, 20 and OUT_SCALE 3, 15 in AO and AIN
abbrev scales : History Event
scales =
    start ▷ wrote 3 11 0x4080_0000 0x41a0_0000 ▷ wrote 3 38 0x4040_0000 0x4170_0000 ▷ wrote 1 11 0x4080_0000 0x41a0_0000 ▷ wrote 1 12 0x4040_0000 0x4170_0000

-- both of AIN's scales 0, 64, PV_FTIME 0.5
abbrev filters : History Event
filters = start ▷ wrote 1 11 0 0x4280_0000 ▷ wrote 1 12 0 0x4280_0000 ▷ wrote 1 16 0x3f00_0000 0

-- what is seen of a tick, with this read of AIN's OUT
abbrev reads : Words → Seen → Seen
reads out seen = record { ain = out; ao = seen.ao; di = seen.di; dout = seen.dout; order = seen.order; order_d = seen.order_d }

-- HI_LIM 80
abbrev limited : History Event
limited = start ▷ wrote 1 23 0x42a0_0000 0

-- ---- tables

abbrev point : ℕ → ℕ → Point
point x y = record { x = float_of x; y = float_of y }

-- (0, 0) (1, 10) (4, 70) (7, 100), as bytes and as pairs
abbrev weir : List ℕ
weir = slope ++ eight 0x4080_0000 0x428c_0000 ++ eight 0x40e0_0000 0x42c8_0000

abbrev weir_pairs : List Point
weir_pairs = point 0 0 ∷ point 0x3f80_0000 0x4120_0000 ∷ point 0x4080_0000 0x428c_0000 ∷ point 0x40e0_0000 0x42c8_0000 ∷ []

-- (0, −0) (1, 10), and (0, −3e38) (2, 3e38), whose y lie further apart than singles go
abbrev signed : List Point
signed = point 0 0x8000_0000 ∷ point 0x3f80_0000 0x4120_0000 ∷ []

abbrev wide : List Point
wide = point 0 0xff61_b1e6 ∷ point 0x4000_0000 0x7f61_b1e6 ∷ []

-- LIN_TYPE 1 with the weir's table; locked
abbrev by_table : History Event
by_table = start ▷ loaded weir ▷ wrote 1 13 1 0

abbrev locked : History Event
locked = start ▷ wrote 0 18 0 0

abbrev loaded_as : History Event → List ℕ → ℕ
loaded_as h bytes = answer_number (to_load h bytes)

abbrev numbered : ℕ → ℕ
numbered n = answer_number (refused n)

pub record Cited : Type 0 where
  -- B, C and D once more, of the rules' own words, whatever else the ticks carry: PV_SCALE 4, 20 and input 12 give 50 with 0x80; a filter step is `down`
  -- and `up` below; OUT 80 raises HI, after it 79.5 keeps it and 79.25 clears it
  pub measured : (tot : Pair) (di : Discrete) (seen : Seen)
      → given 1 (start ▷ wrote 1 11 0x4080_0000 0x41a0_0000
      ▷ ticked false (record { ain = pair 0x4140_0000 0x80; tot = tot; di = di }) seen) ≡ pair 0x4248_0000 0x80
  pub alarm : (fed : Fed) (status : ℕ) (seen : Seen)
      → (stands_with hi limited 0x42a0_0000 ≡ true)
      × (stands_with hi (limited ▷ ticked false fed (reads (words 0x42a0_0000 status) seen)) 0x429f_0000 ≡ true)
      × (stands_with hi (limited ▷ ticked false fed (reads (words 0x42a0_0000 status) seen)) 0x429e_8000 ≡ false)
  -- A1, O9: the formulas of scaling
  pub fraction : (low high x : Float) → fraction_of (record { low = low; high = high }) x ≡ div binary32 (sub binary32 x low) (sub binary32 high low)
  pub place : (low high f : Float) → at_fraction (record { low = low; high = high }) f ≡ add binary32 (mul binary32 f (sub binary32 high low)) low
  -- T2, T4, T6, T10: those of the total; to_signed 63 is the kit's cut toward zero
  pub increment : (rate : Float) → increment_of rate ≡ cut_to (10 ^ 9) (to_signed 63 (mul binary32 rate (whole 100)))
  pub sum : (total z : ℤ) → sum_of total z ≡ cut_to (10 ^ 12) (total +ℤ z)
  pub thousandth : (x : Float) → thousandths_of x ≡ to_signed 63 (mul binary32 x (whole 1000))
  pub value : (total : ℤ) → value_given total ≡ div binary32 (of_int binary32 (cleared_of total)) (whole 1000)
  -- P8, S1, S4: those of singles, status bytes and five bytes
  pub single : (n : ℕ) (x : Float) → (float_of n ≡ of_bits binary32 n) × (bits_of x ≡ to_bits binary32 x)
  pub status : (n : ℕ) → (quality_of n ≡ n / 64) × (sub_status_of n ≡ n / 4 % 16) × (limits_of n ≡ n % 4)
  pub sent : (n status : ℕ) → five_bytes (pair n status) ≡ n / 2 ^ 24 ∷ n / 2 ^ 16 % 256 ∷ n / 2 ^ 8 % 256 ∷ n % 256 ∷ status ∷ []
  pub received : (a b c d status : ℕ) → pair_of (a ∷ b ∷ c ∷ d ∷ status ∷ []) ≡ Ok (pair (a * 2 ^ 24 + b * 2 ^ 16 + c * 2 ^ 8 + d) status)
  -- Q3.4a, Q3.7: those of two bytes
  pub sent_d : (value status : ℕ) → two_bytes (record { value = value; status = status }) ≡ value ∷ status ∷ []
  pub received_d : (value status : ℕ) → discrete_of (value ∷ status ∷ []) ≡ Ok (record { value = value; status = status })
  -- setpoint 15: f is 11 / 16, and 0.6875 × 12 + 3 is 11.25; closing, 0.3125 × 12 + 3 is 6.75
  pub setpoint : ao_scaled scales (whole 15) ≡ float_of 0x4134_0000
  pub closing : ao_scaled (scales ▷ wrote 3 36 1 0) (whole 15) ≡ float_of 0x40d8_0000
  pub input : scaled scales (pair 0x4170_0000 0x80) ≡ float_of 0x4134_0000
  -- from 12 to 0, by 6: 12 − 2; and from 0 to 12: 2
  pub down : calculated filters (Some (whole 12)) (pair 0 0x80) ≡ whole 10
  pub up : calculated filters (Some (whole 0)) (pair 0x4140_0000 0x80) ≡ whole 2
  -- 10^7 × 100 is the end; the next single and the largest one go no further, either way. 9,999,999 × 100 rounds to 999,999,872, 0.29's single × 100 to 29
  pub increments : (increment_of (whole 10_000_000) ≡ pos (10 ^ 9)) × (increment_of (whole 10_000_001) ≡ pos (10 ^ 9))
      × (increment_of (float_of largest) ≡ pos (10 ^ 9))
      × (increment_of (float_of 0xcb18_9681) ≡ negsuc 999_999_999) × (increment_of (float_of smallest) ≡ negsuc 999_999_999)
      × (increment_of (whole 9_999_999) ≡ pos 999_999_872) × (increment_of (float_of 0x3e94_7ae1) ≡ pos 29)
  -- both ends of the sum, and a sum below 0
  pub sums : (sum_of (pos (10 ^ 12)) (pos 1) ≡ pos (10 ^ 12)) × (sum_of (pos 999_999_999_999) (pos 1) ≡ pos (10 ^ 12)) × (sum_of (pos 5) (negsuc 6) ≡ negsuc 1)
      × (sum_of (negsuc 999_999_999_999) (negsuc 0) ≡ negsuc 999_999_999_999) × (sum_of (negsuc 999_999_999_998) (negsuc 0) ≡ negsuc 999_999_999_999)
  -- −3 / 2048 × 1000 is −1.46.., cut −1; 0.29's single × 1000 rounds to 290; ±10^9 × 1000 to the multiple of 65,536 next to ±10^12
  pub thousandths : (thousandths_of (float_of 0xbac0_0000) ≡ negsuc 0) × (thousandths_of (float_of 0x3e94_7ae1) ≡ pos 290)
      × (thousandths_of (float_of 0x4e6e_6b28) ≡ pos 999_999_995_904) × (thousandths_of (float_of 0xce6e_6b28) ≡ negsuc 999_999_995_903)
  -- a negative total loses the bits of its magnitude: −16,777,217 leads to −16,777,216 / 1000; 10^12 and 290 thousandths
  pub values : (value_given (negsuc 16_777_216) ≡ div binary32 (of_int binary32 (negsuc 16_777_215)) (whole 1000))
      × (value_given (pos (10 ^ 12)) ≡ float_of 0x4e6e_6b28)
      × (value_given (pos 290) ≡ float_of 0x3e94_7ae1) × (value_given (pos 0) ≡ float_of 0)
  -- bits, bytes, status bytes and the numbers of refusals
  pub bits : (float_of 0x4248_0000 ≡ whole 50) × (bits_of (whole 50) ≡ 0x4248_0000) × (bits_of (float_of 0x8000_0000) ≡ 0x8000_0000)
  pub bytes : (five_bytes (pair 0x0102_0304 5) ≡ 1 ∷ 2 ∷ 3 ∷ 4 ∷ 5 ∷ []) × (pair_of (1 ∷ 2 ∷ 3 ∷ 4 ∷ 5 ∷ []) ≡ Ok (pair 0x0102_0304 5))
  pub statuses : (quality_of 0xa3 ≡ 2) × (sub_status_of 0xa3 ≡ 8) × (quality_of 0xc4 ≡ 3) × (sub_status_of 0xc4 ≡ 1)
  -- F1: the number of an answer: that of its ground, 0 if it is accepted
  pub numbers : (answer_number granted ≡ 0) × (numbered 1 ≡ 1) × (numbered 2 ≡ 2) × (numbered 3 ≡ 3) × (numbered 4 ≡ 4) × (numbered 5 ≡ 5)
      × (numbered 6 ≡ 6) × (numbered 7 ≡ 7) × (numbered 8 ≡ 8) × (numbered 9 ≡ 9) × (numbered 10 ≡ 10)
  -- Q1.3: eight bytes are a pair, x and then y, and those behind them the next ones; fewer are none
  pub pairs : (a b c d e f g h : ℕ) (s : List ℕ) → pairs_in (a ∷ b ∷ c ∷ d ∷ e ∷ f ∷ g ∷ h ∷ s)
      ≡ point (a * 2 ^ 24 + b * 2 ^ 16 + c * 2 ^ 8 + d) (e * 2 ^ 24 + f * 2 ^ 16 + g * 2 ^ 8 + h) ∷ pairs_in s
  pub rest : (a b c d e f g : ℕ) → (pairs_in [] ≡ []) × (pairs_in (a ∷ b ∷ c ∷ d ∷ e ∷ f ∷ g ∷ []) ≡ [])
  pub weirs : pairs_in weir ≡ weir_pairs
  -- Q1.4 to Q1.7: between two pairs, at an inner x, before the first x, from the last x on, and what isn't finite. 10 + ((1.9 − 1) × 60) / 3 is 28 in singles
  pub curve : (linear weir_pairs (float_of 0x3ff3_3333) ≡ float_of 0x41e0_0000) × (linear weir_pairs (whole 4) ≡ whole 70)
      × (linear weir_pairs (float_of 0xbf80_0000) ≡ whole 0) × (linear weir_pairs (whole 7) ≡ whole 100) × (linear weir_pairs (whole 8) ≡ whole 100)
      × (linear weir_pairs (float_of not_a_number) ≡ float_of not_a_number) × (linear weir_pairs (float_of minus_infinity) ≡ float_of minus_infinity)
  -- at the first x the line serves and not its y: −0 + 0 is +0, and from −0 on −0 + −0 is −0; 0 × infinity is no number, 1 × infinity is infinite
  pub starts : (linear signed (float_of 0) ≡ float_of 0) × (linear signed (float_of 0x8000_0000) ≡ float_of 0x8000_0000)
      × (linear wide (float_of 0) ≡ float_of not_a_number) × (linear wide (whole 1) ≡ float_of infinity)
  -- Q1.3, Q1.5: the table comes before the scales: 1.9 becomes 28, and PV_SCALE 4, 20 with OUT_SCALE 3, 15 makes 21 of it
  pub linearised : (scaled (by_table ▷ wrote 1 11 0x4080_0000 0x41a0_0000 ▷ wrote 1 12 0x4040_0000 0x4170_0000) (pair 0x3ff3_3333 0x80) ≡ whole 21)
      × (scaled (by_table ▷ wrote 1 13 0 0 ▷ wrote 1 11 0 0x4280_0000 ▷ wrote 1 12 0 0x4280_0000) (pair 0x4100_0000 0x80) ≡ whole 8)
  -- Q1.10, Q1.11: none, one pair, a byte missing or too many, 22 pairs; then −0 before 0, a falling x, what isn't finite; locked before that
  pub loads : (loaded_as start weir ≡ 0) × (loaded_as start [] ≡ 9) × (loaded_as start (eight 0 0) ≡ 9) × (loaded_as start (drop 1 slope) ≡ 9)
      × (loaded_as start (0 ∷ slope) ≡ 9) × (loaded_as start (eight 0x8000_0000 0 ++ eight 0 0) ≡ 10)
      × (loaded_as start (eight 0x3f80_0000 0 ++ eight 0 0) ≡ 10)
      × (loaded_as start (eight 0 infinity ++ eight 0x3f80_0000 0) ≡ 10) × (loaded_as start (eight 0 0 ++ eight not_a_number 0) ≡ 10)
      × (loaded_as locked weir ≡ 4) × (loaded_as locked [] ≡ 4)
  -- B2, Q3.9b: a block's bytes of a buffer with room for an image, and where they lie: five of each of AIN, TOT and AO, then two of each of DI and DO
  pub part : (s : List ℕ) (block : ℕ) (place : ℕ × ℕ)
      → (part_of s block ≡ cond (leb 19 (length s) && leb 1 block && leb block 5)
      (cond (leb block 3) (take 5 (drop (5 * (block - 1)) s)) (take 2 (drop (15 + 2 * (block - 4)) s))) [])
      × (part_place place s block ≡ cond (leb 19 (length s) && leb 1 block && leb block 5)
      (place.0, cond (leb block 3) (5 * (block - 1)) (15 + 2 * (block - 4)) + place.1) place)
  -- Q3.3, Q3.5: fresh DO gives FSAFE_VAL_D, 0 with 0x48, and goes there; under INVERT 1 to 1
  pub sluice : (fed : Fed) (seen : Seen) → (given 5 (start ▷ ticked false fed seen) ≡ pair 0 0x48) × (order_d start false ≡ Order.Position 0)
      × (given 5 (start ▷ wrote 5 15 1 0 ▷ ticked false fed seen) ≡ pair 1 0x48) × (order_d (start ▷ wrote 5 15 1 0) false ≡ Order.Position 1)
  -- Q3.4b, Q3.7: on SP_D 1 with 0x80 is a setpoint; 5 with 0x80 counts for nothing, and 5 with 0xA0 is IFS
  pub sluiced : (order_d (start ▷ telegram 2 (1 ∷ 0x80 ∷ [])) false ≡ Order.Position 1)
      × (order_d (start ▷ telegram 2 (1 ∷ 0x80 ∷ []) ▷ telegram 2 (5 ∷ 0x80 ∷ [])) false ≡ Order.Position 1)
      × (order_d (start ▷ telegram 2 (1 ∷ 0x80 ∷ []) ▷ telegram 2 (5 ∷ 0xa0 ∷ [])) false ≡ Order.Position 0)
      × (order_d (start ▷ wrote 5 20 2 0 ▷ telegram 2 (1 ∷ 0x80 ∷ []) ▷ telegram 2 (5 ∷ 0xa0 ∷ [])) false ≡ Order.Safe)
  -- Q3.4b, Q3.5: DI as it comes, inverted, and fail-safe by FSAFE_VAL_D, which is not; under FSAFE_TYPE 2 another value than 0 and 1 leaves old OUT_D with
  -- 0x04, or with its own Bad byte
  pub contact : (ain tot : Pair) (seen : Seen)
      → (given 4 (start ▷ ticked false (record { ain = ain; tot = tot; di = discrete (pair 0 0x83) }) seen) ≡ pair 0 0x83)
      × (given 4 (start ▷ wrote 4 15 1 0 ▷ ticked false (record { ain = ain; tot = tot; di = discrete (pair 0 0x83) }) seen) ≡ pair 1 0x83)
      × (given 4 (start ▷ wrote 4 15 1 0 ▷ wrote 4 21 1 0 ▷ ticked false (record { ain = ain; tot = tot; di = discrete (pair 0 0x0d) }) seen) ≡ pair 1 0x48)
      × (given 4 (start ▷ wrote 4 20 2 0 ▷ ticked false (record { ain = ain; tot = tot; di = discrete (pair 7 0x80) }) seen) ≡ pair 0 0x04)
      × (given 4 (start ▷ wrote 4 20 2 0 ▷ ticked false (record { ain = ain; tot = tot; di = discrete (pair 7 0x0d) }) seen) ≡ pair 0 0x0d)
  -- the rows' allowed words
  pub locks : Takes (λ a b. (eqb a 0 || eqb a 2457) && eqb b 0) (one 0 ∷ one 2457 ∷ []) (one 1 ∷ one 2456 ∷ one 32768 ∷ words 0 1 ∷ words 2457 1 ∷ []) 0 18
  pub modes : Three 1 × Three 2 × Four 3 × Three 4 × Four 5
  pub ends : Ends 1 11 × Ends 1 12 × Ends 3 11 × Ends 3 38
  pub codes : UpTo 1 1 13 × UpTo 2 1 17 × UpTo 2 2 13 × UpTo 3 2 14 × UpTo 2 2 15 × UpTo 65535 3 23 × UpTo 2 3 24 × UpTo 1 3 36
  pub codes_d : UpTo 1 4 15 × UpTo 2 4 20 × UpTo 1 4 21 × UpTo 1 5 15 × UpTo 2 5 20 × UpTo 1 5 21 × UpTo 65535 5 22
  -- 0 to 3600, and ±10^9
  pub ranges : Within 0 0x8000_0001 0x4561_0000 0x4561_0001 1 16 × Within 0xce6e_6b28 0xce6e_6b29 0x4e6e_6b28 0x4e6e_6b29 2 16
  pub finites : Finite 1 18 × Finite 3 25
  -- P11g: finite and not below 0
  pub hysteresis : Takes (λ a b. (finite (float_of a) && le (float_of 0) (float_of a)) && eqb b 0) (one 0 ∷ one 0x8000_0000 ∷ one largest ∷ [])
      (one 0x8000_0001 ∷ one infinity ∷ one not_a_number ∷ words 0 1 ∷ []) 1 19
  pub limits : Limit false infinity minus_infinity 1 21 × Limit false infinity minus_infinity 1 23 × Limit true minus_infinity infinity 1 25
      × Limit true minus_infinity infinity 1 27
  pub outs : Output 1 10 × Output 3 37 × OutputD 4 10 × OutputD 5 10
  -- P12a: ±10^9, and a status byte
  pub totals : Takes (λ a b. (le (float_of 0xce6e_6b28) (float_of a) && le (float_of a) (float_of 0x4e6e_6b28)) && leb b 255)
      (words 0x4e6e_6b28 255 ∷ words 0xce6e_6b28 0 ∷ [])
      (words 0x4e6e_6b29 0 ∷ words 0xce6e_6b29 0 ∷ words not_a_number 0 ∷ words 0 256 ∷ []) 2 10
  -- the table's rows and the rules' lists
  pub table : Agrees 0 × Agrees 1 × Agrees 2 × Agrees 3 × Agrees 4 × Agrees 5

-- Which words a parameter takes and what they stand for, document 01, Parameters, and document 02, request 3. Assumes nothing.
use Rattle.std.specs.Prelude.{ℕ, ◌%◌, Bool, true, false, ◌&&◌, ◌||◌, eqb, leb, pos, Float}
use Rattle.std.specs.Float.{binary32}
use Rattle.std.specs.Float.Ieee.{of_int, le}
use Rattle.std.specs.Float.Ieee.Scale.{finite}
use Rattle.numbers.specs.Floats.{float_of, bits_of, finite_or, within}
use Rattle.scaling.specs.declared.Scale.{Scale}
use Rattle.scaling.specs.Scaling.{allowed_scale}
use Rattle.wire.specs.declared.Pair.{Pair}
use Rattle.wire.specs.declared.Discrete.{Discrete}
use Rattle.blocks.specs.Common.{out_of_service, man, auto, rcas}
use Rattle.parameters.specs.declared.Words.{Words}
use Rattle.parameters.specs.Table.{words}
use Rattle.parameters.specs.declared.Allowed.{Allowed}
use Rattle.parameters.specs.declared.Allowed.TheVariants.{Nothing, Lock, Mode, ModeOrRcas, UpTo, Ends, Within, Finite, AtLeastZero}
use Rattle.parameters.specs.declared.Allowed.TheVariants.{FiniteOrInfinity, FiniteOrMinusInfinity, Output, OutputD, Total}

-- P7: where one word is the value, the other is 0
abbrev one : Bool → ℕ → Bool
one b second = b && eqb second 0

-- P11b, P12a: a status is a byte
abbrev status : ℕ → Bool
status second = leb second 255

-- P10: the code of a mode, RCas among them or not
abbrev pub mode : Bool → ℕ → Bool
mode with_rcas a = eqb a out_of_service || eqb a man || eqb a auto || with_rcas && eqb a rcas

-- P6, P8: codes, ticks and a status as whole numbers, all else as floats by their bits;
-- a range of floats is one of numbers and takes both zeros or neither
unfoldable pub allows_of : Allowed → ℕ → ℕ → Bool
allows_of Nothing a b = false
allows_of Lock a b = one (eqb a 0 || eqb a 2457) b
allows_of Mode a b = one (mode false a) b
allows_of ModeOrRcas a b = one (mode true a) b
allows_of (UpTo n) a b = one (leb a n) b
allows_of Ends a b = allowed_scale (record { low = float_of a; high = float_of b })
allows_of (Within low high) a b = one (within low high (float_of a)) b
allows_of Finite a b = one (finite (float_of a)) b
allows_of AtLeastZero a b = one (finite (float_of a) && le (of_int binary32 (pos 0)) (float_of a)) b
allows_of FiniteOrInfinity a b = one (finite_or false (float_of a)) b
allows_of FiniteOrMinusInfinity a b = one (finite_or true (float_of a)) b
allows_of Output a b = finite (float_of a) && status b
-- Q3.4: a discrete value is 0 or 1
allows_of OutputD a b = leb a 1 && status b
allows_of (Total low high) a b = within low high (float_of a) && status b

-- P7: a parameter of one word reads with 0 as the other
abbrev pub code : ℕ → Words
code n = words n 0

abbrev pub float : Float → Words
float x = words (bits_of x) 0

-- P8: words are stored as the floats whose bits they are, codes, ticks and a status as they are; a scale is two floats
abbrev pub scale_of : ℕ → ℕ → Scale
scale_of a b = record { low = float_of a; high = float_of b }

abbrev pub ends : Scale → Words
ends s = words (bits_of s.low) (bits_of s.high)

-- P11b: an output's words are a value's bits and a status; a status that is accepted is a byte
abbrev pub pair_of : ℕ → ℕ → Pair
pair_of a b = record { bits = a; status = b % 256 }

-- P14b: an output reads as the pair last given
abbrev pub given : Pair → Words
given p = words p.bits p.status

-- Q3.4b: OUT_D's words are a value and a status, each a byte if it is accepted
abbrev pub discrete_pair : ℕ → ℕ → Discrete
discrete_pair a b = record { value = a % 256; status = b % 256 }

-- Q3.4a: OUT_D too
abbrev pub given_d : Discrete → Words
given_d p = words p.value p.status

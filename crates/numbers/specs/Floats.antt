-- Singles and their bits, and the ranges of document 01, Parameters. Floats are those of `lib.Ieee`, the kit's account of IEEE 754.
-- Assumes nothing.
use Rattle.std.specs.Prelude.{ℕ, Bool, true, false, ◌&&◌, from_bits, to_bits, Float}
use Rattle.std.specs.Bool.{beq}
use Rattle.std.specs.Float.{nan, inf, fin, binary32}
use Rattle.std.specs.Float.Ieee.{le}

-- H4, P8: a single by its bits, and its bits
abbrev pub float_of : ℕ → Float
float_of bits = from_bits binary32 bits

abbrev pub bits_of : Float → ℕ
bits_of x = to_bits binary32 x

-- P11h, P11i: finite, or one of the infinities: the flag is its sign
abbrev pub finite_or : Bool → Float → Bool
finite_or negative nan = false
finite_or negative (inf s) = beq negative s
finite_or negative (fin s m e) = true

-- P6: a range is one of numbers: both zeros are in it, or neither
abbrev pub within : Float → Float → Float → Bool
within low high x = le low x && le x high

-- The linearisation table, document 02, request 1: which bytes stand for one, and the one form that it has. Assumes nothing.
use Rattle.std.specs.Prelude.{ℕ, zero, suc, ◌-◌, ◌/◌, ◌%◌, Bool, true, not, ◌&&◌, cond, List, [], ◌∷◌, ◌++◌, eqb, leb, length, get_or, take, drop, replicate, Float, Result, Ok, Err}
use Rattle.std.specs.Float.Ieee.{lt}
use Rattle.std.specs.Float.Ieee.Scale.{finite}
use Rattle.numbers.specs.Floats.{float_of}
use Rattle.wire.specs.declared.Refusal.{Refusal}
use Rattle.wire.specs.Bytes.{word_of}
use Rattle.wire.specs.Refusal.{ground}
use Rattle.linearisation.specs.declared.Point.{Point}
use Rattle.linearisation.specs.declared.Table.{Table}

-- ---- the form of a table

abbrev pub zero_point : Point
zero_point = record { x = float_of 0; y = float_of 0 }

-- 21 places: the pairs, and zeros after them
abbrev pub padded : List Point → List Point
padded ps = ps ++ replicate (21 - length ps) zero_point

abbrev pub table_of : List Point → Table
table_of ps = record { count = length ps; points = padded ps }

-- before the first load
abbrev pub no_table : Table
no_table = table_of []

abbrev pub has_table : Table → Bool
has_table t = not (eqb t.count 0)

-- the pairs in the places of a table
abbrev pub pairs_of : Table → List Point
pairs_of t = take t.count t.points

-- ---- what bytes stand for

-- Q1.3: a pair of eight bytes: x, then y, each from its highest byte on
abbrev pub pair_from : List ℕ → Point
pair_from s = record {
  x = float_of (word_of (get_or s 0 0) (get_or s 1 0) (get_or s 2 0) (get_or s 3 0));
  y = float_of (word_of (get_or s 4 0) (get_or s 5 0) (get_or s 6 0) (get_or s 7 0));
}

unfoldable pub pairs_from : ℕ → List ℕ → List Point
pairs_from zero s = []
pairs_from (suc n) s = pair_from s ∷ pairs_from n (drop 8 s)

-- the whole pairs of bytes
unfoldable pub pairs_in : List ℕ → List Point
pairs_in s = pairs_from (length s / 8) s

-- Q1.3, Q1.11: whole pairs, from 2 to 21 of them
unfoldable pub whole_pairs : ℕ → Bool
whole_pairs n = eqb (n % 8) 0 && leb 2 (n / 8) && leb (n / 8) 21

-- Q1.11: a pair may follow another if both its numbers are finite and its x lies above the other's; zeros of both signs are one number
unfoldable pub follow : Float → List Point → Bool
follow before [] = true
follow before (p ∷ ps) = finite p.x && finite p.y && lt before p.x && follow p.x ps

-- Q1.11: so each pair but the first, whose numbers are only finite
unfoldable pub allowed : List Point → Bool
allowed [] = true
allowed (p ∷ ps) = finite p.x && finite p.y && follow p.x ps

-- Q1.11: bytes are refused as no 2 to 21 whole pairs (9), then as pairs that are not allowed (10)
unfoldable pub loaded_of : List ℕ → Result Table Refusal
loaded_of s =
    cond (not (whole_pairs (length s))) (Err (ground 9))
    (cond (not (allowed (pairs_in s))) (Err (ground 10)) (Ok (table_of (pairs_in s))))

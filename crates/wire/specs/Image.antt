-- The bus image and one block's part of it, document 01, Bus image, and document 02, request 3. Assumes nothing.
use Rattle.std.specs.Prelude.{ℕ, ◌+◌, ◌*◌, ◌-◌, Bool, cond, ◌&&◌, List, [], ◌++◌, length, take, drop, leb, Result, Err}
use Rattle.wire.specs.declared.Pair.{Pair}
use Rattle.wire.specs.declared.Discrete.{Discrete}
use Rattle.wire.specs.declared.Refusal.{Refusal}
use Rattle.wire.specs.Refusal.{granted, ground}
use Rattle.wire.specs.Bytes.{five_bytes, two_bytes}

-- F9, Q3.9a: an image needs a buffer of at least 19 bytes
abbrev pub image_fits : List ℕ → Bool
image_fits s = leb 19 (length s)

unfoldable pub image_answer : List ℕ → Result Unit Refusal
image_answer s = cond (image_fits s) granted (Err (ground 7))

-- B1, Q3.9a: the pairs of AIN, TOT and AO from the buffer's first byte on, those of DI and DO behind them, and what lies behind these as it was;
-- no byte changed where refused
unfoldable pub image_bytes : List ℕ → Pair → Pair → Pair → Discrete → Discrete → List ℕ
image_bytes s ain tot ao di dout =
    cond (image_fits s) (five_bytes ain ++ five_bytes tot ++ five_bytes ao ++ two_bytes di ++ two_bytes dout ++ drop 19 s) s

-- B2, Q3.9b: the block has a part: it is one of AIN, TOT, AO, DI and DO, and the buffer is long enough for an image; any other part is empty
abbrev pub has_part : List ℕ → ℕ → Bool
has_part s block = image_fits s && leb 1 block && leb block 5

-- B2, Q3.9b: how many bytes a block has, and where they start
abbrev pub part_length : ℕ → ℕ
part_length block = cond (leb block 3) 5 2

abbrev pub part_from : ℕ → ℕ
part_from block = cond (leb block 3) (5 * (block - 1)) (15 + 2 * (block - 4))

-- B2, Q3.9b: the bytes of a block
unfoldable pub part_of : List ℕ → ℕ → List ℕ
part_of s block = cond (has_part s block) (take (part_length block) (drop (part_from block) s)) []

-- B2: the part is lent out of the buffer itself, not copied: the buffer lies at a place, an object in memory and an offset in it, and the part
-- at its own start from there; an empty part lies at the buffer's front
unfoldable pub part_place : ℕ × ℕ → List ℕ → ℕ → ℕ × ℕ
part_place place s block = cond (has_part s block) (place.0, part_from block + place.1) place

-- The packed form of a device, its 141 words as 564 bytes, and what bytes are unpacked to. Assumes nothing.
use Rattle.std.specs.Prelude.{ℕ, Result, Ok, Err, Bool, true, false, cond, ◌&&◌, List, [], ◌∷◌, ◌++◌, length, drop, leb, eqb}
use Rattle.wire.specs.Bytes.{word_bytes, word_of}
use Rattle.wire.specs.Refusal.{Answer, granted, ground}
use Rattle.device.specs.declared.Device.{Device}
use Rattle.packing.specs.declared.NotUnpacked.{NotUnpacked}
use Rattle.packing.specs.declared.NotUnpacked.TheVariants.{WrongLength, NotPacked}
use Rattle.packing.specs.Words.{words_of, device_of}

-- each word highest byte first
abbrev pub bytes_of : List ℕ → List ℕ
bytes_of [] = []
bytes_of (w ∷ ws) = word_bytes w ++ bytes_of ws

unfoldable pub packed_of : Device → List ℕ
packed_of d = bytes_of (words_of d)

-- into the front of a buffer, later bytes unchanged; a buffer under 564 bytes is refused and not changed
abbrev pub pack_fits : List ℕ → Bool
pack_fits s = leb 564 (length s)

unfoldable pub pack_answer : List ℕ → Answer
pack_answer s = cond (pack_fits s) granted (Err (ground 7))

unfoldable pub pack_bytes : List ℕ → Device → List ℕ
pack_bytes s d = cond (pack_fits s) (packed_of d ++ drop 564 s) s

-- four bytes a word; bytes that make no whole word are left out
abbrev pub words_in : List ℕ → List ℕ
words_in [] = []
words_in (a ∷ []) = []
words_in (a ∷ b ∷ []) = []
words_in (a ∷ b ∷ c ∷ []) = []
words_in (a ∷ b ∷ c ∷ d ∷ s) = word_of a b c d ∷ words_in s

-- the same bytes in the same order, and as many
abbrev pub same_bytes : List ℕ → List ℕ → Bool
same_bytes [] [] = true
same_bytes [] (b ∷ t) = false
same_bytes (a ∷ s) [] = false
same_bytes (a ∷ s) (b ∷ t) = eqb a b && same_bytes s t

-- the numbers of what is not unpacked: 7 as of other bytes of a wrong length, 255 of no ground of the papers
abbrev pub not_unpacked_number : NotUnpacked → ℕ
not_unpacked_number WrongLength = 7
not_unpacked_number NotPacked = 255

-- the device whose packed form the bytes are; refused are another length than 564, and bytes that no device packs to
unfoldable pub unpacked_of : List ℕ → Result Device NotUnpacked
unpacked_of s =
    cond (eqb (length s) 564)
    (cond (same_bytes s (packed_of (device_of (words_in s)))) (Ok (device_of (words_in s))) (Err NotPacked))
    (Err WrongLength)

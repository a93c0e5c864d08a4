-- Bytes put into a buffer at a place, by which the call script's answers were said before they were appended to a vector. Assumes nothing.
use Rattle.std.specs.Prelude.{ℕ, ◌+◌, Bool, cond, List, ◌++◌, length, take, drop, leb}

-- bs in the place of as many bytes of s from at on, the bytes before and after unchanged
abbrev pub replaced : List ℕ → ℕ → List ℕ → List ℕ
replaced s at bs = take at s ++ bs ++ drop (at + length bs) s

-- s has room for bs from at on
abbrev pub fits : List ℕ → ℕ → List ℕ → Bool
fits s at bs = leb (at + length bs) (length s)

-- the buffer after bs was put at a place: where bs does not fit there, no byte is changed
unfoldable pub bytes_put : List ℕ → ℕ → List ℕ → List ℕ
bytes_put s at bs = cond (fits s at bs) (replaced s at bs) s

-- the place after bs; where bs does not fit, the buffer's length plus 1, a place where nothing fits, not even no bytes
unfoldable pub place_after : List ℕ → ℕ → List ℕ → ℕ
place_after s at bs = cond (fits s at bs) (at + length bs) (length s + 1)

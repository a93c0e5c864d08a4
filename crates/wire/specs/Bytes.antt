-- A pair on the bus and back, document 01, Status byte, with a refusal of Refused calls; a discrete one, document 02, request 3. Assumes nothing.
use Rattle.std.specs.Prelude.{ℕ, ◌+◌, ◌*◌, ◌/◌, ◌%◌, ◌^◌, Bool, cond, List, [], ◌∷◌, ◌++◌, length, get_or, take, drop, leb, eqb, Result, Ok, Err}
use Rattle.wire.specs.declared.Pair.{Pair}
use Rattle.wire.specs.declared.Discrete.{Discrete}
use Rattle.wire.specs.declared.Refusal.{Refusal}
use Rattle.wire.specs.Refusal.{granted, ground}

-- S4: a 32-bit word, from its highest byte on
abbrev pub word_bytes : ℕ → List ℕ
word_bytes n = n / 2 ^ 24 ∷ n / 2 ^ 16 % 256 ∷ n / 2 ^ 8 % 256 ∷ n % 256 ∷ []

-- S4: a pair on the bus: the value's word, and the status behind it
abbrev pub five_bytes : Pair → List ℕ
five_bytes p = word_bytes p.bits ++ (p.status ∷ [])

-- the word of four bytes, highest byte first
abbrev pub word_of : ℕ → ℕ → ℕ → ℕ → ℕ
word_of a b c d = a * 2 ^ 24 + b * 2 ^ 16 + c * 2 ^ 8 + d

-- F9: the pair of exactly five bytes; any other number of them is refused
unfoldable pub pair_of : List ℕ → Result Pair Refusal
pair_of s =
    cond (eqb (length s) 5) (Ok (record { bits = word_of (get_or s 0 0) (get_or s 1 0) (get_or s 2 0) (get_or s 3 0); status = get_or s 4 0 }))
    (Err (ground 7))

-- Q3.4: a discrete value on the bus: the value's byte, and the status behind it
abbrev pub two_bytes : Discrete → List ℕ
two_bytes d = d.value ∷ d.status ∷ []

-- Q3.8a: the discrete value and status of exactly two bytes; any other number of them is refused
unfoldable pub discrete_of : List ℕ → Result Discrete Refusal
discrete_of s =
    cond (eqb (length s) 2) (Ok (record { value = get_or s 0 0; status = get_or s 1 0 })) (Err (ground 7))

-- bs in the place of as many bytes of s from at on, the bytes before and after unchanged
abbrev pub replaced : List ℕ → ℕ → List ℕ → List ℕ
replaced s at bs = take at s ++ bs ++ drop (at + length bs) s

-- s has n bytes at the place at
abbrev pub fits : ℕ → List ℕ → ℕ → Bool
fits n s at = leb (at + n) (length s)

-- n bytes put at a place of a buffer: where they do not fit the call is refused
unfoldable pub placed_answer : ℕ → List ℕ → ℕ → Result Unit Refusal
placed_answer n s at = cond (fits n s at) granted (Err (ground 7))

-- and no byte changed
unfoldable pub placed : List ℕ → ℕ → List ℕ → List ℕ
placed s at bs = cond (fits (length bs) s at) (replaced s at bs) s

-- a pair's five bytes put at a place of a buffer
abbrev pub put_answer : List ℕ → ℕ → Result Unit Refusal
put_answer = placed_answer 5

abbrev pub put_bytes : List ℕ → ℕ → Pair → List ℕ
put_bytes s at p = placed s at (five_bytes p)

-- a discrete value's two
abbrev pub put_discrete_answer : List ℕ → ℕ → Result Unit Refusal
put_discrete_answer = placed_answer 2

abbrev pub put_discrete_bytes : List ℕ → ℕ → Discrete → List ℕ
put_discrete_bytes s at d = placed s at (two_bytes d)

-- The words of a line and the numbers that they stand for, by the call script. A line is a list of bytes, without its 0x0A. Assumes nothing.
use Rattle.std.specs.Prelude.{ℕ, zero, suc, Option, Some, None, ◌%◌, Bool, true, false, cond, ◌&&◌, List, [], ◌∷◌, ◌++◌, length, replicate, leb, eqb}
use Rattle.text.specs.Number.{word_number}

-- ---- words

-- a word in front of others, if it has a byte
abbrev pub some : List ℕ → List (List ℕ) → List (List ℕ)
some [] ws = ws
some (c ∷ w) ws = (c ∷ w) ∷ ws

-- the words of what follows w, the bytes of a word that were read already; 32 is the space
unfoldable pub words_after : List ℕ → List ℕ → List (List ℕ)
words_after w [] = some w []
words_after w (c ∷ s) = cond (eqb c 32) (some w (words_after [] s)) (words_after (w ++ (c ∷ [])) s)

-- "Words are separated by one or more spaces (0x20); spaces before the first and after the last word are passed over."
unfoldable pub words_of : List ℕ → List (List ℕ)
words_of = words_after []

abbrev pub is_empty : List (List ℕ) → Bool
is_empty [] = true
is_empty (w ∷ ws) = false

-- the first word; where there is none, no bytes, which are no number and no name
abbrev pub first_of : List (List ℕ) → List ℕ
first_of [] = []
first_of (w ∷ ws) = w

abbrev pub rest_of : List (List ℕ) → List (List ℕ)
rest_of [] = []
rest_of (w ∷ ws) = ws

-- ---- numbers

-- "A number is decimal, or hexadecimal after `0x`": no word stands for one over 4,294,967,295, the highest limit
unfoldable pub number_of : List ℕ → Option ℕ
number_of w = word_number w 4294967295

abbrev pub up_to : ℕ → Option ℕ → Bool
up_to limit (Some n) = leb n limit
up_to limit None = false

-- the value of a number; 0 where there is none
abbrev pub value_of : Option ℕ → ℕ
value_of (Some n) = n
value_of None = 0

-- the words are numbers up to their limits, one for each limit, and none is left
unfoldable pub fitting : List ℕ → List (List ℕ) → Bool
fitting [] ws = is_empty ws
fitting (limit ∷ limits) ws = up_to limit (number_of (first_of ws)) && fitting limits (rest_of ws)

-- "BYTE BYTE ..": at most so many, each 0 to 255
abbrev pub are_bytes : ℕ → List (List ℕ) → Bool
are_bytes most ws = leb (length ws) most && fitting (replicate (length ws) 255) ws

-- what each of the first n words gives
unfoldable pub each_of : (List ℕ → ℕ) → ℕ → List (List ℕ) → List ℕ
each_of f zero ws = []
each_of f (suc n) ws = f (first_of ws) ∷ each_of f n (rest_of ws)

abbrev pub word_value : List ℕ → ℕ
word_value w = value_of (number_of w)

-- the values of the first n words
abbrev pub values_of : ℕ → List (List ℕ) → List ℕ
values_of = each_of word_value

-- the lowest byte of a number
abbrev pub byte_of : Option ℕ → ℕ
byte_of n = value_of n % 256

abbrev pub word_byte : List ℕ → ℕ
word_byte w = byte_of (number_of w)

-- the lowest bytes of the first n words' numbers
abbrev pub bytes_of : ℕ → List (List ℕ) → List ℕ
bytes_of = each_of word_byte

-- ---- names

-- two byte strings are the same
unfoldable pub same_bytes : List ℕ → List ℕ → Bool
same_bytes [] [] = true
same_bytes [] (b ∷ bs) = false
same_bytes (a ∷ as₀) [] = false
same_bytes (a ∷ as₀) (b ∷ bs) = eqb a b && same_bytes as₀ bs

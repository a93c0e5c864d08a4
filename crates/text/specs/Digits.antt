-- Numbers as text, by the call script: "Words, value bits and positions are written as `0x` and eight capital hexadecimal digits, bytes as two capital
-- hexadecimal digits, refusal numbers and the total in decimal." Text is a list of ASCII bytes. Assumes nothing.
use Rattle.std.specs.Prelude.{ℕ, zero, suc, ◌+◌, ◌/◌, ◌%◌, cond, List, [], ◌∷◌, ◌++◌, ltb, ℤ, pos, negsuc}

-- the byte of a digit below 16: `0` to `9`, then `A` to `F`
abbrev pub digit : ℕ → ℕ
digit d = cond (ltb d 10) (48 + d) (55 + d)

-- the last k digits of n in a base, the highest first
abbrev pub digits : ℕ → ℕ → ℕ → List ℕ
digits base zero n = []
digits base (suc k) n = digits base k (n / base) ++ (digit (n % base) ∷ [])

-- "two capital hexadecimal digits"
abbrev pub hex_byte : ℕ → List ℕ
hex_byte = digits 16 2

-- "`0x` and eight capital hexadecimal digits"
abbrev pub hex_word : ℕ → List ℕ
hex_word n = 48 ∷ 120 ∷ digits 16 8 n

-- n in decimal without leading zeros, where it has at most k digits
unfoldable pub decimal_in : ℕ → ℕ → List ℕ
decimal_in zero n = []
decimal_in (suc k) n = cond (ltb n 10) (digit n ∷ []) (decimal_in k (n / 10) ++ (digit (n % 10) ∷ []))

-- "in decimal": a number below 2 ^ 64 has at most 20 digits
unfoldable pub decimal : ℕ → List ℕ
decimal = decimal_in 20

-- "the total in decimal", `-16777217`: a negative number has the sign `-`
unfoldable pub signed : ℤ → List ℕ
signed (pos n) = decimal n
signed (negsuc n) = 45 ∷ decimal (suc n)

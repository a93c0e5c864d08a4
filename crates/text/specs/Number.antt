-- Numbers read from text, by the call script: "A number is decimal, or hexadecimal after `0x` with digits of either case. Leading zeros are allowed." Text
-- is a list of ASCII bytes. Assumes nothing.
use Rattle.std.specs.Prelude.{ℕ, Option, Some, None, ◌+◌, ◌-◌, ◌*◌, Bool, true, cond, ◌&&◌, List, [], ◌∷◌, length, get_or, drop, leb, ltb, eqb}

-- the value of a digit, "of either case": `0` to `9`, `A` to `F`, `a` to `f`; 16, which is a digit in no base here, for any other byte
unfoldable pub digit_value : ℕ → ℕ
digit_value c =
    cond (ltb c 48) 16
    (cond (ltb c 58) (c - 48)
    (cond (ltb c 65) 16
    (cond (ltb c 71) (c - 55)
    (cond (ltb c 97) 16
    (cond (ltb c 103) (c - 87) 16)))))

-- every byte is a digit of the base
abbrev pub all_digits : ℕ → List ℕ → Bool
all_digits base [] = true
all_digits base (c ∷ cs) = ltb (digit_value c) base && all_digits base cs

-- the value of digits that follow those of the value n
abbrev pub value_after : ℕ → ℕ → List ℕ → ℕ
value_after base n [] = n
value_after base n (c ∷ cs) = value_after base (n * base + digit_value c) cs

-- one or more digits, with a value of at most the limit
unfoldable pub digits_number : ℕ → List ℕ → ℕ → Option ℕ
digits_number base digits limit =
    cond (ltb 0 (length digits) && all_digits base digits && leb (value_after base 0 digits) limit) (Some (value_after base 0 digits)) None

-- "decimal, or hexadecimal after `0x`"
unfoldable pub word_number : List ℕ → ℕ → Option ℕ
word_number word limit =
    cond (leb 2 (length word) && (eqb (get_or word 0 0) 48 && eqb (get_or word 1 0) 120)) (digits_number 16 (drop 2 word) limit) (digits_number 10 word limit)

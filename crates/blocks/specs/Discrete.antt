-- Discrete values, document 02, request 3: which bytes are values, INVERT, and the value of FSAFE_VAL_D. Assumes nothing.
use Rattle.std.specs.Prelude.{ℕ, Bool, cond, ◌||◌, eqb}

-- Q3.4a: the values are 0 and 1
abbrev pub is_discrete : ℕ → Bool
is_discrete value = eqb value 0 || eqb value 1

-- Q3.5: 0 and 1 exchanged; another byte, which is no value, stays
abbrev pub exchanged : ℕ → ℕ
exchanged value = cond (eqb value 0) 1 (cond (eqb value 1) 0 value)

-- Q3.5: a value under INVERT: exchanged under 1; a code over 1, which no write stores, counts as 0
unfoldable pub inverted : ℕ → ℕ → ℕ
inverted invert value = cond (eqb invert 1) (exchanged value) value

-- Q3.2a: the value that FSAFE_VAL_D's code stands for; a code over 1, which no write stores, counts as 0
unfoldable pub discrete_value : ℕ → ℕ
discrete_value code = cond (eqb code 1) 1 0

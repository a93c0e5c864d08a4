-- What AIN and DI have in common: the pair given where an Auto tick isn't usable, document 01, AIN tick, over any type A of value. Assumes nothing.
use Rattle.std.specs.Prelude.{ℕ, Bool, cond, eqb, Option, None, Some}
use Rattle.blocks.specs.declared.PairOf.{PairOf}

-- a value that may be missing, by a flag that says whether it is there
abbrev pub present : {A : Type 0} → Bool → A → Option A
present there value = cond there (Some value) None

-- A8: FSAFE_TYPE 1: the value that was last usable with 0x44, or, if none was since start, the type's zero with 0x4C
abbrev pub last_usable_or : {A : Type 0} → A → Option A → PairOf A
last_usable_or zero None = record { value = zero; status = 0x4c }
last_usable_or zero (Some last) = record { value = last; status = 0x44 }

-- A8: FSAFE_TYPE 2: the scaled value, or the old one of OUT if that isn't finite, under the Bad status
abbrev pub scaled_or_old : {A : Type 0} → A → ℕ → Option A → PairOf A
scaled_or_old old bad None = record { value = old; status = bad }
scaled_or_old old bad (Some scaled) = record { value = scaled; status = bad }

-- A8: by FSAFE_TYPE: 0 gives FSAFE_VALUE with 0x48, 1 and 2 as just said. A type over 2, which no write stores, counts as 2
unfoldable pub fail_safe_pair : {A : Type 0} → A → ℕ → A → Option A → Option A → A → ℕ → PairOf A
fail_safe_pair zero kind fsafe_value last scaled old bad =
    cond (eqb kind 0) (record { value = fsafe_value; status = 0x48 }) (cond (eqb kind 1) (last_usable_or zero last) (scaled_or_old old bad scaled))

-- The status byte, document 01, Status byte: its three parts as numbers, taken apart into cases and put together. Assumes nothing.
use Rattle.std.specs.Prelude.{ℕ, ◌+◌, ◌*◌, ◌/◌, ◌%◌, cond, eqb}
use Rattle.wire.specs.declared.status.Quality.{Quality}
use Rattle.wire.specs.declared.status.Quality.TheVariants.{Bad, Uncertain, Good, GoodCascade}
use Rattle.wire.specs.declared.status.Limits.{Limits}
use Rattle.wire.specs.declared.status.Limits.TheVariants.{Unlimited, Low, High, Constant}
use Rattle.wire.specs.declared.status.Status.{Status}

-- S1: the two highest bits, the four below them, and the two lowest
abbrev pub quality_of : ℕ → ℕ
quality_of status = status / 64

abbrev pub sub_status_of : ℕ → ℕ
sub_status_of status = status / 4 % 16

abbrev pub limits_of : ℕ → ℕ
limits_of status = status % 4

-- the case of a number 0 to 3
abbrev pub case_of : {A : Type 0} → A → A → A → A → ℕ → A
case_of a b c d n = cond (eqb n 0) a (cond (eqb n 1) b (cond (eqb n 2) c d))

-- S2: the qualities by their numbers
abbrev pub quality_number : Quality → ℕ
quality_number Bad = 0
quality_number Uncertain = 1
quality_number Good = 2
quality_number GoodCascade = 3

abbrev pub quality_case : ℕ → Quality
quality_case = case_of Bad Uncertain Good GoodCascade

-- S3: the limits by their numbers
abbrev pub limits_number : Limits → ℕ
limits_number Unlimited = 0
limits_number Low = 1
limits_number High = 2
limits_number Constant = 3

abbrev pub limits_case : ℕ → Limits
limits_case = case_of Unlimited Low High Constant

-- S1: what a status byte says
unfoldable pub split_of : ℕ → Status
split_of status = record { quality = quality_case (quality_of status); sub_status = sub_status_of status; limits = limits_case (limits_of status) }

-- the status byte that says it; a sub-status over 15, which no byte has, counts modulo 16
unfoldable pub built_of : Status → ℕ
built_of s = 64 * quality_number s.quality + 4 * (s.sub_status % 16) + limits_number s.limits

-- A discrete value that may be missing, as DI keeps it: while it is, the value is 0. Assumes nothing.
use Rattle.std.specs.Prelude.{ℕ, true, false, Option, None, Some}
use Rattle.di.specs.declared.Kept.{Kept}

abbrev pub no_value : Kept
no_value = record { some = false; value = 0 }

abbrev pub kept_value : ℕ → Kept
kept_value value = record { some = true; value = value }

-- as a device has one
abbrev pub as_kept : Option ℕ → Kept
as_kept None = no_value
as_kept (Some value) = kept_value value

-- The parameters as a table, document 01, Parameters, and document 02, request 3: number, storage class, allowed words, default words, a line each.
-- Assumes nothing.
use Rattle.std.specs.Prelude.{ℕ, Bool, true, false, cond, List, [], ◌∷◌, eqb, pos, negsuc, Float, Result, Ok, Err}
use Rattle.std.specs.Float.{binary32}
use Rattle.std.specs.Float.Ieee.{of_int}
use Rattle.wire.specs.declared.Refusal.{Refusal}
use Rattle.wire.specs.Refusal.{ground}
use Rattle.parameters.specs.declared.Class.{Class}
use Rattle.parameters.specs.declared.Class.TheVariants.{S, N, D, R}
use Rattle.parameters.specs.declared.Allowed.{Allowed}
use Rattle.parameters.specs.declared.Allowed.TheVariants.{Nothing, Lock, Mode, ModeOrRcas, UpTo, Ends, Within, Finite, AtLeastZero}
use Rattle.parameters.specs.declared.Allowed.TheVariants.{FiniteOrInfinity, FiniteOrMinusInfinity, Output, OutputD, Total}
use Rattle.parameters.specs.declared.Words.{Words}
use Rattle.parameters.specs.declared.Parameter.{Parameter}

abbrev pub words : ℕ → ℕ → Words
words a b = record { first = a; second = b }

pub record Row : Type 0 where
  pub number : ℕ
  pub class : Class
  pub allowed : Allowed
  pub default : Words

abbrev row : ℕ → Class → Allowed → ℕ → ℕ → Row
row number class allowed a b = record { number = number; class = class; allowed = allowed; default = words a b }

-- a row as a write is judged by it
abbrev pub judged : Row → Parameter
judged r = record { class = r.class; allowed = r.allowed }

-- what a block and a number lead to: a row, or the ground of refusal where there is none
abbrev pub Entry : Type 0
Entry = Result Parameter Refusal

-- the floats in the table
abbrev zero : Float
zero = of_int binary32 (pos 0)

abbrev billion : Float
billion = of_int binary32 (pos 1_000_000_000)

abbrev minus_billion : Float
minus_billion = of_int binary32 (negsuc 999_999_999)

-- P9: WRITE_LOCKING (18), at first open
unfoldable pub physical : List Row
physical = row 18 N Lock 2457 0 ∷ []

-- P10: what every block has but 0: ST_REV (1), TARGET_MODE (5), at first Auto, and the actual mode (6); and what more a block has
abbrev headed : Allowed → List Row → List Row
headed target more =
    row 1 R Nothing 0 0
    ∷ row 5 S target 0x08 0
    ∷ row 6 R Nothing 0x80 0
    ∷ more

-- P10: of AIN, TOT and AO only AO's target may be RCas
-- P11a to P11i: the alarms (7), OUT (10), both scales (11, 12), the filter time in seconds (16), type and value of the fail-safe (17, 18),
-- the hysteresis (19), the high limits (21, 23) and the low ones (25, 27), at first infinite. Q1.3: LIN_TYPE (13)
unfoldable pub ain : List Row
ain =
    headed Mode (
    row 7 R Nothing 0 0
    ∷ row 10 D Output 0 0x1f
    ∷ row 11 S Ends 0 0x42c8_0000
    ∷ row 12 S Ends 0 0x42c8_0000
    ∷ row 13 S (UpTo 1) 0 0
    ∷ row 16 S (Within zero (of_int binary32 (pos 3600))) 0 0
    ∷ row 17 S (UpTo 2) 1 0
    ∷ row 18 S Finite 0 0
    ∷ row 19 S AtLeastZero 0x3f00_0000 0
    ∷ row 21 S FiniteOrInfinity 0x7f80_0000 0
    ∷ row 23 S FiniteOrInfinity 0x7f80_0000 0
    ∷ row 25 S FiniteOrMinusInfinity 0xff80_0000 0
    ∷ row 27 S FiniteOrMinusInfinity 0xff80_0000 0
    ∷ []
    )

-- P12a to P12e: TOTAL (10), SET_TOT (13), MODE_TOT (14), FAIL_TOT (15), PRESET_TOT (16); what their codes do stands with the tick
unfoldable pub tot : List Row
tot =
    headed Mode (
    row 10 N (Total minus_billion billion) 0 0x1f
    ∷ row 13 N (UpTo 2) 0 0
    ∷ row 14 N (UpTo 3) 0 0
    ∷ row 15 S (UpTo 2) 0 0
    ∷ row 16 S (Within minus_billion billion) 0 0
    ∷ []
    )

-- P13a to P13f: the scales (11, 38), time in ticks, type and value of the fail-safe (23, 24, 25), INCREASE_CLOSE (36), OUT (37)
unfoldable pub ao : List Row
ao =
    headed ModeOrRcas (
    row 11 S Ends 0 0x42c8_0000
    ∷ row 23 S (UpTo 65535) 0 0
    ∷ row 24 S (UpTo 2) 1 0
    ∷ row 25 S Finite 0 0
    ∷ row 36 S (UpTo 1) 0 0
    ∷ row 37 D Output 0 0x1f
    ∷ row 38 S Ends 0 0x42c8_0000
    ∷ []
    )

-- Q3.2a, Q3.3: what DI and DO have alike, and what more a block has: OUT_D (10), INVERT (15), type and value of the fail-safe (20, 21); all at first 0,
-- the target Auto
unfoldable pub discrete : Allowed → List Row → List Row
discrete target more =
    headed target (
    row 10 D OutputD 0 0x1f
    ∷ row 15 S (UpTo 1) 0 0
    ∷ row 20 S (UpTo 2) 0 0
    ∷ row 21 S (UpTo 1) 0 0
    ∷ more
    )

unfoldable pub di : List Row
di = discrete Mode []

-- Q3.2b: DO's target may be RCas, and it has the time of the fail-safe in ticks (22)
unfoldable pub dout : List Row
dout = discrete ModeOrRcas (row 22 S (UpTo 65535) 0 0 ∷ [])

-- the row of a number, as what a block and a number lead to
unfoldable pub entry_in : List Row → ℕ → Entry
entry_in [] number = Err (ground 2)
entry_in (r ∷ rows) number = cond (eqb number r.number) (Ok (judged r)) (entry_in rows number)

-- P1, Q3.2a: a block's rows, by its number
unfoldable pub rows_of : ℕ → List Row
rows_of block =
    cond (eqb block 0) physical
    (cond (eqb block 1) ain
    (cond (eqb block 2) tot
    (cond (eqb block 3) ao
    (cond (eqb block 4) di
    (cond (eqb block 5) dout [])))))

unfoldable pub entry_of : ℕ → ℕ → Entry
entry_of block number =
    cond (eqb block 0) (entry_in physical number)
    (cond (eqb block 1) (entry_in ain number)
    (cond (eqb block 2) (entry_in tot number)
    (cond (eqb block 3) (entry_in ao number)
    (cond (eqb block 4) (entry_in di number)
    (cond (eqb block 5) (entry_in dout number) (Err (ground 1)))))))

-- P4: a parameter's default words
unfoldable pub default_in : List Row → ℕ → Words
default_in [] number = words 0 0
default_in (r ∷ rows) number = cond (eqb number r.number) r.default (default_in rows number)

unfoldable pub default_of : ℕ → ℕ → Words
default_of block number = default_in (rows_of block) number

-- P3: whether a parameter is static
abbrev static_class : Class → Bool
static_class S = true
static_class N = false
static_class D = false
static_class R = false

abbrev pub static_entry : Entry → Bool
static_entry (Ok p) = static_class p.class
static_entry (Err r) = false

unfoldable pub is_static : ℕ → ℕ → Bool
is_static block number = static_entry (entry_of block number)

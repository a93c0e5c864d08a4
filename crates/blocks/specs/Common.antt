-- What the function blocks have in common, for either kind of value: document 01, Mode, Parameters and AIN tick (input status), and document 02, requests 2
-- and 3. Assumes nothing.
use Rattle.std.specs.Prelude.{ℕ, Bool, true, false, not, ◌&&◌, ◌||◌, cond, eqb, Float, Option, None, Some, Result, Ok, Err}
use Rattle.std.specs.Float.{binary32}
use Rattle.std.specs.Float.Ieee.{of_bits}
use Rattle.wire.specs.declared.Pair.{Pair}
use Rattle.wire.specs.declared.Discrete.{Discrete}
use Rattle.wire.specs.Status.{quality_of}
use Rattle.blocks.specs.declared.Kept.{Kept}
use Rattle.blocks.specs.declared.PairOf.{PairOf}

-- ---- pairs

-- S4, Q3.4a: a value of any type A and its status, as a device has it: a float by its bits, and a discrete value by its byte
abbrev pub as_pair : PairOf ℕ → Pair
as_pair p = record { bits = p.value; status = p.status }

abbrev pub as_discrete : PairOf ℕ → Discrete
as_discrete p = record { value = p.value; status = p.status }

-- the same the other way round
abbrev pub of_pair : Pair → PairOf ℕ
of_pair p = record { value = p.bits; status = p.status }

abbrev pub of_discrete : Discrete → PairOf ℕ
of_discrete p = record { value = p.value; status = p.status }

-- ---- modes

-- P10, Q3.2a: the codes of the modes; RCas is the output blocks' alone
abbrev pub out_of_service : ℕ
out_of_service = 0x80

abbrev pub man : ℕ
man = 0x10

abbrev pub auto : ℕ
auto = 0x08

abbrev pub rcas : ℕ
rcas = 0x02

-- M1: a tick's actual mode: O/S under the fault flag, otherwise the target, which may be O/S too
unfoldable pub actual_mode : Bool → ℕ → ℕ
actual_mode fault target = cond (fault || eqb target out_of_service) out_of_service target

-- what belongs to a tick's actual mode: O/S, Man, or another, which in an input block is Auto
abbrev pub in_mode : {X : Type 0} → ℕ → X → X → X → X
in_mode mode in_out_of_service in_man in_auto = cond (eqb mode out_of_service) in_out_of_service (cond (eqb mode man) in_man in_auto)

-- ---- outputs and the operator's pair

-- M2, M3: an output that is only held, in O/S and after a warm start
abbrev pub held_at : {A : Type 0} → A → PairOf A
held_at value = record { value = value; status = 0x1f }

abbrev pub held_out : Pair → Pair
held_out out = as_pair (held_at out.bits)

abbrev pub held_out_d : Discrete → Discrete
held_out_d out = as_discrete (held_at out.value)

-- P15: the operator's pair before a write of OUT: the type's zero
abbrev pub fresh_at : {A : Type 0} → A → PairOf A
fresh_at zero = record { value = zero; status = 0x4c }

abbrev pub fresh_operator : Pair
fresh_operator = as_pair (fresh_at 0)

abbrev pub fresh_operator_d : Discrete
fresh_operator_d = as_discrete (fresh_at 0)

-- Q2.4: a write of the target enters Man: it changes it to Man from another target. Q2.5: Man over Man doesn't
abbrev pub entered_man : ℕ → ℕ → Bool
entered_man old new = eqb new man && not (eqb old man)

-- Q2.4: the operator's pair after an accepted write of the target: on entering Man what was last given, otherwise it stays. Said over any type A of pair:
-- nothing here depends on the kind of value
unfoldable pub operator_after : {A : Type 0} → ℕ → ℕ → A → A → A
operator_after old new given operator = cond (entered_man old new) given operator

-- ---- inputs

-- a value that may be missing
abbrev pub none : Kept
none = record { some = false; value = of_bits binary32 0 }

abbrev pub kept : Float → Kept
kept x = record { some = true; value = x }

-- as a device has one
abbrev pub as_kept : Option Float → Kept
as_kept None = none
as_kept (Some x) = kept x

-- A5, A6: a tick's input: usable, or else the Bad status that the tick goes by
abbrev pub InputStatus : Type 0
InputStatus = Result Unit ℕ

abbrev pub usable_input : InputStatus
usable_input = Ok tt

-- A5: the Bad status of an input: Good Cascade is taken for 0x04, a Bad byte as it came; then it is 0x10 if the value isn't finite, and 0x04 if what is
-- calculated of it isn't. A6: an input without a Bad status is usable. The flags say whether the value, and what is calculated of it, is finite.
unfoldable pub input_status : ℕ → Bool → Bool → InputStatus
input_status status value calculated =
    cond (eqb (quality_of status) 3) (Err 0x04)
    (cond (eqb (quality_of status) 0) (Err status)
    (cond (not value) (Err 0x10)
    (cond (not calculated) (Err 0x04) usable_input)))

-- R8: Good is quality 2, and not 3
abbrev pub good : ℕ → Bool
good status = eqb (quality_of status) 2

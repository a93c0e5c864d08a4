-- Setpoint inputs, the fail-safe decision and what each case gives, document 01, AO tick, over any type A of setpoint and any type O of output value:
-- nothing here depends on the kind of value. Assumes nothing.
use Rattle.std.specs.Prelude.{ℕ, ◌+◌, min, Bool, true, false, cond, not, ◌&&◌, ◌||◌, eqb, ltb, Option, None, Some}
use Rattle.wire.specs.Status.{quality_of, sub_status_of}
use Rattle.blocks.specs.Common.{out_of_service, man, held_at}
use Rattle.blocks.specs.declared.PairOf.{PairOf}
use Rattle.blocks.specs.InputBlock.{present}
use Rattle.blocks.specs.declared.setpoint.Setpoint.{Setpoint}
use Rattle.blocks.specs.declared.setpoint.Case.{Case}
use Rattle.blocks.specs.declared.setpoint.Case.TheVariants.{Following, Fallback, Held, Safety}
use Rattle.blocks.specs.declared.setpoint.Order.TheVariants.{Position, Safe, Rest}
use Rattle.blocks.specs.declared.setpoint.Given.{Given}
use Rattle.blocks.specs.declared.setpoint.Class.{Class}
use Rattle.blocks.specs.declared.setpoint.Class.TheVariants.{Usable, InitiateFailSafe, Neither}

-- ---- telegrams

-- O1: the class of a telegram by its status byte alone: of either Good quality it is IFS (initiate-fail-safe) with sub-status 8 and usable with any other
unfoldable pub class_of : ℕ → Class
class_of status =
    cond (eqb (quality_of status) 2 || eqb (quality_of status) 3) (cond (eqb (sub_status_of status) 8) InitiateFailSafe Usable) Neither

-- the classes' numbers, which the paper leaves free
abbrev pub class_number : Class → ℕ
class_number Neither = 0
class_number Usable = 1
class_number InitiateFailSafe = 2

-- O1: usable: the class is, and the value is finite, as the flag says
unfoldable pub usable : ℕ → Bool → Bool
usable status finite_value = eqb (class_number (class_of status)) 1 && finite_value

-- O1: IFS: whatever the value
unfoldable pub initiates : ℕ → Bool
initiates status = eqb (class_number (class_of status)) 2

-- ---- an input

-- O3 to O5: of one input's telegrams, over the code's own type: whether a usable one came since start and the value of the last one; n, which stops at
-- 65,536; whether an IFS came with no usable one after it. Without a usable telegram the value is the type's zero and n is 0.
unfoldable pub emptied : {A : Type 0} → A → Setpoint A
emptied zero = record { some = false; value = zero; silence = 0; ifs = false }

-- O2: after a telegram that is not usable: an IFS is remembered; any other leaves all as it was
abbrev pub not_followed : {A : Type 0} → ℕ → Setpoint A → Setpoint A
not_followed status input = cond (initiates status) (record { some = input.some; value = input.value; silence = input.silence; ifs = true }) input

-- O2: after a telegram, by its value if that is finite: a usable one is the last one and restarts n
unfoldable pub after_telegram : {A : Type 0} → ℕ → Option A → Setpoint A → Setpoint A
after_telegram status None input = not_followed status input
after_telegram status (Some value) input =
    cond (usable status true) (record { some = true; value = value; silence = 0; ifs = false }) (not_followed status input)

-- O4: n at the next tick: this one, whatever its mode, is one more after the input's last usable telegram
unfoldable pub silence_after : Bool → ℕ → ℕ
silence_after came n = cond came (min (n + 1) 65536) 0

unfoldable pub after_tick : {A : Type 0} → Setpoint A → Setpoint A
after_tick input =
    record { some = input.some; value = input.value; silence = silence_after input.some input.silence; ifs = input.ifs }

-- ---- the decision

-- O5: fail-safe acts without a usable telegram since start, with n over FSAFE_TIME, or if an IFS came with no usable one after it
unfoldable pub fail_safe_acts : Bool → ℕ → Bool → ℕ → Bool
fail_safe_acts came n ifs time = not came || ltb time n || ifs

-- O7: by FSAFE_TYPE: 0 falls back on FSAFE_VALUE, 1 holds the value last usable, if any, 2 is the safety case; a type over 2, which no write stores, is as 2
unfoldable pub fail_safe_case : {A : Type 0} → ℕ → A → Bool → A → Case A
fail_safe_case kind fsafe_value came last =
    cond (eqb kind 0) (Fallback fsafe_value) (cond (eqb kind 1) (Held (present came last)) Safety)

-- O5, O6: the case of a tick in Auto or RCas, by FSAFE_TIME, FSAFE_TYPE and FSAFE_VALUE: where fail-safe does not act it follows the last usable telegram
unfoldable pub case_of : {A : Type 0} → ℕ → ℕ → A → Setpoint A → Case A
case_of time kind fsafe_value input =
    cond (fail_safe_acts input.some input.silence input.ifs time) (fail_safe_case kind fsafe_value input.some input.value) (Following input.value)

-- ---- what a tick gives

-- O10: a value with its status, and the order to go there
abbrev pub positioned : {O : Type 0} → PairOf O → Given O
positioned out = record { out = out; order = Position out.value }

-- O9: what scaling led to, with the case's status; the old value with 0x04 where that is not finite
abbrev pub scaled_or : {O : Type 0} → O → ℕ → Option O → Given O
scaled_or old status None = positioned (record { value = old; status = 0x04 })
scaled_or old status (Some out) = positioned (record { value = out; status = status })

-- O6, O7: what a case leads to, `scaled` being OUT by the working value where that is finite.
-- O8: the last two scale nothing and leave OUT's value; O7: the last gives 0x00 and orders Safe
unfoldable pub leads_to : {A O : Type 0} → (A → Option O) → O → Case A → Given O
leads_to scaled old (Following w) = scaled_or old 0x80 (scaled w)
leads_to scaled old (Fallback w) = scaled_or old 0x48 (scaled w)
leads_to scaled old (Held (Some w)) = scaled_or old 0x44 (scaled w)
leads_to scaled old (Held None) = positioned (record { value = old; status = 0x4C })
leads_to scaled old Safety = record { out = record { value = old; status = 0x00 }; order = Safe }

-- M2, O11: what a tick gives by its actual mode: in O/S the old value under 0x1F, at Rest; in Man the operator's pair; in another mode, Auto or RCas,
-- what the case leads to
unfoldable pub by_mode : {O : Type 0} → ℕ → O → PairOf O → Given O → Given O
by_mode mode old operator led =
    cond (eqb mode out_of_service) (record { out = held_at old; order = Rest }) (cond (eqb mode man) (positioned operator) led)

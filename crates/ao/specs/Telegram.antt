-- AO's telegrams, document 01, AO tick and Refused calls. Assumes nothing.
use Rattle.std.specs.Prelude.{ℕ, cond, List, eqb, ltb}
use Rattle.std.specs.Float.Ieee.Scale.{finite}
use Rattle.numbers.specs.Floats.{float_of}
use Rattle.wire.specs.declared.Pair.{Pair}
use Rattle.wire.specs.Bytes.{pair_of}
use Rattle.ao.specs.declared.Input.{Input}
use Rattle.ao.specs.declared.State.{State}
use Rattle.blocks.specs.InputBlock.{present}
use Rattle.blocks.specs.FailSafe.{after_telegram}
use Rattle.blocks.specs.Output.{TakenOf, telegram_by}
use Rattle.ao.specs.State.{input_of, input_from}

-- O1: an input after a telegram on it, by its value if that is finite
unfoldable pub input_after : Input → Pair → Input
input_after input pair =
    input_from (after_telegram pair.status (present (finite (float_of pair.bits)) (float_of pair.bits)) (input_of input))

-- C5: input 0 is SP and 1 is RCAS_IN; the other input and the rest unchanged
unfoldable pub taken_on : State → ℕ → Pair → State
taken_on state input pair =
    cond (eqb input 0)
    (record { out = state.out; mode = state.mode; operator = state.operator; sp = input_after state.sp pair; rcas_in = state.rcas_in })
    (record { out = state.out; mode = state.mode; operator = state.operator; sp = state.sp; rcas_in = input_after state.rcas_in pair })

-- F2, F9, F10: AO lacks the inputs over 1
unfoldable pub telegram_of : State → ℕ → List ℕ → TakenOf State
telegram_of state input bytes = telegram_by (ltb 1 input) (taken_on state input) state (pair_of bytes)

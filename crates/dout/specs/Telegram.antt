-- DO's telegrams, document 02, request 3, by document 01, AO tick and Refused calls. Assumes nothing.
use Rattle.std.specs.Prelude.{ℕ, Bool, cond, not, ◌||◌, List, eqb}
use Rattle.wire.specs.declared.Discrete.{Discrete}
use Rattle.wire.specs.Bytes.{discrete_of}
use Rattle.blocks.specs.Discrete.{is_discrete}
use Rattle.blocks.specs.InputBlock.{present}
use Rattle.blocks.specs.FailSafe.{after_telegram}
use Rattle.blocks.specs.Output.{TakenOf, telegram_by}
use Rattle.dout.specs.declared.Input.{Input}
use Rattle.dout.specs.declared.State.{State}
use Rattle.dout.specs.State.{input_of, input_from}

-- Q3.4b, O1: an input after a telegram on it: another value than 0 or 1 stands where AO has one that isn't finite. INVERT has no part in what is kept
unfoldable pub input_after : Input → Discrete → Input
input_after input pair = input_from (after_telegram pair.status (present (is_discrete pair.value) pair.value) (input_of input))

-- Q3.7: input 2 is SP_D and 3 is RCAS_IN_D; the other input and the rest unchanged
unfoldable pub taken_on : State → ℕ → Discrete → State
taken_on state input pair =
    cond (eqb input 2)
    (record { out = state.out; mode = state.mode; operator = state.operator; sp = input_after state.sp pair; rcas_in = state.rcas_in })
    (record { out = state.out; mode = state.mode; operator = state.operator; sp = state.sp; rcas_in = input_after state.rcas_in pair })

-- Q3.7: the inputs that DO lacks: all but 2 and 3
abbrev pub lacking : ℕ → Bool
lacking input = not (eqb input 2 || eqb input 3)

-- Q3.8a, F2, F9, F10: refused as AO's are, with two bytes for five
unfoldable pub telegram_of : State → ℕ → List ℕ → TakenOf State
telegram_of state input bytes = telegram_by (lacking input) (taken_on state input) state (discrete_of bytes)

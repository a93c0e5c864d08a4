-- DO's tick, document 02, request 3, by document 01, AO tick and Mode (Q3.8a). Assumes nothing.
use Rattle.std.specs.Prelude.{ℕ, Bool, cond, eqb, Option, Some}
use Rattle.blocks.specs.Common.{rcas, actual_mode, as_discrete, of_discrete}
use Rattle.blocks.specs.Discrete.{inverted, discrete_value}
use Rattle.blocks.specs.declared.setpoint.Case.{Case}
use Rattle.blocks.specs.declared.setpoint.FailSafe.{FailSafe}
use Rattle.blocks.specs.declared.setpoint.Order.{Order}
use Rattle.blocks.specs.declared.setpoint.Given.{Given}
use Rattle.blocks.specs.Output.{TickedOf}
use Rattle.blocks.specs.FailSafe.{leads_to, by_mode, case_of, after_tick}
use Rattle.dout.specs.declared.Settings.{Settings}
use Rattle.dout.specs.declared.Input.{Input}
use Rattle.dout.specs.declared.State.{State}
use Rattle.dout.specs.State.{input_of, input_from}

-- Q3.5, O9: OUT_D by a working value: under INVERT, which stands where AO has INCREASE_CLOSE; nothing here can fail
abbrev pub out_of : ℕ → ℕ → Option ℕ
out_of invert w = Some (inverted invert w)

-- the same of a block's settings
abbrev pub scaled_of : Settings → ℕ → Option ℕ
scaled_of s w = out_of s.invert w

-- O6 to O9: value, status and order that a case leads to, with the value of old OUT_D
unfoldable pub given_by : ℕ → ℕ → Case ℕ → Given ℕ
given_by invert old c = leads_to (out_of invert) old c

-- O5, O7, Q3.2a: FSAFE_TIME, FSAFE_TYPE and the value of FSAFE_VAL_D
abbrev pub fail_safe_of : Settings → FailSafe ℕ
fail_safe_of s = record { time = s.fsafe_time; kind = s.fsafe_type; value = discrete_value s.fsafe_val_d }

-- O3, O5: in Auto and RCas, by the input that the mode uses: the case, and what it gives
abbrev pub case_by : Settings → Input → Case ℕ
case_by s input = let by = fail_safe_of s in case_of by.time by.kind by.value (input_of input)

unfoldable pub given_by_input : Settings → ℕ → Input → Given ℕ
given_by_input s old input = given_by s.invert old (case_by s input)

-- O3: RCas goes by RCAS_IN_D and Auto by SP_D; a code that is no mode's, which no write stores, counts as Auto
unfoldable pub input_used : State → ℕ → Input
input_used state mode = cond (eqb mode rcas) state.rcas_in state.sp

-- what a tick gives in its actual mode; INVERT has no part in Man
unfoldable pub given_in : Settings → State → ℕ → Given ℕ
given_in s state mode =
    by_mode mode state.out.value (of_discrete state.operator) (given_by_input s state.out.value (input_used state mode))

abbrev pub input_after_tick : Input → Input
input_after_tick input = input_from (after_tick (input_of input))

-- O4, Q3.6: the next state and the order, as the tick answers it, from what the tick gives in its actual mode; n goes on in every mode, on both inputs
unfoldable pub ticked_with : State → ℕ → Given ℕ → TickedOf State (Order ℕ)
ticked_with state mode g =
    record {
      state =
          record {
            out = as_discrete g.out;
            mode = mode;
            operator = state.operator;
            sp = input_after_tick state.sp;
            rcas_in = input_after_tick state.rcas_in;
          };
      order = g.order;
    }

unfoldable pub tick_of : Settings → State → Bool → TickedOf State (Order ℕ)
tick_of s state fault = let mode = actual_mode fault s.target in ticked_with state mode (given_in s state mode)

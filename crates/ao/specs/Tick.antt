-- AO's tick, document 01, AO tick and Mode. Assumes nothing.
use Rattle.std.specs.Prelude.{ℕ, Bool, cond, eqb, Float, Option, None, Some}
use Rattle.std.specs.Float.{binary32}
use Rattle.std.specs.Float.Ieee.{sub}
use Rattle.std.specs.Float.Ieee.Scale.{finite}
use Rattle.numbers.specs.Floats.{float_of, bits_of}
use Rattle.scaling.specs.Scaling.{fraction_of, at_fraction}
use Rattle.blocks.specs.Common.{rcas, actual_mode, as_pair, of_pair}
use Rattle.ao.specs.declared.Settings.{Settings}
use Rattle.ao.specs.declared.Input.{Input}
use Rattle.ao.specs.declared.State.{State}
use Rattle.blocks.specs.declared.setpoint.Case.{Case}
use Rattle.blocks.specs.declared.setpoint.FailSafe.{FailSafe}
use Rattle.blocks.specs.declared.setpoint.Order.{Order}
use Rattle.blocks.specs.declared.setpoint.Order.TheVariants.{Position, Safe, Rest}
use Rattle.blocks.specs.declared.setpoint.Given.{Given}
use Rattle.blocks.specs.Output.{TickedOf}
use Rattle.blocks.specs.FailSafe.{leads_to, by_mode, case_of, after_tick}
use Rattle.ao.specs.State.{input_of, input_from}

-- ---- scaling

-- O9: a fraction, from the other end under INCREASE_CLOSE 1; a code over 1, which no write stores, counts as 0
abbrev pub closing : ℕ → Float → Float
closing increase_close f = cond (eqb increase_close 1) (sub binary32 (float_of 0x3F80_0000) f) f

-- O9: the working value's place in PV_SCALE, turned round or not, as a value in OUT_SCALE
unfoldable pub scaled_out : Settings → Float → Float
scaled_out s w = at_fraction s.out_scale (closing s.increase_close (fraction_of s.pv_scale w))

-- O9: OUT's bits, none if that is not finite
unfoldable pub out_of : Settings → Float → Option ℕ
out_of s w = cond (finite (scaled_out s w)) (Some (bits_of (scaled_out s w))) None

-- ---- what a tick gives

-- O6 to O9: value (by its bits), status and order that a case leads to, with the bits of old OUT
unfoldable pub given_by : Settings → ℕ → Case Float → Given ℕ
given_by s old c = leads_to (out_of s) old c

-- O5, O7: FSAFE_TIME, FSAFE_TYPE and FSAFE_VALUE
abbrev pub fail_safe_of : Settings → FailSafe Float
fail_safe_of s = record { time = s.fsafe_time; kind = s.fsafe_type; value = s.fsafe_value }

-- O3, O5: in Auto and RCas, by the input that the mode uses: the case, and what it gives
abbrev pub case_by : Settings → Input → Case Float
case_by s input = let by = fail_safe_of s in case_of by.time by.kind by.value (input_of input)

unfoldable pub given_by_input : Settings → ℕ → Input → Given ℕ
given_by_input s old input = given_by s old (case_by s input)

-- O3: RCas goes by RCAS_IN and Auto by SP; a code that is no mode's, which no write stores, counts as Auto
unfoldable pub input_used : State → ℕ → Input
input_used state mode = cond (eqb mode rcas) state.rcas_in state.sp

-- what a tick gives in its actual mode
unfoldable pub given_in : Settings → State → ℕ → Given ℕ
given_in s state mode =
    by_mode mode state.out.bits (of_pair state.operator) (given_by_input s state.out.bits (input_used state mode))

-- C4: an order as the tick answers it
abbrev pub drive_order : Order ℕ → Order Float
drive_order (Position bits) = Position (float_of bits)
drive_order Safe = Safe
drive_order Rest = Rest

abbrev pub input_after_tick : Input → Input
input_after_tick input = input_from (after_tick (input_of input))

-- O4, C3: the next state and the order, from what the tick gives in its actual mode; n goes on in every mode, on both inputs
unfoldable pub ticked_with : State → ℕ → Given ℕ → TickedOf State (Order Float)
ticked_with state mode g =
    record {
      state =
          record {
            out = as_pair g.out;
            mode = mode;
            operator = state.operator;
            sp = input_after_tick state.sp;
            rcas_in = input_after_tick state.rcas_in;
          };
      order = drive_order g.order;
    }

unfoldable pub tick_of : Settings → State → Bool → TickedOf State (Order Float)
tick_of s state fault = let mode = actual_mode fault s.target in ticked_with state mode (given_in s state mode)

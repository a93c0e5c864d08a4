-- DI's tick, document 02, request 3, by document 01, AIN tick and Mode (Q3.8a). Assumes nothing.
use Rattle.std.specs.Prelude.{ℕ, Bool, true, Ok, Err}
use Rattle.wire.specs.declared.Discrete.{Discrete}
use Rattle.blocks.specs.Common.{as_discrete, out_of_service, man, actual_mode, in_mode, held_out_d, InputStatus, input_status}
use Rattle.blocks.specs.Discrete.{is_discrete, inverted, discrete_value}
use Rattle.blocks.specs.InputBlock.{present, fail_safe_pair}
use Rattle.di.specs.declared.Settings.{Settings}
use Rattle.di.specs.declared.Kept.{Kept}
use Rattle.di.specs.declared.State.{State}
use Rattle.di.specs.Kept.{kept_value}

-- Q3.4b, A5: the input status of a tick: after the qualities another value than 0 or 1 is 0x04, and never 0x10
unfoldable pub input_of : ℕ → ℕ → InputStatus
input_of value status = input_status status true (is_discrete value)

-- Q3.4b, Q3.5, A8: OUT_D of an Auto tick that isn't usable: what fail-safe gives. INVERT acts on the transducer's value, which counts if it is 0 or 1, and
-- neither on FSAFE_VAL_D nor on the last usable OUT_D
unfoldable pub fail_safe_out : Settings → Kept → ℕ → Discrete → ℕ → Discrete
fail_safe_out s last value old bad =
    as_discrete
    (fail_safe_pair 0 s.fsafe_type (discrete_value s.fsafe_val_d) (present last.some last.value)
    (present (is_discrete value) (inverted s.invert value)) old.value bad)

-- Q3.5, A7: a usable Auto tick gives the value under INVERT with the input's status; that is then the last usable OUT_D
unfoldable pub usable_tick : Settings → State → ℕ → ℕ → ℕ → State
usable_tick s st mode value status = record {
  out = record { value = inverted s.invert value; status = status };
  mode = mode;
  last = kept_value (inverted s.invert value);
  operator = st.operator;
}

-- A8: an Auto tick that is not usable leaves the last usable OUT_D
unfoldable pub unusable_tick : Settings → State → ℕ → ℕ → ℕ → State
unusable_tick s st mode value bad = record {
  out = fail_safe_out s st.last value st.out bad;
  mode = mode;
  last = st.last;
  operator = st.operator;
}

-- A6: an Auto tick by its input status
unfoldable pub auto_by : Settings → State → ℕ → ℕ → ℕ → InputStatus → State
auto_by s st mode value status (Ok u) = usable_tick s st mode value status
auto_by s st mode value status (Err bad) = unusable_tick s st mode value bad

unfoldable pub auto_tick : Settings → State → ℕ → ℕ → ℕ → State
unfolding auto_by
auto_tick s st mode value status = auto_by s st mode value status (input_of value status)

-- A9: Man gives the operator's pair, in which INVERT has no part
unfoldable pub man_tick : State → State
man_tick st = record { out = st.operator; mode = man; last = st.last; operator = st.operator }

-- M2: O/S holds OUT_D's value under 0x1F
unfoldable pub out_of_service_tick : State → State
out_of_service_tick st = record { out = held_out_d st.out; mode = out_of_service; last = st.last; operator = st.operator }

-- M1: by the actual mode; a code that is neither O/S nor Man counts as Auto
unfoldable pub tick_by : Settings → State → ℕ → ℕ → ℕ → State
tick_by s st mode value status = in_mode mode (out_of_service_tick st) (man_tick st) (auto_tick s st mode value status)

-- Q3.6: a tick: the fault flag, the transducer's value and its status
unfoldable pub tick_of : Settings → State → Bool → ℕ → ℕ → State
unfolding tick_by
tick_of s st fault value status = tick_by s st (actual_mode fault s.target) value status

-- AIN's tick, document 01, AIN tick and Mode, and document 02, request 1. Assumes nothing.
use Rattle.std.specs.Prelude.{ℕ, Bool, ◌&&◌, cond, eqb, Float, Ok, Err}
use Rattle.std.specs.Float.Ieee.Scale.{finite}
use Rattle.numbers.specs.Floats.{float_of, bits_of}
use Rattle.linearisation.specs.declared.Table.{Table}
use Rattle.linearisation.specs.Table.{pairs_of}
use Rattle.linearisation.specs.Value.{value_at}
use Rattle.wire.specs.declared.Pair.{Pair}
use Rattle.blocks.specs.declared.Kept.{Kept}
use Rattle.blocks.specs.Common.{as_pair, out_of_service, man, actual_mode, in_mode, held_out, none, kept, InputStatus, input_status}
use Rattle.blocks.specs.InputBlock.{present, fail_safe_pair}
use Rattle.ain.specs.declared.Settings.{Settings}
use Rattle.ain.specs.declared.State.{State}
use Rattle.ain.specs.Scaling.{scaled_of, filtered}
use Rattle.ain.specs.Alarm.{alarms_of, no_alarms, alarm_status}

-- Q1.3, Q1.5: the value that is scaled: under LIN_TYPE 1 what the table makes of the transducer's, otherwise that itself
unfoldable pub measured : ℕ → Table → Float → Float
measured lin_type table x = cond (eqb lin_type 1) (value_at (pairs_of table) x) x

-- A1, A4: the scaled value of a transducer's bits, and PV, the calculated value
unfoldable pub scaled_value : Settings → Table → ℕ → Float
scaled_value s table bits = scaled_of s.pv_scale s.out_scale (measured s.lin_type table (float_of bits))

unfoldable pub calculated : Settings → Table → Kept → ℕ → Float
calculated s table filter bits = filtered s.pv_ftime filter (scaled_value s table bits)

-- A5: the input status of a tick, by whether its value, and both the scaled and the filtered one, are finite. Q1.8: a value that the table made
-- and that isn't finite is scaled to one that isn't (Laws, scaled-unfinished)
unfoldable pub input_of : Settings → Table → Kept → ℕ → ℕ → InputStatus
input_of s table filter bits status =
    input_status status (finite (float_of bits)) (finite (scaled_value s table bits) && finite (calculated s table filter bits))

-- A8: OUT of an Auto tick that isn't usable: what fail-safe gives, with values as bits; the scaled value counts if it is finite
unfoldable pub fail_safe_out : ℕ → Float → Kept → Float → Pair → ℕ → Pair
fail_safe_out kind value last scaled old bad =
    as_pair
    (fail_safe_pair 0 kind (bits_of value) (present last.some (bits_of last.value)) (present (finite scaled) (bits_of scaled)) old.bits bad)

-- A7: a usable Auto tick gives PV, which is then the filter value (A3) and the last usable one. A10, A12: alarms go by this OUT, whose status shows them
unfoldable pub usable_tick : Settings → State → ℕ → Float → ℕ → State
usable_tick s st mode pv status =
    let stand = alarms_of s st.alarms (float_of (bits_of pv)) in
    record {
      out = record { bits = bits_of pv; status = alarm_status stand status };
      mode = mode;
      filter = kept pv;
      last = kept pv;
      operator = st.operator;
      alarms = stand;
    }

-- A3, A8: an Auto tick that is not usable leaves the filter value and the last usable value
unfoldable pub unusable_tick : Settings → State → ℕ → Float → ℕ → State
unusable_tick s st mode scaled bad =
    let out = fail_safe_out s.fsafe_type s.fsafe_value st.last scaled st.out bad in
    record {
      out = out;
      mode = mode;
      filter = st.filter;
      last = st.last;
      operator = st.operator;
      alarms = alarms_of s st.alarms (float_of out.bits);
    }

-- A6: an Auto tick by its input status
unfoldable pub auto_by : Settings → Table → State → ℕ → ℕ → ℕ → InputStatus → State
auto_by s table st mode bits status (Ok u) = usable_tick s st mode (calculated s table st.filter bits) status
auto_by s table st mode bits status (Err bad) = unusable_tick s st mode (scaled_value s table bits) bad

unfoldable pub auto_tick : Settings → Table → State → ℕ → ℕ → ℕ → State
unfolding auto_by
auto_tick s table st mode bits status = auto_by s table st mode bits status (input_of s table st.filter bits status)

-- A9: Man gives the operator's pair, by whose value alarms go. A3: the filter is emptied
unfoldable pub man_tick : Settings → State → State
man_tick s st = record {
  out = st.operator;
  mode = man;
  filter = none;
  last = st.last;
  operator = st.operator;
  alarms = alarms_of s st.alarms (float_of st.operator.bits);
}

-- M2, A11: O/S holds OUT's value under 0x1F and ends all alarms. A3: the filter is emptied
unfoldable pub out_of_service_tick : State → State
out_of_service_tick st = record {
  out = held_out st.out;
  mode = out_of_service;
  filter = none;
  last = st.last;
  operator = st.operator;
  alarms = no_alarms;
}

-- M1: by the actual mode; a code that is neither O/S nor Man counts as Auto
unfoldable pub tick_by : Settings → Table → State → ℕ → ℕ → ℕ → State
tick_by s table st mode bits status = in_mode mode (out_of_service_tick st) (man_tick s st) (auto_tick s table st mode bits status)

unfoldable pub tick_of : Settings → Table → State → Bool → ℕ → ℕ → State
unfolding tick_by
tick_of s table st fault bits status = tick_by s table st (actual_mode fault s.target) bits status

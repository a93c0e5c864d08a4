-- TOT's tick, document 01, TOT tick and Mode. What a tick adds, the last usable Auto rate and the status are given over plain arguments. Assumes nothing.
use Rattle.std.specs.Prelude.{ℕ, Bool, true, not, ◌||◌, cond, eqb, ℤ, pos, Float, Ok, Err, Option, None, Some}
use Rattle.std.specs.Float.Ieee.Scale.{finite}
use Rattle.numbers.specs.Floats.{float_of}
use Rattle.blocks.specs.declared.Kept.{Kept}
use Rattle.blocks.specs.Common.{out_of_service, man, actual_mode, in_mode, held_out, kept, InputStatus, input_status}
use Rattle.blocks.specs.InputBlock.{present}
use Rattle.tot.specs.declared.Settings.{Settings}
use Rattle.tot.specs.declared.State.{State}
use Rattle.tot.specs.Total.{increment_of, wanted, next_total, given_bits}

-- T5: the input status, with nothing calculated of the value
unfoldable pub input_of : ℕ → ℕ → InputStatus
input_of bits status = input_status status (finite (float_of bits)) true

-- T7, P12d: the rate whose increment an Auto tick that isn't usable adds, if any, by FAIL_TOT: run (0) takes the tick's own if it is finite, hold (1) none,
-- memory (2) the last usable one, if there is one; another code counts as memory
unfoldable pub fail_rate : ℕ → Option Float → Float → Option Float
fail_rate fail_tot last rate = cond (eqb fail_tot 0) (present (finite rate) rate) (cond (eqb fail_tot 1) None last)

-- T6, T7: the same of any Auto tick; a usable one takes its own rate
abbrev pub added_rate : ℕ → Option Float → Float → InputStatus → Option Float
added_rate fail_tot last rate (Ok u) = Some rate
added_rate fail_tot last rate (Err bad) = fail_rate fail_tot last rate

-- T2, T7: that rate's increment, under the MODE_TOT of this tick, or nothing
abbrev pub adds : ℕ → Option Float → ℤ
adds mode_tot None = pos 0
adds mode_tot (Some rate) = wanted mode_tot (increment_of rate)

-- the last usable rate, if there is one, of what a state keeps
abbrev pub kept_rate : Kept → Option Float
kept_rate last = present last.some last.value

-- T6: what an Auto tick with SET_TOT run adds
unfoldable pub tick_adds : ℕ → ℕ → Kept → ℕ → ℕ → ℤ
tick_adds mode_tot fail_tot last bits status = adds mode_tot (added_rate fail_tot (kept_rate last) (float_of bits) (input_of bits status))

-- T7: the rate for memory after an Auto tick: a usable tick's own; other ticks leave it
abbrev pub last_rate : Kept → Float → InputStatus → Kept
last_rate last rate (Ok u) = kept rate
last_rate last rate (Err bad) = last

unfoldable pub tick_rate : Kept → ℕ → ℕ → Kept
tick_rate last bits status = last_rate last (float_of bits) (input_of bits status)

-- T7: the status of an Auto tick that isn't usable: run shows the Bad one, hold 0x40, memory 0x44, or 0x4C without a rate. T8: reset and preset show run's
unfoldable pub fail_status : ℕ → ℕ → Option Float → ℕ → ℕ
fail_status set_tot fail_tot last bad = cond (not (eqb set_tot 0) || eqb fail_tot 0) bad (cond (eqb fail_tot 1) 0x40 (memory last))
  where
    memory : Option Float → ℕ
    memory None = 0x4c
    memory (Some rate) = 0x44

-- T5: a usable one shows its input's status
abbrev pub auto_status : ℕ → ℕ → Option Float → ℕ → InputStatus → ℕ
auto_status set_tot fail_tot last status (Ok u) = status
auto_status set_tot fail_tot last status (Err bad) = fail_status set_tot fail_tot last bad

unfoldable pub tick_status : ℕ → ℕ → Kept → ℕ → ℕ → ℕ
tick_status set_tot fail_tot last bits status = auto_status set_tot fail_tot (kept_rate last) status (input_of bits status)

-- T6, T8: the total after an Auto tick
unfoldable pub auto_total : Settings → ℤ → Kept → ℕ → ℕ → ℤ
auto_total s total last bits status = next_total s.set_tot s.preset_tot total (tick_adds s.mode_tot s.fail_tot last bits status)

unfoldable pub auto_tick : Settings → State → ℕ → ℕ → ℕ → State
auto_tick s st mode bits status = record {
  total = auto_total s st.total st.rate bits status;
  out = record {
    bits = given_bits (auto_total s st.total st.rate bits status);
    status = tick_status s.set_tot s.fail_tot st.rate bits status;
  };
  mode = mode;
  rate = tick_rate st.rate bits status;
  operator_status = st.operator_status;
}

-- T9: in Man the total stays, and is given under the operator's status
unfoldable pub man_tick : State → State
man_tick st = record {
  total = st.total;
  out = record { bits = given_bits st.total; status = st.operator_status };
  mode = man;
  rate = st.rate;
  operator_status = st.operator_status;
}

-- M2: O/S leaves the total, and holds the value under 0x1F
unfoldable pub out_of_service_tick : State → State
out_of_service_tick st = record {
  total = st.total;
  out = held_out st.out;
  mode = out_of_service;
  rate = st.rate;
  operator_status = st.operator_status;
}

-- M1: by the actual mode; a code that is neither O/S nor Man counts as Auto
unfoldable pub tick_by : Settings → State → ℕ → ℕ → ℕ → State
tick_by s st mode bits status = in_mode mode (out_of_service_tick st) (man_tick st) (auto_tick s st mode bits status)

unfoldable pub tick_of : Settings → State → Bool → ℕ → ℕ → State
unfolding tick_by
tick_of s st fault bits status = tick_by s st (actual_mode fault s.target) bits status

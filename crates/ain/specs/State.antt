-- AIN's state when fresh, after an accepted write of OUT and after a warm start: document 01, Parameters, Mode and History rules. Assumes nothing.
use Rattle.wire.specs.declared.Pair.{Pair}
use Rattle.blocks.specs.Common.{out_of_service, held_out, fresh_operator, none}
use Rattle.ain.specs.declared.State.{State}
use Rattle.ain.specs.Alarm.{no_alarms}

-- M3, M4, P15: fresh: O/S, OUT 0 with 0x1F, the fresh operator's pair, nothing remembered
abbrev pub fresh_state : State
fresh_state = record {
  out = record { bits = 0; status = 0x1f };
  mode = out_of_service;
  filter = none;
  last = none;
  operator = fresh_operator;
  alarms = no_alarms;
}

-- P15: a written OUT is the operator's pair, which is kept for ticks in Man; OUT itself stays
abbrev pub operated_state : State → Pair → State
operated_state st pair = record {
  out = st.out;
  mode = st.mode;
  filter = st.filter;
  last = st.last;
  operator = pair;
  alarms = st.alarms;
}

-- R17, M3: a warm start leaves OUT's value, under 0x1F and in O/S; all else in the state is as fresh
abbrev pub warm_started : State → State
warm_started st = record {
  out = held_out st.out;
  mode = out_of_service;
  filter = none;
  last = none;
  operator = fresh_operator;
  alarms = no_alarms;
}

-- DI's state when fresh, after an accepted write of OUT_D and after a warm start: document 02, request 3, by document 01, Parameters, Mode and History rules.
-- Assumes nothing.
use Rattle.wire.specs.declared.Discrete.{Discrete}
use Rattle.blocks.specs.Common.{as_discrete, held_at, out_of_service, held_out_d, fresh_operator_d}
use Rattle.di.specs.declared.State.{State}
use Rattle.di.specs.Kept.{no_value}

-- M3, M4, P15: fresh: O/S, OUT_D 0 with 0x1F, the fresh operator's pair, nothing remembered
abbrev pub fresh_state : State
fresh_state = record { out = as_discrete (held_at 0); mode = out_of_service; last = no_value; operator = fresh_operator_d }

-- P15: a written OUT_D is the operator's pair, which is kept for ticks in Man; OUT_D itself stays
abbrev pub operated_state : State → Discrete → State
operated_state st pair = record { out = st.out; mode = st.mode; last = st.last; operator = pair }

-- R17, M3: a warm start leaves OUT_D's value, under 0x1F and in O/S; all else in the state is as fresh
abbrev pub warm_started : State → State
warm_started st = record { out = held_out_d st.out; mode = out_of_service; last = no_value; operator = fresh_operator_d }

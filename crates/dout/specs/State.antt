-- DO's state outside ticks and telegrams: document 02, request 3, by document 01, Parameters, Mode and History rules (Q3.8a). Assumes nothing.
use Rattle.std.specs.Prelude.{ℕ}
use Rattle.wire.specs.declared.Discrete.{Discrete}
use Rattle.blocks.specs.Common.{as_discrete, held_at, out_of_service, fresh_operator_d}
use Rattle.blocks.specs.declared.setpoint.Setpoint.{Setpoint}
use Rattle.blocks.specs.FailSafe.{emptied}
use Rattle.dout.specs.declared.Input.{Input}
use Rattle.dout.specs.declared.State.{State}

-- an input as the rules have it, and as the state holds it
abbrev pub input_of : Input → Setpoint ℕ
input_of i = record { some = i.some; value = i.value; silence = i.silence; ifs = i.ifs }

abbrev pub input_from : Setpoint ℕ → Input
input_from i = record { some = i.some; value = i.value; silence = i.silence; ifs = i.ifs }

-- no usable telegram and no IFS came since start
unfoldable pub no_telegrams : Input
no_telegrams = input_from (emptied 0)

-- M3, R17: at a start: O/S, a value under 0x1F, the fresh operator's pair and no telegrams
unfoldable pub started : ℕ → State
started value = record { out = as_discrete (held_at value); mode = out_of_service; operator = fresh_operator_d; sp = no_telegrams; rcas_in = no_telegrams }

-- M4: fresh the value is 0
unfoldable pub fresh_state : State
fresh_state = started 0

-- R17: a warm start leaves the value of OUT_D
unfoldable pub warm_started : State → State
warm_started state = started state.out.value

-- P15: a written OUT_D is the operator's pair, which is kept for ticks in Man. P14b: the pair that reads give stays
unfoldable pub operated_by : State → Discrete → State
operated_by state pair = record { out = state.out; mode = state.mode; operator = pair; sp = state.sp; rcas_in = state.rcas_in }

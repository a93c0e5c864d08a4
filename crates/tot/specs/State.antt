-- TOT's state when fresh, after an accepted write of TOTAL and after a warm start: document 01, Parameters, Mode and History rules. Assumes nothing.
use Rattle.std.specs.Prelude.{ℕ, pos}
use Rattle.numbers.specs.Floats.{float_of}
use Rattle.blocks.specs.Common.{out_of_service, held_out, none}
use Rattle.tot.specs.declared.State.{State}
use Rattle.tot.specs.Total.{thousandths_of}

-- P15: the operator's status before a write of TOTAL
abbrev pub fresh_status : ℕ
fresh_status = 0x4c

-- R13, M3, M4, P15: fresh: nothing counted, O/S, value 0 with 0x1F, no rate
abbrev pub fresh_state : State
fresh_state = record {
  total = pos 0;
  out = record { bits = 0; status = 0x1f };
  mode = out_of_service;
  rate = none;
  operator_status = fresh_status;
}

-- P15: a written TOTAL is the total from then on, and its status is kept for ticks in Man. P14b: the pair that reads give stays
abbrev pub written_state : State → ℕ → ℕ → State
written_state st bits status = record {
  total = thousandths_of (float_of bits);
  out = st.out;
  mode = st.mode;
  rate = st.rate;
  operator_status = status;
}

-- R17, M3: a warm start leaves the total, and the value under 0x1F in O/S; rate and operator's status are as fresh
abbrev pub warm_started : State → State
warm_started st = record {
  total = st.total;
  out = held_out st.out;
  mode = out_of_service;
  rate = none;
  operator_status = fresh_status;
}

-- The calls on a device, document 01, Calls on the device and Refused calls, and document 02, requests 1 and 3. A refused call leaves the device as it was.
-- Assumes nothing.
use Rattle.std.specs.Prelude.{ℕ, Bool, true, cond, List, ◌==◌, nat_lt, Result, Ok, Err, Float}
use Rattle.wire.specs.declared.Pair.{Pair}
use Rattle.wire.specs.declared.Discrete.{Discrete}
use Rattle.wire.specs.Refusal.{granted, Answer}
use Rattle.wire.specs.declared.Refusal.{Refusal}
use Rattle.wire.specs.Refusal.{ground as number}
use Rattle.linearisation.specs.declared.Table.{Table}
use Rattle.linearisation.specs.Table.{has_table, loaded_of}
use Rattle.ain.specs.Tick.{tick_of as ain_tick}
use Rattle.ain.specs.State.{warm_started as ain_warm_started}
use Rattle.tot.specs.Tick.{tick_of as tot_tick}
use Rattle.tot.specs.State.{warm_started as tot_warm_started}
use Rattle.ao.specs.declared.State.{State as AoState}
use Rattle.ao.specs.Tick.{tick_of as ao_tick}
use Rattle.ao.specs.State.{warm_started as ao_warm_started}
use Rattle.ao.specs.Telegram.{telegram_of as ao_telegram}
use Rattle.di.specs.Tick.{tick_of as di_tick}
use Rattle.di.specs.State.{warm_started as di_warm_started}
use Rattle.dout.specs.declared.State.{State as DoutState}
use Rattle.dout.specs.Tick.{tick_of as dout_tick}
use Rattle.dout.specs.State.{warm_started as dout_warm_started}
use Rattle.dout.specs.Telegram.{telegram_of as dout_telegram}
use Rattle.parameters.specs.declared.Standing.{Standing}
use Rattle.parameters.specs.Refused.{ground}
use Rattle.device.specs.declared.AinBlock.{AinBlock}
use Rattle.device.specs.declared.Device.{Device}
use Rattle.blocks.specs.declared.setpoint.Order.{Order}
use Rattle.blocks.specs.Output.{TakenOf}
use Rattle.device.specs.Stored.{rev_after, stored_in}

-- a call's answer, and the device after it
pub record Answered : Type 0 where
  pub device : Device
  pub answer : Answer

-- a tick's drive orders, AO's and DO's, and the device after it
pub record Ticked : Type 0 where
  pub device : Device
  pub order : Order Float
  pub order_d : Order ℕ

-- what stands: WRITE_LOCKING, the targets, and whether a table is loaded
abbrev pub standing_of : Device → Standing
standing_of d = record {
  lock = d.write_locking;
  ain = d.ain.settings.target;
  tot = d.tot.settings.target;
  ao = d.ao.settings.target;
  di = d.di.settings.target;
  dout = d.dout.settings.target;
  table = has_table d.ain.table;
}

-- C6: a write, by its answer: an accepted one is stored
abbrev pub write_by : Device → ℕ → ℕ → ℕ → ℕ → Answer → Answered
write_by d block number a b (Ok u) = record { device = stored_in d block number a b; answer = granted }
write_by d block number a b (Err r) = record { device = d; answer = Err r }

unfoldable pub write_of : Device → ℕ → ℕ → ℕ → ℕ → Answered
write_of d block number a b = write_by d block number a b (ground (standing_of d) block number a b)

-- C2, C3, Q3.6: a tick of every block, under the fault flag: AIN by the first pair, TOT by the second, DI by the third; the answer is the orders of AO
-- and of DO
unfoldable pub tick_of : Device → Bool → Pair → Pair → Discrete → Ticked
tick_of d fault ain tot di = record {
  device = record {
    write_locking = d.write_locking;
    ain = record {
      settings = d.ain.settings;
      state = ain_tick d.ain.settings d.ain.table d.ain.state fault ain.bits ain.status;
      st_rev = d.ain.st_rev;
      table = d.ain.table;
    };
    tot = record {
      settings = d.tot.settings;
      state = tot_tick d.tot.settings d.tot.state fault tot.bits tot.status;
      st_rev = d.tot.st_rev;
    };
    ao = record {
      settings = d.ao.settings;
      state = (ao_tick d.ao.settings d.ao.state fault).state;
      st_rev = d.ao.st_rev;
    };
    di = record {
      settings = d.di.settings;
      state = di_tick d.di.settings d.di.state fault di.value di.status;
      st_rev = d.di.st_rev;
    };
    dout = record {
      settings = d.dout.settings;
      state = (dout_tick d.dout.settings d.dout.state fault).state;
      st_rev = d.dout.st_rev;
    };
  };
  order = (ao_tick d.ao.settings d.ao.state fault).order;
  order_d = (dout_tick d.dout.settings d.dout.state fault).order;
}

-- what a telegram to AO leaves, and one to DO
abbrev pub ao_heard : Device → TakenOf AoState → Answered
ao_heard d taken = record {
  device = record {
    write_locking = d.write_locking;
    ain = d.ain;
    tot = d.tot;
    ao = record { settings = d.ao.settings; state = taken.state; st_rev = d.ao.st_rev };
    di = d.di;
    dout = d.dout;
  };
  answer = taken.answer;
}

abbrev pub dout_heard : Device → TakenOf DoutState → Answered
dout_heard d taken = record {
  device = record {
    write_locking = d.write_locking;
    ain = d.ain;
    tot = d.tot;
    ao = d.ao;
    di = d.di;
    dout = record { settings = d.dout.settings; state = taken.state; st_rev = d.dout.st_rev };
  };
  answer = taken.answer;
}

-- C5, Q3.7, Q3.10: a telegram, with the number of its input and its bytes: AO's inputs are 0 and 1, and any other is DO's, which refuses those it lacks
unfoldable pub telegram_of : Device → ℕ → List ℕ → Answered
telegram_of d input bytes =
    cond (nat_lt 1 input) (dout_heard d (dout_telegram d.dout.state input bytes)) (ao_heard d (ao_telegram d.ao.state input bytes))

-- Q1.9: a table is AIN's, and counts as one static write of it, whatever it was before
abbrev pub tabled_by : AinBlock → Table → AinBlock
tabled_by block table = record { settings = block.settings; state = block.state; st_rev = rev_after true block.st_rev; table = table }

-- Q1.3, Q1.10: a load, by what its bytes stand for
abbrev pub load_by : Device → Result Table Refusal → Answered
load_by d (Ok table) = record {
  device = record { write_locking = d.write_locking; ain = tabled_by d.ain table; tot = d.tot; ao = d.ao; di = d.di; dout = d.dout };
  answer = granted;
}
load_by d (Err r) = record { device = d; answer = Err r }

-- Q1.10: refused while WRITE_LOCKING is 0 (4), before its bytes are looked at
unfoldable pub load_of : Device → List ℕ → Answered
load_of d bytes =
    cond (d.write_locking == 0) (record { device = d; answer = Err (number 4) })
    (load_by d (loaded_of bytes))

-- C7, R17, Q1.9: a warm start of every block; settings, WRITE_LOCKING, ST_REV and the table stay
unfoldable pub warm_started : Device → Device
warm_started d = record {
  write_locking = d.write_locking;
  ain = record { settings = d.ain.settings; state = ain_warm_started d.ain.state; st_rev = d.ain.st_rev; table = d.ain.table };
  tot = record { settings = d.tot.settings; state = tot_warm_started d.tot.state; st_rev = d.tot.st_rev };
  ao = record { settings = d.ao.settings; state = ao_warm_started d.ao.state; st_rev = d.ao.st_rev };
  di = record { settings = d.di.settings; state = di_warm_started d.di.state; st_rev = d.di.st_rev };
  dout = record { settings = d.dout.settings; state = dout_warm_started d.dout.state; st_rev = d.dout.st_rev };
}

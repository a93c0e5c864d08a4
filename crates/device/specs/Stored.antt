-- What an accepted write stores, document 01, Parameters and History rules, and document 02, requests 2 and 3: each field beside its parameter's number.
-- Assumes nothing.
use Rattle.std.specs.Prelude.{ℕ, ◌+◌, ◌%◌, Bool, cond, ◌==◌}
use Rattle.numbers.specs.Floats.{float_of}
use Rattle.blocks.specs.Common.{operator_after}
use Rattle.ain.specs.declared.Settings.{Settings as AinSettings}
use Rattle.ain.specs.State.{operated_state}
use Rattle.tot.specs.declared.Settings.{Settings as TotSettings}
use Rattle.tot.specs.State.{written_state}
use Rattle.ao.specs.declared.Settings.{Settings as AoSettings}
use Rattle.ao.specs.State.{operated_by}
use Rattle.di.specs.declared.Settings.{Settings as DiSettings}
use Rattle.di.specs.State.{operated_state as operated_di}
use Rattle.dout.specs.declared.Settings.{Settings as DoutSettings}
use Rattle.dout.specs.State.{operated_by as operated_dout}
use Rattle.parameters.specs.Table.{is_static}
use Rattle.parameters.specs.Words.{scale_of, pair_of, discrete_pair}
use Rattle.device.specs.declared.AinBlock.{AinBlock}
use Rattle.device.specs.declared.TotBlock.{TotBlock}
use Rattle.device.specs.declared.AoBlock.{AoBlock}
use Rattle.device.specs.declared.DiBlock.{DiBlock}
use Rattle.device.specs.declared.DoutBlock.{DoutBlock}
use Rattle.device.specs.declared.Device.{Device}

-- P8: each field by its parameter's words
unfoldable pub ain_settings : AinSettings → ℕ → ℕ → ℕ → AinSettings
ain_settings s number a b = record {
  target = cond (number == 5) a s.target;
  pv_scale = cond (number == 11) (scale_of a b) s.pv_scale;
  out_scale = cond (number == 12) (scale_of a b) s.out_scale;
  lin_type = cond (number == 13) a s.lin_type;
  pv_ftime = cond (number == 16) (float_of a) s.pv_ftime;
  fsafe_type = cond (number == 17) a s.fsafe_type;
  fsafe_value = cond (number == 18) (float_of a) s.fsafe_value;
  alarm_hys = cond (number == 19) (float_of a) s.alarm_hys;
  hi_hi_lim = cond (number == 21) (float_of a) s.hi_hi_lim;
  hi_lim = cond (number == 23) (float_of a) s.hi_lim;
  lo_lim = cond (number == 25) (float_of a) s.lo_lim;
  lo_lo_lim = cond (number == 27) (float_of a) s.lo_lo_lim;
}

unfoldable pub tot_settings : TotSettings → ℕ → ℕ → TotSettings
tot_settings s number a = record {
  target = cond (number == 5) a s.target;
  set_tot = cond (number == 13) a s.set_tot;
  mode_tot = cond (number == 14) a s.mode_tot;
  fail_tot = cond (number == 15) a s.fail_tot;
  preset_tot = cond (number == 16) (float_of a) s.preset_tot;
}

unfoldable pub ao_settings : AoSettings → ℕ → ℕ → ℕ → AoSettings
ao_settings s number a b = record {
  target = cond (number == 5) a s.target;
  pv_scale = cond (number == 11) (scale_of a b) s.pv_scale;
  out_scale = cond (number == 38) (scale_of a b) s.out_scale;
  fsafe_time = cond (number == 23) a s.fsafe_time;
  fsafe_type = cond (number == 24) a s.fsafe_type;
  fsafe_value = cond (number == 25) (float_of a) s.fsafe_value;
  increase_close = cond (number == 36) a s.increase_close;
}

-- Q3.2a: DI's codes, and Q3.2b: DO's
unfoldable pub di_settings : DiSettings → ℕ → ℕ → DiSettings
di_settings s number a = record {
  target = cond (number == 5) a s.target;
  invert = cond (number == 15) a s.invert;
  fsafe_type = cond (number == 20) a s.fsafe_type;
  fsafe_val_d = cond (number == 21) a s.fsafe_val_d;
}

unfoldable pub dout_settings : DoutSettings → ℕ → ℕ → DoutSettings
dout_settings s number a = record {
  target = cond (number == 5) a s.target;
  invert = cond (number == 15) a s.invert;
  fsafe_type = cond (number == 20) a s.fsafe_type;
  fsafe_val_d = cond (number == 21) a s.fsafe_val_d;
  fsafe_time = cond (number == 22) a s.fsafe_time;
}

-- R11: ST_REV after an accepted write: a static one counts, whatever it changes, and 0 follows 65,535; said once for all blocks
unfoldable pub rev_after : Bool → ℕ → ℕ
rev_after counted rev = cond counted ((rev + 1) % 65536) rev

-- Q2.4, Q2.5, Q3.8a: the operator's pair of AIN, AO, DI or DO after an accepted write of another parameter than OUT: one of the target makes it the pair
-- last given where it enters Man. Said over any type P of pair
unfoldable pub entered_by : {P : Type 0} → ℕ → ℕ → ℕ → P → P → P
entered_by number a target given operator = cond (number == 5) (operator_after target a given operator) operator

-- P15: and after any: one of OUT, whose number goes before, brings it: the pair that its words are
unfoldable pub operator_by : {P : Type 0} → (ℕ → ℕ → P) → ℕ → ℕ → ℕ → ℕ → ℕ → P → P → P
operator_by made output number a b target given operator = cond (number == output) (made a b) (entered_by number a target given operator)

-- P15: a block after an accepted write; one of TOTAL sets the total and keeps its status for Man
unfoldable pub ain_written : AinBlock → ℕ → ℕ → ℕ → AinBlock
ain_written block number a b = record {
  settings = ain_settings block.settings number a b;
  state = operated_state block.state (operator_by pair_of 10 number a b block.settings.target block.state.out block.state.operator);
  st_rev = rev_after (is_static 1 number) block.st_rev;
  table = block.table;
}

unfoldable pub tot_written : TotBlock → ℕ → ℕ → ℕ → TotBlock
tot_written block number a b = record {
  settings = tot_settings block.settings number a;
  state = cond (number == 10) (written_state block.state a (b % 256)) block.state;
  st_rev = rev_after (is_static 2 number) block.st_rev;
}

unfoldable pub ao_written : AoBlock → ℕ → ℕ → ℕ → AoBlock
ao_written block number a b = record {
  settings = ao_settings block.settings number a b;
  state = operated_by block.state (operator_by pair_of 37 number a b block.settings.target block.state.out block.state.operator);
  st_rev = rev_after (is_static 3 number) block.st_rev;
}

unfoldable pub di_written : DiBlock → ℕ → ℕ → ℕ → DiBlock
di_written block number a b = record {
  settings = di_settings block.settings number a;
  state = operated_di block.state (operator_by discrete_pair 10 number a b block.settings.target block.state.out block.state.operator);
  st_rev = rev_after (is_static 4 number) block.st_rev;
}

unfoldable pub dout_written : DoutBlock → ℕ → ℕ → ℕ → DoutBlock
dout_written block number a b = record {
  settings = dout_settings block.settings number a;
  state = operated_dout block.state (operator_by discrete_pair 10 number a b block.settings.target block.state.out block.state.operator);
  st_rev = rev_after (is_static 5 number) block.st_rev;
}

-- P1, Q3.2a: the block written, by its number; block 0 has WRITE_LOCKING alone
unfoldable pub stored_in : Device → ℕ → ℕ → ℕ → ℕ → Device
stored_in d block number a b = record {
  write_locking = cond (block == 0) a d.write_locking;
  ain = cond (block == 1) (ain_written d.ain number a b) d.ain;
  tot = cond (block == 2) (tot_written d.tot number a b) d.tot;
  ao = cond (block == 3) (ao_written d.ao number a b) d.ao;
  di = cond (block == 4) (di_written d.di number a b) d.di;
  dout = cond (block == 5) (dout_written d.dout number a b) d.dout;
}

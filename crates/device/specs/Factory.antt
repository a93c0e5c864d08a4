-- The blocks' settings by their parameters' words, and the device that the factory call gives: document 01, Parameters and Mode. Assumes nothing.
use Rattle.std.specs.Prelude.{ℕ, Float}
use Rattle.numbers.specs.Floats.{float_of}
use Rattle.scaling.specs.declared.Scale.{Scale}
use Rattle.linearisation.specs.Table.{no_table}
use Rattle.ain.specs.declared.Settings.{Settings as AinSettings}
use Rattle.ain.specs.State.{fresh_state as fresh_ain}
use Rattle.tot.specs.declared.Settings.{Settings as TotSettings}
use Rattle.tot.specs.State.{fresh_state as fresh_tot}
use Rattle.ao.specs.declared.Settings.{Settings as AoSettings}
use Rattle.ao.specs.State.{fresh_state as fresh_ao}
use Rattle.di.specs.declared.Settings.{Settings as DiSettings}
use Rattle.di.specs.State.{fresh_state as fresh_di}
use Rattle.dout.specs.declared.Settings.{Settings as DoutSettings}
use Rattle.dout.specs.State.{fresh_state as fresh_dout}
use Rattle.parameters.specs.declared.Words.{Words}
use Rattle.parameters.specs.Table.{default_of}
use Rattle.parameters.specs.Words.{scale_of}
use Rattle.device.specs.declared.Device.{Device}

-- words for every block and number
abbrev pub Valuation : Type 0
Valuation = ℕ → ℕ → Words

-- P8: a parameter as a whole number, as a float and as a scale
abbrev pub code_by : Valuation → ℕ → ℕ → ℕ
code_by v block number = (v block number).first

abbrev pub float_by : Valuation → ℕ → ℕ → Float
float_by v block number = float_of (v block number).first

abbrev pub scale_by : Valuation → ℕ → ℕ → Scale
scale_by v block number = scale_of (v block number).first (v block number).second

unfoldable pub ain_by : Valuation → AinSettings
ain_by v = record {
  target = code_by v 1 5;
  pv_scale = scale_by v 1 11;
  out_scale = scale_by v 1 12;
  lin_type = code_by v 1 13;
  pv_ftime = float_by v 1 16;
  fsafe_type = code_by v 1 17;
  fsafe_value = float_by v 1 18;
  alarm_hys = float_by v 1 19;
  hi_hi_lim = float_by v 1 21;
  hi_lim = float_by v 1 23;
  lo_lim = float_by v 1 25;
  lo_lo_lim = float_by v 1 27;
}

unfoldable pub tot_by : Valuation → TotSettings
tot_by v = record {
  target = code_by v 2 5;
  set_tot = code_by v 2 13;
  mode_tot = code_by v 2 14;
  fail_tot = code_by v 2 15;
  preset_tot = float_by v 2 16;
}

unfoldable pub ao_by : Valuation → AoSettings
ao_by v = record {
  target = code_by v 3 5;
  pv_scale = scale_by v 3 11;
  out_scale = scale_by v 3 38;
  fsafe_time = code_by v 3 23;
  fsafe_type = code_by v 3 24;
  fsafe_value = float_by v 3 25;
  increase_close = code_by v 3 36;
}

unfoldable pub di_by : Valuation → DiSettings
di_by v = record { target = code_by v 4 5; invert = code_by v 4 15; fsafe_type = code_by v 4 20; fsafe_val_d = code_by v 4 21 }

unfoldable pub dout_by : Valuation → DoutSettings
dout_by v = record {
  target = code_by v 5 5;
  invert = code_by v 5 15;
  fsafe_type = code_by v 5 20;
  fsafe_val_d = code_by v 5 21;
  fsafe_time = code_by v 5 22;
}

-- C1, P4, Q3.3: the defaults, fresh blocks, no static write yet and no table
unfoldable pub factory_device : Device
factory_device = record {
  write_locking = code_by default_of 0 18;
  ain = record { settings = ain_by default_of; state = fresh_ain; st_rev = 0; table = no_table };
  tot = record { settings = tot_by default_of; state = fresh_tot; st_rev = 0 };
  ao = record { settings = ao_by default_of; state = fresh_ao; st_rev = 0 };
  di = record { settings = di_by default_of; state = fresh_di; st_rev = 0 };
  dout = record { settings = dout_by default_of; state = fresh_dout; st_rev = 0 };
}

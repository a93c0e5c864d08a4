-- The words of a device: every field in the order of its struct, and the device read again from words. Assumes nothing.
use Rattle.std.specs.Prelude.{ℕ, zero, suc, ◌+◌, ◌*◌, ◌-◌, ◌/◌, ◌%◌, ◌^◌, ◌<◌, Bool, cond, List, [], ◌∷◌, ◌++◌, get_or, drop, take, ℤ, pos, negsuc, ltb, eqb, Float}
use Rattle.numbers.specs.Floats.{float_of, bits_of}
use Rattle.scaling.specs.declared.Scale.{Scale}
use Rattle.wire.specs.declared.Pair.{Pair}
use Rattle.wire.specs.declared.Discrete.{Discrete}
use Rattle.linearisation.specs.declared.Point.{Point}
use Rattle.linearisation.specs.declared.Table.{Table}
use Rattle.linearisation.specs.Table.{zero_point}
use Rattle.blocks.specs.declared.Kept.{Kept}
use Rattle.ain.specs.declared.Alarms.{Alarms}
use Rattle.ain.specs.declared.Settings.{Settings as AinSettings}
use Rattle.ain.specs.declared.State.{State as AinState}
use Rattle.tot.specs.declared.Settings.{Settings as TotSettings}
use Rattle.tot.specs.declared.State.{State as TotState}
use Rattle.ao.specs.declared.Input.{Input}
use Rattle.ao.specs.declared.Settings.{Settings as AoSettings}
use Rattle.ao.specs.declared.State.{State as AoState}
use Rattle.di.specs.declared.Kept.{Kept as KeptD}
use Rattle.di.specs.declared.Settings.{Settings as DiSettings}
use Rattle.di.specs.declared.State.{State as DiState}
use Rattle.dout.specs.declared.Input.{Input as InputD}
use Rattle.dout.specs.declared.Settings.{Settings as DoutSettings}
use Rattle.dout.specs.declared.State.{State as DoutState}
use Rattle.device.specs.declared.AinBlock.{AinBlock}
use Rattle.device.specs.declared.TotBlock.{TotBlock}
use Rattle.device.specs.declared.AoBlock.{AoBlock}
use Rattle.device.specs.declared.DiBlock.{DiBlock}
use Rattle.device.specs.declared.DoutBlock.{DoutBlock}
use Rattle.device.specs.declared.Device.{Device}
use Rattle.packing.specs.declared.Writer.{Writer}

-- ---- a device as words

-- a number as it is
abbrev pub number_words : ℕ → List ℕ
number_words n = n ∷ []

-- a float by its bits
abbrev pub float_words : Float → List ℕ
float_words x = bits_of x ∷ []

-- a flag
abbrev pub flag : Bool → ℕ
flag b = cond b 1 0

abbrev pub flag_words : Bool → List ℕ
flag_words b = flag b ∷ []

-- a total as 64 bits, in two's complement: two words
abbrev pub twos : ℤ → ℕ
twos (pos n) = n
twos (negsuc n) = 2 ^ 64 - suc n

abbrev pub total_words : ℤ → List ℕ
total_words z = twos z / 2 ^ 32 ∷ twos z % 2 ^ 32 ∷ []

abbrev pub scale_words : Scale → List ℕ
scale_words s = float_words s.low ++ float_words s.high

abbrev pub pair_words : Pair → List ℕ
pair_words s = number_words s.bits ++ number_words s.status

abbrev pub discrete_words : Discrete → List ℕ
discrete_words s = number_words s.value ++ number_words s.status

abbrev pub kept_words : Kept → List ℕ
kept_words s = flag_words s.some ++ float_words s.value

abbrev pub kept_d_words : KeptD → List ℕ
kept_d_words s = flag_words s.some ++ number_words s.value

abbrev pub alarms_words : Alarms → List ℕ
alarms_words s = flag_words s.hi_hi ++ flag_words s.hi ++ flag_words s.lo ++ flag_words s.lo_lo

abbrev pub input_words : Input → List ℕ
input_words s = flag_words s.some ++ float_words s.value ++ number_words s.silence ++ flag_words s.ifs

abbrev pub input_d_words : InputD → List ℕ
input_d_words s = flag_words s.some ++ number_words s.value ++ number_words s.silence ++ flag_words s.ifs

abbrev pub place_words : Point → List ℕ
place_words p = float_words p.x ++ float_words p.y

-- n places of a table from place i on
unfoldable pub point_words : ℕ → ℕ → List Point → List ℕ
point_words zero i ps = []
point_words (suc n) i ps = place_words (get_or ps i zero_point) ++ point_words n (suc i) ps

-- Q1.3: how many pairs a table has, and its 21 places
unfoldable pub table_words : Table → List ℕ
table_words t = t.count ∷ point_words 21 0 t.points

abbrev pub ain_settings_words : AinSettings → List ℕ
ain_settings_words s =
    number_words s.target
    ++ scale_words s.pv_scale
    ++ scale_words s.out_scale
    ++ number_words s.lin_type
    ++ float_words s.pv_ftime
    ++ number_words s.fsafe_type
    ++ float_words s.fsafe_value
    ++ float_words s.alarm_hys
    ++ float_words s.hi_hi_lim
    ++ float_words s.hi_lim
    ++ float_words s.lo_lim
    ++ float_words s.lo_lo_lim

abbrev pub ain_state_words : AinState → List ℕ
ain_state_words s =
    pair_words s.out
    ++ number_words s.mode
    ++ kept_words s.filter
    ++ kept_words s.last
    ++ pair_words s.operator
    ++ alarms_words s.alarms

-- AIN: 71 words
unfoldable pub ain_words : AinBlock → List ℕ
ain_words b = ain_settings_words b.settings ++ ain_state_words b.state ++ number_words b.st_rev ++ table_words b.table

abbrev pub tot_settings_words : TotSettings → List ℕ
tot_settings_words s =
    number_words s.target
    ++ number_words s.set_tot
    ++ number_words s.mode_tot
    ++ number_words s.fail_tot
    ++ float_words s.preset_tot

abbrev pub tot_state_words : TotState → List ℕ
tot_state_words s =
    total_words s.total
    ++ pair_words s.out
    ++ number_words s.mode
    ++ kept_words s.rate
    ++ number_words s.operator_status

-- TOT: 14
unfoldable pub tot_words : TotBlock → List ℕ
tot_words b = tot_settings_words b.settings ++ tot_state_words b.state ++ number_words b.st_rev

abbrev pub ao_settings_words : AoSettings → List ℕ
ao_settings_words s =
    number_words s.target
    ++ scale_words s.pv_scale
    ++ scale_words s.out_scale
    ++ number_words s.fsafe_time
    ++ number_words s.fsafe_type
    ++ float_words s.fsafe_value
    ++ number_words s.increase_close

abbrev pub ao_state_words : AoState → List ℕ
ao_state_words s =
    pair_words s.out
    ++ number_words s.mode
    ++ pair_words s.operator
    ++ input_words s.sp
    ++ input_words s.rcas_in

-- AO: 23
unfoldable pub ao_words : AoBlock → List ℕ
ao_words b = ao_settings_words b.settings ++ ao_state_words b.state ++ number_words b.st_rev

abbrev pub di_settings_words : DiSettings → List ℕ
di_settings_words s = number_words s.target ++ number_words s.invert ++ number_words s.fsafe_type ++ number_words s.fsafe_val_d

abbrev pub di_state_words : DiState → List ℕ
di_state_words s = discrete_words s.out ++ number_words s.mode ++ kept_d_words s.last ++ discrete_words s.operator

-- Q3.2a: DI, 12, and DO, 19
unfoldable pub di_words : DiBlock → List ℕ
di_words b = di_settings_words b.settings ++ di_state_words b.state ++ number_words b.st_rev

abbrev pub dout_settings_words : DoutSettings → List ℕ
dout_settings_words s =
    number_words s.target
    ++ number_words s.invert
    ++ number_words s.fsafe_type
    ++ number_words s.fsafe_val_d
    ++ number_words s.fsafe_time

abbrev pub dout_state_words : DoutState → List ℕ
dout_state_words s =
    discrete_words s.out
    ++ number_words s.mode
    ++ discrete_words s.operator
    ++ input_d_words s.sp
    ++ input_d_words s.rcas_in

unfoldable pub dout_words : DoutBlock → List ℕ
dout_words b = dout_settings_words b.settings ++ dout_state_words b.state ++ number_words b.st_rev

-- WRITE_LOCKING and the five blocks: 140
unfoldable pub device_words : Device → List ℕ
device_words d =
    number_words d.write_locking
    ++ ain_words d.ain
    ++ tot_words d.tot
    ++ ao_words d.ao
    ++ di_words d.di
    ++ dout_words d.dout

-- the layout's version
abbrev pub layout_version : ℕ
layout_version = 3

-- 141 words
unfoldable pub words_of : Device → List ℕ
words_of d = layout_version ∷ device_words d

-- each has 32 bits
abbrev pub Small : List ℕ → Type 0
Small [] = Unit
Small (w ∷ ws) = (w < 2 ^ 32) × Small ws

-- ---- words as a device: each cut to its field's type

-- what the first words are read as, and the words behind them
pub record Read (A : Type 0) : Type 0 where
  pub value : A
  pub rest : List ℕ

-- past the end words count as 0
abbrev pub word : List ℕ → Read ℕ
word ws = record { value = get_or ws 0 0; rest = drop 1 ws }

abbrev pub float : List ℕ → Read Float
float ws = let w = word ws in record { value = float_of w.value; rest = w.rest }

abbrev pub byte : List ℕ → Read ℕ
byte ws = let w = word ws in record { value = w.value % 256; rest = w.rest }

abbrev pub half : List ℕ → Read ℕ
half ws = let w = word ws in record { value = w.value % 65536; rest = w.rest }

abbrev pub is_set : List ℕ → Read Bool
is_set ws = let w = word ws in record { value = eqb w.value 1; rest = w.rest }

-- from 2 ^ 63 on a total is negative
abbrev pub of_twos : ℕ → ℤ
of_twos n = cond (ltb n (2 ^ 63)) (pos n) (negsuc (2 ^ 64 - 1 - n))

abbrev pub total : List ℕ → Read ℤ
total ws =
    let high = word ws in
    let low = word high.rest in
    record { value = of_twos (high.value * 2 ^ 32 + low.value); rest = low.rest }

abbrev pub scale : List ℕ → Read Scale
scale ws =
    let low = float ws in
    let high = float low.rest in
    record { value = record { low = low.value; high = high.value }; rest = high.rest }

abbrev pub pair : List ℕ → Read Pair
pair ws =
    let bits = word ws in
    let status = byte bits.rest in
    record { value = record { bits = bits.value; status = status.value }; rest = status.rest }

abbrev pub discrete : List ℕ → Read Discrete
discrete ws =
    let value = byte ws in
    let status = byte value.rest in
    record { value = record { value = value.value; status = status.value }; rest = status.rest }

abbrev pub kept : List ℕ → Read Kept
kept ws =
    let some = is_set ws in
    let value = float some.rest in
    record { value = record { some = some.value; value = value.value }; rest = value.rest }

abbrev pub kept_d : List ℕ → Read KeptD
kept_d ws =
    let some = is_set ws in
    let value = byte some.rest in
    record { value = record { some = some.value; value = value.value }; rest = value.rest }

abbrev pub alarms : List ℕ → Read Alarms
alarms ws =
    let hi_hi = is_set ws in
    let hi = is_set hi_hi.rest in
    let lo = is_set hi.rest in
    let lo_lo = is_set lo.rest in
    record { value = record { hi_hi = hi_hi.value; hi = hi.value; lo = lo.value; lo_lo = lo_lo.value }; rest = lo_lo.rest }

abbrev pub input : List ℕ → Read Input
input ws =
    let some = is_set ws in
    let value = float some.rest in
    let silence = word value.rest in
    let ifs = is_set silence.rest in
    record { value = record { some = some.value; value = value.value; silence = silence.value; ifs = ifs.value }; rest = ifs.rest }

abbrev pub input_d : List ℕ → Read InputD
input_d ws =
    let some = is_set ws in
    let value = byte some.rest in
    let silence = word value.rest in
    let ifs = is_set silence.rest in
    record { value = record { some = some.value; value = value.value; silence = silence.value; ifs = ifs.value }; rest = ifs.rest }

abbrev pub point : List ℕ → Read Point
point ws =
    let x = float ws in
    let y = float x.rest in
    record { value = record { x = x.value; y = y.value }; rest = y.rest }

-- n places of a table
unfoldable pub points : ℕ → List ℕ → Read (List Point)
points zero ws = record { value = []; rest = ws }
points (suc n) ws =
    let first = point ws in
    let others = points n first.rest in
    record { value = first.value ∷ others.value; rest = others.rest }

unfoldable pub table : List ℕ → Read Table
table ws =
    let count = word ws in
    let points = points 21 count.rest in
    record { value = record { count = count.value; points = points.value }; rest = points.rest }

abbrev pub ain_settings : List ℕ → Read AinSettings
ain_settings ws =
    let target = word ws in
    let pv_scale = scale target.rest in
    let out_scale = scale pv_scale.rest in
    let lin_type = word out_scale.rest in
    let pv_ftime = float lin_type.rest in
    let fsafe_type = word pv_ftime.rest in
    let fsafe_value = float fsafe_type.rest in
    let alarm_hys = float fsafe_value.rest in
    let hi_hi_lim = float alarm_hys.rest in
    let hi_lim = float hi_hi_lim.rest in
    let lo_lim = float hi_lim.rest in
    let lo_lo_lim = float lo_lim.rest in
    record {
      value = record {
        target = target.value;
        pv_scale = pv_scale.value;
        out_scale = out_scale.value;
        lin_type = lin_type.value;
        pv_ftime = pv_ftime.value;
        fsafe_type = fsafe_type.value;
        fsafe_value = fsafe_value.value;
        alarm_hys = alarm_hys.value;
        hi_hi_lim = hi_hi_lim.value;
        hi_lim = hi_lim.value;
        lo_lim = lo_lim.value;
        lo_lo_lim = lo_lo_lim.value;
      };
      rest = lo_lo_lim.rest;
    }

abbrev pub ain_state : List ℕ → Read AinState
ain_state ws =
    let out = pair ws in
    let mode = word out.rest in
    let filter = kept mode.rest in
    let last = kept filter.rest in
    let operator = pair last.rest in
    let alarms = alarms operator.rest in
    record {
      value = record {
        out = out.value;
        mode = mode.value;
        filter = filter.value;
        last = last.value;
        operator = operator.value;
        alarms = alarms.value;
      };
      rest = alarms.rest;
    }

unfoldable pub ain_of : List ℕ → Read AinBlock
ain_of ws =
    let settings = ain_settings ws in
    let state = ain_state settings.rest in
    let st_rev = half state.rest in
    let table = table st_rev.rest in
    record {
      value = record {
        settings = settings.value;
        state = state.value;
        st_rev = st_rev.value;
        table = table.value;
      };
      rest = table.rest;
    }

abbrev pub tot_settings : List ℕ → Read TotSettings
tot_settings ws =
    let target = word ws in
    let set_tot = word target.rest in
    let mode_tot = word set_tot.rest in
    let fail_tot = word mode_tot.rest in
    let preset_tot = float fail_tot.rest in
    record {
      value = record {
        target = target.value;
        set_tot = set_tot.value;
        mode_tot = mode_tot.value;
        fail_tot = fail_tot.value;
        preset_tot = preset_tot.value;
      };
      rest = preset_tot.rest;
    }

abbrev pub tot_state : List ℕ → Read TotState
tot_state ws =
    let total = total ws in
    let out = pair total.rest in
    let mode = word out.rest in
    let rate = kept mode.rest in
    let operator_status = byte rate.rest in
    record {
      value = record {
        total = total.value;
        out = out.value;
        mode = mode.value;
        rate = rate.value;
        operator_status = operator_status.value;
      };
      rest = operator_status.rest;
    }

unfoldable pub tot_of : List ℕ → Read TotBlock
tot_of ws =
    let settings = tot_settings ws in
    let state = tot_state settings.rest in
    let st_rev = half state.rest in
    record { value = record { settings = settings.value; state = state.value; st_rev = st_rev.value }; rest = st_rev.rest }

abbrev pub ao_settings : List ℕ → Read AoSettings
ao_settings ws =
    let target = word ws in
    let pv_scale = scale target.rest in
    let out_scale = scale pv_scale.rest in
    let fsafe_time = word out_scale.rest in
    let fsafe_type = word fsafe_time.rest in
    let fsafe_value = float fsafe_type.rest in
    let increase_close = word fsafe_value.rest in
    record {
      value = record {
        target = target.value;
        pv_scale = pv_scale.value;
        out_scale = out_scale.value;
        fsafe_time = fsafe_time.value;
        fsafe_type = fsafe_type.value;
        fsafe_value = fsafe_value.value;
        increase_close = increase_close.value;
      };
      rest = increase_close.rest;
    }

abbrev pub ao_state : List ℕ → Read AoState
ao_state ws =
    let out = pair ws in
    let mode = word out.rest in
    let operator = pair mode.rest in
    let sp = input operator.rest in
    let rcas_in = input sp.rest in
    record {
      value = record {
        out = out.value;
        mode = mode.value;
        operator = operator.value;
        sp = sp.value;
        rcas_in = rcas_in.value;
      };
      rest = rcas_in.rest;
    }

unfoldable pub ao_of : List ℕ → Read AoBlock
ao_of ws =
    let settings = ao_settings ws in
    let state = ao_state settings.rest in
    let st_rev = half state.rest in
    record { value = record { settings = settings.value; state = state.value; st_rev = st_rev.value }; rest = st_rev.rest }

abbrev pub di_settings : List ℕ → Read DiSettings
di_settings ws =
    let target = word ws in
    let invert = word target.rest in
    let fsafe_type = word invert.rest in
    let fsafe_val_d = word fsafe_type.rest in
    record {
      value = record {
        target = target.value;
        invert = invert.value;
        fsafe_type = fsafe_type.value;
        fsafe_val_d = fsafe_val_d.value;
      };
      rest = fsafe_val_d.rest;
    }

abbrev pub di_state : List ℕ → Read DiState
di_state ws =
    let out = discrete ws in
    let mode = word out.rest in
    let last = kept_d mode.rest in
    let operator = discrete last.rest in
    record { value = record { out = out.value; mode = mode.value; last = last.value; operator = operator.value }; rest = operator.rest }

unfoldable pub di_of : List ℕ → Read DiBlock
di_of ws =
    let settings = di_settings ws in
    let state = di_state settings.rest in
    let st_rev = half state.rest in
    record { value = record { settings = settings.value; state = state.value; st_rev = st_rev.value }; rest = st_rev.rest }

abbrev pub dout_settings : List ℕ → Read DoutSettings
dout_settings ws =
    let target = word ws in
    let invert = word target.rest in
    let fsafe_type = word invert.rest in
    let fsafe_val_d = word fsafe_type.rest in
    let fsafe_time = word fsafe_val_d.rest in
    record {
      value = record {
        target = target.value;
        invert = invert.value;
        fsafe_type = fsafe_type.value;
        fsafe_val_d = fsafe_val_d.value;
        fsafe_time = fsafe_time.value;
      };
      rest = fsafe_time.rest;
    }

abbrev pub dout_state : List ℕ → Read DoutState
dout_state ws =
    let out = discrete ws in
    let mode = word out.rest in
    let operator = discrete mode.rest in
    let sp = input_d operator.rest in
    let rcas_in = input_d sp.rest in
    record {
      value = record {
        out = out.value;
        mode = mode.value;
        operator = operator.value;
        sp = sp.value;
        rcas_in = rcas_in.value;
      };
      rest = rcas_in.rest;
    }

unfoldable pub dout_of : List ℕ → Read DoutBlock
dout_of ws =
    let settings = dout_settings ws in
    let state = dout_state settings.rest in
    let st_rev = half state.rest in
    record { value = record { settings = settings.value; state = state.value; st_rev = st_rev.value }; rest = st_rev.rest }

unfoldable pub fields_of : List ℕ → Read Device
fields_of ws =
    let write_locking = word ws in
    let ain = ain_of write_locking.rest in
    let tot = tot_of ain.rest in
    let ao = ao_of tot.rest in
    let di = di_of ao.rest in
    let dout = dout_of di.rest in
    record {
      value = record {
        write_locking = write_locking.value;
        ain = ain.value;
        tot = tot.value;
        ao = ao.value;
        di = di.value;
        dout = dout.value;
      };
      rest = dout.rest;
    }

-- the device of the words behind the layout's version
abbrev pub device_of : List ℕ → Device
device_of ws = (fields_of (word ws).rest).value

-- ---- words being written

-- the words so far
abbrev pub written : Writer → List ℕ
written w = take w.count w.words

-- The device that the rules give, field by field, and that an accepted write leads from one to the next. Assumes nothing.
use Rattle.std.specs.Prelude.{Option, None, Some}
use Prim.Native.Nat.{ℕ, ◌+◌, ◌%◌, ◌≤◌, min}
use native.Mathlib.Omega.{arith}
use mathlib.Core.Path.{◌≡◌, refl, sym, ap, ◌∙◌}
use mathlib.Core.Bool.{Bool, true, false, not, ◌&&◌, ◌||◌, cond, true≢false}
use mathlib.Core.Logic.{inl, inr}
use lib.Dec.{T, eqb, ltb}
use lib.IntN.{ℤ}
use lib.Ieee.{Float}
use Rattle.numbers.specs.Floats.{float_of}
use Rattle.scaling.specs.declared.Scale.{Scale}
use Rattle.linearisation.specs.Table.{table_of}
use Rattle.wire.specs.declared.Pair.{Pair}
use Rattle.wire.specs.declared.Discrete.{Discrete}
use Rattle.blocks.specs.declared.Kept.{Kept}
use Rattle.blocks.specs.Common as Common
use Rattle.ain.specs.declared.Settings.{Settings as AinSettings}
use Rattle.ain.specs.declared.State.{State as AinState}
use Rattle.ain.specs.declared.Alarms.{Alarms}
use Rattle.ain.specs.State.{operated_state}
use Rattle.tot.specs.declared.Settings.{Settings as TotSettings}
use Rattle.tot.specs.declared.State.{State as TotState}
use Rattle.tot.specs.State.{written_state}
use Rattle.tot.specs.Total.{thousandths_of}
use Rattle.ao.specs.declared.Settings.{Settings as AoSettings}
use Rattle.ao.specs.declared.State.{State as AoState}
use Rattle.ao.specs.declared.Input.{Input as Setpoint}
use Rattle.ao.specs.State.{input_from, operated_by, fresh_state, started, no_telegrams}
use Rattle.blocks.specs.declared.setpoint.Setpoint.{Setpoint as InputOf}
use Rattle.blocks.specs.FailSafe.{emptied}
use Rattle.di.specs.declared.Settings.{Settings as DiSettings}
use Rattle.di.specs.declared.State.{State as DiState}
use Rattle.di.specs.declared.Kept.{Kept as KeptD}
use Rattle.di.specs.State as Di
use Rattle.dout.specs.declared.Settings.{Settings as DoutSettings}
use Rattle.dout.specs.declared.State.{State as DoutState}
use Rattle.dout.specs.declared.Input.{Input as SetpointD}
use Rattle.dout.specs.State as Dout
use Rattle.parameters.specs.declared.Words.{Words}
use Rattle.parameters.specs.Table.{is_static}
use Rattle.parameters.specs.Table as Table
use Rattle.device.specs.declared.Device.{Device}
use Rattle.device.specs.declared.AinBlock.{AinBlock}
use Rattle.device.specs.declared.TotBlock.{TotBlock}
use Rattle.device.specs.declared.AoBlock.{AoBlock}
use Rattle.device.specs.declared.DiBlock.{DiBlock}
use Rattle.device.specs.declared.DoutBlock.{DoutBlock}
use Rattle.parameters.specs.Words.{scale_of, pair_of as pair_written, discrete_pair}
use Rattle.device.specs.Stored.{ain_settings, tot_settings, ao_settings, di_settings, dout_settings, rev_after, entered_by, operator_by, ain_written, tot_written, ao_written, di_written, dout_written, stored_in}
use Rattle.device.specs.Factory.{ain_by, tot_by, ao_by, di_by, dout_by, factory_device}
use Rattle.history.specs.Past.{History, start, ◌▷◌, count, count_since, since, latest, told, carried}
use Rattle.history.specs.Calls.{Fed, Seen, Event, wrote, words}
use Rattle.history.specs.Rules.{pair, statics, outputs, among, defaults, or_zeros, or_else, stored, words_to, never, code, float, scale, table, is_static_write, st_rev, actual, last_out, enters_man, handed, man, operator, filter_value, Sensor, last_usable, analog_in, discrete_in, Alarm, hi_hi, hi, lo, lo_lo, stands, rate_value, total, given, Drive, analog_out, discrete_out, discrete, out_number, came, setpoint, silence, ifs, is_tick, is_start, on_tick, pair_on, holds, is_usable, is_ifs, is_usable_on, is_ifs_on, raises, clears}
use Rattle.history.specs.ManLaws.{Operated, operated-each}
use Rattle.history.proofs.Truth.{and-true, and-false}
use Rattle.history.proofs.Lists.{static-same}

-- ---- the device

-- a value that may be missing, as a block keeps it
abbrev pub kept_of : Option Float → Kept
kept_of None = Common.none
kept_of (Some x) = Common.kept x

abbrev pub byte_of : Option ℕ → KeptD
byte_of None = record { some = false; value = 0 }
byte_of (Some x) = record { some = true; value = x }

-- a setpoint input by the rules; the count stops at 65,536
unfoldable pub input_at : {A : Type 0} → Drive A → ℕ → History Event → InputOf A
input_at d input h = record { some = came d input h; value = setpoint d input h; silence = cond (came d input h) (min (silence d input h) 65536) 0; ifs = ifs d input h }

-- and as AO and DO hold it
abbrev pub ao_input : ℕ → History Event → Setpoint
ao_input input h = input_from (input_at analog_out input h)

abbrev pub dout_input : ℕ → History Event → SetpointD
dout_input input h = Dout.input_from (input_at discrete_out input h)

unfoldable pub alarms_at : History Event → Alarms
alarms_at h = record { hi_hi = stands hi_hi h; hi = stands hi h; lo = stands lo h; lo_lo = stands lo_lo h }

-- the settings by their parameters' words
abbrev code_in : Words → ℕ
code_in w = w.first

abbrev float_in : Words → Float
float_in w = float_of w.first

abbrev scale_in : Words → Scale
scale_in w = scale_of w.first w.second

abbrev ain_of : (ℕ → Words) → AinSettings
ain_of w = record {
  target = code_in (w 5);
  pv_scale = scale_in (w 11);
  out_scale = scale_in (w 12);
  lin_type = code_in (w 13);
  pv_ftime = float_in (w 16);
  fsafe_type = code_in (w 17);
  fsafe_value = float_in (w 18);
  alarm_hys = float_in (w 19);
  hi_hi_lim = float_in (w 21);
  hi_lim = float_in (w 23);
  lo_lim = float_in (w 25);
  lo_lo_lim = float_in (w 27);
}

abbrev tot_of : (ℕ → Words) → TotSettings
tot_of w = record { target = code_in (w 5); set_tot = code_in (w 13); mode_tot = code_in (w 14); fail_tot = code_in (w 15); preset_tot = float_in (w 16) }

abbrev ao_of : (ℕ → Words) → AoSettings
ao_of w = record {
  target = code_in (w 5);
  pv_scale = scale_in (w 11);
  out_scale = scale_in (w 38);
  fsafe_time = code_in (w 23);
  fsafe_type = code_in (w 24);
  fsafe_value = float_in (w 25);
  increase_close = code_in (w 36);
}

abbrev di_of : (ℕ → Words) → DiSettings
di_of w = record { target = code_in (w 5); invert = code_in (w 15); fsafe_type = code_in (w 20); fsafe_val_d = code_in (w 21) }

abbrev dout_of : (ℕ → Words) → DoutSettings
dout_of w = record { target = code_in (w 5); invert = code_in (w 15); fsafe_type = code_in (w 20); fsafe_val_d = code_in (w 21); fsafe_time = code_in (w 22) }

unfoldable pub ain_at : History Event → AinSettings
ain_at h = ain_of (stored h 1)

unfoldable pub tot_at : History Event → TotSettings
tot_at h = tot_of (stored h 2)

unfoldable pub ao_at : History Event → AoSettings
ao_at h = ao_of (stored h 3)

unfoldable pub di_at : History Event → DiSettings
di_at h = di_of (stored h 4)

unfoldable pub dout_at : History Event → DoutSettings
dout_at h = dout_of (stored h 5)

unfoldable pub ain_in : History Event → AinState
ain_in h = record { out = given 1 h; mode = actual 1 h; filter = kept_of (filter_value h); last = kept_of (last_usable analog_in h); operator = operator 1 h; alarms = alarms_at h }

unfoldable pub tot_in : History Event → TotState
tot_in h = record { total = total h; out = given 2 h; mode = actual 2 h; rate = kept_of (rate_value h); operator_status = (operator 2 h).status }

unfoldable pub ao_in : History Event → AoState
ao_in h = record { out = given 3 h; mode = actual 3 h; operator = operator 3 h; sp = ao_input 0 h; rcas_in = ao_input 1 h }

unfoldable pub di_in : History Event → DiState
di_in h = record { out = discrete (given 4 h); mode = actual 4 h; last = byte_of (last_usable discrete_in h); operator = discrete (operator 4 h) }

unfoldable pub dout_in : History Event → DoutState
dout_in h = record { out = discrete (given 5 h); mode = actual 5 h; operator = discrete (operator 5 h); sp = dout_input 2 h; rcas_in = dout_input 3 h }

abbrev pub ain_block : History Event → AinBlock
ain_block h = record { settings = ain_at h; state = ain_in h; st_rev = st_rev h 1; table = table_of (table h) }

abbrev pub tot_block : History Event → TotBlock
tot_block h = record { settings = tot_at h; state = tot_in h; st_rev = st_rev h 2 }

abbrev pub ao_block : History Event → AoBlock
ao_block h = record { settings = ao_at h; state = ao_in h; st_rev = st_rev h 3 }

abbrev pub di_block : History Event → DiBlock
di_block h = record { settings = di_at h; state = di_in h; st_rev = st_rev h 4 }

abbrev pub dout_block : History Event → DoutBlock
dout_block h = record { settings = dout_at h; state = dout_in h; st_rev = st_rev h 5 }

unfoldable pub device_of : History Event → Device
device_of h = record { write_locking = code h 0 18; ain = ain_block h; tot = tot_block h; ao = ao_block h; di = di_block h; dout = dout_block h }

-- ---- the factory call

pub ruled-start : factory_device ≡ device_of start
unfolding device_of factory_device ain_by tot_by ao_by di_by dout_by Table.default_of Table.default_in Table.rows_of Table.physical Table.ain Table.tot Table.ao Table.di Table.dout Table.discrete defaults stored latest table ain_at ain_in tot_at tot_in ao_at ao_in di_at di_in dout_at dout_in st_rev count given actual operator filter_value last_usable rate_value carried alarms_at stands since Rattle.history.specs.Rules.total input_at came setpoint silence count_since ifs fresh_state started no_telegrams Dout.fresh_state Dout.started Dout.no_telegrams emptied
ruled-start = refl

-- ---- what leaves a rule's value as it was

pub since-still : {E : Type 0} (r c : History E → E → Bool) (h : History E) (e : E) → r h e ≡ false → c h e ≡ false → since r c (h ▷ e) ≡ since r c h
unfolding since
since-still r c h e p q = ap (λ (x : Bool). x || (since r c h && not (c h e))) p ∙ ap (λ (x : Bool). since r c h && not x) q ∙ and-true (since r c h)

-- an event that is no tick and no start leaves the alarms
pub alarms-still : (h : History Event) (e : Event) → ((a : Alarm) → raises a h e ≡ false) → ((a : Alarm) → clears a h e ≡ false) → alarms_at (h ▷ e) ≡ alarms_at h
unfolding alarms_at stands
alarms-still h e r c = λ i. record { hi_hi = same hi_hi i; hi = same hi i; lo = same lo i; lo_lo = same lo_lo i }
  where
    same : (a : Alarm) → stands a (h ▷ e) ≡ stands a h
    same a = since-still (raises a) (clears a) h e (r a) (c a)

-- without a telegram on an input none is usable there, and none is IFS
module _ {A : Type 0} (d : Drive A) (input : ℕ) (e : Event) (n : pair_on d input e ≡ None) where
  pub not-usable : is_usable_on d input e ≡ false
  unfolding is_usable_on
  not-usable = ap (holds (is_usable d)) n

  pub not-ifs : is_ifs_on d input e ≡ false
  unfolding is_ifs_on
  not-ifs = ap (holds is_ifs) n

  module _ (h : History Event) (s : is_start e ≡ false) where
    pub came_same : came d input (h ▷ e) ≡ came d input h
    unfolding came
    came_same = since-still (λ h e. is_usable_on d input e) (λ h e. is_start e) h e not-usable s

    pub ifs-same : ifs d input (h ▷ e) ≡ ifs d input h
    unfolding ifs
    ifs-same = since-still (λ h e. is_ifs_on d input e) (λ h e. is_usable_on d input e || is_start e) h e not-ifs (ap (λ (x : Bool). x || is_start e) not-usable ∙ s)

    pub setpoint-same : setpoint d input (h ▷ e) ≡ setpoint d input h
    unfolding setpoint latest
    setpoint-same = rw (s, not-usable)

    -- an event that is no tick either leaves the input
    pub input-still : is_tick e ≡ false → input_at d input (h ▷ e) ≡ input_at d input h
    unfolding input_at
    input-still t = λ i. record {
      some = came_same i;
      value = setpoint-same i;
      silence = cond (came_same i) (min (silence-same i) 65536) 0;
      ifs = ifs-same i;
    }
      where
        silence-same : silence d input (h ▷ e) ≡ silence d input h
        silence-same = unfold silence count_since in rw (not-usable, t)

-- ---- an event that is no tick and no start: the states of the blocks after it, by what it makes of the operator's pair, the total and the inputs

abbrev pub Still : Event → Type 1
Still e = (A : Type 0) (f : Bool → Fed → Seen → A) (s o : A) → on_tick f s o e ≡ o

module _ (h : History Event) (e : Event) (still : Still e) where
  given-left : (block : ℕ) → given block h ≡ given block (h ▷ e)
  unfolding given carried
  given-left block = sym (still _ _ _ (given block h))

  actual-left : (block : ℕ) → actual block h ≡ actual block (h ▷ e)
  unfolding actual carried
  actual-left block = sym (still _ _ _ (actual block h))

  filter-left : filter_value h ≡ filter_value (h ▷ e)
  unfolding filter_value carried
  filter-left = sym (still _ _ _ (filter_value h))

  last-left : {A : Type 0} (s : Sensor A) → last_usable s h ≡ last_usable s (h ▷ e)
  unfolding last_usable carried
  last-left s = sym (still _ _ _ (last_usable s h))

  rate-left : rate_value h ≡ rate_value (h ▷ e)
  unfolding rate_value carried
  rate-left = sym (still _ _ _ (rate_value h))

  alarms-left : alarms_at h ≡ alarms_at (h ▷ e)
  unfolding raises clears
  alarms-left = sym (alarms-still h e (λ a. still _ _ _ false) (λ a. still _ _ _ false))

  pub ain-left : (p : Pair) → p ≡ operator 1 (h ▷ e) → operated_state (ain_in h) p ≡ ain_in (h ▷ e)
  unfolding ain_in
  ain-left p o = λ i. record {
    out = given-left 1 i;
    mode = actual-left 1 i;
    filter = kept_of (filter-left i);
    last = kept_of (last-left analog_in i);
    operator = o i;
    alarms = alarms-left i;
  }

  pub tot-left : (z : ℤ) (status : ℕ) → z ≡ total (h ▷ e) → status ≡ (operator 2 (h ▷ e)).status
      → record { total = z; out = given 2 h; mode = actual 2 h; rate = kept_of (rate_value h); operator_status = status } ≡ tot_in (h ▷ e)
  unfolding tot_in
  tot-left z status t o = λ i. record { total = t i; out = given-left 2 i; mode = actual-left 2 i; rate = kept_of (rate-left i); operator_status = o i }

  pub di-left : (p : Discrete) → p ≡ discrete (operator 4 (h ▷ e)) → Di.operated_state (di_in h) p ≡ di_in (h ▷ e)
  unfolding di_in
  di-left p o = λ i. record { out = discrete (given-left 4 i); mode = actual-left 4 i; last = byte_of (last-left discrete_in i); operator = o i }

  pub dout-left : (p : Discrete) (sp rcas_in : SetpointD) → p ≡ discrete (operator 5 (h ▷ e)) → sp ≡ dout_input 2 (h ▷ e) → rcas_in ≡ dout_input 3 (h ▷ e)
      → record { out = discrete (given 5 h); mode = actual 5 h; operator = p; sp = sp; rcas_in = rcas_in } ≡ dout_in (h ▷ e)
  unfolding dout_in
  dout-left p sp rcas_in o u v = λ i. record { out = discrete (given-left 5 i); mode = actual-left 5 i; operator = o i; sp = u i; rcas_in = v i }

  pub ao-left : (p : Pair) (sp rcas_in : Setpoint) → p ≡ operator 3 (h ▷ e) → sp ≡ ao_input 0 (h ▷ e) → rcas_in ≡ ao_input 1 (h ▷ e)
      → record { out = given 3 h; mode = actual 3 h; operator = p; sp = sp; rcas_in = rcas_in } ≡ ao_in (h ▷ e)
  unfolding ao_in
  ao-left p sp rcas_in o u v = λ i. record { out = given-left 3 i; mode = actual-left 3 i; operator = o i; sp = u i; rcas_in = v i }

-- ---- an accepted write

-- what is accepted of an output: its status is a byte, and a discrete value is one
abbrev pub Written : ℕ → ℕ → ℕ → Type 0
Written B a b = (T (ltb 3 B) → a ≤ 255) × (b ≤ 255)

-- a function goes into both cases
pub cond-ap : {X A : Type 0} (g : X → A) (p : Bool) (x y : X) → g (cond p x y) ≡ cond p (g x) (g y)
cond-ap g true x y = refl
cond-ap g false x y = refl

-- ST_REV, for any block
pub rev-step : (c : Bool) (n : ℕ) → rev_after c (n % 65536) ≡ cond c (n + 1) n % 65536
unfolding rev_after
rev-step true n = omega arith
rev-step false n = refl

module _ (h : History Event) (block number a b : ℕ) where
  abbrev then : History Event
  then = h ▷ wrote block number a b

  stored-wrote : (B N : ℕ) → stored then B N ≡ cond (eqb block B && eqb number N) (words a b) (stored h B N)
  unfolding stored latest
  stored-wrote B N = go (eqb block B && eqb number N)
    where
      go : (p : Bool) → or_else (or_zeros (defaults B) N) (told (cond p (Some (words a b)) None) (latest (λ p. words_to B N) never h)) ≡ cond p (words a b) (or_else (or_zeros (defaults B) N) (latest (λ p. words_to B N) never h))
      go true = refl
      go false = refl

  -- a parameter of the block written, and of another block
  written : {A : Type 0} (g : Words → A) (B N : ℕ) → eqb block B ≡ true → cond (eqb number N) (g (words a b)) (g (stored h B N)) ≡ g (stored then B N)
  written g B N e = sym (ap g (stored-wrote B N ∙ ap (λ (p : Bool). cond (p && eqb number N) (words a b) (stored h B N)) e) ∙ cond-ap g (eqb number N) (words a b) (stored h B N))

  untouched : (B N : ℕ) → eqb block B ≡ false → stored h B N ≡ stored then B N
  untouched B N e = sym (stored-wrote B N ∙ ap (λ (p : Bool). cond (p && eqb number N) (words a b) (stored h B N)) e)

  -- block 0 has WRITE_LOCKING alone, so an accepted write to it is one of 18
  lock-wrote : (eqb block 0 ≡ true → eqb number 18 ≡ true) → cond (eqb block 0) a (code h 0 18) ≡ code then 0 18
  lock-wrote only = go (eqb block 0) refl
    where
      go : (p : Bool) → eqb block 0 ≡ p → cond p a (code h 0 18) ≡ code then 0 18
      go true q = sym (ap (λ (x : Bool). cond x a (code h 0 18)) (only q)) ∙ written code_in 0 18 q
      go false q = ap code_in (untouched 0 18 q)

  rev-wrote : (B : ℕ) (p : Bool) → eqb block B ≡ p → cond p (rev_after (is_static B number) (st_rev h B)) (st_rev h B) ≡ st_rev then B
  unfolding st_rev count
  rev-wrote B true e = ap (λ (c : Bool). rev_after c (count (is_static_write B) h % 65536)) (static-same B number) ∙ rev-step (among (statics B) number) (count (is_static_write B) h)
      ∙ ap (λ (p : Bool). cond (p && among (statics B) number) (count (is_static_write B) h + 1) (count (is_static_write B) h) % 65536) (sym e)
  rev-wrote B false e = ap (λ (p : Bool). cond (p && among (statics B) number) (count (is_static_write B) h + 1) (count (is_static_write B) h) % 65536) (sym e)

  -- the target is written and enters Man
  abbrev enters : ℕ → Bool
  enters B = eqb number 5 && enters_man B (code h B 5) a

  operator-wrote : (B : ℕ) → operator B then ≡ cond (not (eqb block B)) (operator B h) (cond (eqb number (out_number B)) (pair a b) (cond (enters B) (last_out B h) (operator B h)))
  unfolding operator latest
  operator-wrote B = go (eqb block B) (eqb number (out_number B)) (enters B)
    where
      go : (p q r : Bool) → or_else (pair 0 0x4c) (told (cond (not p) None (cond q (Some (pair a b)) (cond r (Some (last_out B h)) None))) (latest (handed B) is_start h))
          ≡ cond (not p) (or_else (pair 0 0x4c) (latest (handed B) is_start h)) (cond q (pair a b) (cond r (last_out B h) (or_else (pair 0 0x4c) (latest (handed B) is_start h))))
      go false q r = refl
      go true true r = refl
      go true false true = refl
      go true false false = refl

  -- of the block written, by whether its output was, and whether it enters Man; and of another block
  operated : (B : ℕ) (q r : Bool) → eqb block B ≡ true → eqb number (out_number B) ≡ q → enters B ≡ r → cond q (pair a b) (cond r (last_out B h) (operator B h)) ≡ operator B then
  operated B q r e f g = sym (operator-wrote B ∙ (λ i. cond (not (e i)) (operator B h) (cond (f i) (pair a b) (cond (g i) (last_out B h) (operator B h)))))

  unoperated : (B : ℕ) → eqb block B ≡ false → operator B h ≡ operator B then
  unoperated B e = sym (operator-wrote B ∙ (λ i. cond (not (e i)) (operator B h) (cond (eqb number (out_number B)) (pair a b) (cond (enters B) (last_out B h) (operator B h)))))

  input-same : {A : Type 0} (d : Drive A) (i : ℕ) → input_at d i h ≡ input_at d i then
  input-same d i = sym (input-still d i (wrote block number a b) refl h refl refl)

  -- ---- AIN

  ain-written : eqb block 1 ≡ true → ain_settings (ain_at h) number a b ≡ ain_at then
  unfolding ain_settings ain_at
  ain-written e = λ i. record {
    target = written code_in 1 5 e i;
    pv_scale = written scale_in 1 11 e i;
    out_scale = written scale_in 1 12 e i;
    lin_type = written code_in 1 13 e i;
    pv_ftime = written float_in 1 16 e i;
    fsafe_type = written code_in 1 17 e i;
    fsafe_value = written float_in 1 18 e i;
    alarm_hys = written float_in 1 19 e i;
    hi_hi_lim = written float_in 1 21 e i;
    hi_lim = written float_in 1 23 e i;
    lo_lim = written float_in 1 25 e i;
    lo_lo_lim = written float_in 1 27 e i;
  }

  ain-untouched : eqb block 1 ≡ false → ain_at h ≡ ain_at then
  unfolding ain_at
  ain-untouched e = λ i. ain_of (λ N. untouched 1 N e i)

  -- the state with another operator's pair
  ain-operator : (p : Pair) → p ≡ operator 1 then → operated_state (ain_in h) p ≡ ain_in then
  ain-operator p e = ain-left h (wrote block number a b) (λ A f s o. refl) p e

  ain-still : operator 1 h ≡ operator 1 then → ain_in h ≡ ain_in then
  unfolding ain_in
  ain-still e = ain-operator (operator 1 h) e

  tot-written : eqb block 2 ≡ true → tot_settings (tot_at h) number a ≡ tot_at then
  unfolding tot_settings tot_at
  tot-written e = λ i. record {
    target = written code_in 2 5 e i;
    set_tot = written code_in 2 13 e i;
    mode_tot = written code_in 2 14 e i;
    fail_tot = written code_in 2 15 e i;
    preset_tot = written float_in 2 16 e i;
  }

  tot-untouched : eqb block 2 ≡ false → tot_at h ≡ tot_at then
  unfolding tot_at
  tot-untouched e = λ i. tot_of (λ N. untouched 2 N e i)

  -- TOTAL sets the total and the operator's status
  total-wrote : (p q : Bool) → eqb block 2 ≡ p → eqb number 10 ≡ q → cond (p && q) (thousandths_of (float_of a)) (total h) ≡ total then
  unfolding total carried
  total-wrote p q e f = λ i. cond (sym e i && sym f i) (thousandths_of (float_of a)) (total h)

  tot-operator : (z : ℤ) (status : ℕ) → z ≡ total then → status ≡ (operator 2 then).status → record { total = z; out = given 2 h; mode = actual 2 h; rate = kept_of (rate_value h); operator_status = status } ≡ tot_in then
  tot-operator z status e f = tot-left h (wrote block number a b) (λ A f s o. refl) z status e f

  tot-still : (p q : Bool) → eqb block 2 ≡ p → eqb number 10 ≡ q → operator 2 h ≡ operator 2 then → record { total = cond (p && q) (thousandths_of (float_of a)) (total h); out = given 2 h; mode = actual 2 h; rate = kept_of (rate_value h); operator_status = (operator 2 h).status } ≡ tot_in then
  tot-still p q e f o = tot-operator (cond (p && q) (thousandths_of (float_of a)) (total h)) (operator 2 h).status (total-wrote p q e f) (λ i. (o i).status)

  ao-written : eqb block 3 ≡ true → ao_settings (ao_at h) number a b ≡ ao_at then
  unfolding ao_settings ao_at
  ao-written e = λ i. record {
    target = written code_in 3 5 e i;
    pv_scale = written scale_in 3 11 e i;
    out_scale = written scale_in 3 38 e i;
    fsafe_time = written code_in 3 23 e i;
    fsafe_type = written code_in 3 24 e i;
    fsafe_value = written float_in 3 25 e i;
    increase_close = written code_in 3 36 e i;
  }

  ao-untouched : eqb block 3 ≡ false → ao_at h ≡ ao_at then
  unfolding ao_at
  ao-untouched e = λ i. ao_of (λ N. untouched 3 N e i)

  di-written : eqb block 4 ≡ true → di_settings (di_at h) number a ≡ di_at then
  unfolding di_settings di_at
  di-written e = λ i. record {
    target = written code_in 4 5 e i;
    invert = written code_in 4 15 e i;
    fsafe_type = written code_in 4 20 e i;
    fsafe_val_d = written code_in 4 21 e i;
  }

  di-untouched : eqb block 4 ≡ false → di_at h ≡ di_at then
  unfolding di_at
  di-untouched e = λ i. di_of (λ N. untouched 4 N e i)

  di-operator : (p : Discrete) → p ≡ discrete (operator 4 then) → Di.operated_state (di_in h) p ≡ di_in then
  di-operator p e = di-left h (wrote block number a b) (λ A f s o. refl) p e

  di-still : operator 4 h ≡ operator 4 then → di_in h ≡ di_in then
  unfolding di_in
  di-still e = di-operator (discrete (operator 4 h)) (ap discrete e)

  dout-written : eqb block 5 ≡ true → dout_settings (dout_at h) number a ≡ dout_at then
  unfolding dout_settings dout_at
  dout-written e = λ i. record {
    target = written code_in 5 5 e i;
    invert = written code_in 5 15 e i;
    fsafe_type = written code_in 5 20 e i;
    fsafe_val_d = written code_in 5 21 e i;
    fsafe_time = written code_in 5 22 e i;
  }

  dout-untouched : eqb block 5 ≡ false → dout_at h ≡ dout_at then
  unfolding dout_at
  dout-untouched e = λ i. dout_of (λ N. untouched 5 N e i)

  dout-operator : (p : Discrete) → p ≡ discrete (operator 5 then) → Dout.operated_by (dout_in h) p ≡ dout_in then
  unfolding dout_in Dout.operated_by
  dout-operator p e = dout-left h (wrote block number a b) (λ A f s o. refl) p (dout_input 2 h) (dout_input 3 h) e (ap Dout.input_from (input-same discrete_out 2)) (ap Dout.input_from (input-same discrete_out 3))

  dout-still : operator 5 h ≡ operator 5 then → dout_in h ≡ dout_in then
  unfolding dout_in Dout.operated_by
  dout-still e = dout-operator (discrete (operator 5 h)) (ap discrete e)

  ao-operator : (p : Pair) → p ≡ operator 3 then → operated_by (ao_in h) p ≡ ao_in then
  unfolding ao_in operated_by
  ao-operator p e = ao-left h (wrote block number a b) (λ A f s o. refl) p (ao_input 0 h) (ao_input 1 h) e (ap input_from (input-same analog_out 0)) (ap input_from (input-same analog_out 1))

  ao-still : operator 3 h ≡ operator 3 then → ao_in h ≡ ao_in then
  unfolding ao_in operated_by
  ao-still e = ao-operator (operator 3 h) e

  -- ---- the whole device, where block 0's write is one of the lock, a written output is a value of its block with a byte for a status, and the pairs last
  -- given are those read
  module _
      (only : eqb block 0 ≡ true → eqb number 18 ≡ true) (small : (B : ℕ) → eqb block B ≡ true → T (among (outputs B) number) → Written B a b)
      (last : (B : ℕ) → Operated B → given B h ≡ last_out B h) where
    is : (q : Bool) → q ≡ true → T (q || false)
    is true e = tt
    is false e = absurd (true≢false (sym e))

    -- what a write makes of the operator's pair, over the type of the block's pair: `form` is the pair by its words, `made` what a write makes of them
    module _ {X : Type 0} (form : Pair → X) (made : ℕ → ℕ → X) (B : ℕ) (o : Operated B) (e : eqb block B ≡ true) (same-words : eqb number (out_number B) ≡ true → made a b ≡ form (pair a b)) where
      pair-after : operator_by made (out_number B) number a b (code h B 5) (form (given B h)) (form (operator B h)) ≡ form (operator B then)
      unfolding operator_by entered_by Common.operator_after
      pair-after = go (eqb number (out_number B)) refl
        where
          same : (s m w x : Bool) → x ≡ false → cond s (cond (m && not w) (form (last_out B h)) (form (operator B h))) (form (operator B h)) ≡ form (cond (s && (not x && not w && m)) (last_out B h) (operator B h))
          same s m w true y = absurd (true≢false y)
          same false m w false y = refl
          same true true true false y = refl
          same true true false false y = refl
          same true false true false y = refl
          same true false false false y = refl

          not-tot : eqb B 2 ≡ false
          not-tot = operated-each (λ (x : ℕ). eqb x 2 ≡ false) refl refl refl refl B o

          go : (q : Bool) → eqb number (out_number B) ≡ q
              → cond q (made a b) (cond (eqb number 5) (cond (eqb a man && not (eqb (code h B 5) man)) (form (given B h)) (form (operator B h))) (form (operator B h))) ≡ form (operator B then)
          go true f = same-words f ∙ ap form (operated B true (enters B) e f refl)
          go false f = ap (λ (p : Pair). cond (eqb number 5) (cond (eqb a man && not (eqb (code h B 5) man)) (form p) (form (operator B h))) (form (operator B h))) (last B o)
              ∙ same (eqb number 5) (eqb a man) (eqb (code h B 5) man) (eqb B 2) not-tot ∙ ap form (operated B false (enters B) e f refl)

    -- the words of an output are the pair written
    byte : (n : ℕ) → n ≤ 255 → n % 256 ≡ n
    byte n s = omega arith

    pair_is : (B : ℕ) → eqb block B ≡ true → T (among (outputs B) number) → pair_written a b ≡ pair a b
    pair_is B e t = λ i. pair a (byte b (small B e t).1 i)

    discrete-is : (B : ℕ) → (Written B a b → a ≤ 255) → eqb block B ≡ true → T (among (outputs B) number) → discrete_pair a b ≡ discrete (pair a b)
    discrete-is B first e t = λ i. record { value = byte a (first (small B e t)) i; status = byte b (small B e t).1 i }

    abbrev as-it-is : Pair → Pair
    as-it-is p = p

    ain-then : (p : Bool) → eqb block 1 ≡ p → cond p (ain_written (ain_block h) number a b) (ain_block h) ≡ ain_block then
    unfolding ain_written ain_at ain_in table latest
    ain-then true e = λ i. record {
      settings = ain-written e i;
      state = ain-operator _ (pair-after as-it-is pair_written 1 (inl refl) e (λ f. pair_is 1 e (unfold outputs in is (eqb number 10) f))) i;
      st_rev = rev-wrote 1 true e i;
      table = table_of (table h);
    }
    ain-then false e = λ i. record { settings = ain-untouched e i; state = ain-still (unoperated 1 e) i; st_rev = rev-wrote 1 false e i; table = table_of (table h) }

    tot-state : eqb block 2 ≡ true → (q : Bool) → eqb number 10 ≡ q → cond q (written_state (tot_in h) a (b % 256)) (tot_in h) ≡ tot_in then
    unfolding tot_in
    tot-state e true f = tot-operator (thousandths_of (float_of a)) (b % 256) (total-wrote true true e f)
        (byte b (small 2 e (unfold outputs in is (eqb number 10) f)).1 ∙ (λ i. (operated 2 true (enters 2) e f refl i).status))
    tot-state e false f = tot-still true false e f (operated 2 false false e f (and-false (eqb number 5)))

    tot-then : (p : Bool) → eqb block 2 ≡ p → cond p (tot_written (tot_block h) number a b) (tot_block h) ≡ tot_block then
    unfolding tot_written tot_in
    tot-then true e = λ i. record { settings = tot-written e i; state = tot-state e (eqb number 10) refl i; st_rev = rev-wrote 2 true e i }
    tot-then false e = λ i. record { settings = tot-untouched e i; state = tot-still false (eqb number 10) e refl (unoperated 2 e) i; st_rev = rev-wrote 2 false e i }

    ao-then : (p : Bool) → eqb block 3 ≡ p → cond p (ao_written (ao_block h) number a b) (ao_block h) ≡ ao_block then
    unfolding ao_written ao_at ao_in
    ao-then true e = λ i. record {
      settings = ao-written e i;
      state = ao-operator _ (pair-after as-it-is pair_written 3 (inr (inl refl)) e (λ f. pair_is 3 e (unfold outputs in is (eqb number 37) f))) i;
      st_rev = rev-wrote 3 true e i;
    }
    ao-then false e = λ i. record { settings = ao-untouched e i; state = ao-still (unoperated 3 e) i; st_rev = rev-wrote 3 false e i }

    di-then : (p : Bool) → eqb block 4 ≡ p → cond p (di_written (di_block h) number a b) (di_block h) ≡ di_block then
    unfolding di_written di_at di_in
    di-then true e = λ i. record {
      settings = di-written e i;
      state = di-operator _ (pair-after discrete discrete_pair 4 (inr (inr (inl refl))) e (λ f. discrete-is 4 (λ w. w.0 tt) e (unfold outputs in is (eqb number 10) f))) i;
      st_rev = rev-wrote 4 true e i;
    }
    di-then false e = λ i. record { settings = di-untouched e i; state = di-still (unoperated 4 e) i; st_rev = rev-wrote 4 false e i }

    dout-then : (p : Bool) → eqb block 5 ≡ p → cond p (dout_written (dout_block h) number a b) (dout_block h) ≡ dout_block then
    unfolding dout_written dout_at dout_in
    dout-then true e = λ i. record {
      settings = dout-written e i;
      state = dout-operator _ (pair-after discrete discrete_pair 5 (inr (inr (inr refl))) e (λ f. discrete-is 5 (λ w. w.0 tt) e (unfold outputs in is (eqb number 10) f))) i;
      st_rev = rev-wrote 5 true e i;
    }
    dout-then false e = λ i. record { settings = dout-untouched e i; state = dout-still (unoperated 5 e) i; st_rev = rev-wrote 5 false e i }

    pub ruled-wrote : stored_in (device_of h) block number a b ≡ device_of then
    unfolding stored_in device_of
    ruled-wrote = λ i. record {
      write_locking = lock-wrote only i;
      ain = ain-then (eqb block 1) refl i;
      tot = tot-then (eqb block 2) refl i;
      ao = ao-then (eqb block 3) refl i;
      di = di-then (eqb block 4) refl i;
      dout = dout-then (eqb block 5) refl i;
    }

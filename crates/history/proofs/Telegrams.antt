-- The device by the rules over a telegram and a warm start. Assumes nothing.
use Rattle.std.specs.Prelude.{Ok, None, Some}
use Prim.Native.Nat.{ℕ, zero, suc, ◌<◌, min}
use native.Mathlib.Omega.{arith}
use mathlib.Core.Path.{◌≡◌, refl, sym, ap, ◌∙◌}
use mathlib.Core.Bool.{Bool, true, false, not, ◌&&◌, ◌||◌, cond}
use mathlib.Core.List.{List}
use lib.Dec.{eqb, ltb}
use lib.Ieee.{Float}
use lib.ListN.{length, get_or}
use Rattle.linearisation.specs.Table.{table_of}
use Rattle.wire.specs.declared.Pair.{Pair}
use Rattle.wire.specs.declared.Discrete.{Discrete}
use Rattle.wire.specs.Bytes.{pair_of, word_of, discrete_of}
use Rattle.blocks.specs.Common as Common
use Rattle.blocks.specs.declared.setpoint.Setpoint.{Setpoint as InputOf}
use Rattle.blocks.specs.InputBlock.{present}
use Rattle.blocks.specs.FailSafe.{usable, initiates, after_telegram, emptied}
use Rattle.blocks.specs.Laws.{usable-means, initiates-means, usable-excludes, after-by-flag}
use Rattle.ao.specs.declared.State.{State as AoState}
use Rattle.ao.specs.State.{input_from, no_telegrams, started, warm_started as ao_warm_started}
use Rattle.ao.specs.Telegram.{input_after, taken_on}
use Rattle.ao.specs.Telegram as Ao
use Rattle.dout.specs.declared.State.{State as DoutState}
use Rattle.dout.specs.State as Dout
use Rattle.dout.specs.Telegram as Sluice
use Rattle.device.specs.Calls.{telegram_of, warm_started}
use Rattle.history.specs.Past.{History, ◌▷◌, count, count_since, since, told, latest, carried}
use Rattle.history.specs.Calls.{Event, telegram, warmed}
use Rattle.history.specs.Rules.{pair, or_else, Drive, analog_out, discrete_out, discrete, five_as, two_as, telegram_bytes, setpoint_on, stored, code, table, out_of_service, st_rev, actual, operator, filter_value, last_usable, Alarm, hi_hi, hi, lo, lo_lo, stands, raises, clears, rate_value, total, given, held, came, setpoint, silence, ifs, is_tick, is_start, pair_on, holds, is_usable, is_ifs, is_usable_on, is_ifs_on}
use Rattle.history.proofs.Ruled.{input_at, byte_of, alarms_at, ain_at, tot_at, ao_at, di_at, dout_at, ain_in, tot_in, ao_in, di_in, dout_in, ain_block, tot_block, di_block, device_of, ain-left, tot-left, ao-left, di-left, dout-left, input-still}
use Rattle.history.proofs.Truth.{and-true, and-false}

-- an input by its four parts
abbrev made : {A : Type 0} → Bool → A → ℕ → Bool → InputOf A
made came value n ifs = record { some = came; value = value; silence = cond came (min n 65536) 0; ifs = ifs }

-- ---- an input after a telegram on it

module _ {A : Type 0} (d : Drive A) (input : ℕ) (h : History Event) (e : Event) (p : Pair) (here : pair_on d input e ≡ Some p) (s : is_start e ≡ false) (t : is_tick e ≡ false) where
  abbrev u : Bool
  u = usable p.status (d.fine p.bits)

  abbrev f : Bool
  f = initiates p.status

  usable-is : is_usable_on d input e ≡ u
  unfolding is_usable_on
  usable-is = ap (holds (is_usable d)) here ∙ sym (usable-means p.status (d.fine p.bits))

  ifs-is : is_ifs_on d input e ≡ f
  unfolding is_ifs_on
  ifs-is = ap (holds is_ifs) here ∙ sym (initiates-means p.status)

  came-is : came d input (h ▷ e) ≡ u || (came d input h && true)
  unfolding came since
  came-is = rw (usable-is, s)

  ifs-then : ifs d input (h ▷ e) ≡ f || (ifs d input h && not (u || false))
  unfolding ifs since
  ifs-then = rw (usable-is, ifs-is, s)

  silence-is : silence d input (h ▷ e) ≡ cond u 0 (silence d input h)
  unfolding silence count_since
  silence-is = rw (usable-is, t)

  setpoint-is : setpoint d input (h ▷ e) ≡ cond u (d.value p.bits) (setpoint d input h)
  unfolding setpoint latest
  setpoint-is = rw (s, usable-is, here) (go u)
    where
      go : (b : Bool) → or_else d.zero (told (cond b (Some (d.value p.bits)) None) (latest (λ q. setpoint_on d input) is_start h)) ≡ cond b (d.value p.bits) (setpoint d input h)
      go true = refl
      go false = refl

  no-ifs : u ≡ true → ifs d input (h ▷ e) ≡ false
  no-ifs eu = rw (eu, usable-excludes p.status (d.fine p.bits) eu) at ifs-then ∙ and-false (ifs d input h)

  pub input-heard : input_at d input (h ▷ e) ≡ after_telegram p.status (present (d.fine p.bits) (d.value p.bits)) (input_at d input h)
  unfolding input_at
  input-heard = go u refl f refl ∙ sym (after-by-flag p.status (d.fine p.bits) (d.value p.bits) (input_at d input h))
    where
      old : InputOf A
      old = input_at d input h

      go : (b : Bool) → u ≡ b → (c : Bool) → f ≡ c → input_at d input (h ▷ e) ≡ cond b (record { some = true; value = d.value p.bits; silence = 0; ifs = false }) (cond c (record { some = old.some; value = old.value; silence = old.silence; ifs = true }) old)
      go true eu c ef = λ i. made ((rw eu at came-is) i) ((rw eu at setpoint-is) i) ((rw eu at silence-is) i) ((no-ifs eu) i)
      go false eu true ef = λ i. made ((rw eu at came-is ∙ and-true (came d input h)) i) ((rw eu at setpoint-is) i) ((rw eu at silence-is) i) ((rw ef at ifs-then) i)
      go false eu false ef = λ i. made ((rw eu at came-is ∙ and-true (came d input h)) i) ((rw eu at setpoint-is) i) ((rw eu at silence-is) i) ((rw (eu, ef) at ifs-then ∙ and-true (ifs d input h)) i)

-- ---- a telegram

-- five bytes are a pair, and so are two
five : List ℕ → Pair
five bytes = record { bits = word_of (get_or bytes 0 0) (get_or bytes 1 0) (get_or bytes 2 0) (get_or bytes 3 0); status = get_or bytes 4 0 }

five-is : (bytes : List ℕ) → eqb (length bytes) 5 ≡ true → pair_of bytes ≡ Ok (five bytes)
unfolding pair_of five
five-is bytes e = rw e

two : List ℕ → Discrete
two bytes = record { value = get_or bytes 0 0; status = get_or bytes 1 0 }

two_is : (bytes : List ℕ) → eqb (length bytes) 2 ≡ true → discrete_of bytes ≡ Ok (two bytes)
unfolding discrete_of two
two_is bytes e = rw e

module _ (h : History Event) (input : ℕ) (bytes : List ℕ) where
  abbrev then : History Event
  then = h ▷ telegram input bytes

  -- the input that it came on, and any other
  module _ {A : Type 0} (d : Drive A) (i : ℕ) where
    taken : (p : Pair) → eqb input i ≡ true → d.received bytes ≡ Some p → after_telegram p.status (present (d.fine p.bits) (d.value p.bits)) (input_at d i h) ≡ input_at d i then
    taken p e r = sym (input-heard d i h (telegram input bytes) p (rw e r) refl refl)

    other : eqb input i ≡ false → input_at d i h ≡ input_at d i then
    other e = sym (input-still d i (telegram input bytes) (rw e) h refl refl)

  -- what it leaves of each block
  ain-same : ain_in h ≡ ain_in then
  unfolding ain_in operator latest
  ain-same = ain-left h (telegram input bytes) (λ A f s o. refl) (operator 1 h) refl

  tot-same : tot_in h ≡ tot_in then
  unfolding tot_in operator latest total carried
  tot-same = tot-left h (telegram input bytes) (λ A f s o. refl) (total h) (operator 2 h).status refl refl

  di-same : di_in h ≡ di_in then
  unfolding di_in operator latest
  di-same = di-left h (telegram input bytes) (λ A f s o. refl) (discrete (operator 4 h)) refl

  ao-by : (sp rcas_in : InputOf Float) → sp ≡ input_at analog_out 0 then → rcas_in ≡ input_at analog_out 1 then
      → record { out = given 3 h; mode = actual 3 h; operator = operator 3 h; sp = input_from sp; rcas_in = input_from rcas_in } ≡ ao_in then
  unfolding operator latest
  ao-by sp rcas_in e f = ao-left h (telegram input bytes) (λ A f s o. refl) (operator 3 h) (input_from sp) (input_from rcas_in) refl (ap input_from e) (ap input_from f)

  dout-by : (sp rcas_in : InputOf ℕ) → sp ≡ input_at discrete_out 2 then → rcas_in ≡ input_at discrete_out 3 then
      → record { out = discrete (given 5 h); mode = actual 5 h; operator = discrete (operator 5 h); sp = Dout.input_from sp; rcas_in = Dout.input_from rcas_in } ≡ dout_in then
  unfolding operator latest
  dout-by sp rcas_in e f = dout-left h (telegram input bytes) (λ A f s o. refl) (discrete (operator 5 h)) (Dout.input_from sp) (Dout.input_from rcas_in) refl (ap Dout.input_from e) (ap Dout.input_from f)

  -- one on the other block's inputs
  ao-same : eqb input 0 ≡ false → eqb input 1 ≡ false → ao_in h ≡ ao_in then
  unfolding ao_in
  ao-same e f = ao-by (input_at analog_out 0 h) (input_at analog_out 1 h) (other analog_out 0 e) (other analog_out 1 f)

  dout-same : eqb input 2 ≡ false → eqb input 3 ≡ false → dout_in h ≡ dout_in then
  unfolding dout_in
  dout-same e f = dout-by (input_at discrete_out 2 h) (input_at discrete_out 3 h) (other discrete_out 2 e) (other discrete_out 3 f)

  -- the whole device, by AO's and DO's states after it
  whole : (x : AoState) (y : DoutState) → x ≡ ao_in then → y ≡ dout_in then → record {
    write_locking = code h 0 18;
    ain = ain_block h;
    tot = tot_block h;
    ao = record { settings = ao_at h; state = x; st_rev = st_rev h 3 };
    di = di_block h;
    dout = record { settings = dout_at h; state = y; st_rev = st_rev h 5 };
  } ≡ device_of then
  unfolding device_of stored latest table ain_at tot_at ao_at di_at dout_at st_rev count
  whole x y e f = λ i. record {
    write_locking = code h 0 18;
    ain = record { settings = ain_at h; state = ain-same i; st_rev = st_rev h 1; table = table_of (table h) };
    tot = record { settings = tot_at h; state = tot-same i; st_rev = st_rev h 2 };
    ao = record { settings = ao_at h; state = e i; st_rev = st_rev h 3 };
    di = record { settings = di_at h; state = di-same i; st_rev = st_rev h 4 };
    dout = record { settings = dout_at h; state = f i; st_rev = st_rev h 5 };
  }

-- an accepted telegram: each of the four inputs
pub ruled-telegram : (h : History Event) (bytes : List ℕ) (input : ℕ) → input < 4 → eqb (length bytes) (telegram_bytes input) ≡ true
    → (telegram_of (device_of h) input bytes).device ≡ device_of (h ▷ telegram input bytes)
ruled-telegram h bytes = go
  where
    on-ao : (input : ℕ) → ltb 1 input ≡ false → eqb (length bytes) 5 ≡ true → eqb input 2 ≡ false → eqb input 3 ≡ false → taken_on (ao_in h) input (five bytes) ≡ ao_in (h ▷ telegram input bytes)
        → (telegram_of (device_of h) input bytes).device ≡ device_of (h ▷ telegram input bytes)
    on-ao input n l e f s = unfold telegram_of Ao.telegram_of device_of in rw (n, five-is bytes l) (whole h input bytes (taken_on (ao_in h) input (five bytes)) (dout_in h) s (dout-same h input bytes e f))

    on-dout : (input : ℕ) → ltb 1 input ≡ true → Sluice.lacking input ≡ false → eqb (length bytes) 2 ≡ true → eqb input 0 ≡ false → eqb input 1 ≡ false
        → Sluice.taken_on (dout_in h) input (two bytes) ≡ dout_in (h ▷ telegram input bytes) → (telegram_of (device_of h) input bytes).device ≡ device_of (h ▷ telegram input bytes)
    on-dout input n k l e f s = unfold telegram_of Sluice.telegram_of device_of in rw (n, k, two_is bytes l) (whole h input bytes (ao_in h) (Sluice.taken_on (dout_in h) input (two bytes)) (ao-same h input bytes e f) s)

    go : (input : ℕ) → input < 4 → eqb (length bytes) (telegram_bytes input) ≡ true → (telegram_of (device_of h) input bytes).device ≡ device_of (h ▷ telegram input bytes)
    go zero s l = on-ao 0 refl l refl refl (unfold taken_on input_after ao_in in ao-by h 0 bytes _ _ (taken h 0 bytes analog_out 0 (five bytes) refl (ap five_as (five-is bytes l))) (other h 0 bytes analog_out 1 refl))
    go (suc zero) s l = on-ao 1 refl l refl refl (unfold taken_on input_after ao_in in ao-by h 1 bytes _ _ (other h 1 bytes analog_out 0 refl) (taken h 1 bytes analog_out 1 (five bytes) refl (ap five_as (five-is bytes l))))
    go (suc (suc zero)) s l = on-dout 2 refl refl l refl refl (unfold Sluice.taken_on Sluice.input_after dout_in in dout-by h 2 bytes _ _ (taken h 2 bytes discrete_out 2 _ refl (ap two_as (two_is bytes l))) (other h 2 bytes discrete_out 3 refl))
    go (suc (suc (suc zero))) s l = on-dout 3 refl refl l refl refl (unfold Sluice.taken_on Sluice.input_after dout_in in dout-by h 3 bytes _ _ (other h 3 bytes discrete_out 2 refl) (taken h 3 bytes discrete_out 3 _ refl (ap two_as (two_is bytes l))))
    go (suc (suc (suc (suc n)))) s l = absurd (omega arith)

-- ---- a warm start

module _ (h : History Event) where
  forgotten : (a : Alarm) → stands a (h ▷ warmed) ≡ false
  unfolding stands since raises clears
  forgotten a = and-false (since (raises a) (clears a) h)

  module _ {A : Type 0} (d : Drive A) (input : ℕ) where
    no-came : came d input (h ▷ warmed) ≡ false
    unfolding came since is_usable_on
    no-came = and-false (since (λ h e. is_usable_on d input e) (λ h e. is_start e) h)

    none-ifs : ifs d input (h ▷ warmed) ≡ false
    unfolding ifs since is_ifs_on is_usable_on
    none-ifs = and-false (since (λ h e. is_ifs_on d input e) (λ h e. is_usable_on d input e || is_start e) h)

    emptied-input : emptied d.zero ≡ input_at d input (h ▷ warmed)
    unfolding emptied input_at setpoint latest
    emptied-input = λ i. made (sym no-came i) d.zero (silence d input (h ▷ warmed)) (sym none-ifs i)

  pub ruled-warm : warm_started (device_of h) ≡ device_of (h ▷ warmed)
  unfolding warm_started device_of ao_warm_started started no_telegrams Dout.warm_started Dout.started Dout.no_telegrams stored latest table ain_at tot_at ao_at di_at dout_at ain_in tot_in ao_in di_in dout_in st_rev count given actual operator filter_value last_usable rate_value total carried alarms_at
  ruled-warm = λ i. record {
    write_locking = code h 0 18;
    ain = record {
      settings = ain_at h;
      state = record {
        out = held (given 1 h);
        mode = out_of_service;
        filter = Common.none;
        last = Common.none;
        operator = pair 0 0x4c;
        alarms = record { hi_hi = sym (forgotten hi_hi) i; hi = sym (forgotten hi) i; lo = sym (forgotten lo) i; lo_lo = sym (forgotten lo_lo) i };
      };
      st_rev = st_rev h 1;
      table = table_of (table h);
    };
    tot = record { settings = tot_at h; state = record { total = total h; out = held (given 2 h); mode = out_of_service; rate = Common.none; operator_status = 0x4c }; st_rev = st_rev h 2 };
    ao = record {
      settings = ao_at h;
      state = record { out = held (given 3 h); mode = out_of_service; operator = pair 0 0x4c; sp = input_from (emptied-input analog_out 0 i); rcas_in = input_from (emptied-input analog_out 1 i) };
      st_rev = st_rev h 3;
    };
    di = record { settings = di_at h; state = record { out = discrete (held (given 4 h)); mode = out_of_service; last = byte_of None; operator = discrete (pair 0 0x4c) }; st_rev = st_rev h 4 };
    dout = record {
      settings = dout_at h;
      state = record { out = discrete (held (given 5 h)); mode = out_of_service; operator = discrete (pair 0 0x4c); sp = Dout.input_from (emptied-input discrete_out 2 i); rcas_in = Dout.input_from (emptied-input discrete_out 3 i) };
      st_rev = st_rev h 5;
    };
  }

-- The device by the rules over a tick, and the tick's drive order. Assumes nothing.
use Rattle.std.specs.Prelude.{Option, None, Some}
use Prim.Native.Nat.{ℕ, ◌+◌, ◌≤◌, min}
use native.Mathlib.Omega.{arith}
use mathlib.Core.Path.{◌≡◌, refl, sym, ap, ◌∙◌}
use mathlib.Core.Bool.{Bool, true, false, not, ◌&&◌, ◌||◌, cond}
use mathlib.Core.Logic.{inl, inr}
use lib.Dec.{T, eqb, eqb→eq, leb, leb→le}
use lib.IntN.{pos}
use lib.Ieee.{Float, binary32, of_int, of_bits, sub}
use lib.Ieee.Fits.{and_l}
use lib.Ieee.Scale.{finite}
use Rattle.numbers.specs.Floats.{float_of, bits_of}
use Rattle.scaling.specs.Scaling.{fraction_of, at_fraction}
use Rattle.linearisation.specs.Table.{table_of}
use Rattle.blocks.specs.Common.{actual_mode, as_pair, of_pair}
use Rattle.blocks.specs.InputBlock.{present}
use Rattle.ain.specs.declared.State.{State as AinState}
use Rattle.ain.specs.Alarm.{rises, falls, alarm_stands, alarms_of, no_alarms}
use Rattle.ain.specs.Tick as Ain
use Rattle.ain.specs.Laws.{good-exactly}
use Rattle.tot.specs.Tick as Tot
use Rattle.ao.specs.State.{input_from}
use Rattle.blocks.specs.declared.setpoint.Case.TheVariants.{Following, Fallback, Held, Safety}
use Rattle.blocks.specs.declared.setpoint.Order.{Order}
use Rattle.blocks.specs.declared.setpoint.Given.{Given as GivenOf}
use Rattle.blocks.specs.FailSafe.{scaled_or, leads_to, by_mode, case_of, fail_safe_acts, fail_safe_case, silence_after, after_tick}
use Rattle.ao.specs.Tick as Ao
use Rattle.blocks.specs.Discrete.{inverted}
use Rattle.di.specs.declared.State.{State as DiState}
use Rattle.di.specs.Tick as Di
use Rattle.di.specs.Laws.{good-exactly as di-good-exactly}
use Rattle.dout.specs.State as DoutState
use Rattle.dout.specs.Tick as Dout
use Rattle.blocks.specs.Laws.{stopped-decides}
use Rattle.parameters.specs.declared.Words.{Words}
use Rattle.parameters.specs.declared.Allowed.TheVariants.{Mode, ModeOrRcas, UpTo}
use Rattle.parameters.specs.Table.{entry_in, entry_of}
use Rattle.parameters.specs.Table as Table
use Rattle.parameters.specs.Words.{allows_of}
use Rattle.device.specs.declared.Device.{Device}
use Rattle.device.specs.Calls.{tick_of}
use Rattle.history.specs.Past.{History, ◌▷◌, count, count_since, since, latest, carried}
use Rattle.history.specs.Calls.{Fed, Seen, Event, ticked, ticked_by}
use Rattle.history.specs.Rules.{pair, is_auto, calculated, stored, code, float, scale, table, out_of_service, man, auto, rcas, st_rev, mode_at, actual, operator, old_out, filter_value, last_usable, analog_in, ain_sensed, senses, Alarm, hi_hi, hi, lo, lo_lo, stands, raises, clears, rate_value, total, tot_gives, Drive, analog_out, discrete_in, discrete_out, discrete, is_bit, discrete_order, order_d, came, setpoint, silence, ifs, is_fail_safe, is_usable_on, Move, Given, positioned, worked_or, ao_scaled, ao_worked, working, driven_fail_safe, driven_by, drives, driven, analog_order, order, given}
use Rattle.history.specs.Rules as Rules
use Rattle.history.specs.Claim.{good}
use Rattle.history.specs.ManLaws.{Operated}
use Rattle.history.proofs.Ruled.{kept_of, input_at, ao_input, dout_input, alarms_at, ain_at, tot_at, ao_at, di_at, dout_at, ain_in, tot_in, ao_in, di_in, dout_in, device_of, cond-ap, came_same, ifs-same, setpoint-same}
use Rattle.history.proofs.Sound.{fits, Sound}
use Rattle.history.proofs.Ticks.{calculated-is, IsMode, IsAoMode, target, ao-target, mode, ao-mode, ain-is, tot-is, value-is, di-is}

-- ---- what stands at the tick

module _ (h : History Event) (S : Sound h) where
  ain-mode : (fault : Bool) → IsMode (mode_at h fault 1)
  unfolding mode_at actual_mode entry_of entry_in Table.ain
  ain-mode fault = mode fault (stored h 1 5).first (target (stored h 1 5).first (stored h 1 5).second (and_l (allows_of Mode (stored h 1 5).first (stored h 1 5).second) _ (S 1 5)))

  tot-mode : (fault : Bool) → IsMode (mode_at h fault 2)
  unfolding mode_at actual_mode entry_of entry_in Table.tot
  tot-mode fault = mode fault (stored h 2 5).first (target (stored h 2 5).first (stored h 2 5).second (and_l (allows_of Mode (stored h 2 5).first (stored h 2 5).second) _ (S 2 5)))

  ao-mode-at : (fault : Bool) → IsAoMode (mode_at h fault 3)
  unfolding mode_at actual_mode entry_of entry_in Table.ao allows_of
  ao-mode-at fault = ao-mode fault (stored h 3 5).first (ao-target true (stored h 3 5).first (stored h 3 5).second (and_l (allows_of ModeOrRcas (stored h 3 5).first (stored h 3 5).second) _ (S 3 5)))

  di-mode : (fault : Bool) → IsMode (mode_at h fault 4)
  unfolding mode_at actual_mode entry_of entry_in Table.di Table.discrete
  di-mode fault = mode fault (stored h 4 5).first (target (stored h 4 5).first (stored h 4 5).second (and_l (allows_of Mode (stored h 4 5).first (stored h 4 5).second) _ (S 4 5)))

  dout-mode : (fault : Bool) → IsAoMode (mode_at h fault 5)
  unfolding mode_at actual_mode entry_of entry_in Table.dout Table.discrete allows_of
  dout-mode fault = ao-mode fault (stored h 5 5).first (ao-target true (stored h 5 5).first (stored h 5 5).second (and_l (allows_of ModeOrRcas (stored h 5 5).first (stored h 5 5).second) _ (S 5 5)))

-- a stored code is within its range
code-small : (n : ℕ) (w : Words) → T (allows_of (UpTo n) w.first w.second && fits w) → w.first ≤ n
unfolding allows_of
code-small n w t = leb→le w.first n (and_l (leb w.first n) _ (and_l (leb w.first n && eqb w.second 0) _ t))

module _ (h : History Event) (S : Sound h) where
  set-small : (stored h 2 13).first ≤ 2
  set-small = code-small 2 (stored h 2 13) (unfold entry_of entry_in Table.tot in S 2 13)

  time-small : (stored h 3 23).first ≤ 65535
  time-small = code-small 65535 (stored h 3 23) (unfold entry_of entry_in Table.ao in S 3 23)

  contact-small : (stored h 4 21).first ≤ 1
  contact-small = code-small 1 (stored h 4 21) (unfold entry_of entry_in Table.di Table.discrete in S 4 21)

  sluice-small : (stored h 5 21).first ≤ 1
  sluice-small = code-small 1 (stored h 5 21) (unfold entry_of entry_in Table.dout Table.discrete in S 5 21)

  time-d-small : (stored h 5 22).first ≤ 65535
  time-d-small = code-small 65535 (stored h 5 22) (unfold entry_of entry_in Table.dout Table.discrete in S 5 22)

-- ---- alarms

-- one alarm by the rules, over a tick with its OUT
module _ (a : Alarm) (h : History Event) (fault : Bool) (fed : Fed) (seen : Seen) where
  abbrev then : History Event
  then = h ▷ ticked fault fed seen

  alarm-then : stands a then ≡ cond (eqb (mode_at h fault 1) out_of_service) false (alarm_stands a.low (stands a h) (float_of (stored h 1 a.limit).first) (float_of (stored h 1 19).first) (float_of seen.ain.first))
  unfolding stands since raises clears alarm_stands rises falls
  alarm-then = go (eqb (mode_at h fault 1) out_of_service) (since (raises a) (clears a) h)
    where
      r : Bool
      r = rises a.low (float_of (stored h 1 a.limit).first) (float_of seen.ain.first)

      f : Bool
      f = falls a.low (float_of (stored h 1 a.limit).first) (float_of (stored h 1 19).first) (float_of seen.ain.first)

      go : (b stood : Bool) → (not b && r || (stood && not (b || f))) ≡ cond b false (r || (stood && not f))
      go true true = refl
      go true false = refl
      go false stood = refl

pub alarms-then : (h : History Event) (fault : Bool) (fed : Fed) (seen : Seen)
    → cond (eqb (mode_at h fault 1) out_of_service) no_alarms (alarms_of (ain_at h) (alarms_at h) (float_of seen.ain.first)) ≡ alarms_at (h ▷ ticked fault fed seen)
unfolding alarms_of alarms_at ain_at
alarms-then h fault fed seen = go (eqb (mode_at h fault 1) out_of_service) refl
  where
    at : (a : Alarm) (b : Bool) → eqb (mode_at h fault 1) out_of_service ≡ b → cond b false (alarm_stands a.low (stands a h) (float_of (stored h 1 a.limit).first) (float_of (stored h 1 19).first) (float_of seen.ain.first)) ≡ stands a (h ▷ ticked fault fed seen)
    at a b e = sym (alarm-then a h fault fed seen ∙ ap (λ (x : Bool). cond x false (alarm_stands a.low (stands a h) (float_of (stored h 1 a.limit).first) (float_of (stored h 1 19).first) (float_of seen.ain.first))) e)

    go : (b : Bool) → eqb (mode_at h fault 1) out_of_service ≡ b → cond b no_alarms (alarms_of (ain_at h) (alarms_at h) (float_of seen.ain.first)) ≡ alarms_at (h ▷ ticked fault fed seen)
    go true e = λ i. record { hi_hi = at hi_hi true e i; hi = at hi true e i; lo = at lo true e i; lo_lo = at lo_lo true e i }
    go false e = λ i. record { hi_hi = at hi_hi false e i; hi = at hi false e i; lo = at lo false e i; lo_lo = at lo_lo false e i }

-- ---- setpoint inputs

-- the count that stops, over one more tick
stops : (b : Bool) (n : ℕ) → cond b (min (cond b (min n 65536) 0 + 1) 65536) 0 ≡ cond b (min (n + 1) 65536) 0
stops true n = omega arith
stops false n = refl

module _ {A : Type 0} (d : Drive A) (input : ℕ) (h : History Event) (fault : Bool) (fed : Fed) (seen : Seen) where
  abbrev e : Event
  e = ticked fault fed seen

  counted : silence d input h + 1 ≡ silence d input (h ▷ e)
  unfolding silence count_since is_usable_on
  counted = refl

  same-came : came d input h ≡ came d input (h ▷ e)
  same-came = sym (came_same d input e refl h refl)

  pub input-then : after_tick (input_at d input h) ≡ input_at d input (h ▷ e)
  unfolding input_at after_tick silence_after
  input-then = λ i. record {
    some = same-came i;
    value = sym (setpoint-same d input e refl h refl) i;
    silence = (stops (came d input h) (silence d input h) ∙ (λ j. cond (same-came j) (min (counted j) 65536) 0)) i;
    ifs = sym (ifs-same d input e refl h refl) i;
  }

-- ---- what an output block gives

-- as the rules have it
abbrev moved : Order ℕ → Move
moved (Order.Position bits) = Rules.position bits
moved Order.Safe = Rules.safe
moved Order.Rest = Rules.rest

abbrev shown : GivenOf ℕ → Given
shown g = record { out = as_pair g.out; move = moved g.order }

-- the decision by the count that stops is that by n
acts-same : (came : Bool) (n : ℕ) (ifs : Bool) (time : ℕ) → time ≤ 65535 → fail_safe_acts came (cond came (min n 65536) 0) ifs time ≡ fail_safe_acts came n ifs time
acts-same true n ifs time h = stopped-decides true n ifs time h
acts-same false n ifs time h = unfold fail_safe_acts in refl

module _ {A : Type 0} (d : Drive A) (h : History Event) where
  abbrev B : ℕ
  B = d.block

  working-is : (w : A) (status : ℕ) → shown (scaled_or (old_out B h) status (d.worked h w)) ≡ working d h w status
  unfolding working
  working-is w status = go (d.worked h w)
    where
      go : (o : Option ℕ) → shown (scaled_or (old_out B h) status o) ≡ worked_or (old_out B h) status o
      go None = refl
      go (Some bits) = refl

  -- by the input in use, with old OUT
  abbrev led_by : ℕ → ℕ → GivenOf ℕ
  led_by old input = leads_to (d.worked h) old (case_of (code h B d.time) (code h B d.kind) (d.fallback h) (input_at d input h))

  -- and in a tick's actual mode, from the pair last given
  module _ (fault : Bool) where
    abbrev m : ℕ
    m = mode_at h fault B

    abbrev all : GivenOf ℕ
    all = by_mode m (given B h).bits (of_pair (operator B h)) (led_by (given B h).bits (cond (eqb m rcas) d.rcas_in d.sp))

    -- by the rules: O/S holds the pair, at Rest
    abbrev by-rules : Given
    by-rules = cond (eqb m out_of_service) (record { out = Rules.held (given B h); move = Rules.rest }) (drives d h fault)

  module _ (small : code h B d.time ≤ 65535) where
    by-input : (input : ℕ) → shown (led_by (old_out B h) input) ≡ driven_by d input h
    unfolding leads_to case_of fail_safe_case driven_by driven_fail_safe is_fail_safe fail_safe_acts input_at
    by-input input =
        ap (λ (f : Bool). led f (eqb (code h B d.kind) 0) (eqb (code h B d.kind) 1) (came d input h)) (acts-same (came d input h) (silence d input h) (ifs d input h) (code h B d.time) small)
        ∙ go (is_fail_safe d input h) (eqb (code h B d.kind) 0) (eqb (code h B d.kind) 1) (came d input h)
      where
        led : (f a b c : Bool) → Given
        led f a b c = shown (leads_to (d.worked h) (old_out B h) (cond f (cond a (Fallback (d.fallback h)) (cond b (Held (present c (setpoint d input h))) Safety)) (Following (setpoint d input h))))

        go : (f a b c : Bool) → led f a b c ≡ cond f (cond a (working d h (d.fallback h) 0x48) (cond b (cond c (working d h (setpoint d input h) 0x44) (positioned (old_out B h) 0x4c)) (record { out = pair (old_out B h) 0x00; move = Rules.safe }))) (working d h (setpoint d input h) 0x80)
        go false a b c = working-is (setpoint d input h) 0x80
        go true true b c = working-is (d.fallback h) 0x48
        go true false true true = working-is (setpoint d input h) 0x44
        go true false true false = refl
        go true false false c = refl

    module _ (fault : Bool) (old : (given B h).bits ≡ old_out B h) where
      given_is : IsAoMode (m fault) → shown (all fault) ≡ by-rules fault
      unfolding by_mode drives
      given_is = go
        where
          by_old : (input : ℕ) → shown (led_by (given B h).bits input) ≡ driven_by d input h
          by_old input = ap (λ (bits : ℕ). shown (led_by bits input)) old ∙ by-input input

          go : IsAoMode (m fault) → shown (all fault) ≡ by-rules fault
          go (inl (inl e)) = rw e
          go (inl (inr (inl e))) = rw e
          go (inl (inr (inr e))) = rw e (by_old d.sp)
          go (inr e) = rw e (by_old d.rcas_in)

      -- the pair, and the order
      pub out-is : IsAoMode (m fault) → as_pair (all fault).out ≡ cond (eqb (m fault) out_of_service) (Rules.held (given B h)) (drives d h fault).out
      out-is is-mode = ap (λ (g : Given). g.out) (given_is is-mode) ∙ cond-ap (λ (g : Given). g.out) (eqb (m fault) out_of_service) _ _

      pub move-is : IsAoMode (m fault) → moved (all fault).order ≡ driven d h fault
      unfolding driven
      move-is is-mode = ap (λ (g : Given). g.move) (given_is is-mode) ∙ cond-ap (λ (g : Given). g.move) (eqb (m fault) out_of_service) _ _

-- ---- AO

module _ (h : History Event) where
  -- O9: the 1 that a fraction is taken from
  one-is : float_of 0x3f80_0000 ≡ of_int binary32 (pos 1)
  unfolding of_bits of_int
  one-is = refl

  scaled-is : (w : Float) → Ao.scaled_out (ao_at h) w ≡ ao_scaled h w
  unfolding Ao.scaled_out ao_scaled ao_at
  scaled-is w = ap (λ (one : Float). at_fraction (scale h 3 38) (cond (eqb (code h 3 36) 1) (sub binary32 one (fraction_of (scale h 3 11) w)) (fraction_of (scale h 3 11) w))) one-is

  ao-worked : (w : Float) → Ao.out_of (ao_at h) w ≡ ao_worked h w
  unfolding Ao.out_of ao_worked
  ao-worked w = ap (λ (x : Float). cond (finite x) (Some (bits_of x)) None) (scaled-is w)

  -- what AO's tick gives, in the rules' terms
  ao-all : (fault : Bool) → Ao.given_in (ao_at h) (ao_in h) (mode_at h fault 3) ≡ all analog_out h fault
  unfolding Ao.given_in Ao.given_by_input Ao.given_by Ao.input_used ao_in ao_at
  ao-all fault = (λ i. by_mode (mode_at h fault 3) (given 3 h).bits (of_pair (operator 3 h))
      (leads_to (λ w. ao-worked w i) (given 3 h).bits (Ao.case_by (ao_at h) (cond (eqb (mode_at h fault 3) rcas) (ao_input 1 h) (ao_input 0 h)))))
      ∙ go (eqb (mode_at h fault 3) rcas)
    where
      go : (r : Bool) → by_mode (mode_at h fault 3) (given 3 h).bits (of_pair (operator 3 h)) (leads_to (ao_worked h) (given 3 h).bits (Ao.case_by (ao_at h) (cond r (ao_input 1 h) (ao_input 0 h))))
          ≡ by_mode (mode_at h fault 3) (given 3 h).bits (of_pair (operator 3 h)) (led_by analog_out h (given 3 h).bits (cond r 1 0))
      go true = refl
      go false = refl

-- an order as the tick answers it
order_same : (o : Order ℕ) → Ao.drive_order o ≡ analog_order (moved o)
order_same (Order.Position bits) = refl
order_same Order.Safe = refl
order_same Order.Rest = refl

-- ---- DO

dout-all : (h : History Event) → code h 5 21 ≤ 1 → (fault : Bool) → Dout.given_in (dout_at h) (dout_in h) (mode_at h fault 5) ≡ all discrete_out h fault
unfolding Dout.given_in Dout.given_by_input Dout.given_by Dout.input_used dout_in dout_at inverted
dout-all h small fault = (λ i. by_mode (mode_at h fault 5) (given 5 h).bits (of_pair (operator 5 h))
    (leads_to (discrete_out.worked h) (given 5 h).bits (case_of (code h 5 22) (code h 5 20) (value-is (code h 5 21) small i) (DoutState.input_of (cond (eqb (mode_at h fault 5) rcas) (dout_input 3 h) (dout_input 2 h))))))
    ∙ go (eqb (mode_at h fault 5) rcas)
  where
    go : (r : Bool) → by_mode (mode_at h fault 5) (given 5 h).bits (of_pair (operator 5 h)) (leads_to (discrete_out.worked h) (given 5 h).bits (case_of (code h 5 22) (code h 5 20) (code h 5 21) (DoutState.input_of (cond r (dout_input 3 h) (dout_input 2 h)))))
        ≡ by_mode (mode_at h fault 5) (given 5 h).bits (of_pair (operator 5 h)) (led_by discrete_out h (given 5 h).bits (cond r 3 2))
    go true = refl
    go false = refl

order-d-same : (o : Order ℕ) → o ≡ discrete_order (moved o)
order-d-same (Order.Position value) = refl
order-d-same Order.Safe = refl
order-d-same Order.Rest = refl

-- ---- the tick

module _ (h : History Event) (S : Sound h) (fault : Bool) (fed : Fed) (old : (B : ℕ) → Operated B → (given B h).bits ≡ old_out B h) where
  abbrev ain_old : (given 1 h).bits ≡ old_out 1 h
  ain_old = old 1 (inl refl)

  abbrev ao_old : (given 3 h).bits ≡ old_out 3 h
  ao_old = old 3 (inr (inl refl))

  abbrev di_old : (given 4 h).bits ≡ old_out 4 h
  di_old = old 4 (inr (inr (inl refl)))

  abbrev dout_old : (given 5 h).bits ≡ old_out 5 h
  dout_old = old 5 (inr (inr (inr refl)))

  abbrev pub next : Device
  next = (ticked_by (device_of h) fault fed).device

  module _ (seen : Seen) where
    abbrev after : History Event
    after = h ▷ ticked fault fed seen

    -- the pairs given, whatever the reads say
    pub ain-given : next.ain.state.out ≡ given 1 after
    unfolding tick_of device_of Ain.tick_of actual_mode mode_at ain_at given carried
    ain-given = ap (λ (x : AinState). x.out) (ain-is h fed ain_old fault (ain-mode h S fault))

    pub ao-given : next.ao.state.out ≡ given 3 after
    unfolding tick_of device_of Ao.tick_of Ao.ticked_with actual_mode mode_at ao_at given carried
    ao-given = ap (λ (g : GivenOf ℕ). as_pair g.out) (ao-all h fault) ∙ out-is analog_out h (time-small h S) fault ao_old (ao-mode-at h S fault)

    pub order_is : (ticked_by (device_of h) fault fed).order ≡ order h fault
    unfolding tick_of device_of Ao.tick_of Ao.ticked_with actual_mode mode_at ao_at order
    order_is = ap (λ (g : GivenOf ℕ). Ao.drive_order g.order) (ao-all h fault) ∙ order_same (all analog_out h fault).order
        ∙ ap analog_order (move-is analog_out h (time-small h S) fault ao_old (ao-mode-at h S fault))

    pub di-given : next.di.state.out ≡ discrete (given 4 after)
    unfolding tick_of device_of Di.tick_of actual_mode mode_at di_at given carried
    di-given = ap (λ (x : DiState). x.out) (di-is h fed di_old (contact-small h S) fault (di-mode h S fault))

    pub dout-given : next.dout.state.out ≡ discrete (given 5 after)
    unfolding tick_of device_of Dout.tick_of Dout.ticked_with actual_mode mode_at dout_at given carried
    dout-given = ap (λ (g : GivenOf ℕ). discrete (as_pair g.out)) (dout-all h (sluice-small h S) fault) ∙ ap discrete (out-is discrete_out h (time-d-small h S) fault dout_old (dout-mode h S fault))

    pub order-d-is : (ticked_by (device_of h) fault fed).order_d ≡ order_d h fault
    unfolding tick_of device_of Dout.tick_of Dout.ticked_with actual_mode mode_at dout_at order_d
    order-d-is = ap (λ (g : GivenOf ℕ). g.order) (dout-all h (sluice-small h S) fault) ∙ order-d-same (all discrete_out h fault).order
        ∙ ap discrete_order (move-is discrete_out h (time-d-small h S) fault dout_old (dout-mode h S fault))

    pub good-d-is : T (is_auto h fault 4) → good next.di.state.out.status ≡ (good fed.di.status && is_bit fed.di.value)
    unfolding tick_of device_of Di.tick_of actual_mode mode_at di_at
    good-d-is t =
        ap (λ (m : ℕ). good (Di.tick_by (di_at h) (di_in h) m fed.di.value fed.di.status).out.status) (eqb→eq (mode_at h fault 4) auto t)
        ∙ (unfold Di.tick_by in di-good-exactly (di_at h) (di_in h) auto fed.di.value fed.di.status)

    pub good-is : T (is_auto h fault 1) → good next.ain.state.out.status ≡ (good fed.ain.status && finite (calculated h (filter_value h) fed.ain))
    unfolding tick_of device_of Ain.tick_of actual_mode mode_at ain_at
    good-is t =
        ap (λ (m : ℕ). good (Ain.tick_by (ain_at h) (table_of (table h)) (ain_in h) m fed.ain.bits fed.ain.status).out.status) (eqb→eq (mode_at h fault 1) auto t)
        ∙ (unfold Ain.tick_by in good-exactly (ain_at h) (table_of (table h)) (ain_in h) auto fed.ain.bits fed.ain.status)
        ∙ (unfold ain_in in ap (λ (x : Float). good fed.ain.status && finite x) (calculated-is h fed (filter_value h)))

    -- the alarms go by the OUT that is read
    module _ (ain_read : seen.ain.first ≡ (given 1 after).bits) where
      alarms-next : cond (eqb (mode_at h fault 1) out_of_service) no_alarms (alarms_of (ain_at h) (alarms_at h) (float_of (senses analog_in h fault fed).bits)) ≡ alarms_at after
      unfolding given carried
      alarms-next = go (eqb (mode_at h fault 1) out_of_service) ain_read ∙ alarms-then h fault fed seen
        where
          go : (b : Bool) → seen.ain.first ≡ (cond b (Rules.held (given 1 h)) (senses analog_in h fault fed)).bits
              → cond b no_alarms (alarms_of (ain_at h) (alarms_at h) (float_of (senses analog_in h fault fed).bits)) ≡ cond b no_alarms (alarms_of (ain_at h) (alarms_at h) (float_of seen.ain.first))
          go true e = refl
          go false e = ap (λ (bits : ℕ). alarms_of (ain_at h) (alarms_at h) (float_of bits)) (sym e)

      ain-then : next.ain.state ≡ ain_in after
      unfolding tick_of device_of Ain.tick_of actual_mode mode_at ain_at
      ain-then = ain-is h fed ain_old fault (ain-mode h S fault) ∙ (unfold ain_in ain_sensed given actual operator latest filter_value last_usable carried in (λ i. record {
        out = given 1 after;
        mode = mode_at h fault 1;
        filter = kept_of (filter_value after);
        last = kept_of (last_usable analog_in after);
        operator = operator 1 h;
        alarms = alarms-next i;
      }))

      tot-then : next.tot.state ≡ tot_in after
      unfolding tick_of device_of Tot.tick_of actual_mode mode_at tot_at tot_in given actual operator latest rate_value total carried
      tot-then = tot-is h fed.tot (set-small h S) fault (tot-mode h S fault)

      ao-then : next.ao.state ≡ ao_in after
      unfolding tick_of device_of Ao.tick_of Ao.ticked_with actual_mode mode_at ao_at ao_in actual operator latest carried
      ao-then = λ i. record {
        out = ao-given i;
        mode = mode_at h fault 3;
        operator = operator 3 h;
        sp = input_from (input-then analog_out 0 h fault fed seen i);
        rcas_in = input_from (input-then analog_out 1 h fault fed seen i);
      }

      di-then : next.di.state ≡ di_in after
      unfolding tick_of device_of Di.tick_of actual_mode mode_at di_at
      di-then = di-is h fed di_old (contact-small h S) fault (di-mode h S fault) ∙ (unfold di_in given actual operator latest last_usable carried in refl)

      dout-then : next.dout.state ≡ dout_in after
      unfolding tick_of device_of Dout.tick_of Dout.ticked_with actual_mode mode_at dout_at dout_in actual operator latest carried
      dout-then = λ i. record {
        out = dout-given i;
        mode = mode_at h fault 5;
        operator = discrete (operator 5 h);
        sp = DoutState.input_from (input-then discrete_out 2 h fault fed seen i);
        rcas_in = DoutState.input_from (input-then discrete_out 3 h fault fed seen i);
      }

      pub ruled-tick : next ≡ device_of after
      unfolding tick_of device_of stored latest table ain_at tot_at ao_at di_at dout_at st_rev count
      ruled-tick = λ i. record {
        write_locking = code h 0 18;
        ain = record { settings = ain_at h; state = ain-then i; st_rev = st_rev h 1; table = table_of (table h) };
        tot = record { settings = tot_at h; state = tot-then i; st_rev = st_rev h 2 };
        ao = record { settings = ao_at h; state = ao-then i; st_rev = st_rev h 3 };
        di = record { settings = di_at h; state = di-then i; st_rev = st_rev h 4 };
        dout = record { settings = dout_at h; state = dout-then i; st_rev = st_rev h 5 };
      }

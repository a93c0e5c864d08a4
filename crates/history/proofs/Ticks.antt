-- What a tick leaves in each block, by its actual mode, is what the rules say of it. Assumes nothing.
use Prim.Native.Nat.{ℕ, ◌≤◌}
use native.Mathlib.Omega.{arith}
use mathlib.Core.Path.{◌≡◌, refl, sym, ap, ◌∙◌, subst}
use mathlib.Core.Bool.{Bool, true, false, not, ◌&&◌, ◌||◌, cond}
use mathlib.Core.Logic.{◌⊎◌, inl, inr}
use Rattle.std.specs.Prelude.{Option, None, Some, Err}
use lib.Dec.{T, eqb, eqb→eq}
use borrow.Author.Tests.{eqb-true, eqb-false}
use lib.IntN.{ℤ, pos}
use lib.Ieee.{Float, binary32, of_int, eq}
use lib.Ieee.Fits.{and_l}
use lib.Ieee.Scale.{finite}
use Rattle.numbers.specs.Floats.{float_of, bits_of}
use Rattle.scaling.specs.Scaling.{fraction_of, at_fraction}
use Rattle.linearisation.specs.declared.Table.{Table}
use Rattle.linearisation.specs.Table.{table_of}
use Rattle.wire.specs.declared.Pair.{Pair}
use Rattle.wire.specs.Status.{quality_of}
use Rattle.blocks.specs.Common.{InputStatus, usable_input, actual_mode, input_status, as_pair}
use Rattle.blocks.specs.Discrete.{inverted, discrete_value}
use Rattle.blocks.specs.InputBlock.{present, last_usable_or, scaled_or_old, fail_safe_pair}
use Rattle.blocks.specs.Common as Common
use Rattle.parameters.specs.declared.Allowed.TheVariants.{Mode}
use Rattle.parameters.specs.Words.{allows_of}
use Rattle.parameters.specs.Words as Parameters
use Rattle.ain.specs.declared.State.{State as AinState}
use Rattle.ain.specs.Scaling.{scaled_of, filtered}
use Rattle.ain.specs.Alarm.{rises, falls, alarm_stands, alarms_of, no_alarms, alarm_status}
use Rattle.ain.specs.Tick as Ain
use Rattle.di.specs.declared.State.{State as DiState}
use Rattle.di.specs.Tick as Di
use Rattle.tot.specs.declared.State.{State as TotState}
use Rattle.tot.specs.Total.{wanted, next_total, value_given, given_bits, thousandths_of, sum_of}
use Rattle.tot.specs.Tick as Tot
use Rattle.history.specs.Past.{History}
use Rattle.history.specs.Calls.{Fed, Event}
use Rattle.history.specs.Rules.{pair, code, float, scale, table, out_of_service, man, auto, rcas, mode_at, operator, old_out, bad_status, if_usable, Sensor, discrete_in, discrete, is_bit, exchanged, di_sensed, scaled, calculated, ain_bad, filter_value, last_usable, analog_in, ain_sensed, stands_with, alarmed, last_or, word_or, sensed_fail_safe, sensed_auto, senses, tot_bad, rate_value, wanted_by, added_rate, adds, total_by, total, tot_status, tot_gives, given, held}
use Rattle.history.proofs.Loads.{measured-is}
use Rattle.history.proofs.Ruled.{kept_of, byte_of, alarms_at, ain_at, ain_in, tot_at, tot_in, di_at, di_in}

-- ---- the modes

-- an actual mode of AIN and TOT
abbrev pub IsMode : ℕ → Type 0
IsMode m = (m ≡ out_of_service) ⊎ ((m ≡ man) ⊎ (m ≡ auto))

-- and of AO
abbrev pub IsAoMode : ℕ → Type 0
IsAoMode m = IsMode m ⊎ (m ≡ rcas)

either : (a b : Bool) → T (a || b) → T a ⊎ T b
either true b t = inl tt
either false b t = inr t

pub ao-target : (r : Bool) (a b : ℕ) → T (Parameters.mode r a && eqb b 0) → IsAoMode a
ao-target r a b t = first r (either (eqb a out_of_service || eqb a man || eqb a auto) (r && eqb a rcas) (and_l (eqb a out_of_service || eqb a man || eqb a auto || r && eqb a rcas) (eqb b 0) t))
  where
    third : T (eqb a out_of_service) ⊎ T (eqb a man) → IsMode a
    third (inl x) = inl (eqb→eq a out_of_service x)
    third (inr x) = inr (inl (eqb→eq a man x))

    second : T (eqb a out_of_service || eqb a man) ⊎ T (eqb a auto) → IsMode a
    second (inl x) = third (either (eqb a out_of_service) (eqb a man) x)
    second (inr x) = inr (inr (eqb→eq a auto x))

    first : (r : Bool) → T (eqb a out_of_service || eqb a man || eqb a auto) ⊎ T (r && eqb a rcas) → IsAoMode a
    first r (inl x) = inl (second (either (eqb a out_of_service || eqb a man) (eqb a auto) x))
    first true (inr x) = inr (eqb→eq a rcas x)
    first false (inr x) = absurd x

-- without RCas
pub target : (a b : ℕ) → T (allows_of Mode a b) → IsMode a
unfolding allows_of
target a b t = go (either (eqb a out_of_service || eqb a man || eqb a auto) false (and_l (eqb a out_of_service || eqb a man || eqb a auto || false) (eqb b 0) t)) (ao-target false a b t)
  where
    go : T (eqb a out_of_service || eqb a man || eqb a auto) ⊎ ⊥ → IsAoMode a → IsMode a
    go (inl x) (inl m) = m
    go (inl x) (inr m) = absurd (subst (λ (n : ℕ). T (eqb n out_of_service || eqb n man || eqb n auto)) m x)
    go (inr x) m = absurd x

-- the actual mode of such a target
pub mode : (fault : Bool) (a : ℕ) → IsMode a → IsMode (actual_mode fault a)
unfolding actual_mode
mode true a m = inl refl
mode false a m = go (eqb a out_of_service) m
  where
    go : (b : Bool) → IsMode a → IsMode (cond b out_of_service a)
    go true m = inl refl
    go false m = m

pub ao-mode : (fault : Bool) (a : ℕ) → IsAoMode a → IsAoMode (actual_mode fault a)
unfolding actual_mode
ao-mode true a m = inl (inl refl)
ao-mode false a m = go (eqb a out_of_service) m
  where
    go : (b : Bool) → IsAoMode a → IsAoMode (cond b out_of_service a)
    go true m = inl (inl refl)
    go false m = m

-- ---- input status

abbrev input_from : Option ℕ → InputStatus
input_from None = usable_input
input_from (Some bad) = Err bad

status-is : (status : ℕ) (value calculated : Bool) → input_status status value calculated ≡ input_from (bad_status status value calculated)
unfolding input_status bad_status
status-is status value calculated = go (eqb (quality_of status) 3) (eqb (quality_of status) 0) value calculated
  where
    go : (a b c d : Bool) → cond a (Err 0x04) (cond b (Err status) (cond (not c) (Err 0x10) (cond (not d) (Err 0x04) usable_input))) ≡ input_from (cond a (Some 0x04) (cond b (Some status) (cond (not c) (Some 0x10) (cond (not d) (Some 0x04) None))))
    go true b c d = refl
    go false true c d = refl
    go false false false d = refl
    go false false true false = refl
    go false false true true = refl

-- ---- an input block, over the type of its values

module _ {A : Type 0} (s : Sensor A) where
  -- a value that may be missing, by its word
  abbrev worded : Option A → Option ℕ
  worded None = None
  worded (Some x) = Some (s.word x)

  there-is : (b : Bool) (x : A) → present b (s.word x) ≡ worded (cond b (Some x) None)
  there-is true x = refl
  there-is false x = refl

  module _ (h : History Event) (old : (given s.block h).bits ≡ old_out s.block h) where
    -- what an Auto tick that isn't usable gives
    fail-safe-is : (comes : Option A) (bad : ℕ)
        → as_pair (fail_safe_pair 0 (code h s.block s.kind) (s.word (s.fallback h)) (worded (last_usable s h)) (worded comes) (given s.block h).bits bad) ≡ sensed_fail_safe s h comes bad
    unfolding fail_safe_pair sensed_fail_safe
    fail-safe-is comes bad =
        ap (λ (bits : ℕ). chosen bits (eqb (code h s.block s.kind) 0) (eqb (code h s.block s.kind) 1) (last_usable s h) comes) old
        ∙ go (eqb (code h s.block s.kind) 0) (eqb (code h s.block s.kind) 1) (last_usable s h) comes
      where
        chosen : ℕ → Bool → Bool → Option A → Option A → Pair
        chosen bits a b o c = as_pair (cond a (record { value = s.word (s.fallback h); status = 0x48 }) (cond b (last_usable_or 0 (worded o)) (scaled_or_old bits bad (worded c))))

        go : (a b : Bool) (o c : Option A) → chosen (old_out s.block h) a b o c ≡ cond a (pair (s.word (s.fallback h)) 0x48) (cond b (last_or s o) (pair (word_or s (old_out s.block h) c) bad))
        go true b o c = refl
        go false true None c = refl
        go false true (Some x) c = refl
        go false false o None = refl
        go false false o (Some x) = refl

-- ---- AIN

either_way : {A : Type 0} (b : Bool) (x y : A) → cond (b || true) x y ≡ x
either_way true x y = refl
either_way false x y = refl

first_way : {A : Type 0} (b : Bool) (x y : A) → cond (b || false) x y ≡ cond b x y
first_way true x y = refl
first_way false x y = refl

module _ (h : History Event) (fed : Fed) where
  abbrev ain : Pair
  ain = fed.ain

  abbrev table_at : Table
  table_at = table_of (table h)

  scaled-is : Ain.scaled_value (ain_at h) table_at ain.bits ≡ scaled h ain
  unfolding Ain.scaled_value scaled_of scaled ain_at
  scaled-is = ap (λ (x : Float). at_fraction (scale h 1 12) (fraction_of (scale h 1 11) x)) (measured-is h (float_of ain.bits))

  pub calculated-is : (old : Option Float) → Ain.calculated (ain_at h) table_at (kept_of old) ain.bits ≡ calculated h old ain
  unfolding Ain.calculated filtered calculated ain_at
  calculated-is None = ap (λ (x : Float). filtered (float h 1 16) (kept_of None) x) scaled-is ∙ either_way (eq (float h 1 16) (of_int binary32 (pos 0))) (scaled h ain) _
  calculated-is (Some pv) = ap (λ (x : Float). filtered (float h 1 16) (kept_of (Some pv)) x) scaled-is ∙ first_way (eq (float h 1 16) (of_int binary32 (pos 0))) (scaled h ain) _

  input-is : (old : Option Float) → Ain.input_of (ain_at h) table_at (kept_of old) ain.bits ain.status ≡ input_from (ain_bad h old ain)
  unfolding Ain.input_of ain_bad
  input-is old =
      (λ i. input_status ain.status (finite (float_of ain.bits)) (finite (scaled-is i) && finite (calculated-is old i)))
      ∙ status-is ain.status (finite (float_of ain.bits)) (finite (scaled h ain) && finite (calculated h old ain))

  -- an Auto tick, by the Bad status
  abbrev by_bad : ℕ → Option ℕ → AinState
  by_bad m bad = Ain.auto_by (ain_at h) table_at (ain_in h) m ain.bits ain.status (input_from bad)

  auto-is : (m : ℕ) → Ain.auto_tick (ain_at h) table_at (ain_in h) m ain.bits ain.status ≡ by_bad m (ain_bad h (filter_value h) ain)
  unfolding Ain.auto_tick ain_in
  auto-is m = ap (Ain.auto_by (ain_at h) table_at (ain_in h) m ain.bits ain.status) (input-is (filter_value h))

  module _ (old : (given 1 h).bits ≡ old_out 1 h) where
    ain-fail-safe : (bad : ℕ) → Ain.fail_safe_out (code h 1 17) (float h 1 18) (kept_of (last_usable analog_in h)) (scaled h ain) (given 1 h) bad ≡ sensed_fail_safe analog_in h (ain_sensed h fed).comes bad
    unfolding Ain.fail_safe_out ain_sensed
    ain-fail-safe bad =
        (λ i. as_pair (fail_safe_pair 0 (code h 1 17) (bits_of (float h 1 18)) (kept-is (last_usable analog_in h) i) (there-is analog_in (finite (scaled h ain)) (scaled h ain) i) (given 1 h).bits bad))
        ∙ fail-safe-is analog_in h old (cond (finite (scaled h ain)) (Some (scaled h ain)) None) bad
      where
        kept-is : (o : Option Float) → present (kept_of o).some (bits_of (kept_of o).value) ≡ worded analog_in o
        kept-is None = refl
        kept-is (Some x) = refl

    -- an Auto tick in the rules' terms
    abbrev worked : ℕ → Option ℕ → AinState
    worked m bad = record {
      out = sensed_auto analog_in h (ain_sensed h fed) bad;
      mode = m;
      filter = kept_of (if_usable bad (Some (calculated h (filter_value h) ain)) (filter_value h));
      last = kept_of (if_usable bad (Some (calculated h (filter_value h) ain)) (last_usable analog_in h));
      operator = operator 1 h;
      alarms = alarms_of (ain_at h) (alarms_at h) (float_of (sensed_auto analog_in h (ain_sensed h fed) bad).bits);
    }

    usable-is : (m : ℕ) → by_bad m None ≡ worked m None
    unfolding Ain.auto_by Ain.usable_tick ain_sensed ain_at ain_in alarms_at alarms_of alarm_stands rises falls alarm_status alarmed stands_with
    usable-is m = λ i. record {
      out = pair (bits_of (calculated-is (filter_value h) i)) (alarmed h (bits_of (calculated-is (filter_value h) i)) ain.status);
      mode = m;
      filter = Common.kept (calculated-is (filter_value h) i);
      last = Common.kept (calculated-is (filter_value h) i);
      operator = operator 1 h;
      alarms = alarms_of (ain_at h) (alarms_at h) (float_of (bits_of (calculated-is (filter_value h) i)));
    }

    by-scaled : (m bad : ℕ) → Ain.unusable_tick (ain_at h) (ain_in h) m (scaled h ain) bad ≡ worked m (Some bad)
    unfolding Ain.unusable_tick ain_at ain_in
    by-scaled m bad = λ i. record {
      out = ain-fail-safe bad i;
      mode = m;
      filter = kept_of (filter_value h);
      last = kept_of (last_usable analog_in h);
      operator = operator 1 h;
      alarms = alarms_of (ain_at h) (alarms_at h) (float_of (ain-fail-safe bad i).bits);
    }

    unusable-is : (m bad : ℕ) → by_bad m (Some bad) ≡ worked m (Some bad)
    unfolding Ain.auto_by
    unusable-is m bad = ap (λ (x : Float). Ain.unusable_tick (ain_at h) (ain_in h) m x bad) scaled-is ∙ by-scaled m bad

    module _ (fault : Bool) where
      abbrev ain_tick : AinState
      ain_tick = Ain.tick_by (ain_at h) table_at (ain_in h) (mode_at h fault 1) ain.bits ain.status

      ain-auto : mode_at h fault 1 ≡ auto → ain_tick ≡ worked auto (ain_bad h (filter_value h) ain)
      unfolding Ain.tick_by
      ain-auto e = rw e (auto-is auto ∙ go (ain_bad h (filter_value h) ain))
        where
          go : (bad : Option ℕ) → by_bad auto bad ≡ worked auto bad
          go None = usable-is auto
          go (Some bad) = unusable-is auto bad

      ain-man : mode_at h fault 1 ≡ man → ain_tick ≡ Ain.man_tick (ain_at h) (ain_in h)
      unfolding Ain.tick_by
      ain-man e = rw e

      ain-out : mode_at h fault 1 ≡ out_of_service → ain_tick ≡ Ain.out_of_service_tick (ain_in h)
      unfolding Ain.tick_by
      ain-out e = rw e

      -- the whole tick, in its actual mode
      pub ain-is : IsMode (mode_at h fault 1) → ain_tick ≡ record {
        out = cond (eqb (mode_at h fault 1) out_of_service) (held (given 1 h)) (senses analog_in h fault fed);
        mode = mode_at h fault 1;
        filter = kept_of (cond (eqb (mode_at h fault 1) auto) (if_usable (ain_bad h (filter_value h) ain) (Some (calculated h (filter_value h) ain)) (filter_value h)) None);
        last = kept_of (cond (eqb (mode_at h fault 1) auto) (if_usable (ain_bad h (filter_value h) ain) (Some (calculated h (filter_value h) ain)) (last_usable analog_in h)) (last_usable analog_in h));
        operator = operator 1 h;
        alarms = cond (eqb (mode_at h fault 1) out_of_service) no_alarms (alarms_of (ain_at h) (alarms_at h) (float_of (senses analog_in h fault fed).bits));
      }
      unfolding senses ain_sensed ain_in Ain.man_tick Ain.out_of_service_tick
      ain-is (inl e) = ain-out e ∙ sym (rw e)
      ain-is (inr (inl e)) = ain-man e ∙ sym (rw e)
      ain-is (inr (inr e)) = ain-auto e ∙ sym (rw e)

-- ---- DI

-- FSAFE_VAL_D is 0 or 1, so it is its value
pub value-is : (n : ℕ) → n ≤ 1 → discrete_value n ≡ n
unfolding discrete_value
value-is n small = go (eqb n 1) refl
  where
    other : (m : ℕ) → m ≤ 1 → (m ≡ 1 → ⊥) → 0 ≡ m
    other m s t = omega arith

    go : (b : Bool) → eqb n 1 ≡ b → cond b 1 0 ≡ n
    go true e = sym (eqb-true n 1 e)
    go false e = other n small (eqb-false n 1 e)

module _ (h : History Event) (fed : Fed) (old : (given 4 h).bits ≡ old_out 4 h) (small : code h 4 21 ≤ 1) where
  abbrev v : ℕ
  v = fed.di.value

  di-input : Di.input_of v fed.di.status ≡ input_from (di_sensed h fed).bad
  unfolding Di.input_of di_sensed
  di-input = status-is fed.di.status true (is_bit v)

  di-fail-safe : (bad : ℕ) → Di.fail_safe_out (di_at h) (byte_of (last_usable discrete_in h)) v (discrete (given 4 h)) bad ≡ discrete (sensed_fail_safe discrete_in h (di_sensed h fed).comes bad)
  unfolding Di.fail_safe_out di_at di_sensed inverted
  di-fail-safe bad = ap discrete (
      (λ i. as_pair (fail_safe_pair 0 (code h 4 20) (value-is (code h 4 21) small i) (byte-is (last_usable discrete_in h) i) (there-is discrete_in (is_bit v) (exchanged (code h 4 15) v) i) (given 4 h).bits bad))
      ∙ fail-safe-is discrete_in h old (cond (is_bit v) (Some (exchanged (code h 4 15) v)) None) bad)
    where
      byte-is : (o : Option ℕ) → present (byte_of o).some (byte_of o).value ≡ worded discrete_in o
      byte-is None = refl
      byte-is (Some x) = refl

  -- an Auto tick in the rules' terms
  abbrev contact : ℕ → Option ℕ → DiState
  contact m bad = record {
    out = discrete (sensed_auto discrete_in h (di_sensed h fed) bad);
    mode = m;
    last = byte_of (if_usable bad (Some (di_sensed h fed).value) (last_usable discrete_in h));
    operator = discrete (operator 4 h);
  }

  di-auto : (m : ℕ) → Di.auto_tick (di_at h) (di_in h) m v fed.di.status ≡ contact m (di_sensed h fed).bad
  unfolding Di.auto_tick
  di-auto m = ap (Di.auto_by (di_at h) (di_in h) m v fed.di.status) di-input ∙ go (di_sensed h fed).bad
    where
      go : (bad : Option ℕ) → Di.auto_by (di_at h) (di_in h) m v fed.di.status (input_from bad) ≡ contact m bad
      go None = unfold Di.auto_by Di.usable_tick di_sensed di_at di_in inverted in refl
      go (Some bad) = unfold Di.auto_by Di.unusable_tick di_in in (λ i. record { out = di-fail-safe bad i; mode = m; last = byte_of (last_usable discrete_in h); operator = discrete (operator 4 h) })

  module _ (fault : Bool) where
    abbrev m : ℕ
    m = mode_at h fault 4

    -- the whole tick, in its actual mode
    pub di-is : IsMode m → Di.tick_by (di_at h) (di_in h) m v fed.di.status ≡ record {
      out = discrete (cond (eqb m out_of_service) (held (given 4 h)) (senses discrete_in h fault fed));
      mode = m;
      last = byte_of (cond (eqb m auto) (if_usable (di_sensed h fed).bad (Some (di_sensed h fed).value) (last_usable discrete_in h)) (last_usable discrete_in h));
      operator = discrete (operator 4 h);
    }
    unfolding Di.tick_by senses
    di-is (inl e) = rw e (unfold Di.out_of_service_tick di_in in refl)
    di-is (inr (inl e)) = rw e (unfold Di.man_tick di_in in refl)
    di-is (inr (inr e)) = rw e (di-auto auto)

-- ---- TOT

module _ (h : History Event) (tot : Pair) where
  tot-input : Tot.input_of tot.bits tot.status ≡ input_from (tot_bad tot)
  unfolding Tot.input_of tot_bad
  tot-input = status-is tot.status (finite (float_of tot.bits)) true

  rate-is : Tot.tick_rate (kept_of (rate_value h)) tot.bits tot.status ≡ kept_of (if_usable (tot_bad tot) (Some (float_of tot.bits)) (rate_value h))
  unfolding Tot.tick_rate
  rate-is = ap (Tot.last_rate (kept_of (rate_value h)) (float_of tot.bits)) tot-input ∙ go (tot_bad tot)
    where
      go : (bad : Option ℕ) → Tot.last_rate (kept_of (rate_value h)) (float_of tot.bits) (input_from bad) ≡ kept_of (if_usable bad (Some (float_of tot.bits)) (rate_value h))
      go None = refl
      go (Some bad) = refl

  kept-rate : (o : Option Float) → Tot.kept_rate (kept_of o) ≡ o
  kept-rate None = refl
  kept-rate (Some x) = refl

  same-adds : (rate : Option Float) → Tot.adds (code h 2 14) rate ≡ adds h rate
  unfolding wanted wanted_by
  same-adds None = refl
  same-adds (Some x) = refl

  adds-is : Tot.tick_adds (code h 2 14) (code h 2 15) (kept_of (rate_value h)) tot.bits tot.status ≡ adds h (added_rate h tot (tot_bad tot))
  unfolding Tot.tick_adds Tot.fail_rate
  adds-is = rw (kept-rate (rate_value h), tot-input) (go (tot_bad tot))
    where
      go : (bad : Option ℕ) → Tot.adds (code h 2 14) (Tot.added_rate (code h 2 15) (rate_value h) (float_of tot.bits) (input_from bad)) ≡ adds h (added_rate h tot bad)
      go None = same-adds (Some (float_of tot.bits))
      go (Some bad) = same-adds (added_rate h tot (Some bad))

  tot-status : Tot.tick_status (code h 2 13) (code h 2 15) (kept_of (rate_value h)) tot.bits tot.status ≡ tot_status h tot.status (tot_bad tot)
  unfolding Tot.tick_status Tot.fail_status
  tot-status = rw (kept-rate (rate_value h), tot-input) (go (tot_bad tot))
    where
      go : (bad : Option ℕ) → Tot.auto_status (code h 2 13) (code h 2 15) (rate_value h) tot.status (input_from bad) ≡ tot_status h tot.status bad
      go None = refl
      go (Some bad) = refl

  -- SET_TOT is 0, 1 or 2
  set_cases : (n : ℕ) → n ≤ 2 → (n ≡ 0) ⊎ ((n ≡ 1) ⊎ (n ≡ 2))
  set_cases n s = go (eqb n 0) refl (eqb n 1) refl
    where
      two : (n : ℕ) → n ≤ 2 → (n ≡ 0 → ⊥) → (n ≡ 1 → ⊥) → n ≡ 2
      two n s a b = omega arith

      go : (p : Bool) → eqb n 0 ≡ p → (q : Bool) → eqb n 1 ≡ q → (n ≡ 0) ⊎ ((n ≡ 1) ⊎ (n ≡ 2))
      go true e q f = inl (eqb-true n 0 e)
      go false e true f = inr (inl (eqb-true n 1 f))
      go false e false f = inr (inr (two n s (eqb-false n 0 e) (eqb-false n 1 f)))

  module _ (set : code h 2 13 ≤ 2) where
    total-is : Tot.auto_total (tot_at h) (total h) (kept_of (rate_value h)) tot.bits tot.status ≡ total_by h tot (total h)
    unfolding Tot.auto_total next_total total_by tot_at
    total-is = ap (λ (z : ℤ). next (code h 2 13) z) adds-is ∙ go (set_cases (code h 2 13) set)
      where
        next : ℕ → ℤ → ℤ
        next n z = cond (eqb n 0) (sum_of (total h) z) (cond (eqb n 1) (pos 0) (thousandths_of (float h 2 16)))

        z : ℤ
        z = adds h (added_rate h tot (tot_bad tot))

        go : (code h 2 13 ≡ 0) ⊎ ((code h 2 13 ≡ 1) ⊎ (code h 2 13 ≡ 2)) → next (code h 2 13) z ≡ cond (eqb (code h 2 13) 1) (pos 0) (cond (eqb (code h 2 13) 2) (thousandths_of (float h 2 16)) (sum_of (total h) z))
        go (inl e) = rw e
        go (inr (inl e)) = rw e
        go (inr (inr e)) = rw e

    module _ (fault : Bool) where
      abbrev tot_tick : TotState
      tot_tick = Tot.tick_by (tot_at h) (tot_in h) (mode_at h fault 2) tot.bits tot.status

      -- an Auto tick in the rules' terms
      abbrev counted : TotState
      counted = record {
        total = total_by h tot (total h);
        out = pair (bits_of (value_given (total_by h tot (total h)))) (tot_status h tot.status (tot_bad tot));
        mode = auto;
        rate = kept_of (if_usable (tot_bad tot) (Some (float_of tot.bits)) (rate_value h));
        operator_status = (operator 2 h).status;
      }

      tot-auto : mode_at h fault 2 ≡ auto → tot_tick ≡ counted
      unfolding Tot.tick_by
      tot-auto e = rw e (unfold Tot.auto_tick tot_in tot_at given_bits in (λ i. record {
        total = total-is i;
        out = pair (bits_of (value_given (total-is i))) (tot-status i);
        mode = auto;
        rate = rate-is i;
        operator_status = (operator 2 h).status;
      }))

      tot-man : mode_at h fault 2 ≡ man → tot_tick ≡ Tot.man_tick (tot_in h)
      unfolding Tot.tick_by
      tot-man e = rw e

      tot-out : mode_at h fault 2 ≡ out_of_service → tot_tick ≡ Tot.out_of_service_tick (tot_in h)
      unfolding Tot.tick_by
      tot-out e = rw e

      -- the whole tick, in its actual mode
      pub tot-is : IsMode (mode_at h fault 2) → tot_tick ≡ record {
        total = cond (eqb (mode_at h fault 2) auto) (total_by h tot (total h)) (total h);
        out = cond (eqb (mode_at h fault 2) out_of_service) (held (given 2 h)) (tot_gives h fault tot);
        mode = mode_at h fault 2;
        rate = kept_of (cond (eqb (mode_at h fault 2) auto) (if_usable (tot_bad tot) (Some (float_of tot.bits)) (rate_value h)) (rate_value h));
        operator_status = (operator 2 h).status;
      }
      unfolding tot_gives tot_in Tot.man_tick Tot.out_of_service_tick given_bits
      tot-is (inl e) = tot-out e ∙ sym (rw e)
      tot-is (inr (inl e)) = tot-man e ∙ sym (rw e)
      tot-is (inr (inr e)) = tot-auto e ∙ sym (rw e)

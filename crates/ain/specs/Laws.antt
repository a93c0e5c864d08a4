-- Laws of AIN's tick: when an Auto tick is Good, that OUT stays finite, and that no alarm rises and falls in one tick. Assumes nothing.
use Prim.Native.Nat.{ℕ}
use Rattle.std.specs.Prelude.{◌≡◌, Bool, false, not, ◌&&◌, ◌||◌, cond, T, eqb, pos, Float, Err}
use Rattle.std.proofs.Math.Path.{refl, ap}
use Rattle.std.proofs.Common.{sym, ◌∙◌, true≢false}
use Rattle.std.proofs.Math.Bool.{true}
use Rattle.std.specs.Float.{binary32}
use Rattle.std.specs.Float.Ieee.{of_int, of_bits, add, sub, mul, div, eq, le, fits, is_nan}
use Rattle.std.specs.Float.Ieee.Fits.{add-fits}
use Rattle.std.specs.Float.Ieee.Scale.{finite}
use Rattle.numbers.specs.Floats.{float_of, bits_of}
use Rattle.numbers.specs.FloatLaws.{float_back, add_right, sub-left, div-left}
use Rattle.numbers.specs.Order.{not-rise-and-fall}
use Rattle.scaling.specs.Scaling.{at_fraction, fraction_of}
use Rattle.scaling.specs.Laws.{fraction-unfinished, at_fraction-unfinished}
use Rattle.linearisation.specs.declared.Table.{Table}
use Rattle.linearisation.specs.Table.{pairs_of}
use Rattle.linearisation.specs.Value.{value_at}
use Rattle.linearisation.specs.Laws.{unfinished-stays}
use Rattle.wire.specs.Status.{quality_of}
use Rattle.blocks.specs.declared.Kept.{Kept}
use Rattle.blocks.specs.Common.{InputStatus, usable_input, good}
use Rattle.blocks.specs.Laws.{present-holds, fail-safe-not-good, fail-safe-holds, input-holds, good-by-input}
use Rattle.ain.specs.declared.Settings.{Settings}
use Rattle.ain.specs.declared.Alarms.{Alarms}
use Rattle.ain.specs.declared.State.{State}
use Rattle.ain.specs.Scaling.{scaled_of, filtered}
use Rattle.ain.specs.Alarm.{rises, falls, alarm_status, alarms_of}
use Rattle.ain.specs.Tick.{measured, scaled_value, calculated, input_of, fail_safe_out, usable_tick, unusable_tick, auto_by, auto_tick}

-- ---- what is not finite stays so
pub filtered-unfinished : (time : Float) (old : Kept) (x : Float) → finite x ≡ false → finite (filtered time old x) ≡ false
unfolding filtered
filtered-unfinished time old x h = go (eq time (of_int binary32 (pos 0)) || not old.some)
  where
    sum : Float
    sum =
        add binary32 old.value
        (div binary32 (sub binary32 x old.value) (add binary32 (mul binary32 time (of_int binary32 (pos 10))) (of_int binary32 (pos 1))))

    go : (b : Bool) → finite (cond b x sum) ≡ false
    go true = h
    go false = add_right binary32 old.value _ (div-left binary32 _ _ (sub-left binary32 x old.value h))

-- Q1.8: a value that isn't finite, the table's too, cannot be scaled to one that is
pub scaled-unfinished : (s : Settings) (table : Table) (bits : ℕ) → finite (measured s.lin_type table (float_of bits)) ≡ false
    → finite (scaled_value s table bits) ≡ false
unfolding scaled_value scaled_of
scaled-unfinished s table bits h =
    let x = measured s.lin_type table (float_of bits) in
    at_fraction-unfinished s.out_scale (fraction_of s.pv_scale x) (fraction-unfinished s.pv_scale x h)

-- Q1.6: an input that isn't finite is no other by a table
measured-unfinished : (lin_type : ℕ) (table : Table) (x : Float) → finite x ≡ false → finite (measured lin_type table x) ≡ false
unfolding measured
measured-unfinished lin_type table x h = go (eqb lin_type 1)
  where
    go : (b : Bool) → finite (cond b (value_at (pairs_of table) x) x) ≡ false
    go true = ap finite (unfinished-stays (pairs_of table) x h) ∙ h
    go false = h

-- an input that is not finite cannot lead to a finite calculated value
pub calculated-unfinished : (s : Settings) (table : Table) (old : Kept) (bits : ℕ) → finite (float_of bits) ≡ false
    → finite (calculated s table old bits) ≡ false
unfolding calculated
calculated-unfinished s table old bits h =
    filtered-unfinished s.pv_ftime old (scaled_value s table bits)
    (scaled-unfinished s table bits (measured-unfinished s.lin_type table (float_of bits) h))

-- ---- when an Auto tick is Good
alarm-status-good : (stand : Alarms) (status : ℕ) → good (alarm_status stand status) ≡ good status
unfolding alarm_status
alarm-status-good stand status = go (eqb (quality_of status) 2) refl stand.hi_hi stand.lo_lo stand.hi stand.lo
  where
    go : (q : Bool) → eqb (quality_of status) 2 ≡ q → (a b c d : Bool)
        → eqb (quality_of (cond (not q) status (cond a 0x8e (cond b 0x8d (cond c 0x8a (cond d 0x89 status)))))) 2 ≡ q
    go false e a b c d = e
    go true e true b c d = refl
    go true e false true c d = refl
    go true e false false true d = refl
    go true e false false false true = refl
    go true e false false false false = e

-- a condition that another implies adds nothing to it
implied : (a b : Bool) → (a ≡ false → b ≡ false) → a && b ≡ b
implied true b h = refl
implied false b h = sym (h refl)

module _ (s : Settings) (table : Table) (st : State) (mode bits status : ℕ) where
  abbrev pv : Float
  pv = calculated s table st.filter bits

  outcome : InputStatus → ℕ
  outcome i = (auto_by s table st mode bits status i).out.status

  bad-outcome : (bad : ℕ) → good bad ≡ false → good (outcome (Err bad)) ≡ false
  unfolding outcome auto_by unusable_tick fail_safe_out
  bad-outcome bad = fail-safe-not-good 0 s.fsafe_type _ _ _ _ bad

  usable-outcome : good (outcome usable_input) ≡ good status
  unfolding outcome auto_by usable_tick
  usable-outcome = alarm-status-good (alarms_of s st.alarms (float_of (bits_of pv))) status

  -- the test of the calculated value alone decides
  all-finite : finite (float_of bits) && (finite (scaled_value s table bits) && finite pv) ≡ finite pv
  unfolding calculated
  all-finite =
      ap (λ (b : Bool). finite (float_of bits) && b)
      (implied (finite (scaled_value s table bits)) (finite pv) (filtered-unfinished s.pv_ftime st.filter (scaled_value s table bits)))
      ∙ implied (finite (float_of bits)) (finite pv) (calculated-unfinished s table st.filter bits)

  -- In Auto, OUT's quality is 2 exactly when the input's is and the calculated value is finite.
  pub good-exactly : good (auto_tick s table st mode bits status).out.status ≡ good status && finite (calculated s table st.filter bits)
  unfolding auto_tick input_of outcome
  good-exactly =
      good-by-input status (finite (float_of bits)) (finite (scaled_value s table bits) && finite pv) outcome bad-outcome usable-outcome
      ∙ ap (λ (b : Bool). good status && b) all-finite

right-true : (a b : Bool) → a && b ≡ true → b ≡ true
right-true true b h = h
right-true false b h = absurd (true≢false (sym h))

-- ---- OUT stays finite
-- a single that is finite
abbrev pub Finite : Float → Type 0
Finite x = T (fits binary32 x) × (finite x ≡ true)

-- the stored values that OUT can come from
pub record FiniteStore (s : Settings) (st : State) : Type 0 where
  pub value : Finite s.fsafe_value
  pub last : st.last.some ≡ true → Finite st.last.value
  pub out : finite (float_of st.out.bits) ≡ true
  pub operator : finite (float_of st.operator.bits) ≡ true

written : (x : Float) → Finite x → finite (float_of (bits_of x)) ≡ true
written x h = ap finite (float_back x h.0) ∙ h.1

scaled_fits : (s : Settings) (table : Table) (bits : ℕ) → T (fits binary32 (scaled_value s table bits))
unfolding scaled_value scaled_of at_fraction
scaled_fits s table bits = add-fits binary32 _ _

calculated-fits : (s : Settings) (table : Table) (old : Kept) (bits : ℕ) → T (fits binary32 (calculated s table old bits))
unfolding calculated filtered
calculated-fits s table old bits = go (eq s.pv_ftime (of_int binary32 (pos 0)) || not old.some)
  where
    x : Float
    x = scaled_value s table bits

    sum : Float
    sum =
        add binary32 old.value
        (div binary32 (sub binary32 x old.value) (add binary32 (mul binary32 s.pv_ftime (of_int binary32 (pos 10))) (of_int binary32 (pos 1))))

    go : (b : Bool) → T (fits binary32 (cond b x sum))
    go true = scaled_fits s table bits
    go false = add-fits binary32 _ _

module _ (s : Settings) (table : Table) (st : State) (h : FiniteStore s st) (mode bits status : ℕ) where
  finite_out : State → Type 0
  finite_out next = finite (float_of next.out.bits) ≡ true

  held-finite : (bad : ℕ) → finite_out (auto_by s table st mode bits status (Err bad))
  unfolding finite_out auto_by unusable_tick fail_safe_out of_bits
  held-finite bad =
      fail-safe-holds 0 s.fsafe_type (bits_of s.fsafe_value) _ _ st.out.bits bad finite_bits refl (written s.fsafe_value h.value)
      (present-holds finite_bits st.last.some _ (λ e. written st.last.value (h.last e)))
      (present-holds finite_bits (finite (scaled_value s table bits)) _ (λ e. written (scaled_value s table bits) (scaled_fits s table bits, e))) h.out
    where
      finite_bits : ℕ → Type 0
      finite_bits b = finite (float_of b) ≡ true

  usable-finite : finite (calculated s table st.filter bits) ≡ true → finite_out (auto_by s table st mode bits status usable_input)
  unfolding finite_out auto_by usable_tick
  usable-finite p = written (calculated s table st.filter bits) (calculated-fits s table st.filter bits, p)

  -- OUT of an Auto tick is finite (in Man it is the operator's, in O/S the old one).
  pub out-finite : finite (float_of (auto_tick s table st mode bits status).out.bits) ≡ true
  unfolding auto_tick input_of finite_out
  out-finite =
      input-holds status (finite (float_of bits)) (finite (scaled_value s table bits) && finite (calculated s table st.filter bits)) finite_out
      (auto_by s table st mode bits status) held-finite
      (λ v k. usable-finite (right-true (finite (scaled_value s table bits)) (finite (calculated s table st.filter bits)) k))

-- ---- one alarm in one tick
-- No alarm rises and falls in one tick: the hysteresis is at least 0, and rounding keeps the order.
pub not-both-ways : (low : Bool) (limit hysteresis out : Float) → T (fits binary32 limit) → is_nan limit ≡ false → finite hysteresis ≡ true
    → T (le (of_bits binary32 0) hysteresis)
    → T (rises low limit out) → T (falls low limit hysteresis out) → ⊥
unfolding rises falls
not-both-ways true limit hysteresis out F N H P r f = not-rise-and-fall binary32 limit hysteresis F N H P false out r f
not-both-ways false limit hysteresis out F N H P r f = not-rise-and-fall binary32 limit hysteresis F N H P true out r f

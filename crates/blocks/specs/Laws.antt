-- Laws that are the same for several blocks, over any kind of value. AIN and DI: when a tick is Good, and what holds of every value given. AO and DO: what a
-- status byte says of a telegram, refused telegrams, the count that stops, the decision, and what holds of every value given. Discrete values: that INVERT
-- leads to one. Assumes nothing.
use Rattle.std.specs.Prelude.{◌≡◌, cond, not, ◌&&◌, ◌||◌, ℕ, ◌+◌, ◌≤◌, min, eqb, ltb, Result, Ok, Err}
use Rattle.std.proofs.Math.Path.{refl}
use Rattle.std.proofs.Common.{sym, ap, ◌∙◌, subst, true≢false, arith, eqb-true, lt-ltb, le-ltb, ltb-true, ltb-false}
use Rattle.std.proofs.Math.Bool.{Bool, true, false}
use Rattle.std.specs.Prelude.{Option, None, Some}
use Rattle.wire.specs.Status.{quality_of, sub_status_of}
use Rattle.wire.specs.declared.Refusal.{Refusal}
use Rattle.blocks.specs.declared.setpoint.Class.{Class}
use Rattle.blocks.specs.declared.setpoint.Class.TheVariants.{Usable, InitiateFailSafe, Neither}
use Rattle.blocks.specs.declared.PairOf.{PairOf}
use Rattle.blocks.specs.Common.{out_of_service, man, held_at, in_mode, InputStatus, usable_input, input_status, good}
use Rattle.blocks.specs.Discrete.{is_discrete, exchanged, inverted, discrete_value}
use Rattle.blocks.specs.InputBlock.{present, last_usable_or, scaled_or_old, fail_safe_pair}
use Rattle.blocks.specs.declared.setpoint.Setpoint.{Setpoint}
use Rattle.blocks.specs.declared.setpoint.Case.TheVariants.{Following, Fallback, Held, Safety}
use Rattle.blocks.specs.declared.setpoint.Order.TheVariants.{Rest}
use Rattle.blocks.specs.declared.setpoint.Given.{Given}
use Rattle.blocks.specs.FailSafe.{class_of, class_number, usable, initiates, after_telegram, silence_after, fail_safe_acts, fail_safe_case, case_of}
use Rattle.blocks.specs.FailSafe.{not_followed, positioned, scaled_or, leads_to, by_mode}
use Rattle.blocks.specs.Output.{telegram_by}

-- ---- discrete values

-- 0 or 1
abbrev pub Discrete : ℕ → Type 0
Discrete value = is_discrete value ≡ true

pub inverted-discrete : (invert value : ℕ) → Discrete value → Discrete (inverted invert value)
unfolding inverted
inverted-discrete invert value h = go (eqb invert 1) (eqb value 0) (eqb value 1)
  where
    go : (a b c : Bool) → is_discrete (cond a (cond b 1 (cond c 0 value)) value) ≡ true
    go true true c = refl
    go true false true = refl
    go true false false = h
    go false b c = h

-- INVERT twice is none.
pub inverted-twice : (invert value : ℕ) → inverted invert (inverted invert value) ≡ value
unfolding inverted
inverted-twice invert value = go (eqb invert 1) (eqb value 0) refl (eqb value 1) refl
  where
    go : (a b : Bool) → eqb value 0 ≡ b → (c : Bool) → eqb value 1 ≡ c
        → cond a (exchanged (cond a (cond b 1 (cond c 0 value)) value)) (cond a (cond b 1 (cond c 0 value)) value) ≡ value
    go true true eb c ec = sym (eqb-true value 0 eb)
    go true false eb true ec = sym (eqb-true value 1 ec)
    go true false eb false ec = rw (eb, ec)
    go false b eb c ec = refl

pub value-discrete : (code : ℕ) → Discrete (discrete_value code)
unfolding discrete_value
value-discrete code = go (eqb code 1)
  where
    go : (b : Bool) → is_discrete (cond b 1 0) ≡ true
    go true = refl
    go false = refl

-- ---- input blocks, for any kind of value

-- Whatever holds in each mode holds.
pub mode-holds : {X : Type 0} (P : X → Type 0) (mode : ℕ) (in_out_of_service in_man in_auto : X) → P in_out_of_service → P in_man → P in_auto
    → P (in_mode mode in_out_of_service in_man in_auto)
mode-holds P mode x y z p q r = go (eqb mode out_of_service) (eqb mode man)
  where
    go : (a b : Bool) → P (cond a x (cond b y z))
    go true b = p
    go false true = q
    go false false = r

-- Whatever holds of a value if it is there holds of it as one that may be missing.
pub present-holds : {A : Type 0} (P : A → Type 0) (there : Bool) (x : A) → (there ≡ true → P x) → (v : A) → present there x ≡ Some v → P v
present-holds P true x h v e = let z : x ≡ v = cc in subst P z (h refl)
present-holds P false x h v e = let z : ◌≡◌ {A = ℕ} 0 1 = cc in absurd (omega arith)

module _ {A : Type 0} (zero : A) (kind : ℕ) (fsafe_value : A) (last scaled : Option A) (old : A) (bad : ℕ) where
  -- A8: what fail-safe gives is not Good, as no Bad status is.
  pub fail-safe-not-good : good bad ≡ false → good (fail_safe_pair zero kind fsafe_value last scaled old bad).status ≡ false
  unfolding fail_safe_pair
  fail-safe-not-good h = go (eqb kind 0) (eqb kind 1) last scaled
    where
      go : (a b : Bool) (x y : Option A)
          → good (cond a (record { value = fsafe_value; status = 0x48 }) (cond b (last_usable_or zero x) (scaled_or_old old bad y))).status ≡ false
      go true b x y = refl
      go false true None y = refl
      go false true (Some x) y = refl
      go false false x None = h
      go false false x (Some y) = h

  -- Whatever holds of each value that fail-safe can give holds of the one given.
  pub fail-safe-holds : (P : A → Type 0) → P zero → P fsafe_value → ((x : A) → last ≡ Some x → P x) → ((x : A) → scaled ≡ Some x → P x) → P old
      → P (fail_safe_pair zero kind fsafe_value last scaled old bad).value
  unfolding fail_safe_pair
  fail-safe-holds P z f l c o = go (eqb kind 0) (eqb kind 1) last l scaled c
    where
      go : (a b : Bool) (x : Option A) → ((v : A) → x ≡ Some v → P v) → (y : Option A) → ((v : A) → y ≡ Some v → P v)
          → P (cond a (record { value = fsafe_value; status = 0x48 }) (cond b (last_usable_or zero x) (scaled_or_old old bad y))).value
      go true b x l y c = f
      go false true None l y c = z
      go false true (Some v) l y c = l v refl
      go false false x l None c = o
      go false false x l (Some v) c = c v refl

-- A5: a status that is Bad by itself or counts as Bad is not Good
other-quality : (status k : ℕ) → eqb (quality_of status) k ≡ true → eqb k 2 ≡ false → good status ≡ false
other-quality status k h n = ap (λ (q : ℕ). eqb q 2) (eqb-true (quality_of status) k h) ∙ n

and-false : (b : Bool) → b && false ≡ false
and-false true = refl
and-false false = refl

and-true : (b : Bool) → b && true ≡ b
and-true true = refl
and-true false = refl

module _ (status : ℕ) (value calculated : Bool) where
  -- Whatever a tick gives for each Bad status, and for a usable input where value and calculated value pass, it gives for the input.
  pub input-holds : {X : Type 0} (P : X → Type 0) (given : InputStatus → X) → ((bad : ℕ) → P (given (Err bad)))
      → (value ≡ true → calculated ≡ true → P (given usable_input)) → P (given (input_status status value calculated))
  unfolding input_status
  input-holds P given b u = go (eqb (quality_of status) 3) (eqb (quality_of status) 0) value calculated u
    where
      go : (c z v k : Bool) → (v ≡ true → k ≡ true → P (given usable_input))
          → P (given (cond c (Err 0x04) (cond z (Err status) (cond (not v) (Err 0x10) (cond (not k) (Err 0x04) usable_input)))))
      go true z v k u = b 0x04
      go false true v k u = b status
      go false false false k u = b 0x10
      go false false true false u = b 0x04
      go false false true true u = u refl refl

  -- Where no Bad status leads to a Good one, and a usable input gives a Good one exactly for a Good input: Good is given exactly for a Good input whose value
  -- and calculated value pass.
  pub good-by-input : (given : InputStatus → ℕ) → ((bad : ℕ) → good bad ≡ false → good (given (Err bad)) ≡ false) → good (given usable_input) ≡ good status
      → good (given (input_status status value calculated)) ≡ good status && (value && calculated)
  unfolding input_status
  good-by-input given b u = go (eqb (quality_of status) 3) refl (eqb (quality_of status) 0) refl value calculated
    where
      also : Bool → Bool → Bool
      also passed g = g && passed

      go : (c : Bool) → eqb (quality_of status) 3 ≡ c → (z : Bool) → eqb (quality_of status) 0 ≡ z → (v k : Bool)
          → good (given (cond c (Err 0x04) (cond z (Err status) (cond (not v) (Err 0x10) (cond (not k) (Err 0x04) usable_input))))) ≡ good status && (v && k)
      go true ec z ez v k = b 0x04 refl ∙ sym (ap (also (v && k)) (other-quality status 3 ec refl))
      go false ec true ez v k = let q : good status ≡ false = other-quality status 0 ez refl in b status q ∙ sym (ap (also (v && k)) q)
      go false ec false ez false k = b 0x10 refl ∙ sym (and-false (good status))
      go false ec false ez true false = b 0x04 refl ∙ sym (and-false (good status))
      go false ec false ez true true = u ∙ sym (and-true (good status))

-- ---- telegrams

-- O1: usable: of either Good quality, with another sub-status than 8 and a finite value
pub usable-means : (status : ℕ) (finite_value : Bool)
    → usable status finite_value ≡ ((eqb (quality_of status) 2 || eqb (quality_of status) 3) && not (eqb (sub_status_of status) 8) && finite_value)
unfolding usable class_of
usable-means status finite_value = go (eqb (quality_of status) 2 || eqb (quality_of status) 3) (eqb (sub_status_of status) 8)
  where
    go : (good initiating : Bool)
        → (eqb (class_number (cond good (cond initiating InitiateFailSafe Usable) Neither)) 1 && finite_value) ≡ (good && not initiating && finite_value)
    go true true = refl
    go true false = refl
    go false initiating = refl

-- O1: IFS: of either Good quality, with sub-status 8
pub initiates-means : (status : ℕ) → initiates status ≡ ((eqb (quality_of status) 2 || eqb (quality_of status) 3) && eqb (sub_status_of status) 8)
unfolding initiates class_of
initiates-means status = go (eqb (quality_of status) 2 || eqb (quality_of status) 3) (eqb (sub_status_of status) 8)
  where
    go : (good initiating : Bool) → eqb (class_number (cond good (cond initiating InitiateFailSafe Usable) Neither)) 2 ≡ (good && initiating)
    go true true = refl
    go true false = refl
    go false initiating = refl

-- No telegram is both.
pub usable-excludes : (status : ℕ) (finite_value : Bool) → usable status finite_value ≡ true → initiates status ≡ false
unfolding usable initiates
usable-excludes status finite_value = go (class_of status)
  where
    go : (class : Class) → (eqb (class_number class) 1 && finite_value) ≡ true → eqb (class_number class) 2 ≡ false
    go Usable h = refl
    go InitiateFailSafe h = absurd (true≢false (sym h))
    go Neither h = refl

-- An input after a usable telegram, after an IFS and after another, for any kind of value.
module _ {A : Type 0} (status : ℕ) (finite_value : Bool) (value : A) (input : Setpoint A) where
  -- the same by the flag
  pub after-by-flag : after_telegram status (present finite_value value) input
      ≡ cond (usable status finite_value) (record { some = true; value = value; silence = 0; ifs = false }) (not_followed status input)
  unfolding after_telegram usable
  after-by-flag = go finite_value (eqb (class_number (class_of status)) 1)
    where
      go : (f u : Bool)
          → after_telegram status (present f value) input
          ≡ cond (eqb (class_number (class_of status)) 1 && f) (record { some = true; value = value; silence = 0; ifs = false }) (not_followed status input)
      go true u = refl
      go false u = rw (and-false (eqb (class_number (class_of status)) 1))

  pub after-usable : usable status finite_value ≡ true
      → after_telegram status (present finite_value value) input ≡ record { some = true; value = value; silence = 0; ifs = false }
  after-usable u = after-by-flag ∙ rw u

  pub after-ifs : usable status finite_value ≡ false → initiates status ≡ true
      → after_telegram status (present finite_value value) input
      ≡ record { some = input.some; value = input.value; silence = input.silence; ifs = true }
  after-ifs u i = after-by-flag ∙ rw (u, i)

  pub after-other : usable status finite_value ≡ false → initiates status ≡ false → after_telegram status (present finite_value value) input ≡ input
  after-other u i = after-by-flag ∙ rw (u, i)

-- A refused telegram leaves the state as it was.
pub refused-keeps : {S P : Type 0} (lacking : Bool) (take : P → S) (state : S) (received : Result P Refusal) (r : Refusal)
    → (telegram_by lacking take state received).answer ≡ Err r → (telegram_by lacking take state received).state ≡ state
refused-keeps true take state received r h = refl
refused-keeps false take state (Err q) r h = refl
refused-keeps false take state (Ok p) r h = let z : ◌≡◌ {A = ℕ} 0 1 = cc in absurd (omega arith)

-- Whatever holds of the state before a telegram, and after each pair taken, holds after it.
pub telegram-holds : {S P : Type 0} (H : S → Type 0) (lacking : Bool) (take : P → S) (state : S) (received : Result P Refusal) → H state
    → ((pair : P) → H (take pair)) → H (telegram_by lacking take state received).state
telegram-holds H true take state received h t = h
telegram-holds H false take state (Err q) h t = h
telegram-holds H false take state (Ok pair) h t = t pair

-- ---- the count

-- P13b: FSAFE_TIME is at most 65,535 ticks: the count that stops at 65,536 decides as the true one does.
pub stopped-decides : (came : Bool) (n : ℕ) (ifs : Bool) (time : ℕ) → time ≤ 65535
    → fail_safe_acts came (min n 65536) ifs time ≡ fail_safe_acts came n ifs time
unfolding fail_safe_acts
stopped-decides came n ifs time h = ap (λ (b : Bool). not came || b || ifs) (go (ltb time n) refl)
  where
    go : (b : Bool) → ltb time n ≡ b → ltb time (min n 65536) ≡ ltb time n
    go true e = rw e (lt-ltb time (min n 65536) (omega (arith, ltb-true time n e)))
    go false e = rw e (le-ltb time (min n 65536) (omega (arith, ltb-false time n e)))

-- Counted from the true count or from the stopped one, the next is the same.
pub stopped-counts : (n : ℕ) → silence_after true (min n 65536) ≡ min (n + 1) 65536
unfolding silence_after
stopped-counts n = omega arith

-- ---- the decision, for any kind of value

module _ {A : Type 0} (time kind : ℕ) (fsafe_value : A) (input : Setpoint A) where
  pub case-fail-safe : fail_safe_acts input.some input.silence input.ifs time ≡ true
      → case_of time kind fsafe_value input ≡ fail_safe_case kind fsafe_value input.some input.value
  unfolding case_of
  case-fail-safe h = rw h

  pub case-following : fail_safe_acts input.some input.silence input.ifs time ≡ false → case_of time kind fsafe_value input ≡ Following input.value
  unfolding case_of
  case-following h = rw h

-- An input's value after a telegram: whatever holds of it before, and of the telegram's where that passes, holds after it.
pub after-telegram-holds : {A : Type 0} (Q : A → Type 0) (status : ℕ) (finite_value : Bool) (value : A) (input : Setpoint A)
    → Q input.value → (finite_value ≡ true → Q value) → Q (after_telegram status (present finite_value value) input).value
unfolding after_telegram
after-telegram-holds {A} Q status finite_value value input old new = go finite_value new
  where
    other : Q (not_followed status input).value
    other = by (initiates status)
      where
        by : (i : Bool)
            → Q (cond {A = Setpoint A} i (record { some = input.some; value = input.value; silence = input.silence; ifs = true }) input).value
        by true = old
        by false = old

    taken : Q value → (u : Bool)
        → Q (cond {A = Setpoint A} u (record { some = true; value = value; silence = 0; ifs = false }) (not_followed status input)).value
    taken v true = v
    taken v false = other

    go : (f : Bool) → (f ≡ true → Q value) → Q (after_telegram status (present f value) input).value
    go true new = taken (new refl) (usable status true)
    go false new = other

-- Whatever holds of old OUT and of all that scaling leads to, from FSAFE_VALUE and from the input's value, holds of the value that a case leads to. What is
-- known of these two is Q.
module _ {A O : Type 0} (Q : A → Type 0) (P : O → Type 0) (scaled : A → Option O) (old : O) (kept : P old)
    (each : (w : A) → Q w → (out : O) → scaled w ≡ Some out → P out) where
  scaled-holds : (status : ℕ) (o : Option O) → ((out : O) → o ≡ Some out → P out) → P (scaled_or old status o).out.value
  scaled-holds status None h = kept
  scaled-holds status (Some out) h = h out refl

  pub led-holds : (time kind : ℕ) (fsafe_value : A) (input : Setpoint A) → Q fsafe_value → Q input.value
      → P (leads_to scaled old (case_of time kind fsafe_value input)).out.value
  unfolding leads_to case_of fail_safe_case
  led-holds time kind fsafe_value input f v =
      go (fail_safe_acts input.some input.silence input.ifs time) (eqb kind 0) (eqb kind 1) input.some
    where
      go : (a b c d : Bool)
          → P (leads_to scaled old
          (cond a (cond b (Fallback fsafe_value) (cond c (Held (present d input.value)) Safety)) (Following input.value))).out.value
      go true true c d = scaled-holds 0x48 (scaled fsafe_value) (each fsafe_value f)
      go true false true true = scaled-holds 0x44 (scaled input.value) (each input.value v)
      go true false true false = kept
      go true false false d = kept
      go false b c d = scaled-holds 0x80 (scaled input.value) (each input.value v)

pub given_holds : {O : Type 0} (P : O → Type 0) (mode : ℕ) (old : O) (operator : PairOf O) (led : Given O) → P old → P operator.value → P led.out.value
    → P (by_mode mode old operator led).out.value
unfolding by_mode
given_holds P mode old operator led h o l = go (eqb mode 0x80) (eqb mode 0x10)
  where
    go : (a b : Bool) → P (cond a (record { out = held_at old; order = Rest }) (cond b (positioned operator) led)).out.value
    go true b = h
    go false true = o
    go false false = l

-- R15: in Auto and RCas, the actual mode being neither O/S nor Man, value, status and order are those of FSAFE_TYPE's case where fail-safe acts, and else
-- those by the last usable telegram.
module _ {A O : Type 0} (scaled : A → Option O) (old : O) (operator : PairOf O) (time kind : ℕ) (fsafe_value : A) (input : Setpoint A) (mode : ℕ)
    (in-service : eqb mode out_of_service ≡ false) (not-Man : eqb mode man ≡ false) where
  pub gives-fail-safe : fail_safe_acts input.some input.silence input.ifs time ≡ true
      → by_mode mode old operator (leads_to scaled old (case_of time kind fsafe_value input))
      ≡ leads_to scaled old (fail_safe_case kind fsafe_value input.some input.value)
  unfolding by_mode
  gives-fail-safe h = rw (in-service, not-Man) (ap (leads_to scaled old) (case-fail-safe time kind fsafe_value input h))

  pub gives-following : fail_safe_acts input.some input.silence input.ifs time ≡ false
      → by_mode mode old operator (leads_to scaled old (case_of time kind fsafe_value input)) ≡ leads_to scaled old (Following input.value)
  unfolding by_mode
  gives-following h = rw (in-service, not-Man) (ap (leads_to scaled old) (case-following time kind fsafe_value input h))

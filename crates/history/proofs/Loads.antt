-- Tables by the rules: what bytes are refused for, what a value becomes, and the device by the rules over a load. Assumes nothing.
use Rattle.std.specs.Prelude.{Ok, Err, Option, None, Some}
use Prim.Native.Nat.{ℕ, ◌/◌, ◌%◌, ◌<◌, ◌≤◌}
use native.Mathlib.Omega.{arith}
use mathlib.Core.Path.{◌≡◌, refl, sym, ap, ◌∙◌, subst}
use mathlib.Core.Bool.{Bool, true, false, not, ◌&&◌, cond}
use mathlib.Core.List.{List, [], ◌∷◌}
use Rattle.std.specs.Prelude.{Result, Ok, Err}
use lib.Dec.{T, eqb, leb, ltb, eqb→eq, leb→le, le→leb, ltb→lt}
use lib.Ieee.Fits.{and_l, and_r, and_i}
use lib.Ieee.{Float, lt, le}
use lib.Ieee.Scale.{finite}
use lib.ListN.{length}
use borrow.Author.Tests.{ltb-false, ne_eqb}
use Rattle.wire.specs.declared.Refusal.{Refusal}
use Rattle.wire.specs.Refusal.{granted, ground}
use Rattle.wire.specs.Refusal.{Answer}
use Rattle.linearisation.specs.declared.Point.{Point}
use Rattle.linearisation.specs.declared.Table.{Table}
use Rattle.linearisation.specs.Table.{table_of, has_table, pairs_in, whole_pairs, follow, allowed, loaded_of}
use Rattle.linearisation.specs.Value.{or_here, used_on, between, by_used, value_at}
use Rattle.linearisation.specs.Laws.{pairs-back, made-valid}
use Rattle.ain.specs.Tick as Ain
use Rattle.ao.specs.State.{input_from}
use Rattle.dout.specs.State as Dout
use Rattle.device.specs.declared.Device.{Device}
use Rattle.device.specs.Calls.{Answered}
use Rattle.device.specs.Calls.{load_by, load_of}
use Rattle.history.specs.Past.{History, ◌▷◌, told, count, latest, carried}
use Rattle.history.specs.Calls.{Event, loaded}
use Rattle.history.specs.Rules.{Drive, analog_out, discrete_out, discrete, or_else, stored, table, along, said, lowest, linear, measured, is_whole, all_finite, rising, code, refused, tabled, to_load, is_static_write, st_rev, operator, total}
use Rattle.history.proofs.Ruled.{input_at, ao_input, dout_input, ain_at, tot_at, ao_at, di_at, dout_at, ain_in, tot_in, ao_in, di_in, dout_in, device_of, ain-left, tot-left, ao-left, di-left, dout-left, rev-step, input-still}

-- ---- what a value becomes

-- what the pairs from the one used on make of it
abbrev spoken : List Point → Float → Option Float
spoken [] x = None
spoken (p ∷ ps) x = Some (along p ps x)

said-is : (ps : List Point) (x : Float) → said ps x ≡ spoken (used_on x ps) x
unfolding said used_on
said-is [] x = refl
said-is (p ∷ ps) x = ap (λ (o : Option Float). told o (cond (le p.x x) (Some (along p ps x)) None)) (said-is ps x) ∙ go (used_on x ps) (le p.x x)
  where
    go : (u : List Point) (b : Bool) → told (spoken u x) (cond b (Some (along p ps x)) None) ≡ spoken (or_here u (cond b (p ∷ ps) [])) x
    go [] true = refl
    go [] false = refl
    go (q ∷ u) b = refl

pub linear-is : (ps : List Point) (x : Float) → value_at ps x ≡ linear ps x
unfolding value_at linear between
linear-is ps x = go (finite x) (used_on x ps) ∙ ap (λ (o : Option Float). cond (finite x) (or_else (lowest ps x) o) x) (sym (said-is ps x))
  where
    first : (qs : List Point) → by_used qs [] x ≡ lowest qs x
    first [] = refl
    first (q ∷ qs) = refl

    by : (u : List Point) → by_used ps u x ≡ or_else (lowest ps x) (spoken u x)
    by [] = first ps
    by (p ∷ []) = refl
    by (p ∷ q ∷ u) = refl

    go : (f : Bool) (u : List Point) → cond (not f) x (by_used ps u x) ≡ cond f (or_else (lowest ps x) (spoken u x)) x
    go true u = by u
    go false u = refl

pub measured-is : (h : History Event) (x : Float) → Ain.measured (code h 1 13) (table_of (table h)) x ≡ measured h x
unfolding Ain.measured
measured-is h x = ap (λ (y : Float). cond (eqb (code h 1 13) 1) y x) (ap (λ (ps : List Point). value_at ps x) (pairs-back (table h)) ∙ linear-is (table h) x)

-- ---- what bytes are refused for

pub refused-other : {r : Refusal} → Err r ≡ granted → ⊥
refused-other e = let z : ◌≡◌ {A = ℕ} 0 1 = cc in omega arith

same : (a b : Bool) → (T a → T b) → (T b → T a) → a ≡ b
same true true f g = refl
same true false f g = absurd (f tt)
same false true f g = absurd (g tt)
same false false f g = refl

not-ltb : (a b : ℕ) → b ≤ a → T (not (ltb a b))
not-ltb a b h = go (ltb a b) refl
  where
    go : (q : Bool) → ltb a b ≡ q → T (not q)
    go true e = absurd (over (ltb→lt a b (subst T (sym e) tt)))
      where
        over : a < b → ⊥
        over k = omega arith
    go false e = tt

of-not-ltb : (a b : ℕ) → T (not (ltb a b)) → b ≤ a
of-not-ltb a b t = go (ltb a b) refl t
  where
    go : (q : Bool) → ltb a b ≡ q → T (not q) → b ≤ a
    go true e t = absurd t
    go false e t = ltb-false a b e

module _ (n : ℕ) where
  abbrev e : Bool
  e = eqb (n % 8) 0

  abbrev l : Bool
  l = leb 2 (n / 8)

  abbrev m : Bool
  m = leb (n / 8) 21

  abbrev l' : Bool
  l' = not (ltb n 16)

  abbrev m' : Bool
  m' = not (ltb 168 n)

  in_eights : n % 8 ≡ 0 → n / 8 ≤ 21 → n ≤ 168
  in_eights z h = omega arith

  two : 2 ≤ n / 8 → 16 ≤ n
  two h = omega arith

  half : 16 ≤ n → 2 ≤ n / 8
  half h = omega arith

  few : n ≤ 168 → n / 8 ≤ 21
  few h = omega arith

  to : T (e && l && m) → T (e && l' && m')
  to t =
      let te = and_l e l (and_l (e && l) m t) in
      and_i (e && l') m' (and_i e l' te (not-ltb n 16 (two (leb→le 2 (n / 8) (and_r e l (and_l (e && l) m t))))))
      (not-ltb 168 n (in_eights (eqb→eq (n % 8) 0 te) (leb→le (n / 8) 21 (and_r (e && l) m t))))

  from : T (e && l' && m') → T (e && l && m)
  from t =
      let te = and_l e l' (and_l (e && l') m' t) in
      and_i (e && l) m (and_i e l te (le→leb 2 (n / 8) (half (of-not-ltb n 16 (and_r e l' (and_l (e && l') m' t))))))
      (le→leb (n / 8) 21 (few (of-not-ltb 168 n (and_r (e && l') m' t))))

  whole_same : whole_pairs n ≡ is_whole n
  unfolding whole_pairs is_whole
  whole_same = same (e && l && m) (e && l' && m') to from

-- pairs that follow one another: their numbers are finite, and each x lies above the one before
follow-same : (p : Point) (ps : List Point) → follow p.x ps ≡ (all_finite ps && rising (p ∷ ps))
unfolding follow
follow-same p [] = refl
follow-same p (q ∷ ps) =
    ap (λ (b : Bool). finite q.x && finite q.y && lt p.x q.x && b) (follow-same q ps)
    ∙ go (finite q.x) (finite q.y) (lt p.x q.x) (all_finite ps) (rising (q ∷ ps))
  where
    go : (a b l f r : Bool) → (a && b && l && (f && r)) ≡ (a && b && f && (l && r))
    go false b l f r = refl
    go true false l f r = refl
    go true true true f r = refl
    go true true false true r = refl
    go true true false false r = refl

allowed_same : (ps : List Point) → allowed ps ≡ (all_finite ps && rising ps)
unfolding allowed
allowed_same [] = refl
allowed_same (p ∷ ps) = ap (λ (b : Bool). finite p.x && finite p.y && b) (follow-same p ps) ∙ go (finite p.x) (finite p.y) (all_finite ps) (rising (p ∷ ps))
  where
    go : (a b f r : Bool) → (a && b && (f && r)) ≡ (a && b && f && r)
    go true true f r = refl
    go true false f r = refl
    go false b f r = refl

-- ---- a load

-- what bytes are answered, whatever the lock
abbrev judged : List ℕ → Answer
judged bytes = cond (not (is_whole (length bytes))) (refused 9) (cond (not (all_finite (pairs_in bytes) && rising (pairs_in bytes))) (refused 10) granted)

-- what a load answers
abbrev answered : Result Table Refusal → Answer
answered (Ok table) = granted
answered (Err r) = Err r

loaded-answer : (bytes : List ℕ) → answered (loaded_of bytes) ≡ judged bytes
unfolding loaded_of
loaded-answer bytes =
    (λ i. answered (cond (not (whole_same (length bytes) i)) (Err (ground 9)) (cond (not (allowed_same (pairs_in bytes) i)) (Err (ground 10)) (Ok (table_of (pairs_in bytes))))))
    ∙ go (is_whole (length bytes)) (all_finite (pairs_in bytes) && rising (pairs_in bytes))
  where
    go : (w a : Bool) → answered (cond (not w) (Err (ground 9)) (cond (not a) (Err (ground 10)) (Ok (table_of (pairs_in bytes)))))
        ≡ cond (not w) (refused 9) (cond (not a) (refused 10) granted)
    go false a = refl
    go true false = refl
    go true true = refl

-- accepted bytes are a table of their pairs, and it has some
accepted-table : (bytes : List ℕ) → judged bytes ≡ granted → (loaded_of bytes ≡ Ok (table_of (pairs_in bytes))) × (has_table (table_of (pairs_in bytes)) ≡ true)
accepted-table bytes e =
    let t = is-table (loaded-answer bytes ∙ e) in
    (t, ap not (ne_eqb (length (pairs_in bytes)) 0 (some_pairs (made-valid bytes (table_of (pairs_in bytes)) t).count.0)))
  where
    some_pairs : {n : ℕ} → 2 ≤ n → n ≡ 0 → ⊥
    some_pairs h z = omega arith

    is-table : answered (loaded_of bytes) ≡ granted → loaded_of bytes ≡ Ok (table_of (pairs_in bytes))
    is-table = unfold loaded_of in go (whole_pairs (length bytes)) (allowed (pairs_in bytes))
      where
        go : (w a : Bool) → answered (cond (not w) (Err (ground 9)) (cond (not a) (Err (ground 10)) (Ok (table_of (pairs_in bytes))))) ≡ granted
            → cond (not w) (Err (ground 9)) (cond (not a) (Err (ground 10)) (Ok (table_of (pairs_in bytes)))) ≡ Ok (table_of (pairs_in bytes))
        go false a e = absurd (refused-other e)
        go true false e = absurd (refused-other e)
        go true true e = refl

-- the device's answer
pub load-answer : (h : History Event) (bytes : List ℕ) → (load_of (device_of h) bytes).answer ≡ to_load h bytes
unfolding load_of device_of to_load
load-answer h bytes = go (eqb (code h 0 18) 0) (loaded_of bytes) (loaded-answer bytes)
  where
    by : (x : Result Table Refusal) → (load_by (device_of h) x).answer ≡ answered x
    by (Ok table) = refl
    by (Err r) = refl

    go : (p : Bool) (x : Result Table Refusal) → answered x ≡ judged bytes
        → (cond p (record { device = device_of h; answer = refused 4 }) (load_by (device_of h) x)).answer ≡ cond p (refused 4) (judged bytes)
    go true x e = refl
    go false x e = by x ∙ e

-- the device after a load, by its answer
pub load-refused : (d : Device) (bytes : List ℕ) (r : Refusal) → (load_of d bytes).answer ≡ Err r → (load_of d bytes).device ≡ d
unfolding load_of
load-refused d bytes r = go (eqb d.write_locking 0) (loaded_of bytes)
  where
    go : (p : Bool) (x : Result Table Refusal) → (cond p (record { device = d; answer = refused 4 }) (load_by d x)).answer ≡ Err r
        → (cond p (record { device = d; answer = refused 4 }) (load_by d x)).device ≡ d
    go true x e = refl
    go false (Ok table) e = absurd (refused-other (sym e))
    go false (Err s) e = refl

module _ (h : History Event) (bytes : List ℕ) where
  abbrev then : History Event
  then = h ▷ loaded bytes

  input-same : {A : Type 0} (d : Drive A) (i : ℕ) → input_at d i h ≡ input_at d i then
  input-same d i = sym (input-still d i (loaded bytes) refl h refl refl)

  ain-same : ain_in h ≡ ain_in then
  unfolding ain_in operator latest
  ain-same = ain-left h (loaded bytes) (λ A f s o. refl) (operator 1 h) refl

  tot-same : tot_in h ≡ tot_in then
  unfolding tot_in operator latest total carried
  tot-same = tot-left h (loaded bytes) (λ A f s o. refl) (total h) (operator 2 h).status refl refl

  ao-same : ao_in h ≡ ao_in then
  unfolding ao_in operator latest
  ao-same = ao-left h (loaded bytes) (λ A f s o. refl) (operator 3 h) (ao_input 0 h) (ao_input 1 h) refl (ap input_from (input-same analog_out 0)) (ap input_from (input-same analog_out 1))

  di-same : di_in h ≡ di_in then
  unfolding di_in operator latest
  di-same = di-left h (loaded bytes) (λ A f s o. refl) (discrete (operator 4 h)) refl

  dout-same : dout_in h ≡ dout_in then
  unfolding dout_in operator latest
  dout-same = dout-left h (loaded bytes) (λ A f s o. refl) (discrete (operator 5 h)) (dout_input 2 h) (dout_input 3 h) refl (ap Dout.input_from (input-same discrete_out 2)) (ap Dout.input_from (input-same discrete_out 3))

  module _ (e : to_load h bytes ≡ granted) where
    parts : (eqb (code h 0 18) 0 ≡ false) × (judged bytes ≡ granted)
    parts = go (eqb (code h 0 18) 0) (unfold to_load in e)
      where
        go : (p : Bool) → cond p (refused 4) (judged bytes) ≡ granted → (p ≡ false) × (judged bytes ≡ granted)
        go true e = absurd (refused-other e)
        go false e = (refl, e)

    unlocked : load_of (device_of h) bytes ≡ load_by (device_of h) (Ok (table_of (pairs_in bytes)))
    unfolding load_of device_of
    unlocked = rw parts.0 (ap (load_by (device_of h)) (accepted-table bytes parts.1).0)

    -- an accepted load leads from the device by the rules to the next
    pub ruled-load : (load_of (device_of h) bytes).device ≡ device_of then
    unfolding device_of stored latest table ain_at tot_at ao_at di_at dout_at st_rev count
    ruled-load = ap (λ (x : Answered). x.device) unlocked ∙ (λ i. record {
      write_locking = code h 0 18;
      ain = record { settings = ain_at h; state = ain-same i; st_rev = rev-step true (count (is_static_write 1) h) i; table = table_of (pairs_in bytes) };
      tot = record { settings = tot_at h; state = tot-same i; st_rev = st_rev h 2 };
      ao = record { settings = ao_at h; state = ao-same i; st_rev = st_rev h 3 };
      di = record { settings = di_at h; state = di-same i; st_rev = st_rev h 4 };
      dout = record { settings = dout_at h; state = dout-same i; st_rev = st_rev h 5 };
    })

    -- and a table came
    pub loaded-came : has_table (table_of (table then)) ≡ tabled then
    unfolding table tabled latest
    loaded-came = (accepted-table bytes parts.1).1

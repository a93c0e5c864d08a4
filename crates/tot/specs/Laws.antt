-- Laws of TOT's definitions, for callers: the total stays within its limit, the value given is finite, ticks in O/S and Man
-- leave the total, and a tick never moves two totals apart. Assumes nothing.
use Rattle.std.specs.Prelude.{◌≡◌, refl, Bool, true, false, not, ◌&&◌, ◌||◌, cond, ℕ, suc, ◌*◌, ◌^◌, ◌≤◌, T, ltb, eqb, ℤ, pos, negsuc, neg_ℤ, nat_abs, ◌+ℤ◌, ◌-ℤ◌, Float}
use Rattle.std.proofs.Common.{sym, ap, zero-le, le_refl, le_trans, le_of_eq, le_of_lt, lt_of_le_of_lt, zero-lt-suc, mul-pos, arith, le-ltb, ltb→lt, eqb→eq, lit≤, lit<}
use Rattle.std.proofs.Math.IntN.{+ℤ_comm, +ℤ_invr}
use Rattle.std.specs.Int.Signed.{non_neg}
use Rattle.std.specs.Float.{nan, inf, fin, binary32}
use Rattle.std.specs.Float.Ieee.{unlike, up, down, round, mul, div, le, of_int, to_signed}
use Rattle.std.specs.Float.Ieee.Fits.{down_pos, div-fits}
use Rattle.std.specs.Float.Ieee.Exact.{HasValue}
use Rattle.std.specs.Float.Ieee.Scale.{finite}
use Rattle.numbers.specs.Floats.{float_of}
use Rattle.numbers.specs.FloatLaws.{float_back}
use Rattle.numbers.specs.Whole.{cut_of, highest24, highest24ℤ}
use Rattle.numbers.specs.WholeLaws.{apart-pp, apart-np, limit-within, limit-sum-near, cut-round-within, highest-value, value-exact, value-finite, round-finite}
use Rattle.blocks.specs.declared.Kept.{Kept}
use Rattle.blocks.specs.Common.{out_of_service, man, actual_mode}
use Rattle.tot.specs.declared.Settings.{Settings}
use Rattle.tot.specs.declared.State.{State}
use Rattle.tot.specs.Total.{total_factor, rate_factor, value_limit, increment_limit, total_limit, increment_of, wanted, thousandths_of, sum_of, next_total}
use Rattle.tot.specs.Total.{value_given, given_bits}
use Rattle.blocks.specs.Laws.{mode-holds}
use Rattle.tot.specs.Tick.{tick_adds, auto_total, auto_tick, man_tick, out_of_service_tick, tick_by, tick_of}

-- ---- the limits

pub increment-within : (rate : Float) → nat_abs (increment_of rate) ≤ increment_limit
unfolding increment_of
increment-within rate = limit-within increment_limit (cut_of (mul binary32 rate (of_int binary32 (pos rate_factor))))

pub sum-within : (total z : ℤ) → nat_abs (sum_of total z) ≤ total_limit
unfolding sum_of
sum-within total z = limit-within total_limit (total +ℤ z)

-- P12a, P12e: the range of PRESET_TOT and of a written TOTAL
abbrev pub Writable : Float → Type 0
Writable value = T (le (of_int binary32 (neg_ℤ (pos value_limit))) value) × T (le value (of_int binary32 (pos value_limit)))

-- what `le` of two floats of one sign says: a test of less, or one of equality
either : (t u : Bool) {X : Type 0} → (T t → X) → (T u → X) → T (t || (u && true)) → X
either true u f g h = f tt
either false true f g h = g tt
either false false f g h = absurd h

-- the constants as floats
billion : of_int binary32 (pos value_limit) ≡ fin false 1953125 (pos 9)
unfolding of_int
billion = refl

minus-billion : of_int binary32 (neg_ℤ (pos value_limit)) ≡ fin true 1953125 (pos 9)
unfolding of_int
minus-billion = refl

thousand : of_int binary32 (pos total_factor) ≡ fin false 125 (pos 3)
unfolding of_int
thousand = refl

-- the largest such value × 1000, and that it is within the limit
largest : cut_of (round binary32 false (value_limit * total_factor) 1) ≡ pos 999999995904
unfolding round to_signed
largest = refl

-- a magnitude within the range, × 1000, against the end × 1000
scaled : (x d : ℕ) → x * 1 ≤ value_limit * d → x * total_factor * 1 ≤ value_limit * total_factor * (d * 1)
scaled x d h = omega arith

product : (s : Bool) (m : ℕ) (e : ℤ) → mul binary32 (fin s m e) (fin false 125 (pos 3)) ≡ round binary32 s (m * up e * total_factor) (down e * 1)
unfolding mul
product true m e = refl
product false m e = refl

magnitude : (s : Bool) (m : ℕ) (e : ℤ) → m * up e * 1 ≤ value_limit * down e → nat_abs (thousandths_of (fin s m e)) ≤ total_limit
unfolding thousandths_of
magnitude s m e h =
    rw (thousand, product s m e)
    (le_trans (cut-round-within binary32 s (m * up e * total_factor) (down e * 1) (value_limit * total_factor) 1 999999995904
    (mul-pos (down_pos e) (zero-lt-suc 0)) (zero-lt-suc 0) (scaled (m * up e) (down e) h) largest (lit< tt)) (lit≤ tt))

le-side : (s : Bool) (m : ℕ) (e : ℤ) → T (le (fin true 1953125 (pos 9)) (fin s m e)) → T (le (fin s m e) (fin false 1953125 (pos 9)))
    → m * up e * 1 ≤ value_limit * down e
unfolding le
le-side true m e h k =
    let a = value_limit * down e in
    let b = m * up e * 1 in
    either (ltb b a) (eqb a b) (λ t. le_of_lt (ltb→lt b a t)) (λ t. le_of_eq (sym (eqb→eq a b t))) h
le-side false m e h k =
    let a = m * up e * 1 in
    let b = value_limit * down e in
    either (ltb a b) (eqb a b) (λ t. le_of_lt (ltb→lt a b t)) (λ t. le_of_eq (eqb→eq a b t)) k

within_of : (value : Float) → T (le (fin true 1953125 (pos 9)) value) → T (le value (fin false 1953125 (pos 9))) → nat_abs (thousandths_of value) ≤ total_limit
within_of nan h k = absurd (unfold le in h)
within_of (inf true) h k = absurd (unfold le in h)
within_of (inf false) h k = absurd (unfold le in k)
within_of (fin s m e) h k = magnitude s m e (le-side s m e h k)

pub thousandths-within : (value : Float) → Writable value → nat_abs (thousandths_of value) ≤ total_limit
thousandths-within value h = within_of value (rw minus-billion at h.0) (rw billion at h.1)

pub next-within : (set_tot : ℕ) (preset_tot : Float) (total z : ℤ) → Writable preset_tot → nat_abs (next_total set_tot preset_tot total z) ≤ total_limit
unfolding next_total
next-within set_tot preset_tot total z h = go (eqb set_tot 0) (eqb set_tot 1)
  where
    go : (a b : Bool) → nat_abs (cond a (sum_of total z) (cond b (pos 0) (thousandths_of preset_tot))) ≤ total_limit
    go true b = sum-within total z
    go false true = zero-le
    go false false = thousandths-within preset_tot h

-- ---- the total by the mode

by_mode : (s : Settings) (st : State) (mode bits status : ℕ) (P : ℤ → Type 0)
    → P st.total → P (auto_total s st.total st.rate bits status) → P (tick_by s st mode bits status).total
unfolding tick_by out_of_service_tick man_tick auto_tick
by_mode s st mode bits status P p q = mode-holds (λ (x : State). P x.total) mode (out_of_service_tick st) (man_tick st) (auto_tick s st mode bits status) p p q

-- from a total within its limit to one within it
pub tick-within : (s : Settings) (st : State) (fault : Bool) (bits status : ℕ) → Writable s.preset_tot → nat_abs st.total ≤ total_limit
    → nat_abs (tick_of s st fault bits status).total ≤ total_limit
unfolding tick_of auto_total
tick-within s st fault bits status h k =
    by_mode s st (actual_mode fault s.target) bits status (λ z. nat_abs z ≤ total_limit) k
    (next-within s.set_tot s.preset_tot st.total (tick_adds s.mode_tot s.fail_tot st.rate bits status) h)

-- in O/S and Man nothing moves it
pub out-of-service-still : (s : Settings) (st : State) (bits status : ℕ) → (tick_by s st out_of_service bits status).total ≡ st.total
unfolding tick_by out_of_service_tick
out-of-service-still s st bits status = refl

pub man-still : (s : Settings) (st : State) (bits status : ℕ) → (tick_by s st man bits status).total ≡ st.total
unfolding tick_by man_tick
man-still s st bits status = refl

-- ---- the value given

quotient : (x : Float) (s : Bool) (h : ℕ) → HasValue x s h 1 → T (finite (round binary32 false h 1)) → T (finite (div binary32 x (fin false 125 (pos 3))))
unfolding div
quotient nan s h v t = absurd v
quotient (inf u) s h v t = absurd v
quotient (fin u m e) s h v t =
    round-finite binary32 (unlike u false) (m * up e * 1) (total_factor * down e) h 1 (mul-pos (lit< tt) (down_pos e)) (zero-lt-suc 0)
    (below (m * up e) (down e) h v.1) t
  where
    below : (x d h : ℕ) → x * 1 ≡ h * d → x * 1 * 1 ≤ h * (total_factor * d)
    below x d h e = omega (arith, e)

pub value-given-finite : (total : ℤ) → nat_abs total ≤ 2 ^ 63 → T (finite (value_given total))
unfolding value_given
value-given-finite total h =
    rw thousand
    (quotient (of_int binary32 (highest24ℤ total)) (not (non_neg total)) (highest24 (nat_abs total)) (value-exact total h)
    (value-finite (round binary32 false (highest24 (nat_abs total)) 1) false (highest24 (nat_abs total)) 1
    (highest-value false (nat_abs total) (lt_of_le_of_lt h (lit< tt)))))

-- the bits given stand for that value
pub given_is : (total : ℤ) → float_of (given_bits total) ≡ value_given total
unfolding given_bits value_given
given_is total =
    float_back (div binary32 (of_int binary32 (highest24ℤ total)) (of_int binary32 (pos total_factor)))
    (div-fits binary32 (of_int binary32 (highest24ℤ total)) (of_int binary32 (pos total_factor)))

-- ---- how far two totals lie apart

same : (z : ℤ) → nat_abs (z -ℤ z) ≤ 0
same z = le_of_eq (ap nat_abs (+ℤ_invr z))

-- MODE_TOT never moves two increments apart. It keeps or drops those not below 0 (p) and those below 0 (n)
abbrev picked : Bool → Bool → ℤ → ℤ
picked p n (pos a) = cond p (pos a) (pos 0)
picked p n (negsuc a) = cond n (negsuc a) (pos 0)

wanted-is : (mode_tot : ℕ) (z : ℤ) → wanted mode_tot z ≡ picked (eqb mode_tot 0 || eqb mode_tot 1) (eqb mode_tot 0 || eqb mode_tot 2) z
unfolding wanted
wanted-is mode_tot (pos a) = rw (le-ltb a 0 zero-le) (go (eqb mode_tot 0) (eqb mode_tot 1) (eqb mode_tot 2) (pos a))
  where
    go : (a b c : Bool) (z : ℤ) → cond (a || b && true || c && false) z (pos 0) ≡ cond (a || b) z (pos 0)
    go true b c z = refl
    go false true c z = refl
    go false false true z = refl
    go false false false z = refl
wanted-is mode_tot (negsuc a) = go (eqb mode_tot 0) (eqb mode_tot 1) (eqb mode_tot 2) (negsuc a)
  where
    go : (a b c : Bool) (z : ℤ) → cond (a || b && false || c && true) z (pos 0) ≡ cond (a || c) z (pos 0)
    go true b c z = refl
    go false true true z = refl
    go false true false z = refl
    go false false true z = refl
    go false false false z = refl

picked-near : (p n : Bool) (a b : ℤ) → nat_abs (picked p n a -ℤ picked p n b) ≤ nat_abs (a -ℤ b)
picked-near true n (pos a) (pos b) = le_refl (nat_abs (pos a -ℤ pos b))
picked-near false n (pos a) (pos b) = zero-le
picked-near true true (pos a) (negsuc b) = le_refl (nat_abs (pos a -ℤ negsuc b))
picked-near true false (pos a) (negsuc b) = omega arith
picked-near false true (pos a) (negsuc b) = omega arith
picked-near false false (pos a) (negsuc b) = zero-le
picked-near true true (negsuc a) (pos b) = le_refl (nat_abs (negsuc a -ℤ pos b))
picked-near true false (negsuc a) (pos b) = rw (apart-pp 0 b, apart-np (suc a) b) (omega arith)
picked-near false true (negsuc a) (pos b) = rw (apart-np (suc a) 0, apart-np (suc a) b) (omega arith)
picked-near false false (negsuc a) (pos b) = zero-le
picked-near p true (negsuc a) (negsuc b) = le_refl (nat_abs (negsuc a -ℤ negsuc b))
picked-near p false (negsuc a) (negsuc b) = zero-le

pub wanted-near : (mode_tot : ℕ) (a b : ℤ) → nat_abs (wanted mode_tot a -ℤ wanted mode_tot b) ≤ nat_abs (a -ℤ b)
wanted-near mode_tot a b = rw (wanted-is mode_tot a, wanted-is mode_tot b)
    (picked-near (eqb mode_tot 0 || eqb mode_tot 1) (eqb mode_tot 0 || eqb mode_tot 2) a b)

-- equal arguments: a tick never moves two totals apart
pub next-near : (set_tot : ℕ) (preset_tot : Float) (a b z : ℤ) → nat_abs (next_total set_tot preset_tot a z -ℤ next_total set_tot preset_tot b z)
    ≤ nat_abs (a -ℤ b)
unfolding next_total sum_of
next-near set_tot preset_tot a b z = go (eqb set_tot 0) (eqb set_tot 1)
  where
    go : (t u : Bool) → nat_abs
        (cond t (sum_of a z) (cond u (pos 0) (thousandths_of preset_tot))
        -ℤ cond t (sum_of b z) (cond u (pos 0) (thousandths_of preset_tot))) ≤ nat_abs (a -ℤ b)
    go true u = limit-sum-near total_limit a b z
    go false true = zero-le
    go false false = le_trans (same (thousandths_of preset_tot)) zero-le

pub auto-near : (s : Settings) (a b : ℤ) (last : Kept) (bits status : ℕ)
    → nat_abs (auto_total s a last bits status -ℤ auto_total s b last bits status) ≤ nat_abs (a -ℤ b)
unfolding auto_total
auto-near s a b last bits status = next-near s.set_tot s.preset_tot a b (tick_adds s.mode_tot s.fail_tot last bits status)

-- equal totals: two increments move them apart by no more than they differ before MODE_TOT
pub increments-near : (set_tot : ℕ) (preset_tot : Float) (mode_tot : ℕ) (total a b : ℤ)
    → nat_abs (next_total set_tot preset_tot total (wanted mode_tot a) -ℤ next_total set_tot preset_tot total (wanted mode_tot b)) ≤ nat_abs (a -ℤ b)
unfolding next_total sum_of
increments-near set_tot preset_tot mode_tot total a b = go (eqb set_tot 0) (eqb set_tot 1)
  where
    x : ℤ
    x = wanted mode_tot a

    y : ℤ
    y = wanted mode_tot b

    go : (t u : Bool) → nat_abs
        (cond t (sum_of total x) (cond u (pos 0) (thousandths_of preset_tot))
        -ℤ cond t (sum_of total y) (cond u (pos 0) (thousandths_of preset_tot))) ≤ nat_abs
        (a -ℤ b)
    go true u = rw (+ℤ_comm total x, +ℤ_comm total y) (le_trans (limit-sum-near total_limit x y total) (wanted-near mode_tot a b))
    go false true = zero-le
    go false false = le_trans (same (thousandths_of preset_tot)) zero-le

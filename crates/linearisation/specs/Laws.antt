-- Laws of tables and of the values by them. Assumes nothing.
use Prim.Native.Nat.{ℕ, zero, suc, ◌+◌, ◌*◌, ◌-◌, ◌/◌, ◌%◌, ◌≤◌, ◌<◌}
use native.Mathlib.Omega.{arith}
use Rattle.std.specs.Prelude.{◌≡◌, refl, Bool, true, false, not, ◌&&◌, ◌||◌, cond, T, eqb, leb, length, get_or, drop, replicate, set, Float, Ok, Err}
use Rattle.std.proofs.Math.Path.{sym, ap}
use Rattle.std.proofs.Common.{drop-drop, ◌∙◌, subst, leb→le, length-append, length-take, take-suc}
use mathlib.Core.List.{List, [], ◌∷◌, ◌++◌, append_assoc}
use Rattle.std.specs.Float.Ieee.Fits.{and_l, and_r}
use Rattle.std.proofs.Math.ListN.{take}
use Rattle.std.proofs.lemmas.List.{length-replicate, set_at}
use Rattle.std.proofs.Math.Seq.{take-append_seam, drop-append_seam}
use Rattle.std.specs.Float.{nan, inf, fin, binary32}
use Rattle.std.specs.Float.Ieee.{of_bits, lt, le, eq}
use Rattle.std.specs.Float.Ieee.Scale.{finite}
use Rattle.numbers.specs.FloatLaws.{finite_number}
use Rattle.numbers.specs.Order.{le-refl-number, le_trans, lt-le}
use Rattle.wire.specs.Refusal.{ground}
use Rattle.linearisation.specs.declared.Point.{Point}
use Rattle.linearisation.specs.declared.Table.{Table}
use Rattle.linearisation.specs.Table.{zero_point, padded, table_of, pairs_of, pair_from, pairs_from, pairs_in}
use Rattle.linearisation.specs.Table.{whole_pairs, follow, allowed, loaded_of}
use Rattle.linearisation.specs.Value.{or_here, used_on, between, value_at}

-- what the logic has for a place of an array that nothing was written to
abbrev pub unwritten : Point
unwritten = record { x = nan; y = nan }

-- ---- the pairs of bytes

pub pairs-length : (n : ℕ) (s : List ℕ) → length (pairs_from n s) ≡ n
unfolding pairs_from
pairs-length zero s = refl
pairs-length (suc n) s = ap suc (pairs-length n (drop 8 s))

pub many : (s : List ℕ) → length (pairs_in s) ≡ length s / 8
unfolding pairs_in
many s = pairs-length (length s / 8) s

pub pair-at : (n : ℕ) (s : List ℕ) (i : ℕ) (z : Point) → i < n → get_or (pairs_from n s) i z ≡ pair_from (drop (8 * i) s)
unfolding pairs_from
pair-at zero s i z h = absurd (omega arith)
pair-at (suc n) s zero z h = refl
pair-at (suc n) s (suc i) z h =
    let e : 8 + 8 * i ≡ 8 * suc i = omega arith in
    pair-at n (drop 8 s) i z (omega arith) ∙ ap pair_from (drop-drop (8 * i) 8 s ∙ ap (λ (k : ℕ). drop k s) e)

-- the pair of the eight bytes from a place on
pub pair-in : (s : List ℕ) (i : ℕ) (z : Point) → 8 * i + 8 ≤ length s → get_or (pairs_in s) i z ≡ pair_from (drop (8 * i) s)
unfolding pairs_in
pair-in s i z h = pair-at (length s / 8) s i z (omega arith)

-- the pairs of a table are those that it was made of
pub pairs-back : (ps : List Point) → pairs_of (table_of ps) ≡ ps
pairs-back ps = take-append_seam ps (replicate (21 - length ps) zero_point)

-- one pair more in its place
pub padded-more : (ps : List Point) (i : ℕ) (p : Point) → i < length ps → i < 21 → p ≡ get_or ps i zero_point
    → set (padded (take i ps)) i p ≡ padded (take (suc i) ps)
padded-more ps i p h k e =
    let l : length (take i ps) ≡ i = simp length-take (omega arith) in
    let m : length (take (suc i) ps) ≡ suc i = simp length-take (omega arith) in
    let r : 21 - i ≡ suc (21 - suc i) = omega arith in
    rw (l, m, r, take-suc ps i zero_point h, sym e) (set_at (take i ps) zero_point (replicate (21 - suc i) zero_point) p i l ∙ sym (simp append_assoc))

-- ---- which pairs are allowed

pub and-true : (b : Bool) → (b && true) ≡ b
and-true true = refl
and-true false = refl

-- whatever is finite lies above minus infinity, so the first pair may follow it
pub above-all : (x : Float) → finite x ≡ true → lt (of_bits binary32 0xff80_0000) x ≡ true
unfolding of_bits lt
above-all nan f = cc
above-all (inf s) f = cc
above-all (fin s c e) f = refl

pub follow-first : (ps : List Point) → follow (of_bits binary32 0xff80_0000) ps ≡ allowed ps
unfolding follow allowed
follow-first [] = refl
follow-first (p ∷ ps) = go (finite p.x) refl
  where
    go : (b : Bool) → finite p.x ≡ b
        → (b && finite p.y && lt (of_bits binary32 0xff80_0000) p.x && follow p.x ps) ≡ (b && finite p.y && follow p.x ps)
    go true e = rw (above-all p.x e, and-true (finite p.y))
    go false e = refl

-- ---- whole pairs

pub whole-pairs : (n : ℕ) → whole_pairs n ≡ true → (2 ≤ n / 8) × (n / 8 ≤ 21)
unfolding whole_pairs
whole-pairs n h =
    let t : T (eqb (n % 8) 0 && leb 2 (n / 8) && leb (n / 8) 21) = subst T (sym h) tt in (
      leb→le 2 (n / 8) (and_r (eqb (n % 8) 0) (leb 2 (n / 8)) (and_l (eqb (n % 8) 0 && leb 2 (n / 8)) (leb (n / 8) 21) t)),
      leb→le (n / 8) 21 (and_r (eqb (n % 8) 0 && leb 2 (n / 8)) (leb (n / 8) 21) t),
    )

-- ---- the pair used

-- a pair found further on is found from further in front
pub used-behind : (x : Float) (front rest : List Point) (q : Point) (qs : List Point) → used_on x rest ≡ q ∷ qs → used_on x (front ++ rest) ≡ q ∷ qs
unfolding used_on
used-behind x [] rest q qs e = e
used-behind x (p ∷ front) rest q qs e = rw (used-behind x front rest q qs e)

-- ---- what holds of every table that is made

-- Q1.3, Q1.11: from 2 to 21 pairs, allowed ones, in the first of 21 places, and zeros after them
pub record Valid (t : Table) : Type 0 where
  pub places : length t.points ≡ 21
  pub count : (2 ≤ t.count) × (t.count ≤ 21)
  pub rising : allowed (pairs_of t) ≡ true
  pub rest : drop t.count t.points ≡ replicate (21 - t.count) zero_point

pub made-valid : (s : List ℕ) (t : Table) → loaded_of s ≡ Ok t → Valid t
unfolding loaded_of
made-valid s t = go (whole_pairs (length s)) refl (allowed (pairs_in s)) refl
  where
    ps : List Point
    ps = pairs_in s

    bounds : whole_pairs (length s) ≡ true → (2 ≤ length ps) × (length ps ≤ 21)
    bounds w = let b = whole-pairs (length s) w in (omega (arith, b.0, many s), omega (arith, b.1, many s))

    valid : whole_pairs (length s) ≡ true → allowed ps ≡ true → Valid (table_of ps)
    valid w v =
        let b = bounds w in
        record {
          places = simp (length-append, length-replicate) (omega (arith, b.1));
          count = b;
          rising = ap allowed (pairs-back ps) ∙ v;
          rest = drop-append_seam ps (replicate (21 - length ps) zero_point);
        }

    go : (w : Bool) → whole_pairs (length s) ≡ w → (a : Bool) → allowed ps ≡ a
        → cond (not w) (Err (ground 9)) (cond (not a) (Err (ground 10)) (Ok (table_of ps))) ≡ Ok t → Valid t
    go false w a v e = cc
    go true w false v e = cc
    go true w true v e = let same : table_of ps ≡ t = cc in subst Valid same (valid w v)

-- ---- what holds of the pair used

clash : {p : Point} {ps : List Point} → [] ≡ p ∷ ps → ⊥
clash e = let z : ◌≡◌ {A = ℕ} 0 1 = cc in omega arith

first : {p q : Point} {ps qs : List Point} → p ∷ ps ≡ q ∷ qs → p ≡ q
first e = cc

others : {p q : Point} {ps qs : List Point} → p ∷ ps ≡ q ∷ qs → ps ≡ qs
others e = cc

is_true : (b : Bool) → T b → b ≡ true
is_true true t = refl
is_true false t = absurd t

-- Q1.6: what isn't finite stays so
pub unfinished-stays : (ps : List Point) (x : Float) → finite x ≡ false → value_at ps x ≡ x
unfolding value_at
unfinished-stays ps x f = rw f

-- Q1.4: the pair used is the last one at or below the value: the list is what is before it, it, and pairs of which none is
pub record Last (x : Float) (ps : List Point) (p : Point) (rest : List Point) : Type 0 where
  pub front : List Point
  pub whole : ps ≡ front ++ p ∷ rest
  pub below : le p.x x ≡ true
  pub none : used_on x rest ≡ []

pub used-last : (x : Float) (ps : List Point) (p : Point) (rest : List Point) → used_on x ps ≡ p ∷ rest → Last x ps p rest
unfolding used_on
used-last x [] p rest e = absurd (clash e)
used-last x (q ∷ qs) p rest e = go (used-last x qs p rest) (used_on x qs) refl (le q.x x) refl e
  where
    go : (used_on x qs ≡ p ∷ rest → Last x qs p rest) → (u : List Point) → used_on x qs ≡ u → (b : Bool) → le q.x x ≡ b
        → or_here u (cond b (q ∷ qs) []) ≡ p ∷ rest → Last x (q ∷ qs) p rest
    go old [] f true l e =
        record { front = []; whole = e; below = ap (λ (y : Point). le y.x x) (sym (first e)) ∙ l; none = ap (used_on x) (sym (others e)) ∙ f }
    go old [] f false l e = absurd (clash e)
    go old (r ∷ u) f b l e =
        let i = old (f ∙ e) in
        record { front = q ∷ i.front; whole = ap (λ (t : List Point). q ∷ t) i.whole; below = i.below; none = i.none }

-- Q1.7: without one the value lies below every x
pub none_below : (x : Float) (p : Point) (ps : List Point) → used_on x (p ∷ ps) ≡ [] → (le p.x x ≡ false) × (used_on x ps ≡ [])
unfolding used_on
none_below x p ps = go (used_on x ps) (le p.x x)
  where
    go : (u : List Point) (b : Bool) → or_here u (cond b (p ∷ ps) []) ≡ [] → (b ≡ false) × (u ≡ [])
    go [] true e = absurd (clash (sym e))
    go [] false e = (refl, refl)
    go (q ∷ u) b e = absurd (clash (sym e))

-- ---- a value between two neighbours

lt→le : (x y : Float) → T (lt x y) → T (le x y)
unfolding le
lt→le x y t = go (lt x y) (eq x y) t
  where
    go : (a b : Bool) → T a → T (a || b)
    go true b t = tt
    go false b t = absurd t

not-le : (x y : Float) → T (lt x y) → le y x ≡ false
not-le x y t = go (le y x) refl
  where
    go : (b : Bool) → le y x ≡ b → b ≡ false
    go true e = absurd (lt-le x y t (subst T (sym e) tt))
    go false e = refl

-- pairs that rise from b on lie above all that is at or below b
above-none : (b x : Float) (ps : List Point) → T (le x b) → T (follow b ps) → used_on x ps ≡ []
unfolding follow used_on
above-none b x [] l f = refl
above-none b x (p ∷ ps) l f =
    let g = and_l (finite p.x && finite p.y && lt b p.x) (follow p.x ps) f in
    let up = and_r (finite p.x && finite p.y) (lt b p.x) g in
    let h = le_trans x b p.x l (lt→le b p.x up) in
    let n : le p.x x ≡ false = not-under (le p.x x) refl up in
    rw (above-none p.x x ps h (and_r (finite p.x && finite p.y && lt b p.x) (follow p.x ps) f), n)
  where
    not-under : (c : Bool) → le p.x x ≡ c → T (lt b p.x) → c ≡ false
    not-under true e up = absurd (lt-le b p.x up (le_trans p.x x b (subst T (sym e) tt) l))
    not-under false e up = refl

-- the pairs behind some of an allowed list rise from the last of these on
follow-behind : (b : Float) (front : List Point) (p : Point) (rest : List Point) → T (follow b (front ++ p ∷ rest))
    → T (finite p.x) × T (follow p.x rest)
unfolding follow
follow-behind b [] p rest f = (
  and_l (finite p.x) (finite p.y)
      (and_l (finite p.x && finite p.y) (lt b p.x) (and_l (finite p.x && finite p.y && lt b p.x) (follow p.x rest) f)),
  and_r (finite p.x && finite p.y && lt b p.x) (follow p.x rest) f,
)
follow-behind b (q ∷ front) p rest f =
    follow-behind q.x front p rest (and_r (finite q.x && finite q.y && lt b q.x) (follow q.x (front ++ p ∷ rest)) f)

-- Q1.4, Q1.5: in an allowed table a value from a pair's x on and below the next one's has that pair used, and no other
pub segment-used : (front : List Point) (p q : Point) (rest : List Point) (x : Float) → allowed (front ++ p ∷ q ∷ rest) ≡ true
    → le p.x x ≡ true → T (lt x q.x) → used_on x (front ++ p ∷ q ∷ rest) ≡ p ∷ q ∷ rest
unfolding used_on follow
segment-used front p q rest x a l r =
    let t : T (follow (of_bits binary32 0xff80_0000) (front ++ p ∷ q ∷ rest)) = subst T (sym (follow-first (front ++ p ∷ q ∷ rest) ∙ a)) tt in
    let f = (follow-behind (of_bits binary32 0xff80_0000) front p (q ∷ rest) t).1 in
    let g = and_r (finite q.x && finite q.y && lt p.x q.x) (follow q.x rest) f in
    let n = above-none q.x x rest (lt→le x q.x r) g in
    used-behind x front (p ∷ q ∷ rest) p (q ∷ rest) (rw (n, not-le x q.x r, l))

-- so at the x of a pair before the last the line to its right serves
pub inner-x : (front : List Point) (p q : Point) (rest : List Point) → allowed (front ++ p ∷ q ∷ rest) ≡ true
    → value_at (front ++ p ∷ q ∷ rest) p.x ≡ between p q p.x
unfolding value_at follow
inner-x front p q rest a =
    let t : T (follow (of_bits binary32 0xff80_0000) (front ++ p ∷ q ∷ rest)) = subst T (sym (follow-first (front ++ p ∷ q ∷ rest) ∙ a)) tt in
    let f = follow-behind (of_bits binary32 0xff80_0000) front p (q ∷ rest) t in
    let fine : finite p.x ≡ true = is_true (finite p.x) f.0 in
    let up = and_r (finite q.x && finite q.y) (lt p.x q.x)
    (and_l (finite q.x && finite q.y && lt p.x q.x) (follow q.x rest) f.1) in
    rw (fine, segment-used front p q rest p.x a (is_true (le p.x p.x) (le-refl-number p.x (finite_number p.x fine))) up)

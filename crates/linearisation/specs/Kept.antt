-- Laws of the definitions in this folder that no proof outside this file needs. Assumes nothing.
use Prim.Native.Nat.{ℕ, suc, ◌+◌, ◌<◌, min}
use native.Mathlib.Omega.{arith}
use Rattle.std.specs.Prelude.{◌≡◌, refl, Bool, true, false, not, ◌&&◌, cond, length, get_or, drop, Float}
use Rattle.std.proofs.Math.Path.{sym, ap}
use Rattle.std.proofs.Common.{◌∙◌, length-take, take-append-drop, drop_of_length-le, drop-cons, get_or-take, get_or-drop}
use mathlib.Core.List.{List, [], ◌∷◌}
use Rattle.std.proofs.Math.ListN.{take}
use Rattle.std.specs.Float.Ieee.{lt, le}
use Rattle.std.specs.Float.Ieee.Scale.{finite}
use Rattle.numbers.specs.Floats.{float_of}
use Rattle.wire.specs.Bytes.{word_of}
use Rattle.linearisation.specs.declared.Point.{Point}
use Rattle.linearisation.specs.Table.{pair_from, follow}
use Rattle.linearisation.specs.Value.{used_on, between, first_y, by_used, value_at}
use Rattle.linearisation.specs.Laws.{used-behind}

pub turned : (b : Bool) → not b ≡ false → b ≡ true
turned true e = refl
turned false e = sym e

-- ---- the pairs of bytes

-- the pair of the eight bytes from a place on
pub pair-from : (s : List ℕ) (k : ℕ) → pair_from (drop k s) ≡ record {
  x = float_of (word_of (get_or s k 0) (get_or s (k + 1) 0) (get_or s (k + 2) 0) (get_or s (k + 3) 0));
  y = float_of (word_of (get_or s (k + 4) 0) (get_or s (k + 5) 0) (get_or s (k + 6) 0) (get_or s (k + 7) 0));
}
pair-from s k = let e : k + 0 ≡ k = omega arith in simp (get_or-drop, e)

-- ---- which pairs are allowed

and_assoc : (a b c : Bool) → (a && (b && c)) ≡ (a && b && c)
and_assoc true b c = refl
and_assoc false b c = refl

-- one pair more
pub follow-more : (good : Bool) (before : Float) (ps : List Point) (i : ℕ) (z : Point) → i < length ps
    → (good && finite (get_or ps i z).x && finite (get_or ps i z).y && lt before (get_or ps i z).x && follow (get_or ps i z).x (drop (suc i) ps))
    ≡ (good && follow before (drop i ps))
follow-more good before ps i z h = rw (drop-cons ps i z h) (unfold follow in simp and_assoc)

-- ---- the pair used

pub used-here : (x : Float) (p : Point) (rest : List Point) → used_on x rest ≡ [] → used_on x (p ∷ rest) ≡ cond (le p.x x) (p ∷ rest) []
unfolding used_on
used-here x p rest e = rw e

-- a search from the last place down, in the places of a table
module _ (points : List Point) (count : ℕ) (full : length points ≡ 21) (z : Point) (x : Float) (f : finite x ≡ true) where
  abbrev ps : List Point
  ps = take count points

  held : length ps ≡ min count 21
  held = length-take count points ∙ ap (min count) full

  -- from a place on
  on : (i : ℕ) → i < min count 21 → drop i ps ≡ get_or points i z ∷ drop (suc i) ps
  on i h = drop-cons ps i z (omega (arith, held)) ∙ ap (λ (p : Point). p ∷ drop (suc i) ps) (get_or-take count points i z (omega arith))

  found : (i : ℕ) → i < min count 21 → used_on x (drop (suc i) ps) ≡ [] → le (get_or points i z).x x ≡ true
      → used_on x ps ≡ get_or points i z ∷ drop (suc i) ps
  found i h none l =
      ap (used_on x) (sym (take-append-drop i ps))
      ∙ used-behind x (take i ps) (drop i ps) (get_or points i z) (drop (suc i) ps)
      (ap (used_on x) (on i h) ∙ used-here x (get_or points i z) (drop (suc i) ps) none ∙ ap (λ (b : Bool). cond b (get_or points i z ∷ drop (suc i) ps) []) l)

  given : (used : List Point) → used_on x ps ≡ used → value_at ps x ≡ by_used ps used x
  unfolding value_at
  given used e = rw (f, e)

  pub found-last : (i : ℕ) → suc i ≡ min count 21 → used_on x (drop (suc i) ps) ≡ [] → le (get_or points i z).x x ≡ true
      → (get_or points i z).y ≡ value_at ps x
  found-last i h none l =
      sym (given (get_or points i z ∷ []) (found i (omega arith) none l
      ∙ ap (λ (r : List Point). get_or points i z ∷ r) (drop_of_length-le ps {i = suc i} (omega (arith, held)))))

  pub found-inner : (i : ℕ) → suc i < min count 21 → used_on x (drop (suc i) ps) ≡ [] → le (get_or points i z).x x ≡ true
      → between (get_or points i z) (get_or points (suc i) z) x ≡ value_at ps x
  found-inner i h none l =
      sym (given (get_or points i z ∷ get_or points (suc i) z ∷ drop (suc (suc i)) ps)
      (found i (omega arith) none l ∙ ap (λ (r : List Point). get_or points i z ∷ r) (on (suc i) h)))

  pub passed : (i : ℕ) → i < min count 21 → used_on x (drop (suc i) ps) ≡ [] → le (get_or points i z).x x ≡ false → used_on x (drop i ps) ≡ []
  passed i h none l =
      ap (used_on x) (on i h) ∙ used-here x (get_or points i z) (drop (suc i) ps) none
      ∙ ap (λ (b : Bool). cond b (get_or points i z ∷ drop (suc i) ps) []) l

  pub none_yet : used_on x (drop (min count 21) ps) ≡ []
  unfolding used_on
  none_yet = rw (drop_of_length-le ps {i = min count 21} (omega (arith, held)))

  pub no_pairs : min count 21 ≡ 0 → x ≡ value_at ps x
  unfolding used_on
  no_pairs h =
      let c : count ≡ 0 = omega arith in
      let e : ps ≡ [] = ap (λ (n : ℕ). take n points) c in
      sym (given (used_on x []) (ap (used_on x) e) ∙ ap (λ (r : List Point). first_y r x) e)

  pub before-first : 0 < min count 21 → used_on x (drop 0 ps) ≡ [] → (get_or points 0 z).y ≡ value_at ps x
  before-first h none = sym (given [] none ∙ ap (λ (r : List Point). first_y r x) (on 0 h))

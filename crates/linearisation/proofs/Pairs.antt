-- Lists of pairs as the code goes through them, place by place: which pair is used, and which pairs are allowed. Assumes nothing.
use Rattle.std.proofs.Common.{◌≡◌, ℕ, zero, suc, ◌+◌, ◌/◌, ◌<◌, ◌≤◌, Bool, true, false, ◌&&◌, List, [], ◌∷◌, length, get_or, take, drop, map, Float, refl, sym, ap, ◌∙◌, arith, add-one, drop-cons, drop_of_length-le, get_or-take, lit<}
use Rattle.std.proofs.lemmas.List.{length-map}
use Rattle.std.specs.List.{IsAllAdjacentAnswer}
use Rattle.std.specs.Simd.{first_chunks}
use Rattle.std.specs.Float.Ieee.{lt, le}
use Rattle.std.specs.Float.Ieee.Scale.{finite}
use Rattle.linearisation.specs.declared.Point.{Point}
use Rattle.linearisation.specs.Laws.{unwritten, pairs-back}
use Rattle.linearisation.specs.Table.{padded, table_of, pair_from, pairs_from, pairs_in, follow, allowed}
use Rattle.linearisation.specs.Value.{used_on, between, first_y, value_at}

-- ---- the pair used

-- none where no x lies at or below the value
used_none : (x : Float) (ps : List Point) (z : Point) → ((k : ℕ) → k < length ps → le (get_or ps k z).x x ≡ false) → used_on x ps ≡ []
unfolding used_on
used_none x [] z f = refl
used_none x (p ∷ ps) z f = rw (used_none x ps z (λ k h. f (suc k) (omega arith)), f 0 (omega arith))

-- the last one whose x does
used_at : (x : Float) (ps : List Point) (i : ℕ) (z : Point) → i < length ps → le (get_or ps i z).x x ≡ true
    → ((k : ℕ) → i < k → k < length ps → le (get_or ps k z).x x ≡ false) → used_on x ps ≡ get_or ps i z ∷ drop (suc i) ps
unfolding used_on
used_at x [] i z h l f = absurd (omega arith)
used_at x (p ∷ ps) zero z h l f = rw (used_none x ps z (λ k g. f (suc k) (omega arith) (omega arith)), l)
used_at x (p ∷ ps) (suc i) z h l f = rw (used_at x ps i z (omega arith) l (λ k g t. f (suc k) (omega arith) (omega arith)))

-- the line to the pair after it
pub inner_value : (x : Float) (ps : List Point) (i : ℕ) (z : Point) → finite x ≡ true → i + 1 < length ps → le (get_or ps i z).x x ≡ true
    → ((k : ℕ) → i < k → k < length ps → le (get_or ps k z).x x ≡ false) → between (get_or ps i z) (get_or ps (i + 1) z) x ≡ value_at ps x
unfolding value_at
inner_value x ps i z f h l n =
    let u = used_at x ps i z (omega arith) l n in
    let d = drop-cons ps (suc i) z (omega arith) in
    rw (f, u, d, add-one i)

-- the last one's y
pub last_value : (x : Float) (ps : List Point) (i : ℕ) (z : Point) → finite x ≡ true → i < length ps → length ps ≤ i + 1 → le (get_or ps i z).x x ≡ true
    → ((k : ℕ) → i < k → k < length ps → le (get_or ps k z).x x ≡ false) → (get_or ps i z).y ≡ value_at ps x
unfolding value_at
last_value x ps i z f h e l n =
    let u = used_at x ps i z h l n in
    let d = drop_of_length-le ps {i = suc i} (omega arith) in
    rw (f, u, d)

-- without one the first one's y
pub below_value : (x : Float) (ps : List Point) (z : Point) → finite x ≡ true → ((k : ℕ) → k < length ps → le (get_or ps k z).x x ≡ false)
    → first_y ps x ≡ value_at ps x
unfolding value_at
below_value x ps z f n = rw (f, used_none x ps z n)

-- ---- which pairs are allowed

abbrev pub numbers : Point → Bool
numbers p = finite p.x && finite p.y

and_false : (a b : Bool) → (a && false && b) ≡ false
and_false true b = refl
and_false false b = refl

and_none : (a : Bool) → (a && false) ≡ false
and_none true = refl
and_none false = refl

-- finite numbers that rise
follow_risen : (p : Point) (ps : List Point) (z : Point) → ((k : ℕ) → k < length (p ∷ ps) → numbers (get_or (p ∷ ps) k z) ≡ true)
    → ((k : ℕ) → suc k < length (p ∷ ps) → true ≡ lt (get_or (p ∷ ps) k z).x (get_or (p ∷ ps) (suc k) z).x) → follow p.x ps ≡ true
unfolding follow
follow_risen p [] z f r = refl
follow_risen p (q ∷ ps) z f r =
    let n = f 1 (omega arith) in
    let u = sym (r 0 (omega arith)) in
    let v = follow_risen q ps z (λ k h. f (suc k) (omega arith)) (λ k h. r (suc k) (omega arith)) in
    rw (n, u, v)

allowed_risen : (ps : List Point) (z : Point) → ((k : ℕ) → k < length ps → numbers (get_or ps k z) ≡ true)
    → ((k : ℕ) → suc k < length ps → true ≡ lt (get_or ps k z).x (get_or ps (suc k) z).x) → allowed ps ≡ true
unfolding allowed
allowed_risen [] z f r = refl
allowed_risen (p ∷ ps) z f r = rw (f 0 (omega arith), follow_risen p ps z f r)

-- an x that doesn't
follow_fallen : (p : Point) (ps : List Point) (k : ℕ) (z : Point) → suc k < length (p ∷ ps)
    → false ≡ lt (get_or (p ∷ ps) k z).x (get_or (p ∷ ps) (suc k) z).x → follow p.x ps ≡ false
unfolding follow
follow_fallen p [] k z h e = absurd (omega arith)
follow_fallen p (q ∷ ps) zero z h e = rw (sym e) (and_false (numbers q) (follow q.x ps))
follow_fallen p (q ∷ ps) (suc k) z h e = rw (follow_fallen q ps k z (omega arith) e) (and_none (numbers q && lt p.x q.x))

allowed_fallen : (ps : List Point) (k : ℕ) (z : Point) → suc k < length ps → false ≡ lt (get_or ps k z).x (get_or ps (suc k) z).x → allowed ps ≡ false
unfolding allowed
allowed_fallen [] k z h e = absurd (omega arith)
allowed_fallen (p ∷ ps) k z h e = rw (follow_fallen p ps k z h e) (and_none (numbers p))

-- a number that isn't finite
follow_unfinished : (b : Float) (ps : List Point) (k : ℕ) (z : Point) → k < length ps → numbers (get_or ps k z) ≡ false → follow b ps ≡ false
unfolding follow
follow_unfinished b [] k z h e = absurd (omega arith)
follow_unfinished b (p ∷ ps) zero z h e = rw e
follow_unfinished b (p ∷ ps) (suc k) z h e = rw (follow_unfinished p.x ps k z (omega arith) e) (and_none (numbers p && lt b p.x))

pub allowed_unfinished : (ps : List Point) (k : ℕ) (z : Point) → k < length ps → numbers (get_or ps k z) ≡ false → allowed ps ≡ false
unfolding allowed
allowed_unfinished [] k z h e = absurd (omega arith)
allowed_unfinished (p ∷ ps) zero z h e = rw e
allowed_unfinished (p ∷ ps) (suc k) z h e = rw (follow_unfinished p.x ps k z (omega arith) e) (and_none (numbers p))

-- so what `is_sorted_by` answers is the rest of the test
pub allowed_sorted : (ps : List Point) (r : Bool) → ((k : ℕ) (z : Point) → k < length ps → numbers (get_or ps k z) ≡ true)
    → IsAllAdjacentAnswer (λ p q b. b ≡ lt p.x q.x) ps r → r ≡ allowed ps
allowed_sorted ps true f a =
    sym (allowed_risen ps unwritten (λ k. f k unwritten) (λ k h. rw add-one at (a k unwritten (omega arith))))
allowed_sorted ps false f a = sym (allowed_fallen ps a.0 unwritten (omega (arith, a.1)) (rw add-one at (a.2 unwritten)))

-- ---- the pairs of bytes

pair_taken : (s : List ℕ) → pair_from (take 8 s) ≡ pair_from s
pair_taken s = rw (
  get_or-take 8 s 0 0 (lit< tt),
  get_or-take 8 s 1 0 (lit< tt),
  get_or-take 8 s 2 0 (lit< tt),
  get_or-take 8 s 3 0 (lit< tt),
  get_or-take 8 s 4 0 (lit< tt),
  get_or-take 8 s 5 0 (lit< tt),
  get_or-take 8 s 6 0 (lit< tt),
  get_or-take 8 s 7 0 (lit< tt),
)

chunked : (n : ℕ) (s : List ℕ) → map pair_from (first_chunks 8 n s) ≡ pairs_from n s
unfolding pairs_from
chunked zero s = refl
chunked (suc n) s = rw (pair_taken s, chunked n (drop 8 s))

-- the table that is made of the eights of bytes, and the pairs that are judged
module _ (s : List ℕ) (eights : List (List ℕ)) (points : List Point) (e : eights ≡ first_chunks 8 (length s / 8) s) (f : points ≡ padded (map pair_from eights)) where
  paired : map pair_from eights ≡ pairs_in s
  unfolding pairs_in
  paired = ap (map pair_from) e ∙ chunked (length s / 8) s

  counted : length eights ≡ length (pairs_in s)
  counted = sym (length-map eights pair_from) ∙ ap length paired

  placed : points ≡ padded (pairs_in s)
  placed = f ∙ ap padded paired

  pub table_made : record { count = length eights; points = points } ≡ table_of (pairs_in s)
  table_made = λ i. record { count = counted i; points = placed i }

  pub judged : allowed (take (length eights) points) ≡ allowed (pairs_in s)
  judged = ap allowed (rw (counted, placed) (pairs-back (pairs_in s)))

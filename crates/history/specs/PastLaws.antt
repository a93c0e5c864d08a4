-- What the past-time words mean: there is a place in the history such that .. Assumes nothing.
use Rattle.std.specs.Prelude.{ℕ, ◌+◌, ◌≡◌, refl, Bool, false, ◌&&◌, ◌||◌, ◌⊎◌, Option, None, Some}
use Rattle.std.proofs.Common.{sym, ◌∙◌, true≢false, inl, inr}
use Rattle.std.proofs.Math.Path.{ap}
use Rattle.std.proofs.Math.Bool.{true, not}
use Rattle.history.specs.Past.{History, start, ◌▷◌, count_since, since, latest}

module _ {E : Type 0} where
  -- the history h goes on from p, and each event after p passes, by what was before it
  pub data From (passes : History E → E → Type 0) (p : History E) : History E → Type 0 where
    here : From passes p p
    later : {h : History E} {e : E} → From passes p h → passes h e → From passes p (h ▷ e)

  -- ---- since

  module _ (raised cleared : History E → E → Bool) where
    -- an event raised it, and none since has cleared it
    pub record Raised (h : History E) : Type 0 where
      pub before : History E
      pub event : E
      pub raises : raised before event ≡ true
      pub stands : From (λ p e. cleared p e ≡ false) (before ▷ event) h

    false_of : (b : Bool) → not b ≡ true → b ≡ false
    false_of true e = sym e
    false_of false e = refl

    split-or : (a b : Bool) → a || b ≡ true → (a ≡ true) ⊎ (b ≡ true)
    split-or true b e = inl refl
    split-or false b e = inr e

    and_first : (a b : Bool) → a && b ≡ true → a ≡ true
    and_first true b e = refl
    and_first false b e = e

    and_second : (a b : Bool) → a && b ≡ true → b ≡ true
    and_second true b e = e
    and_second false b e = absurd (true≢false (sym e))

    or_right : (a b : Bool) → b ≡ true → a || b ≡ true
    or_right true b e = refl
    or_right false b e = e

    pub since-means : (h : History E) → since raised cleared h ≡ true → Raised h
    unfolding since
    since-means start e = absurd (true≢false (sym e))
    since-means (h ▷ x) e = go (since-means h) (split-or (raised h x) (since raised cleared h && not (cleared h x)) e)
      where
        go : (since raised cleared h ≡ true → Raised h) → (raised h x ≡ true) ⊎ (since raised cleared h && not (cleared h x) ≡ true) → Raised (h ▷ x)
        go old (inl r) = record { before = h; event = x; raises = r; stands = here }
        go old (inr s) =
            let o = old (and_first (since raised cleared h) (not (cleared h x)) s) in
            record {
              before = o.before;
              event = o.event;
              raises = o.raises;
              stands = later o.stands (false_of (cleared h x) (and_second (since raised cleared h) (not (cleared h x)) s));
            }

    pub since-holds : (p : History E) (x : E) (h : History E) → raised p x ≡ true → From (λ p e. cleared p e ≡ false) (p ▷ x) h → since raised cleared h ≡ true
    unfolding since
    since-holds p x h r here = ap (λ (b : Bool). b || (since raised cleared p && not (cleared p x))) r
    since-holds p x h r (later {h = q} {e = y} f c) =
        or_right (raised q y) (since raised cleared q && not (cleared q y)) (ap (λ (b : Bool). b && not (cleared q y)) (since-holds p x q r f) ∙ ap not c)

  -- ---- latest

  module _ {A : Type 0} (tells : History E → E → Option A) (forgets : E → Bool) where
    -- an event told it, and none since has told anything or forgotten it
    pub latest-holds : (p : History E) (x : E) (a : A) (h : History E) → forgets x ≡ false → tells p x ≡ Some a
        → From (λ q e. (forgets e ≡ false) × (tells q e ≡ None)) (p ▷ x) h → latest tells forgets h ≡ Some a
    unfolding latest
    latest-holds p x a h n t here = rw (n, t)
    latest-holds p x a h n t (later {h = q} {e = y} f c) = rw (c.0, c.1) (latest-holds p x a q n t f)

  -- ---- count_since

  module _ (counted mark : E → Bool) where
    -- how many events count after a place, none of them a mark
    pub data Counts (p : History E) : History E → ℕ → Type 0 where
      none_yet : Counts p p 0
      one_more : {h : History E} {e : E} {n : ℕ} → Counts p h n → mark e ≡ false → counted e ≡ true → Counts p (h ▷ e) (n + 1)
      passed_over : {h : History E} {e : E} {n : ℕ} → Counts p h n → mark e ≡ false → counted e ≡ false → Counts p (h ▷ e) n

    pub count-means : (p : History E) (x : E) (h : History E) (n : ℕ) → mark x ≡ true → Counts (p ▷ x) h n → count_since counted mark h ≡ n
    unfolding count_since
    count-means p x h n m none_yet = rw m
    count-means p x h n m (one_more {h = q} {n = k} c u t) = rw (u, t) (ap (λ (z : ℕ). z + 1) (count-means p x q k m c))
    count-means p x h n m (passed_over {h = q} {n = k} c u t) = rw (u, t) (count-means p x q k m c)

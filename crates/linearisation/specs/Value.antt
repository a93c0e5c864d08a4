-- What a value becomes by a list of pairs, document 02, request 1. Each operation rounds its result. Assumes nothing.
use Rattle.std.specs.Prelude.{not, cond, List, [], ◌∷◌, Float}
use Rattle.std.specs.Float.{binary32}
use Rattle.std.specs.Float.Ieee.{add, sub, mul, div, le}
use Rattle.std.specs.Float.Ieee.Scale.{finite}
use Rattle.linearisation.specs.declared.Point.{Point}

-- what is found further on, or else this
abbrev pub or_here : List Point → List Point → List Point
or_here [] here = here
or_here (q ∷ qs) here = q ∷ qs

-- Q1.4: the pairs from the one used on: the last whose x lies at or below the value; none if there is none
unfoldable pub used_on : Float → List Point → List Point
used_on x [] = []
used_on x (p ∷ ps) = or_here (used_on x ps) (cond (le p.x x) (p ∷ ps) [])

-- Q1.5: the line from the pair used to the next: product, then quotient, then sum
unfoldable pub between : Point → Point → Float → Float
between p q x =
    add binary32 p.y (div binary32 (mul binary32 (sub binary32 x p.x) (sub binary32 q.y p.y)) (sub binary32 q.x p.x))

-- Q1.7: before the first x its y, and without pairs the value itself
abbrev pub first_y : List Point → Float → Float
first_y [] x = x
first_y (p ∷ ps) x = p.y

-- Q1.5, Q1.7: by the pairs from the one used on; the last one's y from its x on
abbrev pub by_used : List Point → List Point → Float → Float
by_used ps [] x = first_y ps x
by_used ps (p ∷ []) x = p.y
by_used ps (p ∷ q ∷ qs) x = between p q x

-- Q1.6: a value that isn't finite stays as it is
unfoldable pub value_at : List Point → Float → Float
value_at ps x = cond (not (finite x)) x (by_used ps (used_on x ps) x)

-- Parts put into a buffer from a place on: START's description of an answer's line (docs/DESIGN-PASS.md), and its laws. No contract
-- cites them; `Answer.all_put` says the same of what is appended to a vector. Assumes nothing.
use Rattle.std.specs.Prelude.{ℕ, ◌+◌, ◌≤◌, ◌≡◌, refl, true, List, [], ◌∷◌, ◌++◌, length, take, drop, leb}
use Rattle.std.proofs.Common.{arith, sym, ◌∙◌, ap, append-nil, append_assoc, length-append, take-append-drop, length-drop, take_at, drop_at, drop-drop, length-take-le, le-leb}
use Rattle.text.specs.Place.{replaced, place_after, bytes_put}
use Rattle.script.specs.Answer.{joined}

-- parts put one after another from a place on
unfoldable pub all_put : List ℕ → ℕ → List (List ℕ) → List ℕ
all_put s at [] = s
all_put s at (p ∷ ps) = all_put (bytes_put s at p) (place_after s at p) ps

-- the place after them
unfoldable pub place_after_all : List ℕ → ℕ → List (List ℕ) → ℕ
place_after_all s at [] = at
place_after_all s at (p ∷ ps) = place_after_all (bytes_put s at p) (place_after s at p) ps

-- parts put after others
pub put-append : (s : List ℕ) (at : ℕ) (ps qs : List (List ℕ)) → all_put s at (ps ++ qs) ≡ all_put (all_put s at ps) (place_after_all s at ps) qs
unfolding all_put place_after_all
put-append s at [] qs = refl
put-append s at (p ∷ ps) qs = put-append (bytes_put s at p) (place_after s at p) ps qs

pub place-append : (s : List ℕ) (at : ℕ) (ps qs : List (List ℕ)) → place_after_all s at (ps ++ qs)
    ≡ place_after_all (all_put s at ps) (place_after_all s at ps) qs
unfolding all_put place_after_all
place-append s at [] qs = refl
place-append s at (p ∷ ps) qs = place-append (bytes_put s at p) (place_after s at p) ps qs

-- where the text of the parts has room, it stands in the buffer from the place on, and the place after it is its end
pub put_whole : (s : List ℕ) (at : ℕ) (ps : List (List ℕ)) → at + length (joined ps) ≤ length s
    → (all_put s at ps ≡ replaced s at (joined ps)) × (place_after_all s at ps ≡ at + length (joined ps))
unfolding all_put place_after_all bytes_put place_after
put_whole s at [] h =
    let e : at + 0 ≡ at = omega arith in
    (rw (e, append-nil (take at s)) (sym (take-append-drop at s)), sym e)
put_whole s at (p ∷ ps) h =
    let q = joined ps in
    let l = length-append p q in
    let f : leb (at + length p) (length s) ≡ true = le-leb (at + length p) (length s) (omega arith) in
    let n : length (take at s ++ p) ≡ at + length p = length-append (take at s) p ∙ rw (length-take-le at s (omega arith)) in
    let m : length (replaced s at p) ≡ length s =
    length-append (take at s ++ p) (drop (at + length p) s) ∙ rw (n, length-drop (at + length p) s) (omega arith) in
    let i = put_whole (replaced s at p) (at + length p) ps (omega arith) in
    let t : take (at + length p) (replaced s at p) ≡ take at s ++ p = take_at (take at s ++ p) (drop (at + length p) s) (at + length p) n in
    let d : drop (at + length p + length q) (replaced s at p) ≡ drop (at + length (p ++ q)) s =
    sym (drop-drop (length q) (at + length p) (replaced s at p))
    ∙ ap (drop (length q)) (drop_at (take at s ++ p) (drop (at + length p) s) (at + length p) n)
    ∙ drop-drop (length q) (at + length p) s
    ∙ ap (λ k. drop k s) (let e : at + length p + length q ≡ at + length (p ++ q) = omega arith in e) in
    (rw f (i.0 ∙ rw (t, d, append_assoc (take at s) p q)), rw f (i.1 ∙ omega arith))

use Rattle.std.proofs.Common.{ℕ, ◌≡◌, ◌∙◌, refl, ap, List, [], ◌∷◌, ◌&&◌, eqb}
use lib.Pointwise.{pointwise}
use Rattle.script.specs.Words.{same_bytes}
use Rattle.script.proofs.words.same.Goals as goal

is_same : (a b : List ℕ) → pointwise eqb a b ≡ same_bytes a b
unfolding same_bytes
is_same [] [] = refl
is_same [] (y ∷ b) = refl
is_same (x ∷ a) [] = refl
is_same (x ∷ a) (y ∷ b) = ap (λ t. eqb x y && t) (is_same a b)

pub returns : goal.returns
returns c = c.eq.ensures ∙ is_same c.args.a.now c.args.b.now

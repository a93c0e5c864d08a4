-- The two bytes `0x` in front, by the library's test and by the call script's.
use Rattle.std.proofs.Common.{ℕ, ◌≡◌, refl, ◌&&◌, List, [], ◌∷◌, length, get_or, take, eqb, leb, le-leb, arith}
use Rattle.std.proofs.Math.Bool.{and-true, and-false}
use lib.Pointwise.{pointwise}
use Rattle.text.specs.Number.{word_number}
use Rattle.text.proofs.number.Goals as goal

marked : (w : List ℕ) → pointwise eqb (take 2 w) (48 ∷ 120 ∷ []) ≡ (leb 2 (length w) && (eqb (get_or w 0 0) 48 && eqb (get_or w 1 0) 120))
marked [] = refl
marked (a ∷ []) = and-false (eqb a 48)
marked (a ∷ b ∷ w) = rw (and-true (eqb b 120), le-leb 2 (length (a ∷ b ∷ w)) (omega arith))

pub returns-in-Some : goal.returns-in-Some
unfolding word_number
returns-in-Some c =
    let e = c.in-Some.ensures.cases in
    rw (← marked c.args.word.now, e.0, ← e.1) c.digits_number.ensures

pub returns-in-None : goal.returns-in-None
unfolding word_number
returns-in-None c = rw (← marked c.args.word.now, c.in-None.ensures.cases) c.digits_number-in-None.ensures

-- `whole::limited` is right: `max` and `clamp` are the limit, by the signs of z and n.
use Rattle.std.proofs.Common.{◌≡◌, ℤ, pos, negsuc, neg_ℤ, arith}
use Rattle.std.proofs.lemmas.Int.{ints, clamps}
use Rattle.std.specs.Int.{int_max, int_min}
use Rattle.numbers.specs.Whole.{limit, bound}
use Rattle.numbers.proofs.whole.limited.Goals as goal

clamped : (n z : ℤ) → int_max (neg_ℤ (int_max n (pos 0))) (int_min z (int_max n (pos 0))) ≡ limit (bound n) z
unfolding limit
clamped (pos n) (pos a) = omega (arith, ints, clamps)
clamped (pos n) (negsuc a) = omega (arith, ints, clamps)
clamped (negsuc n) (pos a) = omega (arith, ints, clamps)
clamped (negsuc n) (negsuc a) = omega (arith, ints, clamps)

pub returns : goal.returns
returns c = omega (arith, ints, clamps, clamped c.args.n c.args.z)

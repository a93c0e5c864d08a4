-- `floats::is_finite_or` is right: what lies below +infinity is finite or -infinity, and the other way round.
use Rattle.std.proofs.Common.{◌≡◌, true, false, refl, Float}
use Rattle.std.specs.Float.{nan, inf, fin, binary32}
use Rattle.std.specs.Float.Ieee.{lt, of_bits}
use Rattle.numbers.specs.Floats.{finite_or}
use Rattle.numbers.proofs.floats.is_finite_or.Goals as goal

below_plus : (x : Float) → lt x (of_bits binary32 0x7f80_0000) ≡ finite_or true x
unfolding lt of_bits
below_plus nan = refl
below_plus (inf true) = refl
below_plus (inf false) = refl
below_plus (fin s m e) = refl

above_minus : (x : Float) → lt (of_bits binary32 0xff80_0000) x ≡ finite_or false x
unfolding lt of_bits
above_minus nan = refl
above_minus (inf true) = refl
above_minus (inf false) = refl
above_minus (fin s m e) = refl

pub returns-then-negative : goal.returns-then-negative
returns-then-negative c = rw c.if-negative.true (below_plus c.args.x)

pub returns-else-negative : goal.returns-else-negative
returns-else-negative c = rw c.if-negative.false (above_minus c.args.x)

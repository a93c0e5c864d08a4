-- The library's test for finite floats is that of the definitions, case by case. Assumes nothing.
use Rattle.std.proofs.Common.{◌≡◌, refl, Float}
use Rattle.std.specs.Float.{nan, inf, fin, float_is_finite}
use Rattle.std.specs.Float.Ieee.Scale.{finite}

pub same_test : (x : Float) → float_is_finite x ≡ finite x
unfolding float_is_finite
same_test nan = refl
same_test (inf s) = refl
same_test (fin s m e) = refl

-- Laws of the scaling that the blocks cite. Assumes nothing.
use Rattle.std.specs.Prelude.{◌≡◌, false, Float}
use Rattle.std.specs.Float.{binary32}
use Rattle.std.specs.Float.Ieee.{sub, mul}
use Rattle.std.specs.Float.Ieee.Scale.{finite}
use Rattle.numbers.specs.FloatLaws.{add_left, sub-left, mul_left, div-left}
use Rattle.scaling.specs.declared.Scale.{Scale}
use Rattle.scaling.specs.Scaling.{fraction_of, at_fraction}

-- Nothing that is not finite scales to something finite, by any ends.
pub fraction-unfinished : (s : Scale) (x : Float) → finite x ≡ false → finite (fraction_of s x) ≡ false
unfolding fraction_of
fraction-unfinished s x h = div-left binary32 (sub binary32 x s.low) (sub binary32 s.high s.low) (sub-left binary32 x s.low h)

pub at_fraction-unfinished : (s : Scale) (f : Float) → finite f ≡ false → finite (at_fraction s f) ≡ false
unfolding at_fraction
at_fraction-unfinished s f h =
    add_left binary32 (mul binary32 f (sub binary32 s.high s.low)) s.low (mul_left binary32 f (sub binary32 s.high s.low) h)

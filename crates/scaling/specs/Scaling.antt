-- Scaling by PV_SCALE and OUT_SCALE: document 01, AIN tick, AO tick and Parameters. Each operation rounds its result (H4).
-- Assumes nothing.
use Rattle.std.specs.Prelude.{Bool, ◌&&◌, Float}
use Rattle.std.specs.Float.{binary32}
use Rattle.std.specs.Float.Ieee.{add, sub, mul, div, ne}
use Rattle.std.specs.Float.Ieee.Scale.{finite}
use Rattle.scaling.specs.declared.Scale.{Scale}

-- A1, O9: how far x lies from a scale's low end, in parts of its span
unfoldable pub fraction_of : Scale → Float → Float
fraction_of scale x = div binary32 (sub binary32 x scale.low) (sub binary32 scale.high scale.low)

-- A1, O9: the value that lies so far in a scale
unfoldable pub at_fraction : Scale → Float → Float
at_fraction scale f = add binary32 (mul binary32 f (sub binary32 scale.high scale.low)) scale.low

-- P11c: a scale may have any two finite ends that differ as numbers
unfoldable pub allowed_scale : Scale → Bool
allowed_scale scale = finite scale.low && finite scale.high && ne scale.low scale.high

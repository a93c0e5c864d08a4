-- AIN's scaled and filtered value, document 01, AIN tick. Each operation rounds its result (H4). Assumes nothing.
use Rattle.std.specs.Prelude.{not, ◌||◌, cond, pos, Float}
use Rattle.std.specs.Float.{binary32}
use Rattle.std.specs.Float.Ieee.{of_int, add, sub, mul, div, eq}
use Rattle.scaling.specs.declared.Scale.{Scale}
use Rattle.scaling.specs.Scaling.{fraction_of, at_fraction}
use Rattle.blocks.specs.declared.Kept.{Kept}

-- A1: the input's place in PV_SCALE, as a value in OUT_SCALE
unfoldable pub scaled_of : Scale → Scale → Float → Float
scaled_of pv out x = at_fraction out (fraction_of pv x)

-- A2: a filter step from the filter value towards the scaled one, by the ticks in PV_FTIME and one; without a filter value, and at PV_FTIME 0, the scaled one
unfoldable pub filtered : Float → Kept → Float → Float
filtered time old scaled =
    cond (eq time (of_int binary32 (pos 0)) || not old.some) scaled
    (add binary32 old.value
    (div binary32 (sub binary32 scaled old.value)
    (add binary32 (mul binary32 time (of_int binary32 (pos 10))) (of_int binary32 (pos 1)))))

-- What a call's result, tested, tells of the definition that it equals. Assumes nothing.
use mathlib.Core.Path.{◌≡◌, sym, ◌∙◌}
use mathlib.Core.Bool.{Bool}

pub told : {r s t : Bool} → r ≡ s → r ≡ t → s ≡ t
told e f = sym e ∙ f

-- `ain::Settings::filtered` meets its contract: the constants are the numbers that the definition names.
-- Assumes nothing.
use Rattle.std.proofs.Common.{arith}
use Rattle.std.proofs.lemmas.Grind.{common_steps}
use Rattle.std.specs.Float.Ieee.{of_bits, of_int}
use Rattle.ain.specs.Scaling.{filtered}
use Rattle.ain.proofs.Settings.filtered.Goals as goal

pub returns-then-self : goal.returns-then-self
unfolding filtered of_bits of_int
returns-then-self c = grind (arith, common_steps)

pub returns-in-Some : goal.returns-in-Some
unfolding filtered of_bits of_int
returns-in-Some c = grind (arith, common_steps)

pub returns-in-None : goal.returns-in-None
unfolding filtered of_bits of_int
returns-in-None c = grind (arith, common_steps)

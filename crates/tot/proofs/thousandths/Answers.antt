-- `tot::thousandths` is right: the constant is the factor that the definition names.
use Rattle.std.proofs.Common.{rules}
use Rattle.std.specs.Float.Ieee.{of_bits, of_int}
use Rattle.tot.specs.Total.{thousandths_of}
use Rattle.tot.proofs.thousandths.Goals as goal

pub returns : goal.returns
unfolding thousandths_of of_bits of_int
returns c = search rules

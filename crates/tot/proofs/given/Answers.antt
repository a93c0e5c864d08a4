-- `tot::given` is right: the constant is the factor that the definition names.
use Rattle.std.proofs.Common.{rules}
use Rattle.std.specs.Float.Ieee.{of_bits, of_int}
use Rattle.tot.specs.Total.{given_bits, value_given}
use Rattle.tot.proofs.given.Goals as goal

pub returns : goal.returns
unfolding given_bits value_given of_bits of_int
returns c = search rules

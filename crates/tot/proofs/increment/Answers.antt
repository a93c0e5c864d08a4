-- `tot::increment` is right: the constants are the factor and the limit that the definition names.
use Rattle.std.proofs.Common.{rules}
use Rattle.std.specs.Float.Ieee.{of_bits, of_int}
use Rattle.tot.specs.Total.{increment_of}
use Rattle.tot.proofs.increment.Goals as goal

pub returns : goal.returns
unfolding increment_of of_bits of_int
returns c = search rules

-- `parameters::Allowed::takes` meets its contract: what is left is the case with a float, which is computed.
-- Assumes nothing.
use Rattle.std.specs.Float.Ieee.{of_bits, of_int}
use Rattle.parameters.specs.Words.{allows_of}
use Rattle.parameters.proofs.Allowed.takes.Goals as goal

pub returns-in-AtLeastZero : goal.returns-in-AtLeastZero
unfolding allows_of of_bits of_int
returns-in-AtLeastZero c = rw (c.is_finite-in-AtLeastZero.ensures, c.float_of-x.ensures, c.in-AtLeastZero.is)

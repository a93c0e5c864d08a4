-- `parameters::entry_of` meets its contract: what is left are the rows with floats, whose numbers are computed.
-- Assumes nothing.
use Rattle.std.specs.Float.Ieee.{of_bits, of_int, neg}
use Rattle.parameters.specs.Table.{entry_of, entry_in, ain, tot}
use Rattle.parameters.proofs.entry_of.Goals as goal

pub returns-in-1-eq16 : goal.returns-in-1-eq16
unfolding entry_of entry_in ain of_bits of_int
returns-in-1-eq16 c = rw (c.new-in-1-eq16.ensures, c.in-1-eq16.is-0, c.in-1-eq16.is-1)

pub returns-in-2-eq10 : goal.returns-in-2-eq10
unfolding entry_of entry_in tot of_bits of_int neg
returns-in-2-eq10 c = rw (c.new-in-2-eq10.ensures, c.in-2-eq10.is-0, c.in-2-eq10.is-1)

pub returns-in-2-eq16 : goal.returns-in-2-eq16
unfolding entry_of entry_in tot of_bits of_int neg
returns-in-2-eq16 c = rw (c.new-in-2-eq16.ensures, c.in-2-eq16.is-0, c.in-2-eq16.is-1)

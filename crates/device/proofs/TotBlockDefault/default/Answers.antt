-- `default` of TOT: each field of the settings is its parameter's default, computed.
-- Assumes nothing.
use Rattle.std.specs.Float.Ieee.{of_bits}
use Rattle.device.specs.Factory.{tot_by, factory_device}
use Rattle.parameters.specs.Table.{default_of, default_in, rows_of, tot}
use Rattle.device.proofs.TotBlockDefault.default.Goals as goal

pub returns : goal.returns
unfolding factory_device tot_by default_of default_in rows_of tot of_bits
returns c = rw (c.fresh.ensures)

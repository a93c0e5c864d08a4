-- `default` of AO: each field of the settings is its parameter's default, computed.
-- Assumes nothing.
use Rattle.std.specs.Float.Ieee.{of_bits}
use Rattle.device.specs.Factory.{ao_by, factory_device}
use Rattle.parameters.specs.Table.{default_of, default_in, rows_of, ao}
use Rattle.device.proofs.AoBlockDefault.default.Goals as goal

pub returns : goal.returns
unfolding factory_device ao_by default_of default_in rows_of ao of_bits
returns c = rw (c.fresh.ensures)

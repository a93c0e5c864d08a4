-- `default` of AIN: each field of the settings is its parameter's default, computed.
-- Assumes nothing.
use Rattle.std.specs.Float.Ieee.{of_bits, neg, div}
use Rattle.device.specs.Factory.{ain_by, factory_device}
use Rattle.parameters.specs.Table.{default_of, default_in, rows_of, ain}
use Rattle.device.proofs.AinBlockDefault.default.Goals as goal

pub returns : goal.returns
unfolding factory_device ain_by default_of default_in rows_of ain of_bits neg div
returns c = rw (c.default.ensures, c.fresh.ensures)

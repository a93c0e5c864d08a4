-- `default` of DO: each field of the settings is its parameter's default, computed.
-- Assumes nothing.
use Rattle.device.specs.Factory.{dout_by, factory_device}
use Rattle.parameters.specs.Table.{default_of, default_in, rows_of, dout, discrete}
use Rattle.device.proofs.DoutBlockDefault.default.Goals as goal

pub returns : goal.returns
unfolding factory_device dout_by default_of default_in rows_of dout discrete
returns c = rw (c.fresh.ensures)

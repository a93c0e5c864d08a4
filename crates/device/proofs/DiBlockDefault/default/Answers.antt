-- `default` of DI: each field of the settings is its parameter's default, computed.
-- Assumes nothing.
use Rattle.device.specs.Factory.{di_by, factory_device}
use Rattle.parameters.specs.Table.{default_of, default_in, rows_of, di, discrete}
use Rattle.device.proofs.DiBlockDefault.default.Goals as goal

pub returns : goal.returns
unfolding factory_device di_by default_of default_in rows_of di discrete
returns c = rw (c.fresh.ensures)

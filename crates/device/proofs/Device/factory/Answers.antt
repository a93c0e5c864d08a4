-- The factory device: each block is what its `default` gives.
use Rattle.device.specs.Factory.{factory_device}
use Rattle.parameters.specs.Table.{default_of, default_in, rows_of, physical}
use Rattle.device.proofs.Device.factory.Goals as goal

pub returns : goal.returns
unfolding factory_device default_of default_in rows_of physical
returns c = rw (c.default.ensures, c.default-2.ensures, c.default-3.ensures, c.default-4.ensures, c.default-5.ensures)

-- What the ticks of the two output blocks give, their orders as the numbers that cross to C, and that these are the orders of the tick of
-- document 01, Calls on the device, with document 02, request 3. Assumes nothing.
use Rattle.std.specs.Prelude.{◌≡◌, refl, Bool}
use Rattle.wire.specs.declared.Pair.{Pair}
use Rattle.wire.specs.declared.Discrete.{Discrete}
use Rattle.ao.specs.Tick.{tick_of as ao_tick}
use Rattle.dout.specs.Tick.{tick_of as dout_tick}
use Rattle.device.specs.declared.AoBlock.{AoBlock}
use Rattle.device.specs.declared.DoutBlock.{DoutBlock}
use Rattle.device.specs.declared.Device.{Device}
use Rattle.device.specs.Blocks.{ao_ticked, dout_ticked}
use Rattle.device.specs.Calls.{tick_of}
use Rattle.capi.specs.declared.OrdersNumbers.{OrdersNumbers}
use Rattle.capi.specs.Numbers.{order_numbers, discrete_order_numbers, orders_numbers}

pub record OutputsTicked : Type 0 where
  pub ao : AoBlock
  pub dout : DoutBlock
  pub orders : OrdersNumbers

unfoldable pub outputs_ticked : AoBlock → DoutBlock → Bool → OutputsTicked
outputs_ticked ao dout fault = record {
  ao = ao_ticked ao fault;
  dout = dout_ticked dout fault;
  orders = record {
    ao = order_numbers (ao_tick ao.settings ao.state fault).order;
    dout = discrete_order_numbers (dout_tick dout.settings dout.state fault).order;
  };
}

pub orders-by-blocks : (d : Device) (fault : Bool) (ain tot : Pair) (di : Discrete)
    → (outputs_ticked d.ao d.dout fault).orders ≡ orders_numbers (tick_of d fault ain tot di)
unfolding tick_of outputs_ticked
orders-by-blocks d fault ain tot di = refl

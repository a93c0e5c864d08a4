-- Orders, answers and readings as the numbers that cross to C: document 01, Calls on the device and Refused calls, and document 02,
-- request 3. Assumes nothing.
use Rattle.std.specs.Prelude.{ℕ, Ok, Err, Result, Float}
use Rattle.numbers.specs.Floats.{float_of}
use Rattle.wire.specs.Refusal.{refusal_number}
use Rattle.blocks.specs.declared.setpoint.Order.{Order}
use Rattle.blocks.specs.declared.setpoint.Order.TheVariants.{Position, Safe, Rest}
use Rattle.device.specs.declared.Device.{Device}
use Rattle.device.specs.Calls.{Ticked}
use Rattle.device.specs.Read.{Reading}
use Rattle.packing.specs.declared.NotUnpacked.{NotUnpacked}
use Rattle.packing.specs.Packed.{not_unpacked_number}
use Rattle.capi.specs.declared.OrderNumbers.{OrderNumbers}
use Rattle.capi.specs.declared.DiscreteOrderNumbers.{DiscreteOrderNumbers}
use Rattle.capi.specs.declared.OrdersNumbers.{OrdersNumbers}
use Rattle.capi.specs.declared.ReadingNumbers.{ReadingNumbers}

-- 2.0.0: what a header and an archive that belong together have
abbrev pub version : ℕ
version = 0x020000

-- C4: the paper leaves the numbers of the kinds free; from 0 in its order
abbrev pub order_numbers : Order Float → OrderNumbers
order_numbers (Position x) = record { kind = 0; value = x }
order_numbers Safe = record { kind = 1; value = float_of 0 }
order_numbers Rest = record { kind = 2; value = float_of 0 }

-- Q3.6: DO's, by the same numbers
abbrev pub discrete_order_numbers : Order ℕ → DiscreteOrderNumbers
discrete_order_numbers (Position x) = record { kind = 0; value = x }
discrete_order_numbers Safe = record { kind = 1; value = 0 }
discrete_order_numbers Rest = record { kind = 2; value = 0 }

-- C3, Q3.6: the orders of a tick
abbrev pub orders_numbers : Ticked → OrdersNumbers
orders_numbers t = record { ao = order_numbers t.order; dout = discrete_order_numbers t.order_d }

-- C8: a read's two words; 0 and 0 where it is refused
abbrev pub reading_numbers : Reading → ReadingNumbers
reading_numbers (Ok w) = record { answer = 0; first = w.first; second = w.second }
reading_numbers (Err r) = record { answer = refusal_number r; first = 0; second = 0 }

-- the number of what bytes are unpacked to: 0, or that of why they are no device
abbrev pub unpacked_number : Result Device NotUnpacked → ℕ
unpacked_number (Ok next) = 0
unpacked_number (Err reason) = not_unpacked_number reason

-- a device d after bytes were unpacked into it: the one they stand for, or d where they are refused
abbrev pub unpacked_into : Device → Result Device NotUnpacked → Device
unpacked_into d (Ok next) = next
unpacked_into d (Err reason) = d

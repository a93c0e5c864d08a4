-- The calls of a history and what is seen of them, document 01, Calls on the device and History rules, and document 02, request 1.
-- Assumes nothing.
use Rattle.std.specs.Prelude.{ℕ, ◌^◌, Bool, true, ◌&&◌, List, [], ◌∷◌, ltb, Result, Ok, Err, Float}
use Rattle.wire.specs.declared.Refusal.{Refusal}
use Rattle.wire.specs.declared.Pair.{Pair}
use Rattle.wire.specs.declared.Discrete.{Discrete}
use Rattle.blocks.specs.declared.setpoint.Order.{Order}
use Rattle.parameters.specs.declared.Words.{Words}
use Rattle.device.specs.declared.Device.{Device}
use Rattle.device.specs.Calls.{Ticked}
use Rattle.device.specs.Factory.{factory_device}
use Rattle.device.specs.Read.{read_of}
use Rattle.device.specs.Calls.{write_of, tick_of, telegram_of, load_of, warm_started}
use Rattle.history.specs.Past.{History, start, ◌▷◌}

-- C2, Q3.6: what a tick is fed beside the fault flag: the transducers' pairs for AIN, TOT and DI
pub record Fed : Type 0 where
  pub ain : Pair
  pub tot : Pair
  pub di : Discrete

-- C2, C5 to C7, Q1.9b: a call with its arguments (reads move nothing and are left out)
pub data Call : Type 0 where
  tick : Bool → Fed → Call
  telegram : ℕ → List ℕ → Call
  write : ℕ → ℕ → ℕ → ℕ → Call
  load : List ℕ → Call
  warm_start : Call

-- C6: the words of a write have 32 bits
abbrev pub fitting : Call → Bool
fitting (tick fault fed) = true
fitting (telegram input bytes) = true
fitting (write block number a b) = ltb a (2 ^ 32) && ltb b (2 ^ 32)
fitting (load bytes) = true
fitting warm_start = true

abbrev pub all_fit : List Call → Bool
all_fit [] = true
all_fit (c ∷ cs) = fitting c && all_fit cs

-- R2, Q3.11: what is seen of a tick beside its arguments: OUT of AIN and AO and OUT_D of DI and DO as read after it, and its answer, the drive orders
-- of AO and DO
pub record Seen : Type 0 where
  pub ain : Words
  pub ao : Words
  pub di : Words
  pub dout : Words
  pub order : Order Float
  pub order_d : Order ℕ

-- R2: what the rules see of a call
pub data Event : Type 0 where
  ticked : Bool → Fed → Seen → Event
  telegram : ℕ → List ℕ → Event
  wrote : ℕ → ℕ → ℕ → ℕ → Event
  loaded : List ℕ → Event
  warmed : Event

abbrev pub words : ℕ → ℕ → Words
words a b = record { first = a; second = b }

abbrev pub read : Result Words Refusal → Words
read (Ok w) = w
read (Err r) = words 0 0

-- a tick of a device, and what is seen of it
abbrev pub ticked_by : Device → Bool → Fed → Ticked
ticked_by d fault fed = tick_of d fault fed.ain fed.tot fed.di

abbrev pub seen_of : Ticked → Seen
seen_of t = record {
  ain = read (read_of t.device 1 10);
  ao = read (read_of t.device 3 37);
  di = read (read_of t.device 4 10);
  dout = read (read_of t.device 5 10);
  order = t.order;
  order_d = t.order_d;
}

-- the device after a call, and what is seen of the call
unfoldable pub after : Device → Call → Device
after d (tick fault fed) = (ticked_by d fault fed).device
after d (telegram input bytes) = (telegram_of d input bytes).device
after d (write block number a b) = (write_of d block number a b).device
after d (load bytes) = (load_of d bytes).device
after d warm_start = warm_started d

unfoldable pub event : Device → Call → Event
unfolding after
event d (tick fault fed) = ticked fault fed (seen_of (ticked_by d fault fed))
event d (telegram input bytes) = Event.telegram input bytes
event d (write block number a b) = wrote block number a b
event d (load bytes) = loaded bytes
event d warm_start = warmed

-- a list of calls on a device: the device reached, and all that is seen, oldest first
unfoldable pub reached_from : Device → List Call → Device
reached_from d [] = d
reached_from d (c ∷ cs) = reached_from (after d c) cs

unfoldable pub trace_from : Device → History Event → List Call → History Event
trace_from d h [] = h
trace_from d h (c ∷ cs) = trace_from (after d c) (h ▷ event d c) cs

-- C1: the list begins with the factory device
unfoldable pub reached : List Call → Device
unfolding reached_from
reached cs = reached_from factory_device cs

unfoldable pub trace : List Call → History Event
unfolding trace_from
trace cs = trace_from factory_device start cs

-- A tick block by block, and that it is the tick of document 01, Calls on the device, with document 02, request 3. Assumes nothing.
use Rattle.std.specs.Prelude.{◌≡◌, refl, Bool}
use Rattle.wire.specs.declared.Pair.{Pair}
use Rattle.wire.specs.declared.Discrete.{Discrete}
use Rattle.ain.specs.Tick.{tick_of as ain_tick}
use Rattle.tot.specs.Tick.{tick_of as tot_tick}
use Rattle.ao.specs.Tick.{tick_of as ao_tick}
use Rattle.di.specs.Tick.{tick_of as di_tick}
use Rattle.dout.specs.Tick.{tick_of as dout_tick}
use Rattle.device.specs.declared.AinBlock.{AinBlock}
use Rattle.device.specs.declared.TotBlock.{TotBlock}
use Rattle.device.specs.declared.AoBlock.{AoBlock}
use Rattle.device.specs.declared.DiBlock.{DiBlock}
use Rattle.device.specs.declared.DoutBlock.{DoutBlock}
use Rattle.device.specs.declared.Device.{Device}
use Rattle.device.specs.Calls.{tick_of}

abbrev pub ain_ticked : AinBlock → Bool → Pair → AinBlock
ain_ticked b fault pair = record {
  settings = b.settings;
  state = ain_tick b.settings b.table b.state fault pair.bits pair.status;
  st_rev = b.st_rev;
  table = b.table;
}

abbrev pub tot_ticked : TotBlock → Bool → Pair → TotBlock
tot_ticked b fault pair = record { settings = b.settings; state = tot_tick b.settings b.state fault pair.bits pair.status; st_rev = b.st_rev }

abbrev pub ao_ticked : AoBlock → Bool → AoBlock
ao_ticked b fault = record { settings = b.settings; state = (ao_tick b.settings b.state fault).state; st_rev = b.st_rev }

abbrev pub di_ticked : DiBlock → Bool → Discrete → DiBlock
di_ticked b fault pair = record { settings = b.settings; state = di_tick b.settings b.state fault pair.value pair.status; st_rev = b.st_rev }

abbrev pub dout_ticked : DoutBlock → Bool → DoutBlock
dout_ticked b fault = record { settings = b.settings; state = (dout_tick b.settings b.state fault).state; st_rev = b.st_rev }

module _ (d : Device) (fault : Bool) (ain tot : Pair) (di : Discrete) where
  -- the device with its blocks ticked
  abbrev pub by_block : Device
  by_block = record {
    write_locking = d.write_locking;
    ain = ain_ticked d.ain fault ain;
    tot = tot_ticked d.tot fault tot;
    ao = ao_ticked d.ao fault;
    di = di_ticked d.di fault di;
    dout = dout_ticked d.dout fault;
  }

  pub by_blocks : by_block ≡ (tick_of d fault ain tot di).device
  unfolding tick_of
  by_blocks = refl

  pub orders-by-blocks : ((ao_tick d.ao.settings d.ao.state fault).order ≡ (tick_of d fault ain tot di).order)
      × ((dout_tick d.dout.settings d.dout.state fault).order ≡ (tick_of d fault ain tot di).order_d)
  unfolding tick_of
  orders-by-blocks = (refl, refl)

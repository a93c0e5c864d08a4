-- Document 01, Points on the curve, A to I, over the rules themselves. Assumes nothing.
use Rattle.std.specs.Prelude.{ℕ, zero, suc, ◌≡◌, Bool, true, false, [], ◌∷◌, pos, negsuc, Float}
use Rattle.std.specs.Float.{binary32}
use Rattle.std.specs.Float.Ieee.{of_int, div}
use Rattle.numbers.specs.Floats.{float_of}
use Rattle.wire.specs.declared.Pair.{Pair}
use Rattle.wire.specs.declared.Discrete.{Discrete}
use Rattle.wire.specs.Status.{quality_of, sub_status_of, limits_of}
use Rattle.wire.specs.Bytes.{five_bytes}
use Rattle.blocks.specs.Common.{kept}
use Rattle.ain.specs.Scaling.{scaled_of, filtered}
use Rattle.ain.specs.Alarm.{alarm_stands}
use Rattle.tot.specs.Total.{increment_of, value_given}
use Rattle.history.specs.Past.{History, start, ◌▷◌}
use Rattle.history.specs.Calls.{Fed, Seen, tick, write, reached, Event, ticked, telegram, wrote}
use Rattle.history.specs.Rules.{is_fail_safe, analog_out, accepted, st_rev}

-- a whole number as a float
abbrev whole : ℕ → Float
whole n = of_int binary32 (pos n)

-- an event n times more
unfoldable pub again : ℕ → Event → History Event → History Event
again zero e h = h
again (suc n) e h = again n e h ▷ e

-- a usable telegram of value 50 on SP, with FSAFE_TIME 2
abbrev setpoint50 : History Event
setpoint50 = start ▷ wrote 3 23 2 0 ▷ telegram 0 (0x42 ∷ 0x48 ∷ 0 ∷ 0 ∷ 0x80 ∷ [])

pub record Points : Type 0 where
  -- K1: the parts of a status byte
  pub a : (quality_of 0x4e ≡ 1) × (sub_status_of 0x4e ≡ 3) × (limits_of 0x4e ≡ 2)
  -- K2: an input at half of PV_SCALE, as bytes on the bus
  pub b : (tot : Pair) (di : Discrete)
      → five_bytes (reached (write 1 11 0x4080_0000 0x41a0_0000
      ∷ tick false (record { ain = record { bits = 0x4140_0000; status = 0x80 }; tot = tot; di = di }) ∷ [])).ain.state.out
      ≡ 0x42 ∷ 0x48 ∷ 0x00 ∷ 0x00 ∷ 0x80 ∷ []
  -- K3: a filter step by a sixteenth
  pub c : filtered (float_of 0x3fc0_0000) (kept (whole 0))
      (scaled_of (record { low = whole 0; high = whole 64 }) (record { low = whole 0; high = whole 64 }) (whole 32)) ≡ whole 2
  -- K4: an alarm is raised at its limit, still stands where OUT is back by the hysteresis, and falls below that
  pub d : (alarm_stands false false (whole 80) (float_of 0x3f00_0000) (whole 80) ≡ true)
      × (alarm_stands false true (whole 80) (float_of 0x3f00_0000) (float_of 0x429f_0000) ≡ true)
      × (alarm_stands false true (whole 80) (float_of 0x3f00_0000) (float_of 0x429e_8000) ≡ false)
  -- K5, K6: a sixty-fourth a second is 1.5625 thousandths a tick, cut to 1 on both sides of 0
  pub e : increment_of (float_of 0x3c80_0000) ≡ pos 1
  pub f : increment_of (float_of 0xbc80_0000) ≡ negsuc 0
  -- K7: the 25th bit of a total is not given
  pub g : value_given (pos 16_777_217) ≡ div binary32 (whole 16_777_216) (whole 1000)
  -- K8: under FSAFE_TIME 2 three ticks follow a usable telegram and the fourth is fail-safe, whatever else the ticks carry
  pub h : (fault₁ fault₂ fault₃ : Bool) (fed₁ fed₂ fed₃ : Fed) (seen₁ seen₂ seen₃ : Seen)
      → (is_fail_safe analog_out 0 setpoint50 ≡ false)
      × (is_fail_safe analog_out 0 (setpoint50 ▷ ticked fault₁ fed₁ seen₁) ≡ false)
      × (is_fail_safe analog_out 0 (setpoint50 ▷ ticked fault₁ fed₁ seen₁ ▷ ticked fault₂ fed₂ seen₂) ≡ false)
      × (is_fail_safe analog_out 0 (setpoint50 ▷ ticked fault₁ fed₁ seen₁ ▷ ticked fault₂ fed₂ seen₂ ▷ ticked fault₃ fed₃ seen₃) ≡ true)
  -- K9: as many static writes as ST_REV has values, all the same: they are accepted, and ST_REV is 0 again
  pub i : (accepted (again 65536 (wrote 1 17 1 0) start) ≡ again 65536 (wrote 1 17 1 0) start) × (st_rev (again 65536 (wrote 1 17 1 0) start) 1 ≡ 0)

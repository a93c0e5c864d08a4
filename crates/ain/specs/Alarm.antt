-- AIN's alarms, document 01, AIN tick. One rule serves the four: what differs between a high and a low alarm is an argument. Assumes nothing.
use Rattle.std.specs.Prelude.{ℕ, ◌+◌, ◌*◌, Bool, true, false, not, ◌&&◌, ◌||◌, cond, eqb, Float}
use Rattle.std.specs.Float.{binary32}
use Rattle.std.specs.Float.Ieee.{add, sub, lt, le}
use Rattle.wire.specs.Status.{quality_of}
use Rattle.ain.specs.declared.Settings.{Settings}
use Rattle.ain.specs.declared.Alarms.{Alarms}

-- A10: a high alarm is raised by an OUT at or above its limit, a low one by an OUT at or below it
unfoldable pub rises : Bool → Float → Float → Bool
rises low limit out = cond low (le out limit) (le limit out)

-- A10: it falls when OUT is back by more than the hysteresis: below limit less hysteresis, for a low one above their sum
unfoldable pub falls : Bool → Float → Float → Float → Bool
falls low limit hysteresis out = cond low (lt (add binary32 limit hysteresis) out) (lt out (sub binary32 limit hysteresis))

-- A10: an alarm after a tick outside O/S: raised by it, or standing before and not fallen
unfoldable pub alarm_stands : Bool → Bool → Float → Float → Float → Bool
alarm_stands low stood limit hysteresis out = rises low limit out || (stood && not (falls low limit hysteresis out))

unfoldable pub alarms_of : Settings → Alarms → Float → Alarms
alarms_of s stood out = record {
  hi_hi = alarm_stands false stood.hi_hi s.hi_hi_lim s.alarm_hys out;
  hi = alarm_stands false stood.hi s.hi_lim s.alarm_hys out;
  lo = alarm_stands true stood.lo s.lo_lim s.alarm_hys out;
  lo_lo = alarm_stands true stood.lo_lo s.lo_lo_lim s.alarm_hys out;
}

-- A11: none stands after an O/S tick
abbrev pub no_alarms : Alarms
no_alarms = record { hi_hi = false; hi = false; lo = false; lo_lo = false }

abbrev pub bit : Bool → ℕ
bit true = 1
bit false = 0

-- P11a: each alarm that stands has its bit
unfoldable pub alarm_byte : Alarms → ℕ
alarm_byte a = bit a.hi_hi + 2 * bit a.hi + 4 * bit a.lo + 8 * bit a.lo_lo

-- A12: the status of a usable Auto tick: with a Good input that of the first alarm that stands, in the order HI_HI, LO_LO, HI, LO; otherwise the input's
unfoldable pub alarm_status : Alarms → ℕ → ℕ
alarm_status stand status =
    cond (not (eqb (quality_of status) 2)) status
    (cond stand.hi_hi 0x8e
    (cond stand.lo_lo 0x8d
    (cond stand.hi 0x8a
    (cond stand.lo 0x89 status))))

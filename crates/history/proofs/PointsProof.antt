-- Points A to H compute; point I goes by the law that n further static writes add n to ST_REV, modulo 65,536. Assumes nothing.
use Prim.Native.Nat.{ℕ, zero, suc, ◌+◌, ◌%◌}
use native.Mathlib.Omega.{arith}
use mathlib.Core.Path.{◌≡◌, refl, ap, ◌∙◌}
use mathlib.Core.Bool.{Bool, true}
use lib.Ieee.{of_int, of_bits, to_bits, add, sub, mul, div, lt, le, eq, ne, to_signed, neg}
use Rattle.numbers.specs.Whole as Whole
use Rattle.scaling.specs.Scaling.{fraction_of, at_fraction, allowed_scale}
use Rattle.wire.specs.Bytes.{pair_of}
use Rattle.blocks.specs.Common.{actual_mode, input_status}
use Rattle.ain.specs.Scaling.{scaled_of, filtered}
use Rattle.ain.specs.Alarm.{alarm_stands, rises, falls, alarms_of, alarm_status}
use Rattle.ain.specs.Tick as Ain
use Rattle.tot.specs.Total.{increment_of, value_given}
use Rattle.parameters.specs.Table as Table
use Rattle.parameters.specs.Words.{allows_of}
use Rattle.parameters.specs.Refused.{ground}
use Rattle.device.specs.Stored.{stored_in, ain_written, ain_settings}
use Rattle.device.specs.Factory.{factory_device, ain_by, tot_by, ao_by, di_by, dout_by}
use Rattle.device.specs.Calls.{write_of, tick_of}
use Rattle.history.specs.Past.{History, start, count, count_since, since, latest}
use Rattle.history.specs.Calls.{after, reached_from, reached, Event, wrote}
use Rattle.history.specs.Rules.{statics, kepts, outputs, read_onlys, has, defaults, stored, to_write, is_accepted, answer, accepted, is_static_write, st_rev, came, silence, ifs, is_fail_safe, is_usable_on, is_ifs_on}
use Rattle.history.specs.Points.{again, Points}

-- ---- ST_REV

again-counts : (p : Event → Bool) (e : Event) (h : History Event) (n : ℕ) → p e ≡ true → count p (again n e h) ≡ count p h + n
unfolding again count
again-counts p e h zero t = omega arith
again-counts p e h (suc n) t = rw t (ap (λ (x : ℕ). x + 1) (again-counts p e h n t) ∙ next (count p h) n)
  where
    next : (c n : ℕ) → c + n + 1 ≡ c + suc n
    next c n = omega arith

-- n further static writes to a block add n, modulo 65,536
pub rev-law : (block : ℕ) (e : Event) (h : History Event) (n : ℕ) → is_static_write block e ≡ true → st_rev (again n e h) block ≡ (count (is_static_write block) h + n) % 65536
unfolding st_rev
rev-law block e h n t = ap (λ (x : ℕ). x % 65536) (again-counts (is_static_write block) e h n t)

-- writes of FSAFE_TYPE leave the lock, and so each is accepted
abbrev e17 : Event
e17 = wrote 1 17 1 0

lock-stands : (n : ℕ) → (stored (again n e17 start) 0 18).first ≡ 2457
unfolding again stored latest defaults
lock-stands zero = refl
lock-stands (suc n) = lock-stands n

met : (n : ℕ) → is_accepted (answer (again n e17 start) e17) ≡ true
unfolding to_write has statics kepts outputs read_onlys Table.entry_of Table.entry_in Table.ain allows_of
met n = rw (lock-stands n)

all-met : (n : ℕ) → accepted (again n e17 start) ≡ again n e17 start
unfolding again accepted
all-met zero = refl
all-met (suc n) = rw (all-met n, met n)

-- ---- the points

pub points : Points
points = record {
  a = (refl, refl, refl);
  b = λ tot di. unfold reached reached_from after write_of ground Table.entry_of Table.entry_in Table.ain allows_of allowed_scale stored_in ain_written ain_settings factory_device ain_by tot_by ao_by di_by dout_by Table.default_of Table.default_in Table.rows_of Table.physical Table.tot Table.ao Table.di Table.dout Table.discrete tick_of Ain.tick_of Ain.tick_by Ain.auto_tick Ain.auto_by Ain.input_of Ain.measured Ain.scaled_value Ain.calculated Ain.usable_tick actual_mode input_status scaled_of filtered fraction_of at_fraction alarms_of alarm_stands rises falls alarm_status of_int of_bits to_bits add sub mul div lt le eq ne neg in refl;
  c = unfold filtered scaled_of fraction_of at_fraction of_int of_bits add sub mul div eq in refl;
  d = unfold alarm_stands rises falls of_int of_bits sub lt le in (refl, refl, refl);
  e = unfold increment_of Whole.limit of_int of_bits mul to_signed in refl;
  f = unfold increment_of Whole.limit of_int of_bits mul to_signed in refl;
  g = unfold value_given Whole.highest24ℤ Whole.highest_bits of_int div lib.Ieee.size in refl;
  h = λ fault₁ fault₂ fault₃ fed₁ fed₂ fed₃ seen₁ seen₂ seen₃. unfold is_fail_safe came since silence count_since ifs is_usable_on is_ifs_on pair_of stored latest defaults of_bits in (refl, refl, refl, refl);
  i = (all-met 65536, rev-law 1 e17 start 65536 (unfold statics in refl) ∙ unfold count in refl);
}

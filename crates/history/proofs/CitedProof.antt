-- The points of what the rules cite compute. Assumes nothing.
use Prim.Native.Nat.{ℕ, suc, ◌+◌, ◌-◌, ◌*◌, ◌/◌, ◌^◌}
use native.Mathlib.Omega.{arith}
use mathlib.Core.List.{List, [], ◌∷◌}
use lib.ListN.{length, take, drop}
use mathlib.Core.Path.{◌≡◌, refl, ap}
use mathlib.Core.Bool.{Bool, true, false, ◌&&◌, cond}
use lib.Dec.{eqb, leb}
use lib.IntN.{ℤ, pos, negsuc, ◌+ℤ◌}
use lib.Ieee.{Float, nan, inf, fin, binary32, of_int, of_bits, to_bits, add, sub, mul, div, lt, le, eq, ne, to_signed, neg}
use Rattle.numbers.specs.Floats.{float_of}
use Rattle.numbers.specs.Floats as Floats
use Rattle.numbers.specs.Whole as Whole
use Rattle.scaling.specs.Scaling.{fraction_of, at_fraction, allowed_scale}
use Rattle.linearisation.specs.Table.{pair_from, pairs_from, pairs_in}
use Rattle.wire.specs.Bytes.{pair_of, discrete_of}
use Rattle.wire.specs.Image.{part_of, part_place}
use Rattle.tot.specs.Total.{increment_of, thousandths_of, sum_of, value_given}
use Rattle.parameters.specs.Table as Table
use Rattle.parameters.specs.Words.{allows_of}
use Rattle.history.specs.Past.{count_since, since, latest, carried}
use Rattle.history.specs.Rules.{statics, kepts, outputs, read_onlys, has, defaults, stored, table, tabled, linear, said, mode_at, to_write, is_whole, to_load, bad_status, scaled, calculated, ain_bad, filter_value, raises, clears, stands, stands_with, alarmed, senses, sensed_fail_safe, ain_sensed, di_sensed, last_usable, last_out, old_out, ao_scaled, is_usable_on, is_ifs_on, came, setpoint, silence, ifs, is_fail_safe, working, driven_fail_safe, driven_by, drives, driven, order_d, given}
use Rattle.history.specs.Cited.{Cited, cut_to, cleared_of, finite_or}

whole-cut : (n : ℕ) (z : ℤ) → Whole.limit n z ≡ cut_to n z
unfolding Whole.limit
whole-cut n (pos a) = refl
whole-cut n (negsuc a) = refl

-- with no operation opened: another factor differs as a number, before anything is computed
thousandth-is : (x : Float) → thousandths_of x ≡ to_signed 63 (mul binary32 x (of_int binary32 (pos 1000)))
unfolding thousandths_of
thousandth-is x = refl

bits-cleared : (z : ℤ) → Whole.highest24ℤ z ≡ cleared_of z
unfolding Whole.highest24ℤ Whole.highest_bits
bits-cleared (pos m) = refl
bits-cleared (negsuc m) = refl

or-infinity : (negative : Bool) (x : Float) → Floats.finite_or negative x ≡ finite_or negative x
or-infinity negative nan = refl
or-infinity true (inf true) = refl
or-infinity true (inf false) = refl
or-infinity false (inf true) = refl
or-infinity false (inf false) = refl
or-infinity negative (fin s m e) = refl

-- eight bytes more are one pair more
first-pair : (a b c d e f g h : ℕ) (s : List ℕ) → pairs_in (a ∷ b ∷ c ∷ d ∷ e ∷ f ∷ g ∷ h ∷ s) ≡ pair_from (a ∷ b ∷ c ∷ d ∷ e ∷ f ∷ g ∷ h ∷ []) ∷ pairs_in s
unfolding pairs_in pairs_from
first-pair a b c d e f g h s = ap (λ (n : ℕ). pairs_from n (a ∷ b ∷ c ∷ d ∷ e ∷ f ∷ g ∷ h ∷ s)) (more (length s))
  where
    more : (n : ℕ) → suc (suc (suc (suc (suc (suc (suc (suc n))))))) / 8 ≡ suc (n / 8)
    more n = omega arith

-- the bytes of a part, by the block
part_same : (s : List ℕ) (block : ℕ) → part_of s block
    ≡ cond (leb 19 (length s) && leb 1 block && leb block 5) (cond (leb block 3) (take 5 (drop (5 * (block - 1)) s)) (take 2 (drop (15 + 2 * (block - 4)) s))) []
unfolding part_of
part_same s block = ap (λ (x : List ℕ). cond (leb 19 (length s) && leb 1 block && leb block 5) x []) (go (leb block 3))
  where
    go : (b : Bool) → take (cond b 5 2) (drop (cond b (5 * (block - 1)) (15 + 2 * (block - 4))) s) ≡ cond b (take 5 (drop (5 * (block - 1)) s)) (take 2 (drop (15 + 2 * (block - 4)) s))
    go true = refl
    go false = refl

pub cited-points : Cited
unfolding statics kepts outputs read_onlys has defaults stored latest table tabled linear said to_write to_load is_whole pairs_in pairs_from scaled calculated ao_scaled fraction_of at_fraction allowed_scale pair_of increment_of thousandths_of sum_of value_given Whole.limit Whole.highest24ℤ Whole.highest_bits Table.entry_of Table.entry_in Table.rows_of Table.physical Table.ain Table.tot Table.ao Table.di Table.dout Table.discrete discrete_of allows_of of_int of_bits to_bits add sub mul div lt le eq ne to_signed neg lib.Ieee.size
cited-points = record {
  measured = λ tot di seen. unfold given senses ain_sensed mode_at filter_value carried ain_bad bad_status alarmed stands_with stands since raises clears in refl;
  alarm = λ fed status seen. unfold stands_with stands since raises clears mode_at in (refl, refl, refl);
  fraction = λ low high x. refl;
  place = λ low high f. refl;
  increment = λ rate. whole-cut (10 ^ 9) (to_signed 63 (mul binary32 rate (of_int binary32 (pos 100))));
  sum = λ total z. whole-cut (10 ^ 12) (total +ℤ z);
  thousandth = thousandth-is;
  value = λ total. ap (λ (z : ℤ). div binary32 (of_int binary32 z) (of_int binary32 (pos 1000))) (bits-cleared total);
  single = λ n x. (refl, refl);
  status = λ n. (refl, refl, refl);
  sent = λ n status. refl;
  received = λ a b c d status. refl;
  sent_d = λ value status. refl;
  received_d = λ value status. refl;
  setpoint = refl;
  closing = refl;
  input = refl;
  down = refl;
  up = refl;
  increments = (refl, refl, refl, refl, refl, refl, refl);
  sums = (refl, refl, refl, refl, refl);
  thousandths = (refl, refl, refl, refl);
  values = (refl, refl, refl, refl);
  bits = (refl, refl, refl);
  bytes = (refl, refl);
  statuses = (refl, refl, refl, refl);
  numbers = (refl, refl, refl, refl, refl, refl, refl, refl, refl, refl, refl);
  pairs = λ a b c d e f g h s. first-pair a b c d e f g h s;
  rest = λ a b c d e f g. (refl, refl);
  weirs = refl;
  curve = (refl, refl, refl, refl, refl, refl, refl);
  starts = (refl, refl, refl, refl);
  linearised = (refl, refl);
  loads = (refl, refl, refl, refl, refl, refl, refl, refl, refl, refl, refl);
  part = λ s block place. unfold part_of part_place in (part_same s block, refl);
  sluice = λ fed seen. unfold given order_d driven drives driven_by driven_fail_safe is_fail_safe working came since silence count_since ifs is_usable_on is_ifs_on last_out old_out mode_at carried in (refl, refl, refl, refl);
  sluiced = unfold order_d driven drives driven_by driven_fail_safe is_fail_safe working setpoint came since silence count_since ifs is_usable_on is_ifs_on last_out old_out mode_at carried in (refl, refl, refl, refl);
  contact = λ ain tot seen. unfold given senses sensed_fail_safe di_sensed last_usable last_out old_out mode_at bad_status carried in (refl, refl, refl, refl, refl);
  locks = (λ a b. refl, refl, refl);
  modes = ((λ a b. refl, refl, refl), (λ a b. refl, refl, refl), (λ a b. refl, refl, refl), (λ a b. refl, refl, refl), (λ a b. refl, refl, refl));
  ends = ((λ a b. refl, refl, refl), (λ a b. refl, refl, refl), (λ a b. refl, refl, refl), (λ a b. refl, refl, refl));
  codes = ((λ a b. refl, refl, refl), (λ a b. refl, refl, refl), (λ a b. refl, refl, refl), (λ a b. refl, refl, refl), (λ a b. refl, refl, refl), (λ a b. refl, refl, refl), (λ a b. refl, refl, refl), (λ a b. refl, refl, refl));
  codes_d = ((λ a b. refl, refl, refl), (λ a b. refl, refl, refl), (λ a b. refl, refl, refl), (λ a b. refl, refl, refl), (λ a b. refl, refl, refl), (λ a b. refl, refl, refl), (λ a b. refl, refl, refl));
  ranges = ((λ a b. refl, refl, refl), (λ a b. refl, refl, refl));
  finites = ((λ a b. refl, refl, refl), (λ a b. refl, refl, refl));
  hysteresis = (λ a b. refl, refl, refl);
  limits = ((above, refl, refl), (above, refl, refl), (below, refl, refl), (below, refl, refl));
  outs = ((λ a b. refl, refl, refl), (λ a b. refl, refl, refl), (λ a b. refl, refl, refl), (λ a b. refl, refl, refl));
  totals = (λ a b. refl, refl, refl);
  table = ((refl, refl), (refl, refl), (refl, refl), (refl, refl), (refl, refl), (refl, refl));
}
  where
    above : (a b : ℕ) → Floats.finite_or false (float_of a) && eqb b 0 ≡ finite_or false (float_of a) && eqb b 0
    above a b = ap (λ (t : Bool). t && eqb b 0) (or-infinity false (float_of a))

    below : (a b : ℕ) → Floats.finite_or true (float_of a) && eqb b 0 ≡ finite_or true (float_of a) && eqb b 0
    below a b = ap (λ (t : Bool). t && eqb b 0) (or-infinity true (float_of a))

use Rattle.std.proofs.Common.{◌≡◌, take, length}
use Rattle.packing.specs.Words.{points}
use Rattle.packing.specs.Packed.{words_in}
use Rattle.packing.proofs.TableLayout.take.Given as goal

abbrev pub invariant-loop-point : goal.invariant-loop-point
invariant-loop-point l = record {
  len : length l.point-items ≡ 21;
  value : take l.point-index l.point-items ≡ (points l.point-index (words_in l.initial.from.left.now)).value;
  from_after : words_in l.from.left.now ≡ (points l.point-index (words_in l.initial.from.left.now)).rest;
}

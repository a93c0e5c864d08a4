-- `packing::TableLayout::take` meets its contract: by the loop's invariant the places so far are those that are read.
use Rattle.std.proofs.Common.{◌<◌, length, length-set, refl, add-one, arith, ◌∙◌}
use Rattle.std.proofs.Math.Seq.{take-suc-set}
use Rattle.packing.specs.Words.{points}
use Rattle.packing.specs.Packed.{words_in}
use Rattle.packing.specs.Laws.{points-more}
use Rattle.packing.proofs.TableLayout.take.Goals as goal

pub loop-point-init : goal.loop-point-init
unfolding points
loop-point-init c = record { len = refl; value = refl; from_after = refl }

pub loop-point-preserved : goal.loop-point-preserved
loop-point-preserved c =
    let inv = c.loop-point.invariant in
    let i = c.loop-point.point-index in
    let items = c.loop-point.point-items in
    let h : i < length items = omega arith in
    let more = points-more i (words_in c.take-count.new.from.left.now) in
    let p = rw inv.from_after at c.take.ensures.value in
    let s = take-suc-set items i c.take.result h in
    record {
      len = simp length-set inv.len;
      value = rw (add-one i, more) (s ∙ rw (inv.value, p));
      from_after = rw (add-one i, more) (c.take.ensures.from_after ∙ rw inv.from_after);
    }

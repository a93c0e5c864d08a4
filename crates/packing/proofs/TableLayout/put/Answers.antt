-- `packing::TableLayout::put` meets its contract: by the loop's invariant the words of the places so far are written, and the places are read again.
use Rattle.std.proofs.Common.{ℕ, ◌<◌, List, ◌++◌, get_or, length, add-one, zero-add, arith, append_assoc, append-nil, sym, ap, ◌∙◌}
use lib.Ieee.{nan}
use Rattle.linearisation.specs.declared.Point.{Point}
use Rattle.linearisation.specs.Table.{zero_point}
use Rattle.packing.specs.Words.{place_words, point_words, written}
use Rattle.packing.specs.Laws.{places-back-none, places-back-more, point-words-more, place-at}
use Rattle.packing.proofs.TableLayout.put.Goals as goal

-- what an array holds where nothing was written
abbrev unwritten : Point
unwritten = record { x = nan; y = nan }

pub loop-point-init : goal.loop-point-init
unfolding point_words
loop-point-init c = record { count = omega arith; to_after = sym (append-nil _); back = places-back-none c.args.self.points }

pub loop-point-preserved : goal.loop-point-preserved
loop-point-preserved c =
    let ps = c.args.self.points in
    let i = c.loop-point.point-index in
    let inv = c.loop-point.invariant in
    let e = c.put-in-loop-point.ensures in
    let h : i < length ps = omega arith in
    let p = place-at ps i unwritten zero_point h in
    let more = rw zero-add at (point-words-more i 0 ps) in
    let one = rw p at e.to_after in
    let last = rw p at e.back in
    record {
      count = omega arith;
      to_after = rw (add-one i, more) (one ∙ ap (λ (ws : List ℕ). ws ++ place_words (get_or ps i zero_point)) inv.to_after ∙ append_assoc (written c.put.new.to) (point_words i 0 ps) (place_words (get_or ps i zero_point)));
      back = rw (add-one i) (places-back-more ps i h inv.back last);
    }

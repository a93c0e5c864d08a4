-- `linearisation::points_of` is right: each turn puts one pair more in its place.
use Rattle.std.proofs.Common.{◌<◌, ◌∙◌, sym, [], length, map, arith, add-one}
use Rattle.std.proofs.lemmas.List.{length-map, get_or-map}
use Rattle.linearisation.specs.Table.{pair_from, zero_point}
use Rattle.linearisation.specs.Laws.{padded-more}
use Rattle.linearisation.proofs.points_of.Goals as goal

pub loop-i-preserved : goal.loop-i-preserved
loop-i-preserved c =
    let l = c.loop-i in
    let s = c.args.pairs.now in
    let h : l.i < length (map pair_from s) = simp length-map (omega arith) in
    let e = c.from_bytes.ensures ∙ sym (get_or-map pair_from s l.i [] zero_point (omega arith)) in
    rw (l.invariant, add-one l.i) (padded-more (map pair_from s) l.i c.from_bytes.result h (omega arith) e)

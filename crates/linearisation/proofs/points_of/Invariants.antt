use Rattle.std.proofs.Common.{◌≡◌, take, map}
use Rattle.linearisation.specs.Table.{pair_from, padded}
use Rattle.linearisation.proofs.points_of.Given as goal

abbrev pub invariant-loop-i : goal.invariant-loop-i
invariant-loop-i l = l.points ≡ padded (take l.i (map pair_from l.pairs))

use Rattle.std.proofs.Common.{◌≡◌, ◌+◌, ◌*◌, ◌++◌}
use Rattle.packing.specs.Words.{written, point_words}
use Rattle.packing.specs.Laws.{PlacesBack}
use Rattle.packing.proofs.TableLayout.put.Given as goal

abbrev pub invariant-loop-point : goal.invariant-loop-point
invariant-loop-point l = record {
  count : l.to.count ≡ l.initial.to.count + 2 * l.point-index;
  to_after : written l.to ≡ written l.initial.to ++ point_words l.point-index 0 l.point-items;
  back : PlacesBack l.point-items l.point-index;
}

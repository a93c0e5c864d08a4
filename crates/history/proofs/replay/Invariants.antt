use mathlib.Core.Path.{◌≡◌}
use lib.ListN.{length, get_or}
use Prim.Native.Nat.{ℕ, ◌<◌}
use Rattle.device.specs.Factory.{factory_device}
use Rattle.history.proofs.Run.{runs}
use Rattle.history.proofs.replay.Given as goal

abbrev pub invariant-loop-reader : goal.invariant-loop-reader
invariant-loop-reader l = (runs l.reader.left.now l.device ≡ runs l.calls factory_device) × ((i : ℕ) → get_or l.reader.left.now i 0 < 256)

abbrev pub decreases-loop-reader : goal.decreases-loop-reader
decreases-loop-reader l = length l.reader.left.now

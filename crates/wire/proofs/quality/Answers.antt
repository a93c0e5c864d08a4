-- A byte's quality is one of the four.
use Rattle.std.specs.Prelude.{◌/◌}
use Rattle.std.proofs.Common.{arith}
use Rattle.wire.specs.Laws.{quality-of-case}
use Rattle.wire.proofs.quality.Goals as goal

pub returns-clause-number : goal.returns-clause-number
returns-clause-number c = rw (c.from.ensures, quality-of-case (c.args.status / 64) (omega arith))

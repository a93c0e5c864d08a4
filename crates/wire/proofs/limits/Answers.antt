-- A byte's limits are one of the four.
use Rattle.std.specs.Prelude.{◌%◌}
use Rattle.std.proofs.Common.{arith}
use Rattle.wire.specs.Laws.{limits-of-case}
use Rattle.wire.proofs.limits.Goals as goal

pub returns-clause-number : goal.returns-clause-number
returns-clause-number c = rw (c.from.ensures, limits-of-case (c.args.status % 4) (omega arith))

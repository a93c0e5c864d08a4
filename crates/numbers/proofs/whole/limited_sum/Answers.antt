-- `whole::limited_sum` is right: a limit within an i64 does not see that the sum was brought to an i64's end.
use Rattle.std.proofs.Common.{to_z-of_z, arith}
use Rattle.numbers.specs.WholeLaws.{bound-small, limit-saturated}
use Rattle.numbers.proofs.whole.limited_sum.Goals as goal

pub returns : goal.returns
returns c = grind (arith, to_z-of_z, limit-saturated, bound-small)

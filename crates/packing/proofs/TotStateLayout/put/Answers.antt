-- `packing::TotStateLayout::put` meets its contract: its words are those of its parts, and each part is read again.
use Rattle.std.proofs.Common.{rules}
use mir.Syntax.{w64}
use mir.ValLaws.{to_z-of_z}
use Rattle.packing.proofs.TotStateLayout.put.Goals as goal

pub returns-clause-back : goal.returns-clause-back
returns-clause-back c = λ rest. let total = rw (to_z-of_z w64 c.args.self.total (search rules)) at (c.put.ensures.back rest) in rw (total, c.put-2.ensures.back rest, c.put-4.ensures.back rest, c.put-5.ensures.back rest)

-- `packing::F32Layout::put` meets its contract: a float is read again from its bits.
use Rattle.std.proofs.Common.{rules}
use Rattle.numbers.specs.FloatLaws.{float_back}
use Rattle.packing.proofs.F32Layout.put.Goals as goal

pub returns-clause-back : goal.returns-clause-back
returns-clause-back c = λ rest. float_back c.args.self (search rules)

use Rattle.std.proofs.Common.{rules, List, ℕ, subst}
use Rattle.text.specs.Appended.{Fits}
use Rattle.text.proofs.Decimals.{decimal_is}
use Rattle.text.proofs.fit_decimal.Goals as goal

pub returns : goal.returns
returns g c =
    let P : List ℕ → Type 0 = λ bs. Fits g.row.N c.args.out.now c.try_extend_from_slice.new.self bs c.try_extend_from_slice.result in
    subst P (decimal_is c.args.n c.ranges.n.fits) (search rules)

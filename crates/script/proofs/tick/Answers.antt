use Rattle.std.proofs.Common.{[], ◌∷◌, arith}
use Rattle.script.specs.Words.{words_of}
use Rattle.script.specs.Command.{tick_call}
use Rattle.script.proofs.Lines.{within}
use Rattle.script.proofs.tick.Goals as goal

pub returns-in_err-fault : goal.returns-in_err-fault
unfolding tick_call
returns-in_err-fault c = rw (c.from_residual.ensures, c.in_err-fault.ensures)

pub returns : goal.returns
unfolding tick_call
returns c = let n = c.in_ok-fault.ensures in rw (n.0, n.1)

pub overflow_cast-result : goal.overflow_cast-result
overflow_cast-result c = let n = c.in_ok-fault.ensures in omega (arith, within (1 ∷ 4294967295 ∷ 255 ∷ 4294967295 ∷ 255 ∷ 255 ∷ 255 ∷ []) (words_of c.args.words.rest.now) c.in_ok-fault.field-0 n.0 n.1 2 (omega arith))

pub overflow_cast-result-2 : goal.overflow_cast-result-2
overflow_cast-result-2 c = let n = c.in_ok-fault.ensures in omega (arith, within (1 ∷ 4294967295 ∷ 255 ∷ 4294967295 ∷ 255 ∷ 255 ∷ 255 ∷ []) (words_of c.args.words.rest.now) c.in_ok-fault.field-0 n.0 n.1 4 (omega arith))

pub overflow_cast-result-3 : goal.overflow_cast-result-3
overflow_cast-result-3 c = let n = c.in_ok-fault.ensures in omega (arith, within (1 ∷ 4294967295 ∷ 255 ∷ 4294967295 ∷ 255 ∷ 255 ∷ 255 ∷ []) (words_of c.args.words.rest.now) c.in_ok-fault.field-0 n.0 n.1 5 (omega arith))

pub overflow_cast-result-4 : goal.overflow_cast-result-4
overflow_cast-result-4 c = let n = c.in_ok-fault.ensures in omega (arith, within (1 ∷ 4294967295 ∷ 255 ∷ 4294967295 ∷ 255 ∷ 255 ∷ 255 ∷ []) (words_of c.args.words.rest.now) c.in_ok-fault.field-0 n.0 n.1 6 (omega arith))

use Rattle.std.proofs.Common.{[], ◌∷◌, arith}
use Rattle.script.specs.Words.{words_of}
use Rattle.script.specs.Command.{write_call}
use Rattle.script.proofs.Lines.{within}
use Rattle.script.proofs.write.Goals as goal

pub returns-in_err-block : goal.returns-in_err-block
unfolding write_call
returns-in_err-block c = rw (c.from_residual.ensures, c.in_err-block.ensures)

pub returns : goal.returns
unfolding write_call
returns c = let n = c.in_ok-block.ensures in rw (n.0, n.1)

pub overflow_cast-result : goal.overflow_cast-result
overflow_cast-result c = let n = c.in_ok-block.ensures in omega (arith, within (255 ∷ 255 ∷ 4294967295 ∷ 4294967295 ∷ []) (words_of c.args.words.rest.now) c.in_ok-block.field-0 n.0 n.1 0 (omega arith))

pub overflow_cast-result-2 : goal.overflow_cast-result-2
overflow_cast-result-2 c = let n = c.in_ok-block.ensures in omega (arith, within (255 ∷ 255 ∷ 4294967295 ∷ 4294967295 ∷ []) (words_of c.args.words.rest.now) c.in_ok-block.field-0 n.0 n.1 1 (omega arith))

use Rattle.script.specs.Command.{image_call}
use Rattle.script.proofs.image.Goals as goal

pub returns-in_err-length : goal.returns-in_err-length
unfolding image_call
returns-in_err-length c = rw (c.from_residual.ensures, c.in_err-length.ensures)

pub returns : goal.returns
unfolding image_call
returns c = let n = c.in_ok-length.ensures in rw (n.0, n.1)

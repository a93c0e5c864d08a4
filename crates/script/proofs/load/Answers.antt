use Rattle.script.specs.Command.{load_call}
use Rattle.script.proofs.load.Goals as goal

pub returns-in_err-length : goal.returns-in_err-length
unfolding load_call
returns-in_err-length c = rw (c.from_residual.ensures, c.in_err-length.ensures)

pub returns : goal.returns
unfolding load_call
returns c = let n = c.in_ok-length.ensures in rw (n.0, n.1)

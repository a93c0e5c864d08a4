use Rattle.script.specs.Command.{telegram_call}
use Rattle.script.proofs.telegram.Goals as goal

pub returns-in_err-input : goal.returns-in_err-input
unfolding telegram_call
returns-in_err-input c = rw (c.from_residual.ensures, c.in_err-input.ensures)

pub returns-in_err-length : goal.returns-in_err-length
unfolding telegram_call
returns-in_err-length c =
    let i = c.in_ok-input.ensures in
    rw (c.from_residual-in_err-length.ensures, i.0, ← i.2, c.in_err-length.ensures)

pub returns : goal.returns
unfolding telegram_call
returns c =
    let i = c.in_ok-input.ensures in
    let n = c.in_ok-length.ensures in
    rw (i.1, n.1, i.0, ← i.2, n.0)

-- A line's call is within its row's limits.
use Rattle.script.specs.Laws.{length-within}
use Rattle.replay.proofs.Run.call.Goals as goal

pub made-requires : goal.made-requires
made-requires g c = rw c.in-Ok-Some.field-0-is at (rw (← c.in-Ok-Some.ensures) at (length-within c.as_slice-line.result.now))

-- The byte of a status: its parts are below 4, 16 and 4, so that the sum is below 256.
use Rattle.wire.specs.Status.{built_of}
use Rattle.wire.proofs.status.U8FromStatus.from.Goals as goal

pub returns : goal.returns
unfolding built_of
returns c = rw (c.from.ensures, c.from-2.ensures)

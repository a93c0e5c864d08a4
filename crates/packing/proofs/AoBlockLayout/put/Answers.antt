-- `packing::AoBlockLayout::put` meets its contract: its words are those of its parts, and each part is read again.
use Rattle.std.proofs.Common.{append_assoc}
use Rattle.packing.specs.Words.{ao_words, ao_of}
use Rattle.packing.proofs.AoBlockLayout.put.Goals as goal

pub returns-clause-to_after : goal.returns-clause-to_after
unfolding ao_words ao_of
returns-clause-to_after c =
    rw (c.put-3.ensures.to_after, c.put-2.ensures.to_after, c.put.ensures.to_after)
    (simp append_assoc)

pub returns-clause-back : goal.returns-clause-back
unfolding ao_words ao_of
returns-clause-back c = λ rest. rw (c.put.ensures.back rest, c.put-2.ensures.back rest, c.put-3.ensures.back rest)

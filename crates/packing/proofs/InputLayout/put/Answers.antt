-- `packing::InputLayout::put` meets its contract: its words are those of its parts, and each part is read again.
use Rattle.packing.proofs.InputLayout.put.Goals as goal

pub returns-clause-back : goal.returns-clause-back
returns-clause-back c = λ rest. rw (c.put.ensures.back rest, c.put-2.ensures.back rest, c.put-4.ensures.back rest)

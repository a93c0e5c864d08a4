-- `packing::AoSettingsLayout::put` meets its contract: its words are those of its parts, and each part is read again.
use Rattle.packing.proofs.AoSettingsLayout.put.Goals as goal

pub returns-clause-back : goal.returns-clause-back
returns-clause-back c = λ rest. rw (c.put-2.ensures.back rest, c.put-3.ensures.back rest, c.put-6.ensures.back rest)

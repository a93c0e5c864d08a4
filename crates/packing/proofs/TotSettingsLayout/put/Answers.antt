-- `packing::TotSettingsLayout::put` meets its contract: its words are those of its parts, and each part is read again.
use Rattle.packing.proofs.TotSettingsLayout.put.Goals as goal

pub returns-clause-back : goal.returns-clause-back
returns-clause-back c = λ rest. rw (c.put-5.ensures.back rest)

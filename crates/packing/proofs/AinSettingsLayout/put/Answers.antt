-- `packing::AinSettingsLayout::put` meets its contract: its words are those of its parts, and each part is read again.
use Rattle.std.proofs.Common.{append_assoc}
use Rattle.packing.proofs.AinSettingsLayout.put.Goals as goal

pub returns-clause-to_after : goal.returns-clause-to_after
returns-clause-to_after c =
    rw (c.put-12.ensures.to_after, c.put-11.ensures.to_after, c.put-10.ensures.to_after, c.put-9.ensures.to_after, c.put-8.ensures.to_after, c.put-7.ensures.to_after, c.put-6.ensures.to_after, c.put-5.ensures.to_after, c.put-4.ensures.to_after, c.put-3.ensures.to_after, c.put-2.ensures.to_after, c.put.ensures.to_after)
    (simp append_assoc)

pub returns-clause-back : goal.returns-clause-back
returns-clause-back c = λ rest. rw (c.put-2.ensures.back rest, c.put-3.ensures.back rest, c.put-5.ensures.back rest, c.put-7.ensures.back rest, c.put-8.ensures.back rest, c.put-9.ensures.back rest, c.put-10.ensures.back rest, c.put-11.ensures.back rest, c.put-12.ensures.back rest)

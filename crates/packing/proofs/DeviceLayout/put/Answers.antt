-- `packing::DeviceLayout::put` meets its contract: each block is read again, from where the one before it ended.
use Rattle.std.proofs.Common.{append_assoc, ◌++◌}
use Rattle.packing.specs.Words.{device_words, fields_of, tot_words, ao_words, di_words, dout_words}
use Rattle.packing.proofs.DeviceLayout.put.Goals as goal

pub returns-clause-back : goal.returns-clause-back
unfolding device_words fields_of
returns-clause-back c = λ rest.
    let d = c.args.self in
    let dout = dout_words d.dout ++ rest in
    let di = di_words d.di ++ dout in
    let ao = ao_words d.ao ++ di in
    let tot = tot_words d.tot ++ ao in
    simp append_assoc
    (rw (c.put-2.ensures.back tot, c.put-2.ensures.behind tot, c.put-3.ensures.back ao, c.put-3.ensures.behind ao, c.put-4.ensures.back di, c.put-4.ensures.behind di, c.put-5.ensures.back dout, c.put-5.ensures.behind dout, c.put-6.ensures.back rest))

pub returns-clause-behind : goal.returns-clause-behind
unfolding device_words fields_of
returns-clause-behind c = λ rest.
    let d = c.args.self in
    let dout = dout_words d.dout ++ rest in
    let di = di_words d.di ++ dout in
    let ao = ao_words d.ao ++ di in
    let tot = tot_words d.tot ++ ao in
    simp append_assoc
    (rw (c.put-2.ensures.behind tot, c.put-3.ensures.behind ao, c.put-4.ensures.behind di, c.put-5.ensures.behind dout, c.put-6.ensures.behind rest))

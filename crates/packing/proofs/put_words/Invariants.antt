use Rattle.std.proofs.Common.{◌≡◌, ◌*◌, ◌++◌, take, drop}
use Rattle.packing.specs.Packed.{bytes_of}
use Rattle.packing.proofs.put_words.Given as goal

abbrev pub invariant-loop-i : goal.invariant-loop-i
invariant-loop-i l = l.buf ≡ bytes_of (take l.i l.words) ++ drop (4 * l.i) l.initial.buf

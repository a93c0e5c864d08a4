-- The words passed over, and the bytes so far with those of the words left.
use Rattle.std.proofs.Common.{◌≡◌, ◌-◌, ◌++◌, length, take, drop}
use Rattle.script.specs.Words.{words_of, bytes_of}
use Rattle.script.proofs.bytes_after.Given as goal

abbrev pub invariant-loop : goal.invariant-loop
invariant-loop l = words_of l.words.rest.now ≡ drop l.counter (words_of l.line)

abbrev pub invariant-loop-byte : goal.invariant-loop-byte
invariant-loop-byte l = take l.byte-index l.out ++ bytes_of (length l.out - l.byte-index) (words_of l.words.rest.now)
    ≡ bytes_of (length l.out) (drop l.count (words_of l.line))

-- The bytes so far are appended.
use Rattle.std.proofs.Common.{take, Ok}
use Rattle.script.specs.Answer.{Written, row_parts}
use Rattle.script.proofs.answers.put_row.Given as goal

abbrev pub invariant-loop-byte : goal.invariant-loop-byte
invariant-loop-byte l = Written {E = Unit {0}} l.initial.out l.out (row_parts (take l.byte-index l.row)) (Ok tt)

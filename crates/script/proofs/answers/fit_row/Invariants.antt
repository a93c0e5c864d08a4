-- The bytes so far are appended.
use Rattle.std.proofs.Common.{take, Ok}
use Rattle.script.specs.Answer.{Fitted, row_parts}
use Rattle.script.proofs.answers.fit_row.Given as goal

abbrev pub invariant-loop-byte : goal.invariant-loop-byte
invariant-loop-byte g l = Fitted {E = Unit {0}} g.row.N l.initial.out l.out (row_parts (take l.byte-index l.row)) (Ok tt)

use Rattle.std.proofs.Common.{◌∷◌, [], ◌+◌, take, drop, get_or, Ok, Err, sym, ◌∙◌, append_assoc, arith}
use Rattle.text.specs.Digits.{hex_byte}
use Rattle.script.specs.Answer.{row_parts}
use Rattle.script.specs.Laws.{fitted-append}
use Rattle.script.proofs.Fitted.{failed, extended, of_fits}
use Rattle.script.proofs.Written.{row_from, row_more}
use Rattle.script.proofs.answers.fit_row.Goals as goal

pub returns-in_err-try_extend_from_slice : goal.returns-in_err-try_extend_from_slice
returns-in_err-try_extend_from_slice g c =
    let l = c.loop-byte in
    let row = c.args.row.now in
    let e = c.in_err-try_extend_from_slice.ensures in
    let space = extended l.out c.try_extend_from_slice.new.self (32 ∷ []) (Err c.in_err-try_extend_from_slice.field-0.0) e.variant e.ok e.err in
    let rest = hex_byte (get_or row l.byte-index 0) ∷ row_parts (drop (l.byte-index + 1) row) in
    failed _ rest _ c.from_residual.ensures.0
    (row_from row l.byte-index (omega arith) ∙ sym (append_assoc (row_parts (take l.byte-index row)) ((32 ∷ []) ∷ []) rest))
    (fitted-append l.invariant space)

pub returns-in_err-fit_byte : goal.returns-in_err-fit_byte
returns-in_err-fit_byte g c =
    let l = c.loop-byte in
    let row = c.args.row.now in
    let e = c.in_ok-try_extend_from_slice.ensures in
    let space = extended {E = Unit {0}} l.out c.try_extend_from_slice.new.self (32 ∷ []) (Ok tt) e.variant e.ok e.err in
    let rest = row_parts (drop (l.byte-index + 1) row) in
    failed _ rest _ c.from_residual-in_err-fit_byte.ensures.0
    (row_from row l.byte-index (omega arith)
    ∙ sym (append_assoc (row_parts (take l.byte-index row)) ((32 ∷ []) ∷ hex_byte (get_or row l.byte-index 0) ∷ []) rest))
    (fitted-append l.invariant (fitted-append space (of_fits c.in_err-fit_byte.ensures)))

pub loop-byte-preserved : goal.loop-byte-preserved
loop-byte-preserved g c =
    let l = c.loop-byte in
    let row = c.args.row.now in
    let e = c.in_ok-try_extend_from_slice.ensures in
    let b = c.in_ok-fit_byte.ensures in
    let space = extended {E = Unit {0}} l.out c.try_extend_from_slice.new.self (32 ∷ []) (Ok tt) e.variant e.ok e.err in
    let byte = extended {E = Unit {0}} c.try_extend_from_slice.new.self c.fit_byte.new.out (hex_byte (get_or row l.byte-index 0)) (Ok tt) b.succeeds b.items tt in
    rw (row_more row l.byte-index (omega arith)) (fitted-append l.invariant (fitted-append space byte))

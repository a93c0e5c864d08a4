use Rattle.std.proofs.Common.{◌∷◌, [], ◌+◌, take, drop, get_or, Ok, Err, sym, ◌∙◌, append_assoc, arith}
use Rattle.text.specs.Digits.{hex_byte}
use Rattle.script.specs.Answer.{row_parts}
use Rattle.script.specs.Laws.{written-append}
use Rattle.script.proofs.Written.{failed, extended, of_appends, row_from, row_more}
use Rattle.script.proofs.answers.put_row.Goals as goal

pub returns-in_err-extend_from_slice : goal.returns-in_err-extend_from_slice
returns-in_err-extend_from_slice c =
    let l = c.loop-byte in
    let row = c.args.row.now in
    let e = c.in_err-extend_from_slice.ensures in
    let space = extended l.out c.extend_from_slice.new.self (32 ∷ []) (Err c.in_err-extend_from_slice.field-0.0) e.items e.capacity e.succeeds in
    let rest = hex_byte (get_or row l.byte-index 0) ∷ row_parts (drop (l.byte-index + 1) row) in
    failed _ rest _ c.from_residual.ensures.0
    (row_from row l.byte-index (omega arith) ∙ sym (append_assoc (row_parts (take l.byte-index row)) ((32 ∷ []) ∷ []) rest))
    (written-append l.invariant space)

pub returns-in_err-put_byte : goal.returns-in_err-put_byte
returns-in_err-put_byte c =
    let l = c.loop-byte in
    let row = c.args.row.now in
    let e = c.in_ok-extend_from_slice.ensures in
    let space = extended {E = Unit {0}} l.out c.extend_from_slice.new.self (32 ∷ []) (Ok tt) e.items e.capacity e.succeeds in
    let rest = row_parts (drop (l.byte-index + 1) row) in
    failed _ rest _ c.from_residual-in_err-put_byte.ensures.0
    (row_from row l.byte-index (omega arith)
    ∙ sym (append_assoc (row_parts (take l.byte-index row)) ((32 ∷ []) ∷ hex_byte (get_or row l.byte-index 0) ∷ []) rest))
    (written-append l.invariant (written-append space (of_appends c.in_err-put_byte.ensures)))

pub loop-byte-preserved : goal.loop-byte-preserved
loop-byte-preserved c =
    let l = c.loop-byte in
    let row = c.args.row.now in
    let e = c.in_ok-extend_from_slice.ensures in
    let b = c.in_ok-put_byte.ensures in
    let space = extended {E = Unit {0}} l.out c.extend_from_slice.new.self (32 ∷ []) (Ok tt) e.items e.capacity e.succeeds in
    let byte = extended {E = Unit {0}} c.extend_from_slice.new.self c.put_byte.new.out (hex_byte (get_or row l.byte-index 0)) (Ok tt) b.items b.capacity b.succeeds in
    rw (row_more row l.byte-index (omega arith)) (written-append l.invariant (written-append space byte))

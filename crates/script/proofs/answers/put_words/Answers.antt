use Rattle.std.proofs.Common.{◌∷◌, [], Ok, Err, refl}
use Rattle.text.specs.Digits.{hex_word}
use Rattle.script.specs.Laws.{written-append}
use Rattle.script.proofs.Written.{extended, failed, of_appends, part_failed}
use Rattle.script.proofs.answers.put_words.Goals as goal

pub returns-in_err-extend_from_slice : goal.returns-in_err-extend_from_slice
returns-in_err-extend_from_slice c = let w = c.in_err-extend_from_slice.ensures in part_failed c.from_residual.ensures.0 w.items w.capacity w.full

pub returns-in_err-put_word : goal.returns-in_err-put_word
returns-in_err-put_word c =
    let w = c.in_ok-extend_from_slice.ensures in
    let name = extended {E = Unit {0}} c.args.out.now c.extend_from_slice.new.self (119 ∷ 111 ∷ 114 ∷ 100 ∷ 115 ∷ 32 ∷ []) (Ok tt) w.items w.capacity w.succeeds in
    failed _ ((32 ∷ []) ∷ hex_word c.args.second ∷ (10 ∷ []) ∷ []) _ c.from_residual-in_err-put_word.ensures.0 refl (written-append name (of_appends c.in_err-put_word.ensures))

pub returns-in_err-extend_from_slice-2 : goal.returns-in_err-extend_from_slice-2
returns-in_err-extend_from_slice-2 c =
    let w = c.in_ok-extend_from_slice.ensures in
    let s = c.in_err-extend_from_slice-2.ensures in
    let name = extended {E = Unit {0}} c.args.out.now c.extend_from_slice.new.self (119 ∷ 111 ∷ 114 ∷ 100 ∷ 115 ∷ 32 ∷ []) (Ok tt) w.items w.capacity w.succeeds in
    let space = extended {E = Unit {0}} c.put_word.new.out c.extend_from_slice-2.new.self (32 ∷ []) (Err tt) s.items s.capacity s.succeeds in
    failed _ (hex_word c.args.second ∷ (10 ∷ []) ∷ []) _ c.from_residual-in_err-extend_from_slice-2.ensures.0 refl
    (written-append name (written-append (of_appends c.in_ok-put_word.ensures) space))

pub returns-in_err-put_word-2 : goal.returns-in_err-put_word-2
returns-in_err-put_word-2 c =
    let w = c.in_ok-extend_from_slice.ensures in
    let s = c.in_ok-extend_from_slice-2.ensures in
    let name = extended {E = Unit {0}} c.args.out.now c.extend_from_slice.new.self (119 ∷ 111 ∷ 114 ∷ 100 ∷ 115 ∷ 32 ∷ []) (Ok tt) w.items w.capacity w.succeeds in
    let space = extended {E = Unit {0}} c.put_word.new.out c.extend_from_slice-2.new.self (32 ∷ []) (Ok tt) s.items s.capacity s.succeeds in
    failed _ ((10 ∷ []) ∷ []) _ c.from_residual-in_err-put_word-2.ensures.0 refl
    (written-append name (written-append (of_appends c.in_ok-put_word.ensures) (written-append space (of_appends c.in_err-put_word-2.ensures))))

pub returns : goal.returns
returns c =
    let w = c.in_ok-extend_from_slice.ensures in
    let s = c.in_ok-extend_from_slice-2.ensures in
    let n = c.extend_from_slice-3.ensures in
    let name = extended {E = Unit {0}} c.args.out.now c.extend_from_slice.new.self (119 ∷ 111 ∷ 114 ∷ 100 ∷ 115 ∷ 32 ∷ []) (Ok tt) w.items w.capacity w.succeeds in
    let space = extended {E = Unit {0}} c.put_word.new.out c.extend_from_slice-2.new.self (32 ∷ []) (Ok tt) s.items s.capacity s.succeeds in
    let end = extended c.put_word-2.new.out c.extend_from_slice-3.new.self (10 ∷ []) c.extend_from_slice-3.result n.items n.capacity n.succeeds in
    written-append name (written-append (of_appends c.in_ok-put_word.ensures) (written-append space (written-append (of_appends c.in_ok-put_word-2.ensures) end)))

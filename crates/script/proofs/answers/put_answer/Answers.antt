use Rattle.std.proofs.Common.{◌∷◌, [], Ok, refl, rules, w64}
use mir.ValLaws.{to_z-of_z}
use Rattle.script.specs.Laws.{written-append}
use Rattle.script.proofs.Written.{extended, failed, of_appends, part_failed}
use Rattle.script.proofs.answers.put_answer.Goals as goal

pub returns-in-Ok : goal.returns-in-Ok
returns-in-Ok c = let w = c.extend_from_slice.ensures in rw c.in-Ok.is (extended _ _ _ _ w.items w.capacity w.succeeds)

pub returns-in-Error : goal.returns-in-Error
returns-in-Error c = let w = c.extend_from_slice-in-Error.ensures in rw c.in-Error.is (extended _ _ _ _ w.items w.capacity w.succeeds)

pub returns-in_err-extend_from_slice-in-Refused : goal.returns-in_err-extend_from_slice-in-Refused
returns-in_err-extend_from_slice-in-Refused c =
    let w = c.in_err-extend_from_slice-in-Refused.ensures in
    rw c.in-Refused.is (part_failed c.from_residual.ensures.0 w.items w.capacity w.full)

pub returns-in_err-put_decimal-in-Refused : goal.returns-in_err-put_decimal-in-Refused
returns-in_err-put_decimal-in-Refused c =
    let w = c.in_ok-extend_from_slice-in-Refused.ensures in
    let name = extended {E = Unit {0}} c.args.out.now c.extend_from_slice-in-Refused.new.self (114 ∷ 101 ∷ 102 ∷ 117 ∷ 115 ∷ 101 ∷ 100 ∷ 32 ∷ []) (Ok tt) w.items w.capacity w.succeeds in
    rw c.in-Refused.is (failed _ ((10 ∷ []) ∷ []) _ c.from_residual-in_err-put_decimal-in-Refused.ensures.0 refl
    (rw c.into.ensures at (written-append name (of_appends c.in_err-put_decimal-in-Refused.ensures))))

pub returns-in_ok-put_decimal-in-Refused : goal.returns-in_ok-put_decimal-in-Refused
returns-in_ok-put_decimal-in-Refused c =
    let w = c.in_ok-extend_from_slice-in-Refused.ensures in
    let name = extended {E = Unit {0}} c.args.out.now c.extend_from_slice-in-Refused.new.self (114 ∷ 101 ∷ 102 ∷ 117 ∷ 115 ∷ 101 ∷ 100 ∷ 32 ∷ []) (Ok tt) w.items w.capacity w.succeeds in
    let n = c.extend_from_slice-in-Refused-2.ensures in
    let end = extended c.put_decimal.new.out c.extend_from_slice-in-Refused-2.new.self (10 ∷ []) c.extend_from_slice-in-Refused-2.result n.items n.capacity n.succeeds in
    rw c.in-Refused.is (rw c.into.ensures at (written-append name (written-append (of_appends c.in_ok-put_decimal-in-Refused.ensures) end)))

pub returns-in-Words : goal.returns-in-Words
returns-in-Words c = rw c.in-Words.is c.put_words.ensures

pub returns-in_err-extend_from_slice-in-Bytes : goal.returns-in_err-extend_from_slice-in-Bytes
returns-in_err-extend_from_slice-in-Bytes c =
    let w = c.in_err-extend_from_slice-in-Bytes.ensures in
    rw c.in-Bytes.is (part_failed c.from_residual-in_err-extend_from_slice-in-Bytes.ensures.0 w.items w.capacity w.full)

pub returns-in_err-put_row-in-Bytes : goal.returns-in_err-put_row-in-Bytes
returns-in_err-put_row-in-Bytes c =
    let w = c.in_ok-extend_from_slice-in-Bytes.ensures in
    let name = extended {E = Unit {0}} c.args.out.now c.extend_from_slice-in-Bytes.new.self (98 ∷ 121 ∷ 116 ∷ 101 ∷ 115 ∷ []) (Ok tt) w.items w.capacity w.succeeds in
    rw c.in-Bytes.is (failed _ ((10 ∷ []) ∷ []) _ c.from_residual-in_err-put_row-in-Bytes.ensures.0 refl (written-append name c.in_err-put_row-in-Bytes.ensures))

pub returns-in_ok-put_row-in-Bytes : goal.returns-in_ok-put_row-in-Bytes
returns-in_ok-put_row-in-Bytes c =
    let w = c.in_ok-extend_from_slice-in-Bytes.ensures in
    let n = c.extend_from_slice-in-Bytes-2.ensures in
    let name = extended {E = Unit {0}} c.args.out.now c.extend_from_slice-in-Bytes.new.self (98 ∷ 121 ∷ 116 ∷ 101 ∷ 115 ∷ []) (Ok tt) w.items w.capacity w.succeeds in
    let end = extended c.put_row.new.out c.extend_from_slice-in-Bytes-2.new.self (10 ∷ []) c.extend_from_slice-in-Bytes-2.result n.items n.capacity n.succeeds in
    rw c.in-Bytes.is (written-append name (written-append c.in_ok-put_row-in-Bytes.ensures end))

pub returns-in_err-extend_from_slice-in-Total : goal.returns-in_err-extend_from_slice-in-Total
returns-in_err-extend_from_slice-in-Total c =
    let w = c.in_err-extend_from_slice-in-Total.ensures in
    rw c.in-Total.is (part_failed c.from_residual-in_err-extend_from_slice-in-Total.ensures.0 w.items w.capacity w.full)

pub returns-in_err-put_signed-in-Total : goal.returns-in_err-put_signed-in-Total
returns-in_err-put_signed-in-Total c =
    let w = c.in_ok-extend_from_slice-in-Total.ensures in
    let name = extended {E = Unit {0}} c.args.out.now c.extend_from_slice-in-Total.new.self (116 ∷ 111 ∷ 116 ∷ 97 ∷ 108 ∷ 32 ∷ []) (Ok tt) w.items w.capacity w.succeeds in
    rw c.in-Total.is (failed _ ((10 ∷ []) ∷ []) _ c.from_residual-in_err-put_signed-in-Total.ensures.0 refl
    (rw (to_z-of_z w64 c.in-Total.total (search rules)) at (written-append name (of_appends c.in_err-put_signed-in-Total.ensures))))

pub returns-in_ok-put_signed-in-Total : goal.returns-in_ok-put_signed-in-Total
returns-in_ok-put_signed-in-Total c =
    let w = c.in_ok-extend_from_slice-in-Total.ensures in
    let name = extended {E = Unit {0}} c.args.out.now c.extend_from_slice-in-Total.new.self (116 ∷ 111 ∷ 116 ∷ 97 ∷ 108 ∷ 32 ∷ []) (Ok tt) w.items w.capacity w.succeeds in
    let n = c.extend_from_slice-in-Total-2.ensures in
    let end = extended c.put_signed.new.out c.extend_from_slice-in-Total-2.new.self (10 ∷ []) c.extend_from_slice-in-Total-2.result n.items n.capacity n.succeeds in
    rw c.in-Total.is (rw (to_z-of_z w64 c.in-Total.total (search rules)) at (written-append name (written-append (of_appends c.in_ok-put_signed-in-Total.ensures) end)))

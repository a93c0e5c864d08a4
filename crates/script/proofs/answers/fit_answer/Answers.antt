use Rattle.std.proofs.Common.{◌∷◌, [], Ok, refl, rules, w64}
use mir.ValLaws.{to_z-of_z}
use Rattle.script.specs.Laws.{fitted-append}
use Rattle.script.proofs.Fitted.{extended, failed, of_fits, part_failed}
use Rattle.script.proofs.answers.fit_answer.Goals as goal

pub returns-in-Ok : goal.returns-in-Ok
returns-in-Ok g c = let w = c.try_extend_from_slice.ensures in rw c.in-Ok.is (extended _ _ _ _ w.variant w.ok w.err)

pub returns-in-Error : goal.returns-in-Error
returns-in-Error g c = let w = c.try_extend_from_slice-in-Error.ensures in rw c.in-Error.is (extended _ _ _ _ w.variant w.ok w.err)

pub returns-in_err-try_extend_from_slice-in-Refused : goal.returns-in_err-try_extend_from_slice-in-Refused
returns-in_err-try_extend_from_slice-in-Refused g c =
    let w = c.in_err-try_extend_from_slice-in-Refused.ensures in
    rw c.in-Refused.is (part_failed c.from_residual.ensures.0 w.err w.variant.1)

pub returns-in_err-fit_decimal-in-Refused : goal.returns-in_err-fit_decimal-in-Refused
returns-in_err-fit_decimal-in-Refused g c =
    let w = c.in_ok-try_extend_from_slice-in-Refused.ensures in
    let name = extended {E = Unit {0}} c.args.out.now c.try_extend_from_slice-in-Refused.new.self (114 ∷ 101 ∷ 102 ∷ 117 ∷ 115 ∷ 101 ∷ 100 ∷ 32 ∷ []) (Ok tt) w.variant w.ok w.err in
    rw c.in-Refused.is (failed _ ((10 ∷ []) ∷ []) _ c.from_residual-in_err-fit_decimal-in-Refused.ensures.0 refl
    (rw c.into.ensures at (fitted-append name (of_fits c.in_err-fit_decimal-in-Refused.ensures))))

pub returns-in_ok-fit_decimal-in-Refused : goal.returns-in_ok-fit_decimal-in-Refused
returns-in_ok-fit_decimal-in-Refused g c =
    let w = c.in_ok-try_extend_from_slice-in-Refused.ensures in
    let name = extended {E = Unit {0}} c.args.out.now c.try_extend_from_slice-in-Refused.new.self (114 ∷ 101 ∷ 102 ∷ 117 ∷ 115 ∷ 101 ∷ 100 ∷ 32 ∷ []) (Ok tt) w.variant w.ok w.err in
    let n = c.try_extend_from_slice-in-Refused-2.ensures in
    let end = extended c.fit_decimal.new.out c.try_extend_from_slice-in-Refused-2.new.self (10 ∷ []) c.try_extend_from_slice-in-Refused-2.result n.variant n.ok n.err in
    rw c.in-Refused.is (rw c.into.ensures at (fitted-append name (fitted-append (of_fits c.in_ok-fit_decimal-in-Refused.ensures) end)))

pub returns-in-Words : goal.returns-in-Words
returns-in-Words g c = rw c.in-Words.is c.fit_words.ensures

pub returns-in_err-try_extend_from_slice-in-Bytes : goal.returns-in_err-try_extend_from_slice-in-Bytes
returns-in_err-try_extend_from_slice-in-Bytes g c =
    let w = c.in_err-try_extend_from_slice-in-Bytes.ensures in
    rw c.in-Bytes.is (part_failed c.from_residual-in_err-try_extend_from_slice-in-Bytes.ensures.0 w.err w.variant.1)

pub returns-in_err-fit_row-in-Bytes : goal.returns-in_err-fit_row-in-Bytes
returns-in_err-fit_row-in-Bytes g c =
    let w = c.in_ok-try_extend_from_slice-in-Bytes.ensures in
    let name = extended {E = Unit {0}} c.args.out.now c.try_extend_from_slice-in-Bytes.new.self (98 ∷ 121 ∷ 116 ∷ 101 ∷ 115 ∷ []) (Ok tt) w.variant w.ok w.err in
    rw c.in-Bytes.is (failed _ ((10 ∷ []) ∷ []) _ c.from_residual-in_err-fit_row-in-Bytes.ensures.0 refl (fitted-append name c.in_err-fit_row-in-Bytes.ensures))

pub returns-in_ok-fit_row-in-Bytes : goal.returns-in_ok-fit_row-in-Bytes
returns-in_ok-fit_row-in-Bytes g c =
    let w = c.in_ok-try_extend_from_slice-in-Bytes.ensures in
    let n = c.try_extend_from_slice-in-Bytes-2.ensures in
    let name = extended {E = Unit {0}} c.args.out.now c.try_extend_from_slice-in-Bytes.new.self (98 ∷ 121 ∷ 116 ∷ 101 ∷ 115 ∷ []) (Ok tt) w.variant w.ok w.err in
    let end = extended c.fit_row.new.out c.try_extend_from_slice-in-Bytes-2.new.self (10 ∷ []) c.try_extend_from_slice-in-Bytes-2.result n.variant n.ok n.err in
    rw c.in-Bytes.is (fitted-append name (fitted-append c.in_ok-fit_row-in-Bytes.ensures end))

pub returns-in_err-try_extend_from_slice-in-Total : goal.returns-in_err-try_extend_from_slice-in-Total
returns-in_err-try_extend_from_slice-in-Total g c =
    let w = c.in_err-try_extend_from_slice-in-Total.ensures in
    rw c.in-Total.is (part_failed c.from_residual-in_err-try_extend_from_slice-in-Total.ensures.0 w.err w.variant.1)

pub returns-in_err-fit_signed-in-Total : goal.returns-in_err-fit_signed-in-Total
returns-in_err-fit_signed-in-Total g c =
    let w = c.in_ok-try_extend_from_slice-in-Total.ensures in
    let name = extended {E = Unit {0}} c.args.out.now c.try_extend_from_slice-in-Total.new.self (116 ∷ 111 ∷ 116 ∷ 97 ∷ 108 ∷ 32 ∷ []) (Ok tt) w.variant w.ok w.err in
    rw c.in-Total.is (failed _ ((10 ∷ []) ∷ []) _ c.from_residual-in_err-fit_signed-in-Total.ensures.0 refl
    (rw (to_z-of_z w64 c.in-Total.total (search rules)) at (fitted-append name (of_fits c.in_err-fit_signed-in-Total.ensures))))

pub returns-in_ok-fit_signed-in-Total : goal.returns-in_ok-fit_signed-in-Total
returns-in_ok-fit_signed-in-Total g c =
    let w = c.in_ok-try_extend_from_slice-in-Total.ensures in
    let name = extended {E = Unit {0}} c.args.out.now c.try_extend_from_slice-in-Total.new.self (116 ∷ 111 ∷ 116 ∷ 97 ∷ 108 ∷ 32 ∷ []) (Ok tt) w.variant w.ok w.err in
    let n = c.try_extend_from_slice-in-Total-2.ensures in
    let end = extended c.fit_signed.new.out c.try_extend_from_slice-in-Total-2.new.self (10 ∷ []) c.try_extend_from_slice-in-Total-2.result n.variant n.ok n.err in
    rw c.in-Total.is (rw (to_z-of_z w64 c.in-Total.total (search rules)) at (fitted-append name (fitted-append (of_fits c.in_ok-fit_signed-in-Total.ensures) end)))

use Rattle.std.proofs.Common.{◌∷◌, [], Ok}
use Rattle.script.specs.Laws.{fitted-append}
use Rattle.script.proofs.Fitted.{extended, of_fits, part_failed}
use Rattle.script.proofs.answers.fit_order.Goals as goal

pub returns-in_err-try_extend_from_slice-in-Position : goal.returns-in_err-try_extend_from_slice-in-Position
returns-in_err-try_extend_from_slice-in-Position g c =
    let w = c.in_err-try_extend_from_slice-in-Position.ensures in
    rw c.in-Position.is (part_failed c.from_residual.ensures.0 w.err w.variant.1)

pub returns-in_ok-try_extend_from_slice-in-Position : goal.returns-in_ok-try_extend_from_slice-in-Position
returns-in_ok-try_extend_from_slice-in-Position g c =
    let w = c.in_ok-try_extend_from_slice-in-Position.ensures in
    let name = extended {E = Unit {0}} c.args.out.now c.try_extend_from_slice.new.self (112 ∷ 111 ∷ 115 ∷ 105 ∷ 116 ∷ 105 ∷ 111 ∷ 110 ∷ 32 ∷ []) (Ok tt) w.variant w.ok w.err in
    rw c.in-Position.is (fitted-append name (of_fits c.fit_word.ensures))

pub returns-in_err-try_extend_from_slice-in-PositionD : goal.returns-in_err-try_extend_from_slice-in-PositionD
returns-in_err-try_extend_from_slice-in-PositionD g c =
    let w = c.in_err-try_extend_from_slice-in-PositionD.ensures in
    rw c.in-PositionD.is (part_failed c.from_residual-in_err-try_extend_from_slice-in-PositionD.ensures.0 w.err w.variant.1)

pub returns-in_ok-try_extend_from_slice-in-PositionD : goal.returns-in_ok-try_extend_from_slice-in-PositionD
returns-in_ok-try_extend_from_slice-in-PositionD g c =
    let w = c.in_ok-try_extend_from_slice-in-PositionD.ensures in
    let name = extended {E = Unit {0}} c.args.out.now c.try_extend_from_slice-in-PositionD.new.self (112 ∷ 111 ∷ 115 ∷ 105 ∷ 116 ∷ 105 ∷ 111 ∷ 110 ∷ 32 ∷ []) (Ok tt) w.variant w.ok w.err in
    rw c.in-PositionD.is (rw c.into.ensures at (fitted-append name (of_fits c.fit_decimal.ensures)))

pub returns-in-Safe : goal.returns-in-Safe
returns-in-Safe g c = let w = c.try_extend_from_slice-in-Safe.ensures in rw c.in-Safe.is (extended _ _ _ _ w.variant w.ok w.err)

pub returns-in-Rest : goal.returns-in-Rest
returns-in-Rest g c = let w = c.try_extend_from_slice-in-Rest.ensures in rw c.in-Rest.is (extended _ _ _ _ w.variant w.ok w.err)

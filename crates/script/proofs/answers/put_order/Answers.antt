use Rattle.std.proofs.Common.{◌∷◌, [], Ok}
use Rattle.script.specs.Laws.{written-append}
use Rattle.script.proofs.Written.{extended, of_appends, part_failed}
use Rattle.script.proofs.answers.put_order.Goals as goal

pub returns-in_err-extend_from_slice-in-Position : goal.returns-in_err-extend_from_slice-in-Position
returns-in_err-extend_from_slice-in-Position c =
    let w = c.in_err-extend_from_slice-in-Position.ensures in
    rw c.in-Position.is (part_failed c.from_residual.ensures.0 w.items w.capacity w.full)

pub returns-in_ok-extend_from_slice-in-Position : goal.returns-in_ok-extend_from_slice-in-Position
returns-in_ok-extend_from_slice-in-Position c =
    let w = c.in_ok-extend_from_slice-in-Position.ensures in
    let name = extended {E = Unit {0}} c.args.out.now c.extend_from_slice.new.self (112 ∷ 111 ∷ 115 ∷ 105 ∷ 116 ∷ 105 ∷ 111 ∷ 110 ∷ 32 ∷ []) (Ok tt) w.items w.capacity w.succeeds in
    rw c.in-Position.is (written-append name (of_appends c.put_word.ensures))

pub returns-in_err-extend_from_slice-in-PositionD : goal.returns-in_err-extend_from_slice-in-PositionD
returns-in_err-extend_from_slice-in-PositionD c =
    let w = c.in_err-extend_from_slice-in-PositionD.ensures in
    rw c.in-PositionD.is (part_failed c.from_residual-in_err-extend_from_slice-in-PositionD.ensures.0 w.items w.capacity w.full)

pub returns-in_ok-extend_from_slice-in-PositionD : goal.returns-in_ok-extend_from_slice-in-PositionD
returns-in_ok-extend_from_slice-in-PositionD c =
    let w = c.in_ok-extend_from_slice-in-PositionD.ensures in
    let name = extended {E = Unit {0}} c.args.out.now c.extend_from_slice-in-PositionD.new.self (112 ∷ 111 ∷ 115 ∷ 105 ∷ 116 ∷ 105 ∷ 111 ∷ 110 ∷ 32 ∷ []) (Ok tt) w.items w.capacity w.succeeds in
    rw c.in-PositionD.is (rw c.into.ensures at (written-append name (of_appends c.put_decimal.ensures)))

pub returns-in-Safe : goal.returns-in-Safe
returns-in-Safe c = let w = c.extend_from_slice-in-Safe.ensures in rw c.in-Safe.is (extended _ _ _ _ w.items w.capacity w.succeeds)

pub returns-in-Rest : goal.returns-in-Rest
returns-in-Rest c = let w = c.extend_from_slice-in-Rest.ensures in rw c.in-Rest.is (extended _ _ _ _ w.items w.capacity w.succeeds)

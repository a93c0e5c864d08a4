use Rattle.std.proofs.Common.{◌∷◌, [], ◌++◌, Ok, Err, refl, sym, append_assoc}
use Rattle.script.specs.Answer.{order_parts}
use Rattle.script.specs.Laws.{written-append}
use Rattle.script.proofs.Written.{extended, failed}
use Rattle.script.proofs.answers.put_orders.Goals as goal

pub returns-in_err-put_order : goal.returns-in_err-put_order
returns-in_err-put_order c =
    let rest = (32 ∷ []) ∷ (order_parts c.args.dout ++ ((10 ∷ []) ∷ [])) in
    failed _ rest _ c.from_residual.ensures.0 refl c.in_err-put_order.ensures

pub returns-in_err-extend_from_slice : goal.returns-in_err-extend_from_slice
returns-in_err-extend_from_slice c =
    let s = c.in_err-extend_from_slice.ensures in
    let rest = order_parts c.args.dout ++ ((10 ∷ []) ∷ []) in
    let space = extended {E = Unit {0}} c.put_order.new.out c.extend_from_slice.new.self (32 ∷ []) (Err tt) s.items s.capacity s.succeeds in
    failed _ rest _ c.from_residual-in_err-extend_from_slice.ensures.0 (sym (append_assoc (order_parts c.args.ao) ((32 ∷ []) ∷ []) rest))
    (written-append c.in_ok-put_order.ensures space)

pub returns-in_err-put_order-2 : goal.returns-in_err-put_order-2
returns-in_err-put_order-2 c =
    let s = c.in_ok-extend_from_slice.ensures in
    let space = extended {E = Unit {0}} c.put_order.new.out c.extend_from_slice.new.self (32 ∷ []) (Ok tt) s.items s.capacity s.succeeds in
    failed _ ((10 ∷ []) ∷ []) _ c.from_residual-in_err-put_order-2.ensures.0
    (sym (append_assoc (order_parts c.args.ao) ((32 ∷ []) ∷ order_parts c.args.dout) ((10 ∷ []) ∷ [])))
    (written-append c.in_ok-put_order.ensures (written-append space c.in_err-put_order-2.ensures))

pub returns : goal.returns
returns c =
    let s = c.in_ok-extend_from_slice.ensures in
    let n = c.extend_from_slice-2.ensures in
    let space = extended {E = Unit {0}} c.put_order.new.out c.extend_from_slice.new.self (32 ∷ []) (Ok tt) s.items s.capacity s.succeeds in
    let end = extended c.put_order-2.new.out c.extend_from_slice-2.new.self (10 ∷ []) c.extend_from_slice-2.result n.items n.capacity n.succeeds in
    written-append c.in_ok-put_order.ensures (written-append space (written-append c.in_ok-put_order-2.ensures end))

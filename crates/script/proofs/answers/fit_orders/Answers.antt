use Rattle.std.proofs.Common.{◌∷◌, [], ◌++◌, Ok, Err, refl, sym, append_assoc}
use Rattle.script.specs.Answer.{order_parts}
use Rattle.script.specs.Laws.{fitted-append}
use Rattle.script.proofs.Fitted.{extended, failed}
use Rattle.script.proofs.answers.fit_orders.Goals as goal

pub returns-in_err-fit_order : goal.returns-in_err-fit_order
returns-in_err-fit_order g c =
    let rest = (32 ∷ []) ∷ (order_parts c.args.dout ++ ((10 ∷ []) ∷ [])) in
    failed _ rest _ c.from_residual.ensures.0 refl c.in_err-fit_order.ensures

pub returns-in_err-try_extend_from_slice : goal.returns-in_err-try_extend_from_slice
returns-in_err-try_extend_from_slice g c =
    let s = c.in_err-try_extend_from_slice.ensures in
    let rest = order_parts c.args.dout ++ ((10 ∷ []) ∷ []) in
    let space = extended {E = Unit {0}} c.fit_order.new.out c.try_extend_from_slice.new.self (32 ∷ []) (Err tt) s.variant s.ok s.err in
    failed _ rest _ c.from_residual-in_err-try_extend_from_slice.ensures.0 (sym (append_assoc (order_parts c.args.ao) ((32 ∷ []) ∷ []) rest))
    (fitted-append c.in_ok-fit_order.ensures space)

pub returns-in_err-fit_order-2 : goal.returns-in_err-fit_order-2
returns-in_err-fit_order-2 g c =
    let s = c.in_ok-try_extend_from_slice.ensures in
    let space = extended {E = Unit {0}} c.fit_order.new.out c.try_extend_from_slice.new.self (32 ∷ []) (Ok tt) s.variant s.ok s.err in
    failed _ ((10 ∷ []) ∷ []) _ c.from_residual-in_err-fit_order-2.ensures.0
    (sym (append_assoc (order_parts c.args.ao) ((32 ∷ []) ∷ order_parts c.args.dout) ((10 ∷ []) ∷ [])))
    (fitted-append c.in_ok-fit_order.ensures (fitted-append space c.in_err-fit_order-2.ensures))

pub returns : goal.returns
returns g c =
    let s = c.in_ok-try_extend_from_slice.ensures in
    let n = c.try_extend_from_slice-2.ensures in
    let space = extended {E = Unit {0}} c.fit_order.new.out c.try_extend_from_slice.new.self (32 ∷ []) (Ok tt) s.variant s.ok s.err in
    let end = extended c.fit_order-2.new.out c.try_extend_from_slice-2.new.self (10 ∷ []) c.try_extend_from_slice-2.result n.variant n.ok n.err in
    fitted-append c.in_ok-fit_order.ensures (fitted-append space (fitted-append c.in_ok-fit_order-2.ensures end))

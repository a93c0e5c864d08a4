use Rattle.std.proofs.Common.{◌∷◌, [], Ok, Err, refl}
use Rattle.text.specs.Digits.{hex_word}
use Rattle.script.specs.Laws.{fitted-append}
use Rattle.script.proofs.Fitted.{extended, failed, of_fits, part_failed}
use Rattle.script.proofs.answers.fit_words.Goals as goal

pub returns-in_err-try_extend_from_slice : goal.returns-in_err-try_extend_from_slice
returns-in_err-try_extend_from_slice g c = let w = c.in_err-try_extend_from_slice.ensures in part_failed c.from_residual.ensures.0 w.err w.variant.1

pub returns-in_err-fit_word : goal.returns-in_err-fit_word
returns-in_err-fit_word g c =
    let w = c.in_ok-try_extend_from_slice.ensures in
    let name = extended {E = Unit {0}} c.args.out.now c.try_extend_from_slice.new.self (119 ∷ 111 ∷ 114 ∷ 100 ∷ 115 ∷ 32 ∷ []) (Ok tt) w.variant w.ok w.err in
    failed _ ((32 ∷ []) ∷ hex_word c.args.second ∷ (10 ∷ []) ∷ []) _ c.from_residual-in_err-fit_word.ensures.0 refl (fitted-append name (of_fits c.in_err-fit_word.ensures))

pub returns-in_err-try_extend_from_slice-2 : goal.returns-in_err-try_extend_from_slice-2
returns-in_err-try_extend_from_slice-2 g c =
    let w = c.in_ok-try_extend_from_slice.ensures in
    let s = c.in_err-try_extend_from_slice-2.ensures in
    let name = extended {E = Unit {0}} c.args.out.now c.try_extend_from_slice.new.self (119 ∷ 111 ∷ 114 ∷ 100 ∷ 115 ∷ 32 ∷ []) (Ok tt) w.variant w.ok w.err in
    let space = extended {E = Unit {0}} c.fit_word.new.out c.try_extend_from_slice-2.new.self (32 ∷ []) (Err tt) s.variant s.ok s.err in
    failed _ (hex_word c.args.second ∷ (10 ∷ []) ∷ []) _ c.from_residual-in_err-try_extend_from_slice-2.ensures.0 refl
    (fitted-append name (fitted-append (of_fits c.in_ok-fit_word.ensures) space))

pub returns-in_err-fit_word-2 : goal.returns-in_err-fit_word-2
returns-in_err-fit_word-2 g c =
    let w = c.in_ok-try_extend_from_slice.ensures in
    let s = c.in_ok-try_extend_from_slice-2.ensures in
    let name = extended {E = Unit {0}} c.args.out.now c.try_extend_from_slice.new.self (119 ∷ 111 ∷ 114 ∷ 100 ∷ 115 ∷ 32 ∷ []) (Ok tt) w.variant w.ok w.err in
    let space = extended {E = Unit {0}} c.fit_word.new.out c.try_extend_from_slice-2.new.self (32 ∷ []) (Ok tt) s.variant s.ok s.err in
    failed _ ((10 ∷ []) ∷ []) _ c.from_residual-in_err-fit_word-2.ensures.0 refl
    (fitted-append name (fitted-append (of_fits c.in_ok-fit_word.ensures) (fitted-append space (of_fits c.in_err-fit_word-2.ensures))))

pub returns : goal.returns
returns g c =
    let w = c.in_ok-try_extend_from_slice.ensures in
    let s = c.in_ok-try_extend_from_slice-2.ensures in
    let n = c.try_extend_from_slice-3.ensures in
    let name = extended {E = Unit {0}} c.args.out.now c.try_extend_from_slice.new.self (119 ∷ 111 ∷ 114 ∷ 100 ∷ 115 ∷ 32 ∷ []) (Ok tt) w.variant w.ok w.err in
    let space = extended {E = Unit {0}} c.fit_word.new.out c.try_extend_from_slice-2.new.self (32 ∷ []) (Ok tt) s.variant s.ok s.err in
    let end = extended c.fit_word-2.new.out c.try_extend_from_slice-3.new.self (10 ∷ []) c.try_extend_from_slice-3.result n.variant n.ok n.err in
    fitted-append name (fitted-append (of_fits c.in_ok-fit_word.ensures) (fitted-append space (fitted-append (of_fits c.in_ok-fit_word-2.ensures) end)))

use Rattle.std.proofs.Common.{◌≡◌, ◌∙◌, ◌≤◌, ◌^◌, ◌<◌, None, Some, true, false, arith}
use Rattle.text.specs.Number.{word_number}
use Rattle.script.specs.Words.{words_of, number_of, up_to, first_of}
use Rattle.script.proofs.Lines.{number-up_to, no_number}
use Rattle.script.proofs.words.Words.number.Goals as goal

pub returns-in_err-next : goal.returns-in_err-next
returns-in_err-next c =
    let e : up_to c.args.limit (number_of (first_of (words_of c.args.self.now.rest.now))) ≡ false = rw c.in_err-next.ensures.steps.0 (no_number c.args.limit) in
    rw c.from_residual.ensures e

pub returns-in_err-number : goal.returns-in_err-number
returns-in_err-number c =
    let w = c.in_ok-next.field-0.now in
    let b : c.args.limit < 2 ^ 32 = c.ranges.limit.fits in
    let e : None ≡ word_number w c.args.limit = c.in_err-number.ensures ∙ rw c.into.ensures in
    let u : up_to c.args.limit (number_of w) ≡ false = rw (← e) at (number-up_to c.args.limit w b) in
    rw (c.from_residual-in_err-number.ensures, c.in_ok-next.ensures.steps) u

found : (c : goal.In_ok-number) → (up_to c.args.limit (number_of c.in_ok-next.field-0.now) ≡ true)
    × (number_of c.in_ok-next.field-0.now ≡ Some c.in_ok-number.field-0) × (c.in_ok-number.field-0 ≤ c.args.limit)
found c =
    let w = c.in_ok-next.field-0.now in
    let b : c.args.limit < 2 ^ 32 = c.ranges.limit.fits in
    let e : Some c.in_ok-number.field-0 ≡ word_number w c.args.limit = c.in_ok-number.ensures ∙ rw c.into.ensures in
    rw (← e) at (number-up_to c.args.limit w b)

pub returns : goal.returns
returns c =
    let n = c.in_ok-next.ensures.steps in
    let f = found c in
    (rw n f.0, rw (n, f.1), rw n)

pub overflow_cast-result : goal.overflow_cast-result
overflow_cast-result c = let f = found c in let b = c.ranges.limit in omega arith

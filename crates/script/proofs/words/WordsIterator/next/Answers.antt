-- The word is the line's part from its first byte to the next space.
use Rattle.std.proofs.Common.{rules, refl, sym, ◌∷◌, ap, ◌≡◌, ◌-◌, take, drop, length, take_all, length-drop, arith}
use Rattle.script.specs.Words.{words_of}
use Rattle.script.proofs.Lines.{none_left, first_word}
use Rattle.script.proofs.words.WordsIterator.next.Goals as goal

pub returns-in_err-line-clause-steps : goal.returns-in_err-line-clause-steps
returns-in_err-line-clause-steps c = let e = none_left c.args.self.now.rest.now (sym c.in_err-line.ensures) in rw c.from_residual.ensures (e, e)

stepped : (c : goal.After-self-1) → words_of c.args.self.now.rest.now ≡ c.split_at.result.0.now ∷ words_of c.split_at.result.1.now
stepped c =
    let s = c.args.self.now.rest.now in
    let i = c.in_ok-line.field-0 in
    let l : take (length s - i) (drop i s) ≡ drop i s = take_all (length s - i) (drop i s) (omega (arith, length-drop i s)) in
    let f = rw l at c.split_at.ensures.front in
    let b = rw l at c.split_at.ensures.back in
    rw (f, b) (first_word s i c.unwrap_or.result (drop i s) (sym c.in_ok-line.ensures) refl (rw (c.first_space.ensures, l) at c.unwrap_or.ensures))

pub returns-clause-steps : goal.returns-clause-steps
returns-clause-steps c = stepped c

pub returns-clause-goes : goal.returns-clause-goes
returns-clause-goes c = let e = ap length (stepped c) in search rules

use Rattle.std.proofs.Common.{◌≡◌, sym, ◌∙◌, Option, None, Some, ℕ, is_some, lit<}
use Rattle.script.specs.Words.{number_of, up_to}
use Rattle.script.proofs.Lines.{UpTo, number-up_to}
use Rattle.script.proofs.words.is_byte.Goals as goal

some_up_to : (low high : Option ℕ) → UpTo 255 low high → is_some low ≡ up_to 255 high
some_up_to None high h = sym h
some_up_to (Some n) high h = sym h.0

pub returns : goal.returns
returns c =
    let w = c.args.word.now in
    c.is_some.ensures ∙ rw c.number.ensures (some_up_to _ (number_of w) (number-up_to 255 w (lit< tt)))

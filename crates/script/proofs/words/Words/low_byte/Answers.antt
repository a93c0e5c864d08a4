use Rattle.std.proofs.Common.{◌≡◌, refl, ap, ◌%◌, ℕ, Option, None, Some}
use Rattle.std.specs.Option.{unwrap_or}
use Rattle.text.specs.Number.{word_number, digits_number}
use Rattle.script.specs.Words.{number_of, value_of}
use Rattle.script.proofs.words.Words.low_byte.Goals as goal

value : (o : Option ℕ) → unwrap_or o 0 ≡ value_of o
value None = refl
value (Some n) = refl

pub returns-in-Some-clause-byte : goal.returns-in-Some-clause-byte
unfolding number_of
returns-in-Some-clause-byte c =
    rw (c.in-Some.ensures.steps, c.unwrap_or.ensures, c.number.ensures) (ap (λ (v : ℕ). v % 256) (value (word_number c.in-Some.word.now 4294967295)))

pub returns-in-None-clause-byte : goal.returns-in-None-clause-byte
unfolding number_of word_number digits_number
returns-in-None-clause-byte c = rw c.in-None.ensures.steps.0

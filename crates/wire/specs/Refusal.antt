-- The numbers of refused calls, document 01, Refused calls, and document 02, request 1. Assumes nothing.
use Rattle.std.specs.Prelude.{ℕ, ◌≡◌, refl, cond, eqb, Result, Ok, Err}
use Rattle.wire.specs.declared.Refusal.{Refusal}
use Rattle.wire.specs.declared.Refusal.TheVariants.{NoSuchBlock, NoSuchParameter, ReadOnly, Locked, WordsNotAllowed, NotMan}
use Rattle.wire.specs.declared.Refusal.TheVariants.{WrongLength, NoSuchInput, NotWholePairs, NotRising}

abbrev pub refusal_number : Refusal → ℕ
-- F3, Q3.10: there are blocks 0 to 5
refusal_number NoSuchBlock = 1
-- F4: the block has none of this number
refusal_number NoSuchParameter = 2
-- F5: a write to one that is read only
refusal_number ReadOnly = 3
-- F6: a write under the lock, but to the lock
refusal_number Locked = 4
-- F7: a write of words that the parameter does not take
refusal_number WordsNotAllowed = 5
-- F8: a write of an output, the target being another than Man
refusal_number NotMan = 6
-- F9, Q3.8a, Q3.9a: a telegram of more or fewer bytes than its input takes; a buffer too short for an image
refusal_number WrongLength = 7
-- F10, Q3.10: a telegram on another input than SP, RCAS_IN, SP_D and RCAS_IN_D
refusal_number NoSuchInput = 8
-- Q1.11: a table of other than 2 to 21 whole pairs
refusal_number NotWholePairs = 9
-- Q1.11: a table whose x do not rise, or with a number that isn't finite
refusal_number NotRising = 10

-- the ground of refusal with a number, by which the promises name it; a number that the table lacks counts as 10
abbrev pub ground : ℕ → Refusal
ground n =
    cond (eqb n 1) NoSuchBlock
    (cond (eqb n 2) NoSuchParameter
    (cond (eqb n 3) ReadOnly
    (cond (eqb n 4) Locked
    (cond (eqb n 5) WordsNotAllowed
    (cond (eqb n 6) NotMan
    (cond (eqb n 7) WrongLength
    (cond (eqb n 8) NoSuchInput
    (cond (eqb n 9) NotWholePairs NotRising))))))))

-- the two agree
pub ground-number : (r : Refusal) → ground (refusal_number r) ≡ r
ground-number NoSuchBlock = refl
ground-number NoSuchParameter = refl
ground-number ReadOnly = refl
ground-number Locked = refl
ground-number WordsNotAllowed = refl
ground-number NotMan = refl
ground-number WrongLength = refl
ground-number NoSuchInput = refl
ground-number NotWholePairs = refl
ground-number NotRising = refl

-- C1: what a call answers where it gives no value: accepted, or refused on a ground
abbrev pub Answer : Type 0
Answer = Result Unit Refusal

-- the answer of an accepted call
abbrev pub granted : Answer
granted = Ok tt

-- F1: a refusal is answered by its number; for an accepted call the paper leaves it free: 0
abbrev pub answer_number : Answer → ℕ
answer_number (Ok u) = 0
answer_number (Err r) = refusal_number r

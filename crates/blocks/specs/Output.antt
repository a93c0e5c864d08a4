-- What AO and DO have in common beside their fail-safe: how a telegram is answered (document 01, Refused calls), over any type S of the block's state and any
-- type P of pair. Assumes nothing.
use Rattle.std.specs.Prelude.{Bool, cond, Result, Ok, Err}
use Rattle.wire.specs.declared.Refusal.{Refusal}
use Rattle.wire.specs.Refusal.{granted, Answer, ground}

-- the state after a tick, and the drive order, of any type O
pub record TickedOf (S O : Type 0) : Type 0 where
  pub state : S
  pub order : O

-- the state after a telegram, and the answer
pub record TakenOf (S : Type 0) : Type 0 where
  pub state : S
  pub answer : Answer

-- a refused telegram leaves the state as it was
abbrev pub refused_with : {S : Type 0} → S → Refusal → TakenOf S
refused_with state r = record { state = state; answer = Err r }

-- by what its bytes stand for, a pair or the ground of its refusal: `take` is the state after a pair
abbrev pub received_by : {S P : Type 0} → (P → S) → S → Result P Refusal → TakenOf S
received_by take state (Ok pair) = record { state = take pair; answer = granted }
received_by take state (Err r) = refused_with state r

-- F2, F9, F10: refused first for an input that the block lacks, as the flag says, then for its length
abbrev pub telegram_by : {S P : Type 0} → Bool → (P → S) → S → Result P Refusal → TakenOf S
telegram_by lacking take state received = cond lacking (refused_with state (ground 8)) (received_by take state received)

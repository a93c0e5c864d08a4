-- The line that answers a call, by the call script's table. Assumes nothing.
use Rattle.std.specs.Prelude.{ℕ, ◌+◌, ◌<◌, ◌≤◌, ◌≡◌, ◌↔◌, cond, leb, List, [], ◌∷◌, ◌++◌, length, Option, Some, None, Result, MatchResult, IsOk, vec_len, vec_capacity}
use Rattle.std.specs.declared.vec.Vec.{Vec}
use Rattle.arrayvec.specs.ArrayVec.{ArrayVec, array_vec_len}
use Rattle.text.specs.Digits.{hex_byte, hex_word, decimal, signed}
use Rattle.script.specs.declared.Order.{Order}
use Rattle.script.specs.declared.Answer.{Answer}

-- parts as one text
abbrev pub joined : List (List ℕ) → List ℕ
joined [] = []
joined (p ∷ ps) = p ++ joined ps

-- each byte of a row after a space, "as two capital hexadecimal digits"
abbrev pub row_parts : List ℕ → List (List ℕ)
row_parts [] = []
row_parts (b ∷ row) = (32 ∷ []) ∷ hex_byte b ∷ row_parts row

-- an order's parts
abbrev pub order_parts : Order → List (List ℕ)
-- `position 0x42480000`: "Words, value bits and positions are written as `0x` and eight capital hexadecimal digits"
order_parts (Order.Position bits) = (112 ∷ 111 ∷ 115 ∷ 105 ∷ 116 ∷ 105 ∷ 111 ∷ 110 ∷ 32 ∷ []) ∷ hex_word bits ∷ []
-- `position 1`: DO's
order_parts (Order.PositionD value) = (112 ∷ 111 ∷ 115 ∷ 105 ∷ 116 ∷ 105 ∷ 111 ∷ 110 ∷ 32 ∷ []) ∷ decimal value ∷ []
order_parts Order.Safe = (115 ∷ 97 ∷ 102 ∷ 101 ∷ []) ∷ []
order_parts Order.Rest = (114 ∷ 101 ∷ 115 ∷ 116 ∷ []) ∷ []

-- the line's parts; "Each answer is closed by 0x0A and nothing else is written."
abbrev pub answer_parts : Answer → List (List ℕ)
answer_parts Answer.Ok = (111 ∷ 107 ∷ 10 ∷ []) ∷ []
answer_parts Answer.Error = (101 ∷ 114 ∷ 114 ∷ 111 ∷ 114 ∷ 10 ∷ []) ∷ []
-- `refused 7`: "refusal numbers and the total in decimal"
answer_parts (Answer.Refused number) = (114 ∷ 101 ∷ 102 ∷ 117 ∷ 115 ∷ 101 ∷ 100 ∷ 32 ∷ []) ∷ decimal number ∷ (10 ∷ []) ∷ []
-- `position 0x42480000 position 1`: "AO's order, a space, DO's"
answer_parts (Answer.Orders ao dout) = order_parts ao ++ ((32 ∷ []) ∷ (order_parts dout ++ ((10 ∷ []) ∷ [])))
-- `words 0x00000008 0x00000000`
answer_parts (Answer.Words first second) = (119 ∷ 111 ∷ 114 ∷ 100 ∷ 115 ∷ 32 ∷ []) ∷ hex_word first ∷ (32 ∷ []) ∷ hex_word second ∷ (10 ∷ []) ∷ []
-- `bytes 42 48 ..`; "`bytes` alone if it is empty"
answer_parts (Answer.Bytes row) = (98 ∷ 121 ∷ 116 ∷ 101 ∷ 115 ∷ []) ∷ (row_parts row.now ++ ((10 ∷ []) ∷ []))
-- `total -16777217`
answer_parts (Answer.Total z) = (116 ∷ 111 ∷ 116 ∷ 97 ∷ 108 ∷ 32 ∷ []) ∷ signed z ∷ (10 ∷ []) ∷ []

-- parts put one after another behind s, in room for so many bytes in all: a part that does not fit is not put, nor is any after it
unfoldable pub all_put : ℕ → List ℕ → List (List ℕ) → List ℕ
all_put room s [] = s
all_put room s (p ∷ ps) = cond (leb (length s + length p) room) (all_put room (s ++ p) ps) s

-- the place after them; none where one does not fit
unfoldable pub place_after_all : ℕ → List ℕ → List (List ℕ) → Option ℕ
place_after_all room s [] = Some (length s)
place_after_all room s (p ∷ ps) = cond (leb (length s + length p) room) (place_after_all room (s ++ p) ps) None

-- there was no memory for all parts: behind what the vector held stand the parts that fit in the capacity that it had then, which is too small for all
pub record Stopped {A : Type 0} (old new : Vec ℕ A) (ps : List (List ℕ)) : Type 0 where
  pub room : ℕ
  pub at_least : vec_capacity old ≤ room
  pub at_most : room ≤ vec_capacity new
  pub short : room < vec_len old + length (joined ps)
  pub items : new.items ≡ all_put room old.items ps

-- the parts stand after what the vector held, where it has room for them or finds some; else those up to the first that it had no room for
pub record Written {A E : Type 0} (old new : Vec ℕ A) (ps : List (List ℕ)) (result : Result (Unit {0}) E) : Type 0 where
  pub bytes : MatchResult result (λ _. new.items ≡ old.items ++ joined ps) (λ _. Stopped old new ps)
  pub capacity : vec_capacity old ≤ vec_capacity new
  pub succeeds : vec_len old + length (joined ps) ≤ vec_capacity old → IsOk result

-- the capacity, N, is too small for all parts: behind what the vector held stand those that fit, up to the first that does not
pub record Filled (N : ℕ) (old new : ArrayVec ℕ) (ps : List (List ℕ)) : Type 0 where
  pub short : N < array_vec_len old + length (joined ps)
  pub items : new.items ≡ all_put N old.items ps

-- the parts stand after what the vector held exactly where it has room for all; else those up to the first that it had no room for
pub record Fitted {E : Type 0} (N : ℕ) (old new : ArrayVec ℕ) (ps : List (List ℕ)) (result : Result (Unit {0}) E) : Type 0 where
  pub bytes : MatchResult result (λ _. new.items ≡ old.items ++ joined ps) (λ _. Filled N old new ps)
  pub succeeds : IsOk result ↔ (array_vec_len old + length (joined ps) ≤ N)

-- What a function that appends bytes to a vector promises. Assumes nothing.
use Rattle.std.specs.Prelude.{ℕ, ◌≡◌, ◌+◌, ◌≤◌, ◌↔◌, List, ◌++◌, length, if◌then◌else◌, Result, is_ok, IsOk, vec_len, vec_capacity}
use Rattle.std.specs.declared.vec.Vec.{Vec}
use Rattle.arrayvec.specs.ArrayVec.{ArrayVec, array_vec_len}

-- bs stands after what the vector held, where it has room for it or finds some; else the vector is as it was
pub record Appends {A E : Type 0} (old new : Vec ℕ A) (bs : List ℕ) (result : Result (Unit {0}) E) : Type 0 where
  pub items : new.items ≡ (if is_ok result then old.items ++ bs else old.items)
  pub capacity : vec_capacity old ≤ vec_capacity new
  pub succeeds : vec_len old + length bs ≤ vec_capacity old → IsOk result

-- of a vector of a fixed capacity: bs stands after what it held exactly where its capacity, N, has room for it; else the vector is as it was
pub record Fits {E : Type 0} (N : ℕ) (old new : ArrayVec ℕ) (bs : List ℕ) (result : Result (Unit {0}) E) : Type 0 where
  pub items : new.items ≡ (if is_ok result then old.items ++ bs else old.items)
  pub succeeds : IsOk result ↔ (array_vec_len old + length bs ≤ N)

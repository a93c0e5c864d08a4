-- Appending one thing after another. Assumes nothing.
use Rattle.std.proofs.Common.{ℕ, zero, suc, ◌+◌, ◌≤◌, ◌<◌, ◌≡◌, refl, ◌∙◌, List, [], ◌∷◌, ◌++◌, length, take, drop, get_or, if◌then◌else◌, Result, Ok, Err, is_ok, IsOk, IsErr, vec_len, vec_capacity, length-append, append-nil, add-one, take-suc, drop-cons, Bool, true, false, leb, leb-true, leb-false, le_refl, arith}
use borrow.Author.Tests.{lt-leb}
use Rattle.std.specs.declared.vec.Vec.{Vec}
use Rattle.text.specs.Appended.{Appends}
use Rattle.text.specs.Digits.{hex_byte}
use Rattle.script.specs.Answer.{Written, Stopped, joined, row_parts, all_put}
use Rattle.script.specs.Laws.{written-stopped}

-- ---- rows

row-split : (row : List ℕ) (i : ℕ) → row_parts row ≡ row_parts (take i row) ++ row_parts (drop i row)
row-split row zero = refl
row-split [] (suc i) = refl
row-split (b ∷ row) (suc i) = rw (row-split row i)

-- one byte more of a row
pub row_more : (row : List ℕ) (i : ℕ) → i < length row
    → row_parts (take (i + 1) row) ≡ row_parts (take i row) ++ ((32 ∷ []) ∷ hex_byte (get_or row i 0) ∷ [])
row_more row i h = rw (add-one i, take-suc row i 0 h) (snoc (take i row) (get_or row i 0))
  where
    snoc : (xs : List ℕ) (b : ℕ) → row_parts (xs ++ (b ∷ [])) ≡ row_parts xs ++ ((32 ∷ []) ∷ hex_byte b ∷ [])
    snoc [] b = refl
    snoc (x ∷ xs) b = rw (snoc xs b)

-- the row from a byte on
pub row_from : (row : List ℕ) (i : ℕ) → i < length row
    → row_parts row ≡ row_parts (take i row) ++ ((32 ∷ []) ∷ hex_byte (get_or row i 0) ∷ row_parts (drop (i + 1) row))
row_from row i h = row-split row i ∙ rw (add-one i, drop-cons row i 0 h)

-- ---- what was written

-- a part of what was to be written failed
pub failed : {A E F : Type 0} {a b : Vec ℕ A} {ps : List (List ℕ)} {e : E} (whole qs : List (List ℕ)) (r : Result (Unit {0}) F) → IsErr r → whole ≡ ps ++ qs
    → Written a b ps (Err e) → Written {E = F} a b whole r
failed whole qs (Ok x) h w v = absurd (let z : false ≡ true = h in cc)
failed whole qs (Err f) h w v = rw w (written-stopped qs f v)

-- there was no memory for all
written-short : {A E : Type 0} {a b : Vec ℕ A} {ps : List (List ℕ)} (r : Result (Unit {0}) E) → IsErr r → vec_capacity a ≤ vec_capacity b
    → vec_capacity a < vec_len a + length (joined ps) → Stopped a b ps → Written a b ps r
written-short (Ok u) h k f s = absurd (let z : false ≡ true = h in cc)
written-short (Err x) h k f s = record { bytes = s; capacity = k; succeeds = λ l. absurd (omega (arith, l, f)) }

-- what the library's `extend_from_slice` promises: of a part for which there was no memory
pub part_failed : {A E : Type 0} {a b : Vec ℕ A} {bs : List ℕ} {qs : List (List ℕ)} {r : Result (Unit {0}) E} → IsErr r → b.items ≡ a.items
    → vec_capacity a ≤ vec_capacity b → vec_capacity a < vec_len a + length bs → Written a b (bs ∷ qs) r
unfolding all_put
part_failed {A} {E} {a} {b} {bs} {qs} {r} h e k f =
    let s : vec_capacity a < vec_len a + length (bs ++ joined qs) = omega (arith, f, length-append bs (joined qs)) in
    let t : leb (length a.items + length bs) (vec_capacity a) ≡ false = lt-leb (length a.items + length bs) (vec_capacity a) (omega (arith, f, a.ok.0)) in
    written-short r h k s (record { room = vec_capacity a; at_least = le_refl (vec_capacity a); at_most = k; short = s; items = rw t e })

-- and of one that was written or not
pub extended : {A E : Type 0} (a b : Vec ℕ A) (bs : List ℕ) (r : Result (Unit {0}) E) → b.items ≡ (if is_ok r then a.items ++ bs else a.items)
    → vec_capacity a ≤ vec_capacity b → (vec_len a + length bs ≤ vec_capacity a → IsOk r) → Written a b (bs ∷ []) r
extended a b bs (Ok u) e k s = record { bytes = e ∙ rw append-nil; capacity = k; succeeds = λ h. refl }
extended a b bs (Err x) e k s = part_failed refl e k (full (leb (vec_len a + length bs) (vec_capacity a)) refl)
  where
    full : (t : Bool) → leb (vec_len a + length bs) (vec_capacity a) ≡ t → vec_capacity a < vec_len a + length bs
    full true t = absurd (let z : false ≡ true = s (leb-true (vec_len a + length bs) (vec_capacity a) t) in cc)
    full false t = leb-false (vec_len a + length bs) (vec_capacity a) t

pub of_appends : {A E : Type 0} {a b : Vec ℕ A} {bs : List ℕ} {r : Result (Unit {0}) E} → Appends a b bs r → Written a b (bs ∷ []) r
of_appends {A} {E} {a} {b} {bs} {r} v = extended a b bs r v.items v.capacity v.succeeds

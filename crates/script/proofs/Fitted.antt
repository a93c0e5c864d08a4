-- Appending one thing after another. Assumes nothing.
use Rattle.std.proofs.Common.{ℕ, ◌+◌, ◌≤◌, ◌<◌, ◌≡◌, refl, ◌∙◌, List, [], ◌∷◌, ◌++◌, length, if◌then◌else◌, Result, Ok, Err, is_ok, IsOk, IsErr, OnOk, OnErr, ◌↔◌, ap, length-append, append-nil, Bool, true, false, leb, leb-true, leb-false, arith}
use Rattle.arrayvec.specs.ArrayVec.{ArrayVec, array_vec_len}
use Rattle.text.specs.Appended.{Fits}
use Rattle.script.specs.Answer.{Fitted, joined, all_put}
use Rattle.script.specs.Laws.{fitted-filled}

-- ---- what was written

-- a part of what was to be written failed
pub failed : {E F : Type 0} {N : ℕ} {a b : ArrayVec ℕ} {ps : List (List ℕ)} {e : E} (whole qs : List (List ℕ)) (r : Result (Unit {0}) F) → IsErr r → whole ≡ ps ++ qs
    → Fitted N a b ps (Err e) → Fitted {E = F} N a b whole r
failed whole qs (Ok x) h w v = absurd (let z : false ≡ true = h in cc)
failed whole qs (Err f) h w v = rw w (fitted-filled qs f v)

-- what the library's `try_extend_from_slice` promises: of a part for which there was no room
pub part_failed : {E : Type 0} {N : ℕ} {a b : ArrayVec ℕ} {bs : List ℕ} {qs : List (List ℕ)} {r : Result (Unit {0}) E} → IsErr r → b ≡ a
    → (array_vec_len a + length bs ≤ N → false ≡ true) → Fitted N a b (bs ∷ qs) r
unfolding all_put
part_failed {E} {N} {a} {b} {bs} {qs} {r} h e k = go r h
  where
    fits : leb (array_vec_len a + length bs) N ≡ false
    fits = by (leb (array_vec_len a + length bs) N) refl
      where
        by : (t : Bool) → leb (array_vec_len a + length bs) N ≡ t → t ≡ false
        by true t = absurd (let z = k (leb-true (array_vec_len a + length bs) N t) in cc)
        by false t = refl

    short : N < array_vec_len a + length (bs ++ joined qs)
    short = omega (arith, leb-false (array_vec_len a + length bs) N fits, length-append bs (joined qs))

    go : (r : Result (Unit {0}) E) → IsErr r → Fitted N a b (bs ∷ qs) r
    go (Ok u) h = absurd (let z : false ≡ true = h in cc)
    go (Err x) h = record {
      bytes = record { short = short; items = rw (e, fits) };
      succeeds = (λ l. absurd (let z : false ≡ true = l in cc), λ l. absurd (omega (arith, l, short)));
    }

-- and of one that was written or not
pub extended : {E : Type 0} {N : ℕ} (a b : ArrayVec ℕ) (bs : List ℕ) (r : Result (Unit {0}) E) → (IsOk r ↔ (array_vec_len a + length bs ≤ N))
    → OnOk r (b.items ≡ a.items ++ bs) → OnErr r (b ≡ a) → Fitted N a b (bs ∷ []) r
extended a b bs (Ok u) v e f = record {
  bytes = e ∙ rw append-nil;
  succeeds = (λ k. omega (arith, v.0 k, ap length (append-nil bs)), λ h. refl);
}
extended a b bs (Err x) v e f = part_failed refl f v.1

pub of_fits : {E : Type 0} {N : ℕ} {a b : ArrayVec ℕ} {bs : List ℕ} {r : Result (Unit {0}) E} → Fits N a b bs r → Fitted N a b (bs ∷ []) r
of_fits {E} {N} {a} {b} {bs} {r} v = go r v.items v.succeeds
  where
    go : (r : Result (Unit {0}) E) → b.items ≡ (if is_ok r then a.items ++ bs else a.items) → (IsOk r ↔ (array_vec_len a + length bs ≤ N)) → Fitted N a b (bs ∷ []) r
    go (Ok u) e v = extended a b bs (Ok u) v e tt
    go (Err x) e v = extended a b bs (Err x) v tt (let f : b ≡ a = ap (λ xs. record { items = xs }) e in f)

-- Laws of the definitions in this folder that no proof outside this file needs. Assumes nothing.
use Rattle.std.specs.Prelude.{ℕ, suc, ◌+◌, ◌-◌, ◌≤◌, ◌<◌, ◌≡◌, refl, Bool, true, false, cond, ◌&&◌, List, [], ◌∷◌, ◌++◌, length, get_or, take, drop, eqb, leb, ltb, Result, Ok, Err, IsOk, MatchResult, vec_len, vec_capacity}
use Rattle.std.specs.Io.{StartsWith}
use Rattle.std.specs.declared.vec.Vec.{Vec}
use Rattle.arrayvec.specs.ArrayVec.{ArrayVec, array_vec_len}
use Rattle.std.proofs.Common.{add-one, arith, sym, ◌∙◌, ap, subst, le_refl, append-nil, append_assoc, take_all, take_at, take-append-drop, drop_of_length-le, length-append, length-drop, drop-cons, take-suc, get_or-drop, ne_eqb, eqb-true, ltb-true, ltb-false, leb-true, leb-false}
use Rattle.std.proofs.Math.Bool.{and-false}
use Rattle.std.proofs.lemmas.Bool.{eqb-false}
use Rattle.text.specs.Digits.{hex_byte}
use Rattle.script.specs.Answer.{Written, Stopped, Fitted, Filled, joined, row_parts, all_put}
use Rattle.script.specs.Words.{some, words_after, words_of, is_empty, first_of, rest_of, same_bytes}

-- ---- words

-- a space in front of a word is passed over
pub space-passed : (line : List ℕ) (i : ℕ) → i < length line → get_or line i 0 ≡ 32 → words_of (drop (i + 1) line) ≡ words_of (drop i line)
unfolding words_of words_after
space-passed line i h e = rw (add-one i, drop-cons line i 0 h, e)

-- any other byte belongs to the word
pub byte-read : (line w : List ℕ) (i : ℕ) → i < length line → (get_or line i 0 ≡ 32 → ⊥)
    → words_after (w ++ (get_or line i 0 ∷ [])) (drop (i + 1) line) ≡ words_after w (drop i line)
unfolding words_after
byte-read line w i h e = rw (add-one i, drop-cons line i 0 h, ne_eqb (get_or line i 0) 32 e)

-- the bytes of a line from one place to another
abbrev between : List ℕ → ℕ → ℕ → List ℕ
between line from to = take (to - from) (drop from line)

pub one_more : (line : List ℕ) (from i : ℕ) → from ≤ i → i < length line → between line from (i + 1) ≡ between line from i ++ (get_or line i 0 ∷ [])
one_more line from i h l =
    let e : i + 1 - from ≡ suc (i - from) = omega arith in
    let k : i - from < length (drop from line) = simp length-drop (omega arith) in
    let at : from + (i - from) ≡ i = omega arith in
    rw e (take-suc (drop from line) (i - from) 0 k ∙ rw (get_or-drop, at))

-- a word ends at a space
pub ends-at-space : (line w : List ℕ) (i : ℕ) → i < length line → get_or line i 0 ≡ 32 → words_after w (drop i line) ≡ some w (words_of (drop i line))
unfolding words_of words_after
ends-at-space line w i h e = rw (drop-cons line i 0 h, e)

-- and at the line's end
pub ends-with-line : (line w : List ℕ) (i : ℕ) → length line ≤ i → words_after w (drop i line) ≡ some w (words_of (drop i line))
unfolding words_of words_after
ends-with-line line w i h = rw (drop_of_length-le line {i = i} h)

-- a word of no bytes
pub nothing-between : (line : List ℕ) (at : ℕ) → between line at at ≡ []
nothing-between line at = let e : at - at ≡ 0 = omega arith in rw e

-- ---- byte strings

-- the bytes at a place, and those after it
pub same_at : (a b : List ℕ) (i : ℕ) → i < length a → i < length b
    → same_bytes (drop i a) (drop i b) ≡ (eqb (get_or a i 0) (get_or b i 0) && same_bytes (drop (i + 1) a) (drop (i + 1) b))
unfolding same_bytes
same_at a b i h k = rw (add-one i, drop-cons a i 0 h, drop-cons b i 0 k)

pub other_length : (a b : List ℕ) → (length a ≡ length b → ⊥) → same_bytes a b ≡ false
unfolding same_bytes
other_length [] [] d = absurd (d refl)
other_length [] (y ∷ b) d = refl
other_length (x ∷ a) [] d = refl
other_length (x ∷ a) (y ∷ b) d = rw (other_length a b (λ e. d (ap suc e))) (and-false (eqb x y))

pub both-ended : (a b : List ℕ) (i : ℕ) → length a ≤ i → length b ≤ i → same_bytes (drop i a) (drop i b) ≡ true
unfolding same_bytes
both-ended a b i h k = rw (drop_of_length-le a {i = i} h, drop_of_length-le b {i = i} k)

-- ---- places of words

some-between : (line : List ℕ) (from to : ℕ) (ws : List (List ℕ)) → from < to → to ≤ length line → some (between line from to) ws ≡ between line from to ∷ ws
some-between line from to ws h k =
    let e : to - from ≡ suc (to - from - 1) = omega arith in
    rw (drop-cons line from 0 (omega arith), e)

-- past the line's end there is none
pub no_words : (line : List ℕ) (i : ℕ) → length line ≤ i → words_of (drop i line) ≡ []
unfolding words_of words_after
no_words line i h = rw (drop_of_length-le line {i = i} h)

-- a place whose byte would be a space and no space is past the line's end
ended : (line : List ℕ) (i : ℕ) → (i < length line → eqb (get_or line i 0) 32 ≡ false) → (i < length line → eqb (get_or line i 0) 32 ≡ true) → length line ≤ i
ended line i s e = go (ltb i (length line)) refl
  where
    go : (t : Bool) → ltb i (length line) ≡ t → length line ≤ i
    go true t =
        let l = ltb-true i (length line) t in
        let f = s l in
        let g = e l in
        let z : ◌≡◌ {A = ℕ} 0 1 = cc in
        omega arith
    go false t = ltb-false i (length line) t

-- from and to are the ends of the first word from a place of a line on; they are equal where there is none
abbrev NextWord : List ℕ → ℕ → ℕ → ℕ → Type 0
NextWord line at from to =
    (from ≤ to)
    × (to ≤ length line)
    × (between line from to ≡ first_of (words_of (drop at line)))
    × (words_of (drop to line) ≡ rest_of (words_of (drop at line)))
    × (eqb from to ≡ is_empty (words_of (drop at line)))

-- a word's place, from where the spaces before it end and where the next space or the line's end is
pub next_word : (line : List ℕ) (at from to : ℕ) → from ≤ to → to ≤ length line → (from < length line → eqb (get_or line from 0) 32 ≡ false)
    → (to < length line → eqb (get_or line to 0) 32 ≡ true) → words_of (drop from line) ≡ words_of (drop at line)
    → words_of (drop from line) ≡ some (between line from to) (words_of (drop to line)) → NextWord line at from to
next_word line at from to h k s e p q = go (eqb from to) refl
  where
    empty : from ≡ to → words_of (drop at line) ≡ []
    empty f = sym p ∙ no_words line from (ended line from s (rw (← f) at e))

    go : (t : Bool) → eqb from to ≡ t → NextWord line at from to
    go true t =
        let f = eqb-true from to t in
        let g = empty f in
        (h, k, rw (g, f) (nothing-between line to), rw (g, ← f) (p ∙ g), rw (g, t))
    go false t =
        let l : from < to = omega (arith, eqb-false from to t) in
        let g = sym p ∙ q ∙ some-between line from to (words_of (drop to line)) l k in
        (h, k, rw g, rw g, rw (g, t))

-- ---- answers

starts_append : (a p c : List ℕ) → StartsWith c (a ++ p) → StartsWith c a
starts_append a p c h =
    let n = length (a ++ p) in
    let e : c ≡ a ++ (p ++ drop n c) = sym (take-append-drop n c) ∙ rw h (append_assoc a p (drop n c)) in
    let P : List ℕ → Type 0 = λ x. take (length a) x ≡ a in
    subst P (sym e) (take_at a (p ++ drop n c) (length a) refl)

-- a row's parts from a place on
pub row_at : (row : List ℕ) (i : ℕ) → i < length row → row_parts (drop i row) ≡ (32 ∷ []) ∷ hex_byte (get_or row i 0) ∷ row_parts (drop (i + 1) row)
row_at row i h = rw (add-one i, drop-cons row i 0 h)

pub row-ended : (row : List ℕ) (i : ℕ) → length row ≤ i → row_parts (drop i row) ≡ []
row-ended row i h = rw (drop_of_length-le row {i = i} h)

-- parts written leave the place after them
pub written-place : {A E : Type 0} (a b : Vec ℕ A) (ps : List (List ℕ)) (u : Unit {0}) → Written {E = E} a b ps (Ok u)
    → vec_len b ≡ vec_len a + length (joined ps)
written-place a b ps u w = omega (arith, a.ok.0, b.ok.0, ap length w.bytes, length-append a.items (joined ps))

-- parts written leave the place after them
pub fitted-place : {E : Type 0} (N : ℕ) (a b : ArrayVec ℕ) (ps : List (List ℕ)) (u : Unit {0}) → Fitted {E = E} N a b ps (Ok u)
    → array_vec_len b ≡ array_vec_len a + length (joined ps)
fitted-place N a b ps u w = ap length w.bytes ∙ length-append a.items (joined ps)

-- where the text of the parts has room, it stands behind what the vector held, and the vector's end is the text's
pub written_whole : {A E : Type 0} (old new : Vec ℕ A) (ps : List (List ℕ)) (r : Result (Unit {0}) E) → Written old new ps r
    → vec_len old + length (joined ps) ≤ vec_capacity old
    → (new.items ≡ old.items ++ joined ps) × (vec_len new ≡ vec_len old + length (joined ps))
written_whole {A} {E} old new ps r w h = go r (w.succeeds h) w.bytes
  where
    go : (r : Result (Unit {0}) E) → IsOk r → MatchResult r (λ _. new.items ≡ old.items ++ joined ps) (λ _. Stopped old new ps)
        → (new.items ≡ old.items ++ joined ps) × (vec_len new ≡ vec_len old + length (joined ps))
    go (Ok u) s e = (e, omega (arith, old.ok.0, new.ok.0, ap length e, length-append old.items (joined ps)))
    go (Err x) s e = absurd (let z : false ≡ true = s in cc)

-- where the text of the parts has room, it stands behind what the vector held, and the vector's end is the text's
pub fitted_whole : {E : Type 0} (N : ℕ) (old new : ArrayVec ℕ) (ps : List (List ℕ)) (r : Result (Unit {0}) E) → Fitted N old new ps r
    → array_vec_len old + length (joined ps) ≤ N
    → (new.items ≡ old.items ++ joined ps) × (array_vec_len new ≡ array_vec_len old + length (joined ps))
fitted_whole {E} N old new ps r w h = go r (w.succeeds.1 h) w.bytes
  where
    go : (r : Result (Unit {0}) E) → IsOk r → MatchResult r (λ _. new.items ≡ old.items ++ joined ps) (λ _. Filled N old new ps)
        → (new.items ≡ old.items ++ joined ps) × (array_vec_len new ≡ array_vec_len old + length (joined ps))
    go (Ok u) s e = (e, ap length e ∙ length-append old.items (joined ps))
    go (Err x) s e = absurd (let z : false ≡ true = s in cc)

-- where there is no room for all, the parts before one stand, and that one has no room behind them
pub record StopsAt (room : ℕ) (s : List ℕ) (ps : List (List ℕ)) : Type 0 where
  pub k : ℕ
  pub some_left : k < length ps
  pub items : all_put room s ps ≡ s ++ joined (take k ps)
  pub fits : length s + length (joined (take k ps)) ≤ room
  pub next : room < length s + length (joined (take k ps)) + length (get_or ps k [])

pub put-stops : (room : ℕ) (s : List ℕ) (ps : List (List ℕ)) → length s ≤ room → room < length s + length (joined ps) → StopsAt room s ps
unfolding all_put
put-stops room s [] h l = absurd (omega arith)
put-stops room s (p ∷ ps) h l =
    let n = length-append s p in
    let m = length-append p (joined ps) in
    go (leb (length s + length p) room) refl (λ f. put-stops room (s ++ p) ps (omega arith) (omega arith))
  where
    go : (t : Bool) → leb (length s + length p) room ≡ t → (length s + length p ≤ room → StopsAt room (s ++ p) ps) → StopsAt room s (p ∷ ps)
    go false t more = record {
      k = 0;
      some_left = omega arith;
      items = rw t (sym (append-nil s));
      fits = omega arith;
      next = omega (arith, leb-false (length s + length p) room t);
    }
    go true t more =
        let i = more (leb-true (length s + length p) room t) in
        let n = length-append s p in
        let o = length-append p (joined (take i.k ps)) in
        record {
          k = suc i.k;
          some_left = omega (arith, i.some_left);
          items = rw t (i.items ∙ append_assoc s p (joined (take i.k ps)));
          fits = omega (arith, i.fits);
          next = omega (arith, i.next);
        }

-- what stood stands, and behind it a front of the text
pub put-front : (room : ℕ) (s : List ℕ) (ps : List (List ℕ)) → StartsWith (all_put room s ps) s × StartsWith (s ++ joined ps) (all_put room s ps)
unfolding all_put
put-front room s [] = (take_all (length s) s (le_refl (length s)), take_at s [] (length s) refl)
put-front room s (p ∷ ps) = go (leb (length s + length p) room) (put-front room (s ++ p) ps)
  where
    go : (t : Bool) → StartsWith (all_put room (s ++ p) ps) (s ++ p) × StartsWith ((s ++ p) ++ joined ps) (all_put room (s ++ p) ps)
        → StartsWith (cond t (all_put room (s ++ p) ps) s) s × StartsWith (s ++ (p ++ joined ps)) (cond t (all_put room (s ++ p) ps) s)
    go false i = (take_all (length s) s (le_refl (length s)), take_at s (p ++ joined ps) (length s) refl)
    go true i =
        let P : List ℕ → Type 0 = λ x. StartsWith x (all_put room (s ++ p) ps) in
        (starts_append s p (all_put room (s ++ p) ps) i.0, subst P (append_assoc s p (joined ps)) i.1)

pub written-front : {A E : Type 0} (a b : Vec ℕ A) (ps : List (List ℕ)) (e : E) → Written a b ps (Err e)
    → StartsWith b.items a.items × StartsWith (a.items ++ joined ps) b.items
written-front a b ps e w = rw w.bytes.items (put-front w.bytes.room a.items ps)

pub fitted-front : {E : Type 0} (N : ℕ) (a b : ArrayVec ℕ) (ps : List (List ℕ)) (e : E) → Fitted N a b ps (Err e)
    → StartsWith b.items a.items × StartsWith (a.items ++ joined ps) b.items
fitted-front N a b ps e w = rw w.bytes.items (put-front N a.items ps)

-- ---- words counted

-- a word that begins at a place ends past it
pub word-ends-past : (line : List ℕ) (from to : ℕ) → from ≤ to → from < length line → (from < length line → eqb (get_or line from 0) 32 ≡ false)
    → (to < length line → eqb (get_or line to 0) 32 ≡ true) → from < to
word-ends-past line from to h k s e = go (eqb from to) refl
  where
    go : (t : Bool) → eqb from to ≡ t → from < to
    go true t = let l = ended line from s (rw (← eqb-true from to t) at e) in absurd (omega arith)
    go false t = omega (arith, eqb-false from to t)

pub word-counted : (line : List ℕ) (from to : ℕ) → from < to → to ≤ length line
    → words_of (drop from line) ≡ some (between line from to) (words_of (drop to line))
    → length (words_of (drop from line)) ≡ suc (length (words_of (drop to line)))
word-counted line from to h k q = ap length (q ∙ some-between line from to (words_of (drop to line)) h k)

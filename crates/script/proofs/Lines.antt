-- A word by the library's `position`: past the bytes before it, and to the next space. Assumes nothing.
use Rattle.std.proofs.Common.{ℕ, suc, ◌+◌, ◌-◌, ◌^◌, ◌<◌, ◌≤◌, ◌≡◌, refl, ◌∙◌, ◌==◌, Bool, not, true, false, cond, ◌&&◌, eqb, leb, Option, None, Some, List, [], ◌∷◌, ◌++◌, length, take, drop, replicate, get_or, get_or-drop, ap, length-append, add-zero, append-nil, append_assoc, drop-cons, drop-drop, drop_of_length-le, length-drop, take-suc-set, set, add-one, take_all, ltb-true, ltb-false, leb-true, leb-false, arith}
use Rattle.std.proofs.Math.Dec.{ltb}
use denote.Param.Members.{Mut, Called}
use Rattle.std.specs.Iterator.{Yields, YieldsFirstBy, ChecksAll}
use Rattle.std.specs.List.{position, position_or_len, FoldsTo}
use Rattle.std.specs.Option.{unwrap_or, MatchOption}
use Rattle.std.proofs.lemmas.List.Sums.{prefix_len-le-length}
use Rattle.std.proofs.lemmas.List.Quantifiers.{position-Some}
use Rattle.text.specs.Number.{digits_number, word_number, all_digits, value_after}
use Rattle.std.proofs.Math.Seq.{append_snoc}
use Rattle.script.specs.Laws.{fitting-within}
use Rattle.script.specs.Words.{some, words_after, words_of, first_of, rest_of, is_empty, fitting, each_of, number_of, values_of, up_to}

abbrev pub is_space : ℕ → Bool
is_space b = b == 32

abbrev pub is_byte : ℕ → Bool
is_byte b = not (b == 32)

-- spaces in front of a word are passed over
passed : (s : List ℕ) → words_of s ≡ words_of (drop (position_or_len is_byte s) s)
unfolding words_of words_after
passed [] = refl
passed (c ∷ s) = go c s (eqb c 32) refl (passed s)
  where
    go : (c : ℕ) (s : List ℕ) (t : Bool) → eqb c 32 ≡ t → words_of s ≡ words_of (drop (position_or_len is_byte s) s)
        → words_of (c ∷ s) ≡ words_of (drop (position_or_len is_byte (c ∷ s)) (c ∷ s))
    go c s true t h = let e : 1 + position_or_len is_byte s ≡ suc (position_or_len is_byte s) = omega arith in rw (t, e) h
    go c s false t h = rw t (rw t)

-- the bytes up to the next space, or to the line's end, are the word's
read : (w s : List ℕ) → words_after w s ≡ some (w ++ take (position_or_len is_space s) s) (words_of (drop (position_or_len is_space s) s))
unfolding words_of words_after
read w [] = rw append-nil
read w (c ∷ s) = go c s (eqb c 32) refl (read (w ++ (c ∷ [])) s)
  where
    go : (c : ℕ) (s : List ℕ) (t : Bool) → eqb c 32 ≡ t
        → words_after (w ++ (c ∷ [])) s ≡ some ((w ++ (c ∷ [])) ++ take (position_or_len is_space s) s) (words_of (drop (position_or_len is_space s) s))
        → words_after w (c ∷ s) ≡ some (w ++ take (position_or_len is_space (c ∷ s)) (c ∷ s)) (words_of (drop (position_or_len is_space (c ∷ s)) (c ∷ s)))
    go c s true t h = rw (t, append-nil) (rw t)
    go c s false t h = let e : 1 + position_or_len is_space s ≡ suc (position_or_len is_space s) = omega arith in rw (t, e) (rw append_assoc at h)

-- the length where no byte passes
at_end : (p : ℕ → Bool) (s : List ℕ) → position p s ≡ None → length s ≤ position_or_len p s
at_end p s e = go (ltb (position_or_len p s) (length s)) refl
  where
    go : (t : Bool) → ltb (position_or_len p s) (length s) ≡ t → length s ≤ position_or_len p s
    go true t = absurd (let x : Some (position_or_len p s) ≡ None = rw t at e in cc)
    go false t = ltb-false _ _ t

pub none_left : (s : List ℕ) → position is_byte s ≡ None → words_of s ≡ []
unfolding words_of words_after
none_left s e = passed s ∙ rw (drop_of_length-le s {i = position_or_len is_byte s} (at_end is_byte s e))

-- `position`, or the length
or_len : (p : ℕ → Bool) (s : List ℕ) → unwrap_or (position p s) (length s) ≡ position_or_len p s
or_len p s = go (ltb (position_or_len p s) (length s)) refl
  where
    go : (t : Bool) → ltb (position_or_len p s) (length s) ≡ t → unwrap_or (cond t (Some (position_or_len p s)) None) (length s) ≡ position_or_len p s
    go true t = refl
    go false t = let l = prefix_len-le-length (λ x. not (p x)) s in omega (arith, ltb-false _ _ t)

-- the place that `position` gives
place : (p : ℕ → Bool) (s : List ℕ) (i : ℕ) → position p s ≡ Some i → (position_or_len p s ≡ i) × (i < length s)
place p s i e = go (ltb (position_or_len p s) (length s)) refl
  where
    go : (t : Bool) → ltb (position_or_len p s) (length s) ≡ t → (position_or_len p s ≡ i) × (i < length s)
    go true t =
        let x : Some (position_or_len p s) ≡ Some i = rw t at e in
        let y : position_or_len p s ≡ i = cc in
        (y, omega (arith, y, ltb-true _ _ t))
    go false t = absurd (let x : None ≡ Some i = rw t at e in cc)

-- a word that begins with another byte than the space is not empty
not_empty : (line : List ℕ) (ws : List (List ℕ)) → 0 < length line → is_byte (get_or line 0 0) ≡ true
    → some (take (position_or_len is_space line) line) ws ≡ take (position_or_len is_space line) line ∷ ws
not_empty [] ws h e = absurd (omega arith)
not_empty (c ∷ s) ws h e =
    let n : 1 + position_or_len is_space s ≡ suc (position_or_len is_space s) = omega arith in
    rw (e, n)

pub first_word : (s : List ℕ) (i n : ℕ) (line : List ℕ) → position is_byte s ≡ Some i → line ≡ drop i s → n ≡ unwrap_or (position is_space line) (length line)
    → words_of s ≡ take n line ∷ words_of (drop n line)
unfolding words_of
first_word s i n line e l u =
    let h = position-Some is_byte s i 0 e in
    let p = place is_byte s i e in
    let m : n ≡ position_or_len is_space line = u ∙ or_len is_space line in
    let some_left : 0 < length line = rw l (omega (arith, length-drop i s)) in
    let first : is_byte (get_or line 0 0) ≡ true = rw (l, get_or-drop i s 0 0, add-zero i) h.1 in
    passed s ∙ rw (p.0, ← l, m) (read [] line ∙ not_empty line (words_of (drop (position_or_len is_space line) line)) some_left first)

-- every word is a number up to 255
abbrev pub all_bytes : List (List ℕ) → Bool
all_bytes ws = fitting (replicate (length ws) 255) ws

-- ---- numbers

-- a number read up to one limit, by the same word read up to a higher one
abbrev pub UpTo : ℕ → Option ℕ → Option ℕ → Type 0
UpTo limit low high = MatchOption low (up_to limit high ≡ false) (λ n. (up_to limit high ≡ true) × (high ≡ Some n) × (n ≤ limit))

digits-up_to : (base limit most : ℕ) (w : List ℕ) → limit ≤ most → UpTo limit (digits_number base w limit) (digits_number base w most)
unfolding digits_number
digits-up_to base limit most w h =
    go (ltb 0 (length w) && all_digits base w) (value_after base 0 w) (leb (value_after base 0 w) limit) refl (leb (value_after base 0 w) most) refl
  where
    go : (a : Bool) (v : ℕ) (s : Bool) → leb v limit ≡ s → (t : Bool) → leb v most ≡ t → UpTo limit (cond (a && s) (Some v) None) (cond (a && t) (Some v) None)
    go false v s e t f = refl
    go true v true e true f = (e, refl, leb-true v limit e)
    go true v true e false f = absurd (omega (arith, leb-true v limit e, leb-false v most f))
    go true v false e true f = e
    go true v false e false f = refl

pub number-up_to : (limit : ℕ) (w : List ℕ) → limit < 2 ^ 32 → UpTo limit (word_number w limit) (number_of w)
unfolding word_number number_of
number-up_to limit w h = go (leb 2 (length w) && (eqb (get_or w 0 0) 48 && eqb (get_or w 1 0) 120))
  where
    go : (t : Bool) → UpTo limit (cond t (digits_number 16 (drop 2 w) limit) (digits_number 10 w limit)) (cond t (digits_number 16 (drop 2 w) 4294967295) (digits_number 10 w 4294967295))
    go true = digits-up_to 16 limit 4294967295 (drop 2 w) (omega arith)
    go false = digits-up_to 10 limit 4294967295 w (omega arith)

-- no bytes are no number
pub no_number : (limit : ℕ) → up_to limit (number_of []) ≡ false
unfolding number_of word_number digits_number
no_number limit = refl

-- ---- limits and values

-- the limits from a place on, and the words that they are for
pub fitting-at : (limits : List ℕ) (i : ℕ) (ws : List (List ℕ)) → i < length limits
    → fitting (drop i limits) ws ≡ (up_to (get_or limits i 0) (number_of (first_of ws)) && fitting (drop (i + 1) limits) (rest_of ws))
unfolding fitting
fitting-at limits i ws h = rw (add-one i, drop-cons limits i 0 h)

pub fitting-ended : (limits : List ℕ) (i : ℕ) (ws : List (List ℕ)) → length limits ≤ i → fitting (drop i limits) ws ≡ is_empty ws
unfolding fitting
fitting-ended limits i ws h = rw (drop_of_length-le limits {i = i} h)

-- a list filled from the front: one element more, and all
pub filled_more : (f : List ℕ → ℕ) (out : List ℕ) (n i v : ℕ) (ws : List (List ℕ)) → i < length out → i < n → v ≡ f (first_of ws)
    → take (i + 1) (set out i v) ++ each_of f (n - (i + 1)) (rest_of ws) ≡ take i out ++ each_of f (n - i) ws
unfolding each_of
filled_more f out n i v ws h k e =
    let m : n - i ≡ suc (n - (i + 1)) = omega arith in
    rw (add-one i, take-suc-set out i v h, append_snoc (take i out) v, e, m, add-one i)

pub filled-all : (f : List ℕ → ℕ) (out : List ℕ) (n i : ℕ) (ws : List (List ℕ)) → length out ≤ i → n ≤ i → take i out ++ each_of f (n - i) ws ≡ out
unfolding each_of
filled-all f out n i ws h k =
    let m : n - i ≡ 0 = omega arith in
    rw (m, take_all i out h) (append-nil out)

-- ---- bytes

pub byte-passed : (w : List ℕ) (ws : List (List ℕ)) → all_bytes (w ∷ ws) ≡ (up_to 255 (number_of w) && all_bytes ws)
unfolding fitting
byte-passed w ws = refl

-- ---- values within their limits

-- of the values that `numbers` gives
pub within : (limits : List ℕ) (ws : List (List ℕ)) (v : List ℕ) → fitting limits ws ≡ true → v ≡ values_of (length limits) ws
    → (k : ℕ) → k < length limits → get_or v k 0 ≤ get_or limits k 0
within limits ws v e f k h = rw f (fitting-within limits ws k e h)

-- ---- words passed over

pub stepped : {A : Type 0} (view : A → List ℕ) (o : Option A) (left rest : List (List ℕ)) → MatchOption o ((left ≡ []) × (rest ≡ [])) (λ w. left ≡ view w ∷ rest)
    → rest ≡ rest_of left
stepped view None left rest s = s.1 ∙ rw s.0
stepped view (Some w) left rest s = rw s

pub rest-dropped : (ws : List (List ℕ)) (i : ℕ) → rest_of (drop i ws) ≡ drop (i + 1) ws
rest-dropped ws i = first (drop i ws) ∙ drop-drop 1 i ws
  where
    first : (vs : List (List ℕ)) → rest_of vs ≡ drop 1 vs
    first [] = refl
    first (v ∷ vs) = refl

-- ---- words counted and tested

-- there are no more words than bytes
pub words-short : (w s : List ℕ) → length (words_after w s) ≤ length s + length w
unfolding words_after
words-short [] [] = omega arith
words-short (b ∷ w) [] = omega arith
words-short w (c ∷ s) = go w (eqb c 32) (words-short [] s) (words-short (w ++ (c ∷ [])) s)
  where
    go : (w : List ℕ) (t : Bool) → length (words_after [] s) ≤ length s + 0 → length (words_after (w ++ (c ∷ [])) s) ≤ length s + length (w ++ (c ∷ []))
        → length (cond t (some w (words_after [] s)) (words_after (w ++ (c ∷ [])) s)) ≤ suc (length s) + length w
    go [] true h k = omega (arith, h)
    go (b ∷ v) true h k = omega (arith, h)
    go v false h k = omega (arith, k, length-append v (c ∷ []))

-- the words that came, up to the end
pub drained : {S A : Type 0} (view : A → List ℕ) (rest : S → List (List ℕ)) (xs : List A) (s t : S) → Yields (YieldsFirstBy view rest) s xs t → rest t ≡ []
    → length xs ≡ length (rest s)
drained view rest [] s t y e = rw (y, e)
drained view rest (x ∷ xs) s t y e = rw y.1 (ap suc (drained view rest xs y.0 t y.2 e))

-- words that passed were bytes
passed_all : {S A F : Type 0} (view : A → List ℕ) (rest : S → List (List ℕ)) (g : Mut F (A × Unit {0}) Bool)
    → ((p : F) (x : A) (b : Bool) (q : F) → Called g p (x, tt) b q → b ≡ up_to 255 (number_of (view x)))
    → (xs : List A) (s t : S) (f f' : F) → Yields (YieldsFirstBy view rest) s xs t → FoldsTo (λ p x q. Called g p (x, tt) true q) f xs f'
    → all_bytes (rest s) ≡ all_bytes (rest t)
passed_all view rest g tests [] s t f f' y z = rw y
passed_all view rest g tests (x ∷ xs) s t f f' y z =
    rw (y.1, byte-passed (view x) (rest y.0), ← tests f x true z.0 z.1) (passed_all view rest g tests xs y.0 t z.0 f' y.2 z.2)

-- what `all` answers at a test of bytes
pub tested : {S A F : Type 0} {g : Mut F (A × Unit {0}) Bool} {r : Bool} {f : F} {s u : S} (view : A → List ℕ) (rest : S → List (List ℕ))
    → ChecksAll (YieldsFirstBy view rest) g s f r u
    → ((p : F) (x : A) (b : Bool) (q : F) → Called g p (x, tt) b q → b ≡ up_to 255 (number_of (view x))) → all_bytes (rest s) ≡ r
unfolding fitting
tested {S} {A} {F} {g} {r} {f} {s} {u} view rest c tests = passed_all view rest g tests c.0 s c.3.0 f c.2 c.3.1 c.4 ∙ go c.1 c.3.2 c.5
  where
    go : (o : Option A) → YieldsFirstBy view rest c.3.0 o u → MatchOption o (r ≡ true) (λ x. (r ≡ false) × ((h : F) × Called g c.2 (x, tt) false h))
        → all_bytes (rest c.3.0) ≡ r
    go None l e = rw (e, l.0)
    go (Some x) l e = rw (e.0, l, byte-passed (view x) (rest u), ← tests c.2 x false e.1.0 e.1.1)

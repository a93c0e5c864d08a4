-- Laws of the table that callers cite: what its rows say holds of every block and number; accepted words are allowed, and those read back. Assumes nothing.
use Rattle.std.specs.Prelude.{ℕ, zero, suc, ◌<◌, ◌^◌, ◌≡◌, Bool, not, ◌&&◌, ◌||◌, cond, leb, pos, Ok, Err}
use Rattle.std.proofs.Math.Path.{refl, subst}
use Rattle.std.proofs.Common.{sym, arith, eqb→eq, eqb-true, ne_eqb}
use Rattle.std.proofs.Math.Bool.{true, false}
use mathlib.Core.List.{List, [], ◌∷◌}
use Rattle.std.proofs.Math.Dec.{T, eqb}
use Rattle.std.specs.Float.Ieee.{binary32, of_int, le, is_nan}
use Rattle.std.specs.Float.Ieee.Fits.{and_l, and_r, and_i}
use Rattle.std.specs.Float.Ieee.Scale.{finite}
use Rattle.numbers.specs.Floats.{float_of, bits_of, finite_or, within}
use Rattle.numbers.specs.FloatLaws.{word_back, finite_number, finite_or-number, within-number}
use Rattle.scaling.specs.Scaling.{allowed_scale}
use Rattle.wire.specs.declared.Refusal.{Refusal}
use Rattle.wire.specs.Refusal.{granted}
use Rattle.wire.specs.Refusal as Refusal
use Rattle.wire.specs.declared.Refusal.TheVariants.{ReadOnly, Locked, WordsNotAllowed, NotMan}
use Rattle.blocks.specs.Common.{man}
use Rattle.parameters.specs.declared.Words.{Words}
use Rattle.parameters.specs.declared.Allowed.{Allowed}
use Rattle.parameters.specs.declared.Allowed.TheVariants.{Nothing, Lock, Mode, ModeOrRcas, UpTo, Ends, Within, Finite, AtLeastZero}
use Rattle.parameters.specs.declared.Allowed.TheVariants.{FiniteOrInfinity, FiniteOrMinusInfinity, Output, OutputD, Total}
use Rattle.parameters.specs.declared.Standing.{Standing}
use Rattle.parameters.specs.Table.{Row, Entry, judged, words, physical, ain, tot, ao, di, dout, entry_in, entry_of}
use Rattle.parameters.specs.Words.{mode, allows_of}
use Rattle.parameters.specs.Refused.{read_only, output, target_in, lacks_table, ground, ground_by}

-- ---- blocks and rows

-- a block is one of the six, or there is none
pub by-block : (P : ℕ → Type 0) → P 0 → P 1 → P 2 → P 3 → P 4 → P 5 → ((block : ℕ) → 5 < block → P block) → (block : ℕ) → P block
by-block P physical ain tot ao di dout none zero = physical
by-block P physical ain tot ao di dout none (suc zero) = ain
by-block P physical ain tot ao di dout none (suc (suc zero)) = tot
by-block P physical ain tot ao di dout none (suc (suc (suc zero))) = ao
by-block P physical ain tot ao di dout none (suc (suc (suc (suc zero)))) = di
by-block P physical ain tot ao di dout none (suc (suc (suc (suc (suc zero))))) = dout
by-block P physical ain tot ao di dout none (suc (suc (suc (suc (suc (suc n)))))) = none (suc (suc (suc (suc (suc (suc n)))))) (omega arith)

pub no_block : (block number : ℕ) → 5 < block → entry_of block number ≡ Err (Refusal.ground 1)
unfolding entry_of
no_block block number h =
    rw (
      ne_eqb block 0 (omega arith),
      ne_eqb block 1 (omega arith),
      ne_eqb block 2 (omega arith),
      ne_eqb block 3 (omega arith),
      ne_eqb block 4 (omega arith),
      ne_eqb block 5 (omega arith),
    )

-- proofs for the rows of a table, one after the other
infixr 20 ◌also◌
pub ◌also◌ : {A B : Type 0} → A → B → A × B
a also b = (a, b)

abbrev RowBy : Bool → Type 0 → Type 0 → Type 0
RowBy true A B = A × B
RowBy false A B = B

first : (A B : Type 0) (b : Bool) → RowBy b A B → T b → A
first A B true all t = all.0
first A B false all t = absurd t

others : (A B : Type 0) (b : Bool) → RowBy b A B → B
others A B true all = all.1
others A B false all = all

module _ (chosen : ℕ → Entry → Bool) (P : ℕ → ℕ → Entry → Type 0) where
  abbrev entry : Row → Entry
  entry r = Ok (judged r)

  -- P of each row chosen
  abbrev pub Rows : ℕ → List Row → Type 0
  Rows block [] = Unit
  Rows block (r ∷ rows) = RowBy (chosen r.number (entry r)) (P block r.number (entry r)) (Rows block rows)

  module _ (lacking : (block number : ℕ) → T (chosen number (Err (Refusal.ground 2))) → P block number (Err (Refusal.ground 2))) where
    in_rows : (block : ℕ) (rows : List Row) → Rows block rows → (number : ℕ) → T (chosen number (entry_in rows number)) → P block number (entry_in rows number)
    unfolding entry_in
    in_rows block [] all number t = lacking block number t
    in_rows block (r ∷ rows) all number t =
        go (in_rows block rows (others (P block r.number (entry r)) (Rows block rows) (chosen r.number (entry r)) all) number)
        (eqb number r.number) refl t
      where
        go : (T (chosen number (entry_in rows number)) → P block number (entry_in rows number)) → (b : Bool) → eqb number r.number ≡ b
            → T (chosen number (cond b (entry r) (entry_in rows number))) → P block number (cond b (entry r) (entry_in rows number))
        go rest true e =
            subst (λ (n : ℕ). T (chosen n (entry r)) → P block n (entry r)) (sym (eqb-true number r.number e))
            (first (P block r.number (entry r)) (Rows block rows) (chosen r.number (entry r)) all)
        go rest false e = rest

    -- P of every block and number that is chosen
    pub by_rows : ((block number : ℕ) → T (chosen number (Err (Refusal.ground 1))) → P block number (Err (Refusal.ground 1)))
        → Rows 0 physical → Rows 1 ain → Rows 2 tot → Rows 3 ao → Rows 4 di → Rows 5 dout
        → (block number : ℕ) → T (chosen number (entry_of block number)) → P block number (entry_of block number)
    unfolding entry_of
    by_rows none p a t o di' dout' block number =
        by-block
        (λ (b : ℕ). T (chosen number (entry_of b number)) → P b number (entry_of b number))
        (in_rows 0 physical p number)
        (in_rows 1 ain a number)
        (in_rows 2 tot t number)
        (in_rows 3 ao o number)
        (in_rows 4 di di' number)
        (in_rows 5 dout dout' number)
        (λ b h. subst (λ (e : Entry). T (chosen number e) → P b number e) (sym (no_block b number h)) (none b number))
        block

-- ---- an accepted write

-- what can be written, and with which words
abbrev pub takes : Entry → ℕ → ℕ → Bool
takes (Ok p) a b = not (read_only p.class) && allows_of p.allowed a b
takes (Err r) a b = false

refused-other : (r : Refusal) → Err r ≡ granted → ⊥
refused-other r e = let z : ◌≡◌ {A = ℕ} 0 1 = cc in omega arith

pub accepted-takes : (s : Standing) (block number a b : ℕ) → ground s block number a b ≡ granted → T (takes (entry_of block number) a b)
unfolding ground
accepted-takes s block number a b e = by (entry_of block number) e
  where
    go : (r l w t m : Bool)
        → cond r (Err ReadOnly) (cond l (Err Locked) (cond (not (w && not t)) (Err WordsNotAllowed) (cond m (Err NotMan) granted))) ≡ granted
        → T (not r && w)
    go false false true false false e = tt
    go true l w t m e = absurd (refused-other _ e)
    go false true w t m e = absurd (refused-other _ e)
    go false false false t m e = absurd (refused-other _ e)
    go false false true true m e = absurd (refused-other _ e)
    go false false true false true e = absurd (refused-other _ e)

    by : (x : Entry) → ground_by s block number a b x ≡ granted → T (takes x a b)
    by (Err r) e = absurd (refused-other r e)
    by (Ok p) e =
        go (read_only p.class) (eqb s.lock 0 && not (eqb block 0)) (allows_of p.allowed a b) (lacks_table s block number a)
        (output p.allowed && not (eqb (target_in s block) man)) e

-- ---- allowed words read back

-- how a parameter reads, by the words it takes
abbrev pub shown : Allowed → Words → Words
shown Nothing w = w
shown Lock w = words w.first 0
shown Mode w = words w.first 0
shown ModeOrRcas w = words w.first 0
shown (UpTo n) w = words w.first 0
shown Ends w = words (bits_of (float_of w.first)) (bits_of (float_of w.second))
shown (Within low high) w = words (bits_of (float_of w.first)) 0
shown Finite w = words (bits_of (float_of w.first)) 0
shown AtLeastZero w = words (bits_of (float_of w.first)) 0
shown FiniteOrInfinity w = words (bits_of (float_of w.first)) 0
shown FiniteOrMinusInfinity w = words (bits_of (float_of w.first)) 0
shown Output w = w
shown OutputD w = w
shown (Total low high) w = w

abbrev pub shown_by : Entry → Words → Words
shown_by (Ok p) w = shown p.allowed w
shown_by (Err r) w = w

module _ (w : Words) (first : w.first < 2 ^ 32) (second : w.second < 2 ^ 32) where
  coded : T (eqb w.second 0) → words w.first 0 ≡ w
  coded t = λ i. words w.first (sym (eqb→eq w.second 0 t) i)

  -- a single, by a range that has no NaN in it
  floated : (range : Bool) → (range ≡ true → is_nan (float_of w.first) ≡ false) → T (range && eqb w.second 0) → words (bits_of (float_of w.first)) 0 ≡ w
  floated true n t = λ i. words (word_back w.first first (n refl) i) (sym (eqb→eq w.second 0 t) i)
  floated false n t = absurd t

  ended : (low high unequal : Bool) → (low ≡ true → is_nan (float_of w.first) ≡ false) → (high ≡ true → is_nan (float_of w.second) ≡ false)
      → T (low && high && unequal) → shown Ends w ≡ w
  ended true true unequal l h t = λ i. words (word_back w.first first (l refl) i) (word_back w.second second (h refl) i)
  ended false high unequal l h t = absurd t
  ended true false unequal l h t = absurd t

  pub shown-back : (k : Allowed) → T (allows_of k w.first w.second) → shown k w ≡ w
  unfolding allows_of allowed_scale
  shown-back Nothing t = refl
  shown-back Lock t = coded (and_r (eqb w.first 0 || eqb w.first 2457) (eqb w.second 0) t)
  shown-back Mode t = coded (and_r (mode false w.first) (eqb w.second 0) t)
  shown-back ModeOrRcas t = coded (and_r (mode true w.first) (eqb w.second 0) t)
  shown-back (UpTo n) t = coded (and_r (leb w.first n) (eqb w.second 0) t)
  shown-back Ends t =
      ended (finite (float_of w.first)) (finite (float_of w.second)) _ (finite_number (float_of w.first)) (finite_number (float_of w.second)) t
  shown-back (Within low high) t = floated (within low high (float_of w.first)) (within-number low high (float_of w.first)) t
  shown-back Finite t = floated (finite (float_of w.first)) (finite_number (float_of w.first)) t
  shown-back AtLeastZero t =
      let a = finite (float_of w.first) in
      let b = le (of_int binary32 (pos 0)) (float_of w.first) in
      floated a (finite_number (float_of w.first))
      (and_i a (eqb w.second 0) (and_l a b (and_l (a && b) (eqb w.second 0) t)) (and_r (a && b) (eqb w.second 0) t))
  shown-back FiniteOrInfinity t = floated (finite_or false (float_of w.first)) (finite_or-number false (float_of w.first)) t
  shown-back FiniteOrMinusInfinity t = floated (finite_or true (float_of w.first)) (finite_or-number true (float_of w.first)) t
  shown-back Output t = refl
  shown-back OutputD t = refl
  shown-back (Total low high) t = refl

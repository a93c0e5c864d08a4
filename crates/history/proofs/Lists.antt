-- The rules' lists of parameters beside the rows of the table: the same blocks and numbers, and the same classes. Assumes nothing.
use Rattle.std.specs.Prelude.{Ok, Err}
use Prim.Native.Nat.{ℕ, ◌<◌}
use native.Mathlib.Omega.{arith}
use mathlib.Core.Path.{◌≡◌, refl, sym, subst}
use mathlib.Core.Logic.{◌⊎◌, inl, inr}
use mathlib.Core.Bool.{Bool, true, false, ◌&&◌, ◌||◌, cond, true≢false}
use mathlib.Core.List.{List, [], ◌∷◌, ◌++◌}
use lib.Dec.{T, eqb, ltb}
use lib.Ieee.Fits.{and_l, and_r}
use borrow.Author.Tests.{eqb-true, ne_eqb, lt-ltb, ltb-true}
use Rattle.parameters.specs.declared.Standing.{Standing}
use Rattle.parameters.specs.Table.{Row, Entry, judged, entry_in, entry_of, static_entry, is_static}
use Rattle.parameters.specs.Table as Table
use Rattle.wire.specs.Refusal.{ground}
use Rattle.parameters.specs.Refused.{ground_by, target_in}
use Rattle.parameters.specs.Refused as Refused
use Rattle.parameters.specs.Laws.{by-block, no_block, by_rows, ◌also◌}
use Rattle.history.specs.Past.{History}
use Rattle.history.specs.Calls.{Event}
use Rattle.history.specs.Rules.{among, has, statics, kepts, outputs, read_onlys, code, tabled, to_write}

abbrev pub present : ℕ → Entry → Bool
present number (Ok p) = true
present number (Err r) = false

-- what passes each number of a list passes one that is among them
abbrev every : (ℕ → Bool) → List ℕ → Bool
every p [] = true
every p (n ∷ ns) = p n && every p ns

each : (p : ℕ → Bool) (ns : List ℕ) → T (every p ns) → (number : ℕ) → T (among ns number) → T (p number)
each p [] t number m = absurd m
each p (n ∷ ns) t number m = go (each p ns (and_r (p n) (every p ns) t) number) (eqb number n) refl m
  where
    go : (T (among ns number) → T (p number)) → (b : Bool) → eqb number n ≡ b → T (b || among ns number) → T (p number)
    go rest true e m = subst (λ (x : ℕ). T (p x)) (sym (eqb-true number n e)) (and_l (p n) (every p ns) t)
    go rest false e m = rest m

-- a number that the rules list has a row
listed-present : (block number : ℕ) → T (has block number) → T (present number (entry_of block number))
unfolding has statics kepts outputs read_onlys entry_of entry_in Table.physical Table.ain Table.tot Table.ao Table.di Table.dout Table.discrete
listed-present block number =
    by-block
    (λ (b : ℕ). T (has b number) → T (present number (entry_of b number)))
    (each (λ n. present n (entry_of 0 n)) (18 ∷ []) tt number)
    (each (λ n. present n (entry_of 1 n)) (5 ∷ 11 ∷ 12 ∷ 13 ∷ 16 ∷ 17 ∷ 18 ∷ 19 ∷ 21 ∷ 23 ∷ 25 ∷ 27 ∷ 10 ∷ 1 ∷ 6 ∷ 7 ∷ []) tt number)
    (each (λ n. present n (entry_of 2 n)) (5 ∷ 15 ∷ 16 ∷ 13 ∷ 14 ∷ 10 ∷ 1 ∷ 6 ∷ []) tt number)
    (each (λ n. present n (entry_of 3 n)) (5 ∷ 11 ∷ 23 ∷ 24 ∷ 25 ∷ 36 ∷ 38 ∷ 37 ∷ 1 ∷ 6 ∷ []) tt number)
    (each (λ n. present n (entry_of 4 n)) (5 ∷ 15 ∷ 20 ∷ 21 ∷ 10 ∷ 1 ∷ 6 ∷ []) tt number)
    (each (λ n. present n (entry_of 5 n)) (5 ∷ 15 ∷ 20 ∷ 21 ∷ 22 ∷ 10 ∷ 1 ∷ 6 ∷ []) tt number)
    (λ b h. none b h)
    block
  where
    none : (b : ℕ) → 5 < b → T (has b number) → T (present number (entry_of b number))
    none b h = rw (ne_eqb b 0 (omega arith), ne_eqb b 1 (omega arith), ne_eqb b 2 (omega arith), ne_eqb b 3 (omega arith), ne_eqb b 4 (omega arith), ne_eqb b 5 (omega arith)) (λ (x : ⊥). absurd x)

-- and a row's number is listed
row_listed : (block number : ℕ) → T (present number (entry_of block number)) → has block number ≡ true
unfolding has statics kepts outputs read_onlys Table.physical Table.ain Table.tot Table.ao Table.di Table.dout Table.discrete
row_listed =
    by_rows
    present
    (λ block number e. has block number ≡ true)
    (λ block number t. absurd t)
    (λ block number t. absurd t)
    (refl also tt)
    (refl also refl also refl also refl also refl also refl also refl also refl also refl also refl also refl also refl also refl also refl also refl also refl also tt)
    (refl also refl also refl also refl also refl also refl also refl also refl also tt)
    (refl also refl also refl also refl also refl also refl also refl also refl also refl also refl also tt)
    (refl also refl also refl also refl also refl also refl also refl also tt)
    (refl also refl also refl also refl also refl also refl also refl also refl also tt)

-- what an entry says of its block and number
abbrev pub Known : ℕ → ℕ → Entry → Type 0
Known block number (Ok p) = (ltb 5 block ≡ false) × (has block number ≡ true)
Known block number (Err r) = ((ltb 5 block ≡ true) × (r ≡ ground 1)) ⊎ ((ltb 5 block ≡ false) × (has block number ≡ false) × (r ≡ ground 2))

missing : (b : Bool) → (T b → ⊥) → b ≡ false
missing true n = absurd (n tt)
missing false n = refl

-- a block's rows never say that there is no such block: what is not there is no parameter of it
abbrev Lacking : Entry → Type 0
Lacking (Ok p) = Unit
Lacking (Err r) = r ≡ ground 2

rows-blocked : (rows : List Row) (number : ℕ) → Lacking (entry_in rows number)
unfolding entry_in
rows-blocked [] number = refl
rows-blocked (r ∷ rows) number = go (rows-blocked rows number) (eqb number r.number)
  where
    go : Lacking (entry_in rows number) → (b : Bool) → Lacking (cond b (Ok (judged r)) (entry_in rows number))
    go rest true = tt
    go rest false = rest

pub known : (block number : ℕ) → Known block number (entry_of block number)
known block number =
    by-block
    (λ (b : ℕ). Known b number (entry_of b number))
    (in_block 0 refl (unfold entry_of in rows-blocked Table.physical number))
    (in_block 1 refl (unfold entry_of in rows-blocked Table.ain number))
    (in_block 2 refl (unfold entry_of in rows-blocked Table.tot number))
    (in_block 3 refl (unfold entry_of in rows-blocked Table.ao number))
    (in_block 4 refl (unfold entry_of in rows-blocked Table.di number))
    (in_block 5 refl (unfold entry_of in rows-blocked Table.dout number))
    over
    block
  where
    in_block : (b : ℕ) → ltb 5 b ≡ false → Lacking (entry_of b number) → Known b number (entry_of b number)
    in_block b s n = go (entry_of b number) refl n
      where
        go : (e : Entry) → entry_of b number ≡ e → Lacking e → Known b number e
        go (Ok p) e n = (s, row_listed b number (subst (λ (x : Entry). T (present number x)) (sym e) tt))
        go (Err r) e n = inr (s, missing (has b number) (λ t. subst (λ (x : Entry). T (present number x)) e (listed-present b number t)), n)

    over : (b : ℕ) → 5 < b → Known b number (entry_of b number)
    over b h = rw (no_block b number h) (inl (lt-ltb 5 b h, refl))

-- ---- grounds of refusal

-- WRITE_LOCKING, the targets and whether a table came, by the rules
unfoldable pub standing_at : History Event → Standing
standing_at h = record { lock = code h 0 18; ain = code h 1 5; tot = code h 2 5; ao = code h 3 5; di = code h 4 5; dout = code h 5 5; table = tabled h }

module _ (h : History Event) (a b : ℕ) where
  row-ground : (block number : ℕ) → T (present number (entry_of block number)) → ground_by (standing_at h) block number a b (entry_of block number) ≡ to_write h block number a b
  unfolding standing_at to_write has statics kepts outputs read_onlys target_in entry_of entry_in Table.physical Table.ain Table.tot Table.ao Table.di Table.dout Table.discrete
  row-ground =
      by_rows
      present
      (λ block number e. ground_by (standing_at h) block number a b e ≡ to_write h block number a b)
      (λ block number t. absurd t)
      (λ block number t. absurd t)
      (refl also tt)
      (refl also refl also refl also refl also refl also refl also refl also refl also refl also refl also refl also refl also refl also refl also refl also refl also tt)
      (refl also refl also refl also refl also refl also refl also refl also refl also tt)
      (refl also refl also refl also refl also refl also refl also refl also refl also refl also refl also tt)
      (refl also refl also refl also refl also refl also refl also refl also tt)
      (refl also refl also refl also refl also refl also refl also refl also refl also tt)

  pub ground-same : (block number : ℕ) → Refused.ground (standing_at h) block number a b ≡ to_write h block number a b
  unfolding Refused.ground
  ground-same block number = go (entry_of block number) refl (known block number) (row-ground block number)
    where
      go : (e : Entry) → entry_of block number ≡ e → Known block number e → (T (present number e) → ground_by (standing_at h) block number a b e ≡ to_write h block number a b) → ground_by (standing_at h) block number a b e ≡ to_write h block number a b
      go (Ok p) e k row = row tt
      go (Err r) e (inl k) row = sym (unfold to_write in rw (k.0, k.1))
      go (Err r) e (inr k) row = sym (unfold to_write in rw (k.0, k.1, k.2))

-- ---- static parameters

among-left : (xs ys : List ℕ) (number : ℕ) → among (xs ++ ys) number ≡ false → among xs number ≡ false
among-left [] ys number e = refl
among-left (x ∷ xs) ys number e = go (among-left xs ys number) (eqb number x) e
  where
    go : (among (xs ++ ys) number ≡ false → among xs number ≡ false) → (b : Bool) → b || among (xs ++ ys) number ≡ false → b || among xs number ≡ false
    go rest true e = absurd (true≢false e)
    go rest false e = rest e

row-static : (block number : ℕ) → T (present number (entry_of block number)) → static_entry (entry_of block number) ≡ among (statics block) number
unfolding statics Table.physical Table.ain Table.tot Table.ao Table.di Table.dout Table.discrete
row-static =
    by_rows
    present
    (λ block number e. static_entry e ≡ among (statics block) number)
    (λ block number t. absurd t)
    (λ block number t. absurd t)
    (refl also tt)
    (refl also refl also refl also refl also refl also refl also refl also refl also refl also refl also refl also refl also refl also refl also refl also refl also tt)
    (refl also refl also refl also refl also refl also refl also refl also refl also tt)
    (refl also refl also refl also refl also refl also refl also refl also refl also refl also refl also tt)
    (refl also refl also refl also refl also refl also refl also refl also tt)
    (refl also refl also refl also refl also refl also refl also refl also refl also tt)

none-static : (block number : ℕ) → ltb 5 block ≡ true → among (statics block) number ≡ false
unfolding statics
none-static block number e = rw (ne_eqb block 0 (omega (arith, ltb-true 5 block e)), ne_eqb block 1 (omega (arith, ltb-true 5 block e)), ne_eqb block 2 (omega (arith, ltb-true 5 block e)), ne_eqb block 3 (omega (arith, ltb-true 5 block e)), ne_eqb block 4 (omega (arith, ltb-true 5 block e)), ne_eqb block 5 (omega (arith, ltb-true 5 block e)))

pub static-same : (block number : ℕ) → is_static block number ≡ among (statics block) number
unfolding is_static
static-same block number = go (entry_of block number) refl (known block number) (row-static block number)
  where
    go : (e : Entry) → entry_of block number ≡ e → Known block number e → (T (present number e) → static_entry e ≡ among (statics block) number) → static_entry e ≡ among (statics block) number
    go (Ok p) e k row = row tt
    go (Err r) e (inl k) row = sym (none-static block number k.0)
    go (Err r) e (inr k) row = sym (among-left (statics block) (kepts block) number (among-left (statics block ++ kepts block) (outputs block) number (among-left (statics block ++ kepts block ++ outputs block) (read_onlys block) number (unfold has in k.1))))

-- The loop of `replay`: it makes the calls that the bytes stand for, one after the other, and so keeps its promise. Assumes nothing.
use Prim.Native.Nat.{ℕ, zero, suc, ◌+◌, ◌*◌, ◌<◌, ◌≤◌, ◌^◌}
use native.Mathlib.Omega.{arith}
use mathlib.Core.Path.{◌≡◌, refl, sym, ap, ◌∙◌, subst}
use mathlib.Core.Bool.{Bool, true, false, cond}
use mathlib.Core.List.{List, [], ◌∷◌}
use Rattle.std.specs.Prelude.{Option, Some, None, Result, Ok, Err, T, eqb, ltb, length, get_or, take, drop}
use lib.Dec.{lt→ltb}
use lib.Ieee.Fits.{and_i}
use lib.ListN.{length-drop}
use Rattle.std.proofs.lemmas.List.{get_or-drop}
use Rattle.wire.specs.declared.Refusal.{Refusal}
use Rattle.wire.specs.Bytes.{word_of, pair_of, discrete_of}
use Rattle.device.specs.declared.Device.{Device}
use Rattle.device.specs.Factory.{factory_device}
use Rattle.history.specs.Calls.{Call, fitting, all_fit, after, reached_from, reached}
use Rattle.history.specs.Encoded.{Read, read, then_read, unrefused, next_bytes, next_byte, next_word, next_pair, next_discrete, next_lent, next_tick, next_write, next_telegram, next_load, arguments, next_call, more, calls_in, decoded, Replays}
use Rattle.history.proofs.Theorem.{demand-3}
use Rattle.history.proofs.PointsProof.{points}
use Rattle.history.proofs.CitedProof.{cited-points}

-- what the loop computes of bytes, in at most so many turns
pub run_from : ℕ → List ℕ → Device → Option Device
run_from zero [] d = Some d
run_from zero (b ∷ s) d = None
run_from (suc left) [] d = Some d
run_from (suc left) (b ∷ s) d = then_read (next_call (b ∷ s)) (λ c s. run_from left s (after d c))

-- ---- the calls that it makes

abbrev reached_o : Device → Option (List Call) → Option Device
reached_o d None = None
reached_o d (Some cs) = Some (reached_from d cs)

ran : (left : ℕ) (s : List ℕ) (d : Device) → run_from left s d ≡ reached_o d (calls_in left s)
unfolding run_from calls_in reached_from
ran zero [] d = refl
ran zero (b ∷ s) d = refl
ran (suc left) [] d = refl
ran (suc left) (b ∷ s) d = go (next_call (b ∷ s)) (λ c t. ran left t (after d c))
  where
    one : (c : Call) (t : List ℕ) (o : Option (List Call)) → run_from left t (after d c) ≡ reached_o (after d c) o → run_from left t (after d c) ≡ reached_o d (more c o)
    one c t None e = e
    one c t (Some cs) e = e

    go : (m : Option (Read Call)) → ((c : Call) (t : List ℕ) → run_from left t (after d c) ≡ reached_o (after d c) (calls_in left t))
        → then_read m (λ c t. run_from left t (after d c)) ≡ reached_o d (then_read m (λ c t. more c (calls_in left t)))
    go None r = refl
    go (Some x) r = one x.value x.rest (calls_in left x.rest) (r x.value x.rest)

-- ---- what is read: words of 32 bits, and what is left are bytes, and no more

abbrev Bytes : List ℕ → Type 0
Bytes s = (i : ℕ) → get_or s i 0 < 256

taken-bytes : (n : ℕ) (s : List ℕ) → Bytes s → Bytes (take n s)
taken-bytes zero s h i = omega arith
taken-bytes (suc n) [] h i = omega arith
taken-bytes (suc n) (b ∷ s) h zero = h 0
taken-bytes (suc n) (b ∷ s) h (suc i) = taken-bytes n s (λ i. h (suc i)) i

module _ {A : Type 0} where
  abbrev Gives : (A → List ℕ → Type 0) → Option (Read A) → Type 0
  Gives P None = Unit
  Gives P (Some r) = P r.value r.rest

module _ {A B : Type 0} (P : A → List ℕ → Type 0) (Q : B → List ℕ → Type 0) where
  then-gives : (m : Option (Read A)) (next : A → List ℕ → Option (Read B)) → Gives P m → ((a : A) (s : List ℕ) → P a s → Gives Q (next a s)) → Gives Q (then_read m next)
  then-gives None next h k = tt
  then-gives (Some r) next h k = k r.value r.rest h

module _ (most : ℕ) where
  abbrev Left : List ℕ → Type 0
  Left s = Bytes s × (length s ≤ most)

  abbrev Behind : {A : Type 0} → A → List ℕ → Type 0
  Behind a s = Left s

  abbrev Small : ℕ → List ℕ → Type 0
  Small w s = (w < 2 ^ 32) × Left s

  abbrev Fits : Call → List ℕ → Type 0
  Fits c s = T (fitting c) × Left s

  bytes-left : (n : ℕ) (s : List ℕ) → Left s → Gives (λ b t. Bytes b × Left t) (next_bytes n s)
  unfolding next_bytes
  bytes-left n s h = go (ltb (length s) n)
    where
      go : (b : Bool) → Gives (λ b t. Bytes b × Left t) (cond b None (read (take n s) (drop n s)))
      go true = tt
      go false = (taken-bytes n s h.0, ((λ i. rw (get_or-drop n s i 0) (h.0 (n + i))), omega (arith, h.1, length-drop n s)))

  byte-left : (s : List ℕ) → Left s → Gives Behind (next_byte s)
  unfolding next_byte
  byte-left s h = then-gives (λ b t. Bytes b × Left t) Behind (next_bytes 1 s) (λ b. read (get_or b 0 0)) (bytes-left 1 s h) (λ b t g. g.1)

  word-left : (s : List ℕ) → Left s → Gives Small (next_word s)
  unfolding next_word
  word-left s h =
      then-gives (λ b t. Bytes b × Left t) Small (next_bytes 4 s) (λ b. read (word_of (get_or b 0 0) (get_or b 1 0) (get_or b 2 0) (get_or b 3 0))) (bytes-left 4 s h)
      (λ b t g. (omega (arith, g.0 0, g.0 1, g.0 2, g.0 3), g.1))

  unrefused-left : {A : Type 0} (r : Result A Refusal) (s : List ℕ) → Left s → Gives Behind (unrefused r s)
  unrefused-left (Ok a) s h = h
  unrefused-left (Err r) s h = tt

  pair-left : (s : List ℕ) → Left s → Gives Behind (next_pair s)
  unfolding next_pair
  pair-left s h = then-gives (λ b t. Bytes b × Left t) Behind (next_bytes 5 s) (λ b. unrefused (pair_of b)) (bytes-left 5 s h) (λ b t g. unrefused-left (pair_of b) t g.1)

  discrete-left : (s : List ℕ) → Left s → Gives Behind (next_discrete s)
  unfolding next_discrete
  discrete-left s h = then-gives (λ b t. Bytes b × Left t) Behind (next_bytes 2 s) (λ b. unrefused (discrete_of b)) (bytes-left 2 s h) (λ b t g. unrefused-left (discrete_of b) t g.1)

  lent-left : (s : List ℕ) → Left s → Gives (λ b t. Bytes b × Left t) (next_lent s)
  unfolding next_lent
  lent-left s h =
      then-gives Small (λ b t. Bytes b × Left t) (next_word s) _ (word-left s h)
      (λ high t g. then-gives Small (λ b t. Bytes b × Left t) (next_word t) (λ low. next_bytes (high * 0x1_0000_0000 + low)) (word-left t g.1)
      (λ low t g. bytes-left (high * 0x1_0000_0000 + low) t g.1))

  tick-left : (s : List ℕ) → Left s → Gives Fits (next_tick s)
  unfolding next_tick
  tick-left s h =
      then-gives Behind Fits (next_byte s) _ (byte-left s h)
      (λ fault t g. among (ltb 1 fault) _
      (then-gives Behind Fits (next_pair t) _ (pair-left t g)
      (λ ain t g. then-gives Behind Fits (next_pair t) _ (pair-left t g)
      (λ tot t g. then-gives Behind Fits (next_discrete t) _ (discrete-left t g)
      (λ di t g. (tt, g))))))
    where
      among : (b : Bool) (m : Option (Read Call)) → Gives Fits m → Gives Fits (cond b None m)
      among true m g = tt
      among false m g = g

  write-left : (s : List ℕ) → Left s → Gives Fits (next_write s)
  unfolding next_write
  write-left s h =
      then-gives Behind Fits (next_byte s) _ (byte-left s h)
      (λ block t g. then-gives Behind Fits (next_byte t) _ (byte-left t g)
      (λ number t g. then-gives Small Fits (next_word t) _ (word-left t g)
      (λ a t ga. then-gives Small Fits (next_word t) _ (word-left t ga.1)
      (λ b t gb. (and_i (ltb a (2 ^ 32)) (ltb b (2 ^ 32)) (lt→ltb a (2 ^ 32) ga.0) (lt→ltb b (2 ^ 32) gb.0), gb.1)))))

  telegram-left : (s : List ℕ) → Left s → Gives Fits (next_telegram s)
  unfolding next_telegram
  telegram-left s h =
      then-gives Behind Fits (next_byte s) _ (byte-left s h)
      (λ input t g. then-gives (λ b t. Bytes b × Left t) Fits (next_lent t) _ (lent-left t g) (λ bytes t g. (tt, g.1)))

  load-left : (s : List ℕ) → Left s → Gives Fits (next_load s)
  unfolding next_load
  load-left s h = then-gives (λ b t. Bytes b × Left t) Fits (next_lent s) _ (lent-left s h) (λ bytes t g. (tt, g.1))

  arguments-left : (kind : ℕ) (s : List ℕ) → Left s → Gives Fits (arguments kind s)
  arguments-left kind s h = go (eqb kind 0) (eqb kind 1) (eqb kind 2) (eqb kind 3) (eqb kind 4)
    where
      go : (a b c d e : Bool) → Gives Fits (cond a (read Call.warm_start s) (cond b (next_tick s) (cond c (next_write s) (cond d (next_telegram s) (cond e (next_load s) None)))))
      go true b c d e = (tt, h)
      go false true c d e = tick-left s h
      go false false true d e = write-left s h
      go false false false true e = telegram-left s h
      go false false false false true = load-left s h
      go false false false false false = tt

-- the byte that says which call it is
first-byte : (b : ℕ) (s : List ℕ) → next_call (b ∷ s) ≡ arguments b s
unfolding next_call next_byte next_bytes
first-byte b s = go (ltb (suc (length s)) 1) (grind arith)
  where
    go : (t : Bool) → t ≡ false → then_read (then_read (cond t None (read (take 1 (b ∷ s)) (drop 1 (b ∷ s)))) (λ b. read (get_or b 0 0))) arguments ≡ arguments b s
    go true e = cc
    go false e = refl

rest-bytes : (b : ℕ) (s : List ℕ) → Bytes (b ∷ s) → Bytes s
rest-bytes b s h i = h (suc i)

-- a call fits, and is a byte long at least
pub call-left : (b : ℕ) (s : List ℕ) → Bytes (b ∷ s) → Gives (Fits (length s)) (next_call (b ∷ s))
call-left b s h = rw (first-byte b s) (arguments-left (length s) b s (rest-bytes b s h, omega arith))

-- ---- as many turns as there are bytes are enough

pub enough : (n m : ℕ) (s : List ℕ) (d : Device) → Bytes s → length s ≤ n → length s ≤ m → run_from n s d ≡ run_from m s d
unfolding run_from
enough zero zero [] d h p q = refl
enough zero (suc m) [] d h p q = refl
enough (suc n) zero [] d h p q = refl
enough (suc n) (suc m) [] d h p q = refl
enough zero m (b ∷ s) d h p q = absurd (omega arith)
enough (suc n) zero (b ∷ s) d h p q = absurd (omega arith)
enough (suc n) (suc m) (b ∷ s) d h p q =
    go (next_call (b ∷ s)) (call-left b s h)
    (λ c t g. enough n m t (after d c) g.0 (omega (arith, g.1)) (omega (arith, g.1)))
  where
    go : (o : Option (Read Call)) → Gives (Fits (length s)) o → ((c : Call) (t : List ℕ) → Left (length s) t → run_from n t (after d c) ≡ run_from m t (after d c))
        → then_read o (λ c t. run_from n t (after d c)) ≡ then_read o (λ c t. run_from m t (after d c))
    go None g k = refl
    go (Some r) g k = k r.value r.rest g.1

-- ---- one turn

-- what the loop computes in as many turns as it needs
abbrev pub runs : List ℕ → Device → Option Device
runs s d = run_from (length s) s d

pub ended : (s : List ℕ) (d : Device) → length s ≡ 0 → runs s d ≡ Some d
unfolding run_from
ended [] d h = refl
ended (b ∷ s) d h = absurd (omega arith)

pub stopped : (s : List ℕ) (d : Device) → 0 < length s → next_call s ≡ None → runs s d ≡ None
unfolding run_from
stopped [] d h e = absurd (omega arith)
stopped (b ∷ s) d h e = rw e

pub shorter : (s : List ℕ) → Bytes s → 0 < length s → (c : Call) (t : List ℕ) → next_call s ≡ read c t → Bytes t × (length t < length s)
shorter [] h l c t e = absurd (omega arith)
shorter (b ∷ s) h l c t e =
    let g = subst (Gives (Fits (length s))) e (call-left b s h) in
    (g.1.0, omega (arith, g.1.1))

pub turned : (s : List ℕ) (d : Device) → Bytes s → 0 < length s → (c : Call) (t : List ℕ) → next_call s ≡ read c t → runs s d ≡ runs t (after d c)
unfolding run_from
turned [] d h l c t e = absurd (omega arith)
turned (b ∷ s) d h l c t e =
    let g = shorter (b ∷ s) h l c t e in
    rw e (enough (length s) (length t) t (after d c) g.0 (omega (arith, g.1)) (omega arith))

-- ---- the words of the calls are of 32 bits

abbrev pub fit_o : Option (List Call) → Bool
fit_o None = true
fit_o (Some cs) = all_fit cs

pub all-fit : (left : ℕ) (s : List ℕ) → Bytes s → T (fit_o (calls_in left s))
unfolding calls_in
all-fit zero [] h = tt
all-fit zero (b ∷ s) h = tt
all-fit (suc left) [] h = tt
all-fit (suc left) (b ∷ s) h = go (next_call (b ∷ s)) (call-left b s h) (λ t g. all-fit left t g)
  where
    one : (c : Call) → T (fitting c) → (o : Option (List Call)) → T (fit_o o) → T (fit_o (more c o))
    one c f None t = tt
    one c f (Some cs) t = and_i (fitting c) (all_fit cs) f t

    go : (m : Option (Read Call)) → Gives (Fits (length s)) m → ((t : List ℕ) → Bytes t → T (fit_o (calls_in left t))) → T (fit_o (then_read m (λ c t. more c (calls_in left t))))
    go None g k = tt
    go (Some r) g k = one r.value g.0 (calls_in left r.rest) (k r.rest g.1.0)

-- ---- the promise

none-some : {A : Type 0} {a : A} → None ≡ Some a → ⊥
none-some {A} {a} e = let z : ◌≡◌ {A = ℕ} 0 1 = cc in omega arith

pub kept-promise : (s : List ℕ) → Bytes s → (o : Option Device) → runs s factory_device ≡ o → Replays s o
unfolding decoded reached
kept-promise s bytes o e = go (calls_in (length s) s) refl (all-fit (length s) s bytes)
  where
    is : (m : Option (List Call)) → calls_in (length s) s ≡ m → o ≡ reached_o factory_device m
    is m f = sym e ∙ ran (length s) s factory_device ∙ ap (reached_o factory_device) f

    go : (m : Option (List Call)) → calls_in (length s) s ≡ m → T (fit_o (calls_in (length s) s)) → Replays s o
    go None f t = record {
      refused = λ _. is None f;
      reaches = λ calls g. absurd (none-some (sym f ∙ g));
      claim = λ calls g. absurd (none-some (sym f ∙ g));
      points = points;
      cited = cited-points;
    }
    go (Some cs) f t = record {
      refused = λ g. absurd (none-some (sym g ∙ f));
      reaches = λ calls g. is (Some calls) g;
      claim = λ calls g. demand-3 calls (subst (λ (m : Option (List Call)). T (fit_o m)) g t);
      points = points;
      cited = cited-points;
    }

-- The encoding by places, another description of it; law: by both the same bytes stand for the same calls. No proof outside this
-- file needs it. Assumes nothing.
use Rattle.std.specs.Prelude.{ℕ, zero, suc, ◌+◌, ◌-◌, ◌*◌, ◌<◌, ◌≡◌, Bool, true, false, cond, List, [], ◌∷◌, eqb, ltb, length, get_or, take, drop, Option, Some, None, Result, Ok}
use Rattle.std.proofs.Common.{arith, refl, ap, ◌∙◌, get_or-drop, drop-drop, length-drop, length-take, ltb-true, ltb-false}
use Rattle.std.proofs.lemmas.List.{get_or-take}
use Rattle.std.proofs.lemmas.Bool.{le-ltb}
use Rattle.wire.specs.declared.Refusal.{Refusal}
use Rattle.wire.specs.declared.Pair.{Pair}
use Rattle.wire.specs.declared.Discrete.{Discrete}
use Rattle.wire.specs.Bytes.{word_of, pair_of, discrete_of}
use Rattle.history.specs.Calls.{Call}
use Rattle.history.specs.Encoded.{Read, read, then_read, unrefused, more, next_bytes, next_byte, next_word, next_pair, next_discrete, next_lent, next_tick, next_write, next_telegram, next_load, arguments, next_call, calls_in, decoded}

-- a call by its kind and numbers; of lent bytes, how many they are
data Step : Type 0 where
  warm_start : Step
  tick : Bool → Pair → Pair → Discrete → Step
  write : ℕ → ℕ → ℕ → ℕ → Step
  telegram : ℕ → ℕ → Step
  load : ℕ → Step
  malformed : Step

-- and the place where the next one starts
record Found : Type 0 where
  step : Step
  next : ℕ

record Lent : Type 0 where
  n : ℕ
  there : Bool

-- four bytes, highest first, a pair, and a discrete one
abbrev word_at : List ℕ → ℕ → ℕ
word_at s at = word_of (get_or s at 0) (get_or s (at + 1) 0) (get_or s (at + 2) 0) (get_or s (at + 3) 0)

abbrev pair_at : List ℕ → ℕ → Pair
pair_at s at = record { bits = word_at s at; status = get_or s (at + 4) 0 }

abbrev discrete_at : List ℕ → ℕ → Discrete
discrete_at s at = record { value = get_or s at 0; status = get_or s (at + 1) 0 }

-- the length of lent bytes: eight bytes
abbrev length_at : List ℕ → ℕ → ℕ
length_at s at = word_at s at * 0x1_0000_0000 + word_at s (at + 4)

abbrev found : Step → ℕ → Found
found step next = record { step = step; next = next }

abbrev bad : ℕ → Found
bad at = found malformed at

-- a tick is fourteen bytes, its fault flag 0 or 1
unfoldable tick_found : List ℕ → ℕ → Found
tick_found s at =
    cond (ltb (length s - at) 14) (bad at)
    (cond (ltb 1 (get_or s (at + 1) 0)) (bad at)
    (found (tick (eqb (get_or s (at + 1) 0) 1) (pair_at s (at + 2)) (pair_at s (at + 7)) (discrete_at s (at + 12))) (at + 14)))

-- a write is eleven
unfoldable write_found : List ℕ → ℕ → Found
write_found s at =
    cond (ltb (length s - at) 11) (bad at)
    (found (write (get_or s (at + 1) 0) (get_or s (at + 2) 0) (word_at s (at + 3)) (word_at s (at + 7))) (at + 11))

-- bytes that a call lends, behind its first ones and their length: how many, and whether they are there; if not, none
abbrev missing : Lent
missing = record { n = 0; there = false }

unfoldable lent_by : List ℕ → ℕ → ℕ → Lent
lent_by s at head =
    cond (ltb (length s - at) (head + 8)) missing
    (cond (ltb (length s - at - (head + 8)) (length_at s (at + head))) missing (record { n = length_at s (at + head); there = true }))

-- a telegram is ten bytes and those lent
unfoldable telegram_found : List ℕ → ℕ → Found
telegram_found s at =
    let lent = lent_by s at 2 in
    cond lent.there (found (telegram (get_or s (at + 1) 0) lent.n) (at + 10 + lent.n)) (bad at)

-- a load nine
unfoldable load_found : List ℕ → ℕ → Found
load_found s at =
    let lent = lent_by s at 1 in
    cond lent.there (found (load lent.n) (at + 9 + lent.n)) (bad at)

-- the call at a place, and where the next one starts
unfoldable step_at : List ℕ → ℕ → Found
step_at s at =
    cond (eqb (get_or s at 0) 0) (found warm_start (at + 1))
    (cond (eqb (get_or s at 0) 1) (tick_found s at)
    (cond (eqb (get_or s at 0) 2) (write_found s at)
    (cond (eqb (get_or s at 0) 3) (telegram_found s at)
    (cond (eqb (get_or s at 0) 4) (load_found s at) (bad at)))))

abbrev is_malformed : Step → Bool
is_malformed warm_start = false
is_malformed (tick fault ain tot di) = false
is_malformed (write block number a b) = false
is_malformed (telegram input n) = false
is_malformed (load n) = false
is_malformed malformed = true

-- the call that it is; a telegram's bytes start ten places on, a load's nine
abbrev call_of : List ℕ → ℕ → Step → Call
call_of s at warm_start = Call.warm_start
call_of s at (tick fault ain tot di) = Call.tick fault (record { ain = ain; tot = tot; di = di })
call_of s at (write block number a b) = Call.write block number a b
call_of s at (telegram input n) = Call.telegram input (take n (drop (at + 10) s))
call_of s at (load n) = Call.load (take n (drop (at + 9) s))
call_of s at malformed = Call.warm_start

-- the calls from a place on, at most so many; none where one is malformed
unfoldable calls_from : ℕ → List ℕ → ℕ → Option (List Call)
calls_from zero s at = cond (ltb at (length s)) None (Some [])
calls_from (suc left) s at =
    cond (ltb at (length s)) (cond (is_malformed (step_at s at).step) None (more (call_of s at (step_at s at).step) (calls_from left s (step_at s at).next)))
    (Some [])

-- the list of calls that the bytes stand for: a call has at least one byte
unfoldable by_places : List ℕ → Option (List Call)
by_places s = calls_from (length s) s 0

-- ---- what is read from a place on

-- fewer than n bytes are left
abbrev lacks : ℕ → List ℕ → ℕ → Bool
lacks n s at = ltb (length s - at) n

-- what a value of n bytes gives, read at a place
record ReadsAt {A : Type 0} (next : List ℕ → Option (Read A)) (n : ℕ) (value_at : List ℕ → ℕ → A) : Type 0 where
  reads : (s : List ℕ) (at end : ℕ) → at + n ≡ end → next (drop at s) ≡ cond (lacks n s at) None (read (value_at s at) (drop end s))

module _ {A B : Type 0} where
  then-cond : (c : Bool) (m : Option (Read A)) (f : A → List ℕ → Option B) → then_read (cond c None m) f ≡ cond c None (then_read m f)
  then-cond true m f = refl
  then-cond false m f = refl

  -- and what follows it
  follows : {next : List ℕ → Option (Read A)} {n : ℕ} {value_at : List ℕ → ℕ → A} → ReadsAt next n value_at
      → (f : A → List ℕ → Option B) (s : List ℕ) (at end : ℕ) → at + n ≡ end
      → then_read (next (drop at s)) f ≡ cond (lacks n s at) None (f (value_at s at) (drop end s))
  follows {next} {n} {value_at} r f s at end e = rw (r.reads s at end e) (then-cond (lacks n s at) (read (value_at s at) (drop end s)) f)

-- m bytes and then n are m + n
joined : {A : Type 0} (s : List ℕ) (at m n mid : ℕ) (x : Option A) → at + m ≡ mid
    → cond (lacks m s at) None (cond (lacks n s mid) None x) ≡ cond (lacks (m + n) s at) None x
joined s at m n mid x e = go (lacks m s at) (lacks n s mid) (lacks (m + n) s at) refl refl refl
  where
    go : (a b c : Bool) → lacks m s at ≡ a → lacks n s mid ≡ b → lacks (m + n) s at ≡ c → cond a None (cond b None x) ≡ cond c None x
    go true b true p q r = refl
    go true b false p q r = absurd (omega (arith, e, ltb-true _ _ p, ltb-false _ _ r))
    go false true true p q r = refl
    go false true false p q r = absurd (omega (arith, e, ltb-true _ _ q, ltb-false _ _ r))
    go false false true p q r = absurd (omega (arith, e, ltb-false _ _ p, ltb-false _ _ q, ltb-true _ _ r))
    go false false false p q r = refl

swapped : {A : Type 0} (a b : Bool) (x : Option A) → cond a None (cond b None x) ≡ cond b None (cond a None x)
swapped true true x = refl
swapped true false x = refl
swapped false true x = refl
swapped false false x = refl

-- a value of n bytes, where it is followed by what takes m
module _ {A B : Type 0} where
  before : {next : List ℕ → Option (Read A)} {n : ℕ} {value_at : List ℕ → ℕ → A} → ReadsAt next n value_at
      → (f : A → List ℕ → Option B) (s : List ℕ) (at end m : ℕ) (x : Option B)
      → at + n ≡ end → f (value_at s at) (drop end s) ≡ cond (lacks m s end) None x → then_read (next (drop at s)) f ≡ cond (lacks (n + m) s at) None x
  before {next} {n} {value_at} r f s at end m x e h =
      follows r f s at end e ∙ ap (λ (y : Option B). cond (lacks n s at) None y) h ∙ joined s at n m end x e

-- n bytes
bytes-at : (n : ℕ) → ReadsAt (next_bytes n) n (λ s at. take n (drop at s))
unfolding next_bytes
bytes-at n = record { reads = λ s at end e. rw (length-drop at s, drop-drop n at s, e) refl }

byte-of : (n i : ℕ) (s : List ℕ) (at : ℕ) → i < n → get_or (take n (drop at s)) i 0 ≡ get_or s (at + i) 0
byte-of n i s at h = get_or-take n (drop at s) i 0 h ∙ get_or-drop at s i 0

-- the first of them
first-of : (n : ℕ) (s : List ℕ) (at : ℕ) → 0 < n → get_or (take n (drop at s)) 0 0 ≡ get_or s at 0
first-of n s at h = let e : at + 0 ≡ at = omega arith in byte-of n 0 s at h ∙ ap (λ (k : ℕ). get_or s k 0) e

-- where they are there
taken : (n : ℕ) (s : List ℕ) (at : ℕ) → lacks n s at ≡ false → length (take n (drop at s)) ≡ n
taken n s at e = rw (length-take n (drop at s), length-drop at s) (omega (arith, ltb-false _ _ e))

byte-at : ReadsAt next_byte 1 (λ s at. get_or s at 0)
unfolding next_byte
byte-at = record { reads = λ s at end e. follows (bytes-at 1) (λ b. read (get_or b 0 0)) s at end e ∙ rw (first-of 1 s at (omega arith)) refl }

word-at : ReadsAt next_word 4 word_at
unfolding next_word
word-at = record {
  reads = λ s at end e.
      follows (bytes-at 4) (λ b. read (word_of (get_or b 0 0) (get_or b 1 0) (get_or b 2 0) (get_or b 3 0))) s at end e
      ∙ rw (first-of 4 s at (omega arith), byte-of 4 1 s at (omega arith), byte-of 4 2 s at (omega arith), byte-of 4 3 s at (omega arith)) refl;
}

-- what n bytes always give
whole : {A : Type 0} (n : ℕ) (of : List ℕ → Result A Refusal) (value_at : List ℕ → ℕ → A)
    → ((s : List ℕ) (at : ℕ) → length (take n (drop at s)) ≡ n → of (take n (drop at s)) ≡ Ok (value_at s at))
    → ReadsAt (λ s. then_read (next_bytes n s) (λ b. unrefused (of b))) n value_at
whole n of value_at given = record {
  reads = λ s at end e.
      follows (bytes-at n) (λ b. unrefused (of b)) s at end e ∙ go s at (drop end s) (lacks n s at) refl;
}
  where
    go : (s : List ℕ) (at : ℕ) (rest : List ℕ) (c : Bool) → lacks n s at ≡ c
        → cond c None (unrefused (of (take n (drop at s))) rest) ≡ cond c None (read (value_at s at) rest)
    go s at rest true e = refl
    go s at rest false e = rw (given s at (taken n s at e)) refl

pair-at : ReadsAt next_pair 5 pair_at
unfolding next_pair pair_of
pair-at = whole 5 pair_of pair_at (λ s at e.
    let front = first-of 5 s at (omega arith) in
    rw e (rw (front, byte-of 5 1 s at (omega arith), byte-of 5 2 s at (omega arith), byte-of 5 3 s at (omega arith), byte-of 5 4 s at (omega arith)) refl))

discrete-at : ReadsAt next_discrete 2 discrete_at
unfolding next_discrete discrete_of
discrete-at = whole 2 discrete_of discrete_at (λ s at e. rw e (rw (first-of 2 s at (omega arith), byte-of 2 1 s at (omega arith)) refl))

-- lent bytes, and what follows them
module _ {B : Type 0} where
  lent-at : (f : List ℕ → List ℕ → Option B) (s : List ℕ) (at start : ℕ) → at + 8 ≡ start → then_read (next_lent (drop at s)) f
      ≡ cond (lacks 8 s at) None (cond (lacks (length_at s at) s start) None (f (take (length_at s at) (drop start s)) (drop (start + length_at s at) s)))
  unfolding next_lent
  lent-at f s at start e =
      let n = length_at s at in
      let high = word_at s at in
      let bytes = next_bytes n (drop start s) in
      let low = follows word-at (λ low. next_bytes (high * 0x1_0000_0000 + low)) s (at + 4) start (omega (arith, e)) in
      let both = before word-at (λ high s. then_read (next_word s) (λ low. next_bytes (high * 0x1_0000_0000 + low))) s at (at + 4) 4 bytes (omega arith) low in
      let there = (bytes-at n).reads s start (start + n) refl in
      let lent = read (take n (drop start s)) (drop (start + n) s) in
      rw (both, there) (then-cond (lacks 8 s at) (cond (lacks n s start) None lent) f
      ∙ ap (λ (y : Option B). cond (lacks 8 s at) None y) (then-cond (lacks n s start) lent f))

-- ---- a call at a place

-- what a step stands for: its call, and the bytes behind it
abbrev as_read : List ℕ → ℕ → Found → Option (Read Call)
as_read s at f = cond (is_malformed f.step) None (read (call_of s at f.step) (drop f.next s))

module _ (s : List ℕ) (at : ℕ) (here : at < length s) where
  -- its first byte says which; with it one more is there
  one-more : (n : ℕ) → lacks n s (at + 1) ≡ lacks (n + 1) s at
  one-more n = go (lacks n s (at + 1)) (lacks (n + 1) s at) refl refl
    where
      go : (a b : Bool) → lacks n s (at + 1) ≡ a → lacks (n + 1) s at ≡ b → a ≡ b
      go true true p q = refl
      go true false p q = absurd (omega (arith, here, ltb-true _ _ p, ltb-false _ _ q))
      go false true p q = absurd (omega (arith, here, ltb-false _ _ p, ltb-true _ _ q))
      go false false p q = refl

  -- where its bytes are missing it is bad, and nothing is read
  kept : (a : Bool) (f : Found) → cond a None (as_read s at f) ≡ as_read s at (cond a (bad at) f)
  kept true f = refl
  kept false f = refl

  tick-at : next_tick (drop (at + 1) s) ≡ as_read s at (tick_found s at)
  unfolding next_tick tick_found
  tick-at =
      let fault = get_or s (at + 1) 0 in
      let ain = pair_at s (at + 2) in
      let tot = pair_at s (at + 7) in
      let di = discrete_at s (at + 12) in
      let call = λ (ain tot : Pair) (di : Discrete). read (Call.tick (eqb fault 1) (record { ain = ain; tot = tot; di = di })) in
      let x = call ain tot di (drop (at + 14) s) in
      let f = found (tick (eqb fault 1) ain tot di) (at + 14) in
      before byte-at _ s (at + 1) (at + 2) 12 (cond (ltb 1 fault) None x) (omega arith)
      (ap (λ (y : Option (Read Call)). cond (ltb 1 fault) None y)
      (before pair-at _ s (at + 2) (at + 7) 7 x (omega arith)
      (before pair-at _ s (at + 7) (at + 12) 2 x (omega arith)
      (follows discrete-at (call ain tot) s (at + 12) (at + 14) (omega arith))))
      ∙ swapped (ltb 1 fault) (lacks 12 s (at + 2)) x)
      ∙ rw (one-more 13, kept (ltb 1 fault) f) (kept (lacks 14 s at) (cond (ltb 1 fault) (bad at) f))

  write-at : next_write (drop (at + 1) s) ≡ as_read s at (write_found s at)
  unfolding next_write write_found
  write-at =
      let block = get_or s (at + 1) 0 in
      let number = get_or s (at + 2) 0 in
      let a = word_at s (at + 3) in
      let b = word_at s (at + 7) in
      let x = read (Call.write block number a b) (drop (at + 11) s) in
      before byte-at _ s (at + 1) (at + 2) 9 x (omega arith)
      (before byte-at _ s (at + 2) (at + 3) 8 x (omega arith)
      (before word-at _ s (at + 3) (at + 7) 4 x (omega arith)
      (follows word-at (λ b. read (Call.write block number a b)) s (at + 7) (at + 11) (omega arith))))
      ∙ rw (one-more 10) (kept (lacks 11 s at) (found (write block number a b) (at + 11)))

  -- of a call that lends bytes, by whether its own bytes and those lent are there
  lends : (a b : Bool) (n end : ℕ) (step : ℕ → Step) → cond a None (cond b None (as_read s at (found (step n) (end + n))))
      ≡ as_read s at (let lent = cond a missing (cond b missing (record { n = n; there = true })) in
      cond lent.there (found (step lent.n) (end + lent.n)) (bad at))
  lends true b n end step = refl
  lends false true n end step = refl
  lends false false n end step = refl

  telegram-at : next_telegram (drop (at + 1) s) ≡ as_read s at (telegram_found s at)
  unfolding next_telegram telegram_found lent_by
  telegram-at =
      let input = get_or s (at + 1) 0 in
      let n = length_at s (at + 2) in
      let x = cond (lacks n s (at + 10)) None (read (Call.telegram input (take n (drop (at + 10) s))) (drop (at + 10 + n) s)) in
      let e : length s - at - 10 ≡ length s - (at + 10) = omega arith in
      before byte-at (λ input s. then_read (next_lent s) (λ bytes. read (Call.telegram input bytes))) s (at + 1) (at + 2) 8 x (omega arith)
      (lent-at (λ bytes. read (Call.telegram input bytes)) s (at + 2) (at + 10) (omega arith))
      ∙ rw (one-more 9, e) (lends (lacks 10 s at) (lacks n s (at + 10)) n (at + 10) (telegram input))

  load-at : next_load (drop (at + 1) s) ≡ as_read s at (load_found s at)
  unfolding next_load load_found lent_by
  load-at =
      let n = length_at s (at + 1) in
      let e : length s - at - 9 ≡ length s - (at + 9) = omega arith in
      lent-at (λ bytes. read (Call.load bytes)) s (at + 1) (at + 9) (omega arith)
      ∙ rw (one-more 8, e) (lends (lacks 9 s at) (lacks n s (at + 9)) n (at + 9) load)

  step-at : next_call (drop at s) ≡ as_read s at (step_at s at)
  unfolding next_call step_at
  step-at =
      follows byte-at arguments s at (at + 1) refl
      ∙ rw (le-ltb (length s - at) 1 (omega (arith, here)))
      (rw (tick-at, write-at, telegram-at, load-at)
      (go (eqb kind 0) (eqb kind 1) (eqb kind 2) (eqb kind 3) (eqb kind 4) (tick_found s at) (write_found s at) (telegram_found s at) (load_found s at)))
    where
      kind : ℕ
      kind = get_or s at 0

      go : (a b c d e : Bool) (f g h i : Found)
          → cond a (read Call.warm_start (drop (at + 1) s))
          (cond b (as_read s at f) (cond c (as_read s at g) (cond d (as_read s at h) (cond e (as_read s at i) None))))
          ≡ as_read s at (cond a (found warm_start (at + 1)) (cond b f (cond c g (cond d h (cond e i (bad at))))))
      go true b c d e f g h i = refl
      go false true c d e f g h i = refl
      go false false true d e f g h i = refl
      go false false false true e f g h i = refl
      go false false false false true f g h i = refl
      go false false false false false f g h i = refl

-- ---- and the calls from it on

none-left : (left : ℕ) (t : List ℕ) → length t ≡ 0 → calls_in left t ≡ Some []
unfolding calls_in
none-left zero [] e = refl
none-left (suc left) [] e = refl
none-left left (b ∷ t) e = absurd (omega (arith, e))

too-many : (t : List ℕ) → 0 < length t → calls_in zero t ≡ None
unfolding calls_in
too-many [] h = absurd (omega (arith, h))
too-many (b ∷ t) h = refl

one-read : (left : ℕ) (t : List ℕ) → 0 < length t → calls_in (suc left) t ≡ then_read (next_call t) (λ c t. more c (calls_in left t))
unfolding calls_in
one-read left [] h = absurd (omega (arith, h))
one-read left (b ∷ t) h = refl

module _ (s : List ℕ) (at : ℕ) where
  some-left : ltb at (length s) ≡ true → 0 < length (drop at s)
  some-left e = rw (length-drop at s) (omega (arith, ltb-true _ _ e))

  ended : (left : ℕ) → ltb at (length s) ≡ false → calls_in left (drop at s) ≡ Some []
  ended left e = none-left left (drop at s) (rw (length-drop at s) (omega (arith, ltb-false _ _ e)))

  one-more-call : (left : ℕ) (b : Bool) → ltb at (length s) ≡ b → ((next : ℕ) → calls_in left (drop next s) ≡ calls_from left s next)
      → calls_in (suc left) (drop at s) ≡ calls_from (suc left) s at
  unfolding calls_from
  one-more-call left false e h = rw e (ended (suc left) e)
  one-more-call left true e h =
      let f = step_at s at in
      let c = call_of s at f.step in
      one-read left (drop at s) (some-left e)
      ∙ rw (step-at s at (ltb-true _ _ e), then-cond (is_malformed f.step) (read c (drop f.next s)) (λ c t. more c (calls_in left t)), e, h f.next) refl

same-from : (left : ℕ) (s : List ℕ) (at : ℕ) → calls_in left (drop at s) ≡ calls_from left s at
unfolding calls_from
same-from zero s at = go (ltb at (length s)) refl
  where
    go : (b : Bool) → ltb at (length s) ≡ b → calls_in zero (drop at s) ≡ cond b None (Some [])
    go true e = too-many (drop at s) (some-left s at e)
    go false e = ended s at zero e
same-from (suc left) s at = one-more-call s at left (ltb at (length s)) refl (same-from left s)

-- the bytes stand for the same calls, or for none, by what is left of them and by places
same-by-places : (s : List ℕ) → decoded s ≡ by_places s
unfolding decoded by_places
same-by-places s = same-from (length s) s 0

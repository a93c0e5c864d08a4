-- What reads give of the device by the rules is the rules' reading, and its image is that of the rules' pairs. Assumes nothing.
use Rattle.std.specs.Prelude.{Ok, Err}
use Prim.Native.Nat.{ℕ, ◌<◌, ◌≤◌, ◌^◌, ◌+◌, ◌*◌}
use native.Mathlib.Omega.{arith}
use mathlib.Core.Path.{◌≡◌, refl, sym, ap, ◌∙◌, subst}
use mathlib.Core.Bool.{Bool, true, false, not, ◌&&◌, cond, true≢false}
use mathlib.Core.List.{List, ◌++◌}
use mathlib.Core.Logic.{inl, inr}
use lib.Dec.{T, leb, leb→le, le→leb, ltb, ltb→lt}
use lib.Ieee.Fits.{and_l, and_r}
use borrow.Author.Tests.{ltb-true, ltb-false}
use lib.ListN.{length, drop}
use Rattle.wire.specs.Bytes.{five_bytes, two_bytes}
use Rattle.wire.specs.Refusal.{granted}
use Rattle.wire.specs.Image.{image_answer, image_bytes}
use Rattle.parameters.specs.declared.Words.{Words}
use Rattle.parameters.specs.declared.Class.{Class}
use Rattle.parameters.specs.declared.Class.TheVariants.{S, N, D, R}
use Rattle.parameters.specs.declared.Allowed.{Allowed}
use Rattle.parameters.specs.Table.{Entry, entry_of}
use Rattle.parameters.specs.Words.{allows_of}
use Rattle.parameters.specs.Refused.{stored_class, stored_entry}
use Rattle.parameters.specs.Laws.{by_rows, ◌also◌, shown, shown_by, shown-back}
use Rattle.parameters.specs.Table as Table
use Rattle.ain.specs.Alarm.{bit, alarm_byte}
use Rattle.device.specs.Read.{Reading, ain_words, tot_words, ao_words, di_words, dout_words, discrete_words, words_of, read_of, read_by}
use Rattle.history.specs.Past.{History}
use Rattle.history.specs.Calls.{Event, words}
use Rattle.history.specs.Rules.{discrete, has, outputs, read_onlys, stored, stands, hi_hi, hi, lo, lo_lo, alarm_sum, given, reading, to_image}
use Rattle.history.specs.Rules as Rules
use Rattle.history.proofs.Lists.{present, Known, known}
use Rattle.history.proofs.Sound.{fits, sound_by, sound, Sound}
use Rattle.history.proofs.Ruled.{alarms_at, ain_at, tot_at, ao_at, di_at, dout_at, ain_in, tot_in, ao_in, di_in, dout_in, device_of}

allowed-shown : (k : Allowed) (w : Words) → T (allows_of k w.first w.second && fits w) → shown k w ≡ w
allowed-shown k w t =
    let first = ltb w.first (2 ^ 32) in
    let second = ltb w.second (2 ^ 32) in
    let allowed = allows_of k w.first w.second in
    let f = and_r allowed (first && second) t in
    shown-back w (ltb→lt w.first (2 ^ 32) (and_l first second f)) (ltb→lt w.second (2 ^ 32) (and_r first second f)) k (and_l allowed (first && second) t)

-- stored words that are sound read as they are
sound-shown : (e : Entry) (w : Words) → T (stored_entry e) → T (sound e w) → shown_by e w ≡ w
sound-shown (Err r) w t q = absurd t
sound-shown (Ok p) w t q = go p.class t q
  where
    go : (c : Class) → T (stored_class c p.allowed) → T (sound_by c p.allowed w) → shown p.allowed w ≡ w
    go S t q = allowed-shown p.allowed w q
    go N t q = allowed-shown p.allowed w q
    go D t q = absurd t
    go R t q = absurd t

-- the other rows: outputs, and what is read only
abbrev unstored : ℕ → Entry → Bool
unstored number e = present number e && not (stored_entry e)

module _ (h : History Event) (Q : Sound h) where
  bits-sum : (a b c d : Bool) → bit a + 2 * bit b + 4 * bit c + 8 * bit d ≡ cond a 1 0 + cond b 2 0 + cond c 4 0 + cond d 8 0
  bits-sum a b c d = ap (λ (n : ℕ). n + 2 * bit b + 4 * bit c + 8 * bit d) (one a) ∙ ap (λ (n : ℕ). cond a 1 0 + n + 4 * bit c + 8 * bit d) (two b) ∙ ap (λ (n : ℕ). cond a 1 0 + cond b 2 0 + n + 8 * bit d) (four c) ∙ ap (λ (n : ℕ). cond a 1 0 + cond b 2 0 + cond c 4 0 + n) (eight d)
    where
      one : (b : Bool) → bit b ≡ cond b 1 0
      one true = refl
      one false = refl

      two : (b : Bool) → 2 * bit b ≡ cond b 2 0
      two true = refl
      two false = refl

      four : (b : Bool) → 4 * bit b ≡ cond b 4 0
      four true = refl
      four false = refl

      eight : (b : Bool) → 8 * bit b ≡ cond b 8 0
      eight true = refl
      eight false = refl

  alarms-read : ◌≡◌ {A = Reading} (Ok (words (alarm_byte (alarms_at h)) 0)) (Ok (words (alarm_sum h) 0))
  unfolding alarm_byte alarms_at alarm_sum
  alarms-read = ap (λ (n : ℕ). Ok (words n 0)) (bits-sum (stands hi_hi h) (stands hi h) (stands lo h) (stands lo_lo h))

  -- stored parameters, as the settings give them
  stored-read : (block number : ℕ) → T (stored_entry (entry_of block number)) → read_by (words_of (device_of h) block number) (entry_of block number) ≡ Ok (shown_by (entry_of block number) (stored h block number))
  unfolding device_of words_of ain_words tot_words ao_words di_words dout_words discrete_words Table.physical Table.ain Table.tot Table.ao Table.di Table.dout Table.discrete ain_at tot_at ao_at di_at dout_at
  stored-read =
      by_rows
      (λ number e. stored_entry e)
      (λ block number e. read_by (words_of (device_of h) block number) e ≡ Ok (shown_by e (stored h block number)))
      (λ block number t. absurd t)
      (λ block number t. absurd t)
      (refl also tt)
      (refl also refl also refl also refl also refl also refl also refl also refl also refl also refl also refl also refl also tt)
      (refl also refl also refl also refl also refl also tt)
      (refl also refl also refl also refl also refl also refl also refl also tt)
      (refl also refl also refl also refl also tt)
      (refl also refl also refl also refl also refl also tt)

  -- the rules read them as stored
  stored-shown : (block number : ℕ) → T (stored_entry (entry_of block number)) → Rules.shown h block number ≡ stored h block number
  unfolding Rules.shown outputs read_onlys Table.physical Table.ain Table.tot Table.ao Table.di Table.dout Table.discrete
  stored-shown =
      by_rows
      (λ number e. stored_entry e)
      (λ block number e. Rules.shown h block number ≡ stored h block number)
      (λ block number t. absurd t)
      (λ block number t. absurd t)
      (refl also tt)
      (refl also refl also refl also refl also refl also refl also refl also refl also refl also refl also refl also refl also tt)
      (refl also refl also refl also refl also refl also tt)
      (refl also refl also refl also refl also refl also refl also refl also tt)
      (refl also refl also refl also refl also tt)
      (refl also refl also refl also refl also refl also tt)

  other-read : (block number : ℕ) → T (unstored number (entry_of block number)) → read_by (words_of (device_of h) block number) (entry_of block number) ≡ Ok (Rules.shown h block number)
  unfolding device_of words_of ain_words tot_words ao_words di_words dout_words discrete_words Table.physical Table.ain Table.tot Table.ao Table.di Table.dout Table.discrete ain_in tot_in ao_in di_in dout_in Rules.shown outputs read_onlys
  other-read =
      by_rows
      unstored
      (λ block number e. read_by (words_of (device_of h) block number) e ≡ Ok (Rules.shown h block number))
      (λ block number t. absurd t)
      (λ block number t. absurd t)
      tt
      (refl also refl also alarms-read also refl also tt)
      (refl also refl also refl also tt)
      (refl also refl also refl also tt)
      (refl also refl also refl also tt)
      (refl also refl also refl also tt)

  -- every read of every block and number
  pub reads_same : (block number : ℕ) → read_of (device_of h) block number ≡ reading h block number
  unfolding read_of
  reads_same block number = go (entry_of block number) (known block number) (stored-read block number) (stored-shown block number) (other-read block number) (Q block number)
    where
      shows : (e : Entry) → (p : Bool) → (T p → read_by (words_of (device_of h) block number) e ≡ Ok (Rules.shown h block number)) → (T (not p) → read_by (words_of (device_of h) block number) e ≡ Ok (Rules.shown h block number)) → read_by (words_of (device_of h) block number) e ≡ Ok (Rules.shown h block number)
      shows e true a b = a tt
      shows e false a b = b tt

      listed : (ltb 5 block ≡ false) × (has block number ≡ true) → Ok (Rules.shown h block number) ≡ reading h block number
      listed k = sym (unfold reading in rw (k.0, k.1))

      go : (e : Entry) → Known block number e
          → (T (stored_entry e) → read_by (words_of (device_of h) block number) e ≡ Ok (shown_by e (stored h block number)))
          → (T (stored_entry e) → Rules.shown h block number ≡ stored h block number)
          → (T (unstored number e) → read_by (words_of (device_of h) block number) e ≡ Ok (Rules.shown h block number))
          → T (sound e (stored h block number))
          → read_by (words_of (device_of h) block number) e ≡ reading h block number
      go (Err r) (inl k) a b c q = sym (unfold reading in rw (k.0, k.1))
      go (Err r) (inr k) a b c q = sym (unfold reading in rw (k.0, k.1, k.2))
      go (Ok p) k a b c q =
          shows (Ok p) (stored_entry (Ok p)) (λ t. a t ∙ ap Ok (sound-shown (Ok p) (stored h block number) t q ∙ sym (b t))) c ∙ listed k

-- ---- the image

T_true : (b : Bool) → T b → b ≡ true
T_true true t = refl
T_true false t = absurd t

-- room for 19 bytes, by the code's test and by the rules'
room : (n : ℕ) → leb 19 n ≡ not (ltb n 19)
room n = go (leb 19 n) refl (ltb n 19) refl
  where
    short : 19 ≤ n → n < 19 → ⊥
    short a b = omega arith

    go : (a : Bool) → leb 19 n ≡ a → (b : Bool) → ltb n 19 ≡ b → a ≡ not b
    go true ea false eb = refl
    go false ea true eb = refl
    go true ea true eb = absurd (short (leb→le 19 n (subst T (sym ea) tt)) (ltb-true n 19 eb))
    go false ea false eb = absurd (true≢false (sym (T_true (leb 19 n) (le→leb 19 n (ltb-false n 19 eb))) ∙ ea))

turned : {A : Type 0} (b : Bool) (x y : A) → cond (not b) x y ≡ cond b y x
turned true x y = refl
turned false x y = refl

pub image-answer : (buffer : List ℕ) → image_answer buffer ≡ to_image buffer
unfolding image_answer to_image
image-answer buffer = ap (λ (b : Bool). cond b granted (Rules.refused 7)) (room (length buffer)) ∙ turned (ltb (length buffer) 19) granted (Rules.refused 7)

pub image-same : (h : History Event) (buffer : List ℕ) → image_bytes buffer (device_of h).ain.state.out (device_of h).tot.state.out (device_of h).ao.state.out (device_of h).di.state.out (device_of h).dout.state.out ≡ Rules.image h buffer
unfolding image_bytes Rules.image device_of ain_in tot_in ao_in di_in dout_in
image-same h buffer = ap (λ (b : Bool). cond b whole buffer) (room (length buffer)) ∙ turned (ltb (length buffer) 19) whole buffer
  where
    whole : List ℕ
    whole = five_bytes (given 1 h) ++ five_bytes (given 2 h) ++ five_bytes (given 3 h) ++ two_bytes (discrete (given 4 h)) ++ two_bytes (discrete (given 5 h)) ++ drop 19 buffer

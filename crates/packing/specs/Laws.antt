-- Laws of the definitions in this folder, for proofs and for callers. Assumes nothing.
use Rattle.std.specs.Prelude.{ℕ, zero, suc, ◌+◌, ◌*◌, ◌-◌, ◌/◌, ◌%◌, ◌^◌, ◌≤◌, ◌<◌, ◌≡◌, Ok, Err, IfOk, Bool, true, false, cond, ◌&&◌, get_or, take, drop, eqb}
use Rattle.std.proofs.Common.{arith, sym, ◌∙◌, w32, length-take, drop_of_length-le, take_at, drop_at, take-suc, drop-drop}
use Rattle.std.proofs.Math.Path.{refl, ap}
use mathlib.Core.List.{List, [], ◌∷◌, ◌++◌, append_assoc, append-nil}
use Rattle.std.proofs.Math.ListN.{length}
use borrow.Rule.Slice.PartMut.{put_mid}
use Rattle.std.specs.Int.{to_be_bytes}
use borrow.Author.Tests.{eqb-true, eq-eqb, ne_eqb, le-leb}
use Rattle.wire.specs.Bytes.{word_bytes, word_of}
use Rattle.linearisation.specs.declared.Point.{Point}
use Rattle.linearisation.specs.Table.{zero_point}
use Rattle.device.specs.declared.Device.{Device}
use Rattle.packing.specs.declared.NotUnpacked.TheVariants.{WrongLength, NotPacked}
use Rattle.packing.specs.Words.{Read, place_words, point_words, table_words, ain_words, tot_words, ao_words, di_words, dout_words, device_words, words_of, Small}
use Rattle.packing.specs.Words.{point, points, device_of}
use Rattle.packing.specs.Packed.{bytes_of, packed_of, pack_bytes, words_in, same_bytes, unpacked_of}

-- ---- words and bytes

pub bytes-append : (a b : List ℕ) → bytes_of (a ++ b) ≡ bytes_of a ++ bytes_of b
bytes-append [] b = refl
bytes-append (w ∷ a) b = rw (bytes-append a b)

pub bytes-length : (a : List ℕ) → length (bytes_of a) ≡ 4 * length a
bytes-length [] = refl
bytes-length (w ∷ a) = let h = bytes-length a in omega arith

-- words are read again from their bytes
pub words_back : (ws : List ℕ) → Small ws → words_in (bytes_of ws) ≡ ws
words_back [] h = refl
words_back (w ∷ ws) h =
    let l = h.0 in
    let e : word_of (w / 2 ^ 24) (w / 2 ^ 16 % 256) (w / 2 ^ 8 % 256) (w % 256) ≡ w = omega arith in
    rw (e, words_back ws h.1)

-- one word more: its bytes are put behind those before it
pub put-more : (s ws : List ℕ) (i : ℕ) → i < length ws → 4 * length ws ≤ length s →
    put_mid (4 * i) (4 * i + 4 - 4 * i) (bytes_of (take i ws) ++ drop (4 * i) s) (word_bytes (get_or ws i 0)) ≡
    bytes_of (take (suc i) ws) ++ drop (4 * suc i) s
put-more s ws i h room =
    let front = bytes_of (take i ws) in
    let l : length front ≡ 4 * i = bytes-length (take i ws) ∙ simp length-take (omega arith) in
    let four : 4 * i + 4 - 4 * i ≡ 4 = omega arith in
    let next : 4 * suc i ≡ 4 * i + 4 = omega arith in
    let rest = drop (4 * i) s in
    let before = take_at front rest (4 * i) l in
    let behind = drop_at front rest (4 * i) l in
    rw (four, next, before, behind, drop-drop 4 (4 * i) s, take-suc ws i 0 h, bytes-append (take i ws) (get_or ws i 0 ∷ []))
    (simp append_assoc)

-- std's name for a word's bytes
pub be-bytes : (n : ℕ) → n < 2 ^ 32 → to_be_bytes w32 n ≡ word_bytes n
be-bytes n h = let e : n / 2 ^ 24 % 256 ≡ n / 2 ^ 24 = omega arith in rw e

-- ---- comparing

pub same_true : (s t : List ℕ) → same_bytes s t ≡ true → s ≡ t
same_true [] [] e = refl
same_true [] (b ∷ t) e = cc
same_true (a ∷ s) [] e = cc
same_true (a ∷ s) (b ∷ t) e = go (eqb a b) refl e (same_true s t)
  where
    go : (q : Bool) → eqb a b ≡ q → (q && same_bytes s t) ≡ true → (same_bytes s t ≡ true → s ≡ t) → a ∷ s ≡ b ∷ t
    go true q f rest = rw (eqb-true a b q, rest f)
    go false q f rest = cc

pub same_self : (s : List ℕ) → same_bytes s s ≡ true
same_self [] = refl
same_self (a ∷ s) = rw (eq-eqb a a refl, same_self s)

pub same_of : (s t : List ℕ) → s ≡ t → same_bytes s t ≡ true
same_of s t e = ap (same_bytes s) (sym e) ∙ same_self s

pub same_not : (s t : List ℕ) → (s ≡ t → ⊥) → same_bytes s t ≡ false
same_not s t n = go (same_bytes s t) refl
  where
    go : (q : Bool) → same_bytes s t ≡ q → q ≡ false
    go true e = absurd (n (same_true s t e))
    go false e = refl

-- ---- a table's places

-- a place of the table is the same whatever stands behind the table
pub place-at : (ps : List Point) (i : ℕ) (a b : Point) → i < length ps → get_or ps i a ≡ get_or ps i b
place-at [] i a b h = absurd (omega arith)
place-at (p ∷ ps) zero a b h = refl
place-at (p ∷ ps) (suc i) a b h = place-at ps i a b (omega arith)

-- one place more
pub point-words-more : (n i : ℕ) (ps : List Point) → point_words (suc n) i ps ≡ point_words n i ps ++ place_words (get_or ps (i + n) zero_point)
unfolding point_words
point-words-more zero i ps = let e : i + 0 ≡ i = omega arith in rw e
point-words-more (suc n) i ps = let e : i + suc n ≡ suc i + n = omega arith in rw (e, point-words-more n (suc i) ps)

pub points-more : (n : ℕ) (ws : List ℕ) →
    points (suc n) ws ≡
    (let before = points n ws in
    let last = point before.rest in
    record { value = before.value ++ last.value ∷ []; rest = last.rest })
unfolding points
points-more zero ws = refl
points-more (suc n) ws =
    let first = point ws in
    ap (λ (r : Read (List Point)). record { value = first.value ∷ r.value; rest = r.rest }) (points-more n first.rest)

-- the first i places are read again from their words
abbrev pub PlacesBack : List Point → ℕ → Type 0
PlacesBack ps i = (rest : List ℕ) → points i (point_words i 0 ps ++ rest) ≡ record { value = take i ps; rest = rest }

pub places-back-none : (ps : List Point) → PlacesBack ps 0
unfolding points point_words
places-back-none ps = λ rest. refl

pub places-back-more : (ps : List Point) (i : ℕ) → i < length ps → PlacesBack ps i
    → ((rest : List ℕ) → (point (place_words (get_or ps i zero_point) ++ rest)).value ≡ get_or ps i zero_point)
    → PlacesBack ps (suc i)
places-back-more ps i h before last = λ rest.
    let p = get_or ps i zero_point in
    let z : 0 + i ≡ i = omega arith in
    let one : point_words (suc i) 0 ps ≡ point_words i 0 ps ++ place_words p = rw z at (point-words-more i 0 ps) in
    let words : point_words (suc i) 0 ps ++ rest ≡ point_words i 0 ps ++ (place_words p ++ rest) =
    ap (λ (ws : List ℕ). ws ++ rest) one ∙ append_assoc (point_words i 0 ps) (place_words p) rest in
    let front = before (place_words p ++ rest) in
    rw (words, points-more i (point_words i 0 ps ++ (place_words p ++ rest)), front, take-suc ps i zero_point h) (rw (last rest))

-- ---- a device packed

pub packed-length : (d : Device) → length (packed_of d) ≡ 564
unfolding packed_of words_of device_words ain_words table_words point_words tot_words ao_words di_words dout_words
packed-length d = refl

-- into a buffer of its own length
pub pack-exact : (s : List ℕ) (d : Device) → length s ≡ 564 → pack_bytes s d ≡ packed_of d
unfolding pack_bytes
pack-exact s d h =
    rw (le-leb 564 (length s) (omega arith), drop_of_length-le s {i = 564} (omega arith)) (append-nil (packed_of d))

pub words-length : (d : Device) → length (words_of d) ≡ 141
unfolding words_of device_words ain_words table_words point_words tot_words ao_words di_words dout_words
words-length d = refl

-- words that a 32-bit array holds
pub small-each : (ws : List ℕ) → ((i : ℕ) → get_or ws i 0 < 2 ^ 32) → Small ws
small-each [] h = tt
small-each (w ∷ ws) h = (h 0, small-each ws (λ i. h (suc i)))

-- what was packed is unpacked again, where its words are read again
pub unpack-pack : (d : Device) → Small (words_of d) → device_of (words_of d) ≡ d → unpacked_of (packed_of d) ≡ Ok d
unfolding unpacked_of packed_of
unpack-pack d small back =
    let l : length (bytes_of (words_of d)) ≡ 564 = packed-length d in
    let w : words_in (bytes_of (words_of d)) ≡ words_of d = words_back (words_of d) small in
    rw (w, back, eq-eqb (length (bytes_of (words_of d))) 564 l, same_self (bytes_of (words_of d)))

-- ---- bytes unpacked

module _ (s : List ℕ) where
  pub unpack-length : (length s ≡ 564 → ⊥) → unpacked_of s ≡ Err WrongLength
  unfolding unpacked_of
  unpack-length n = rw (ne_eqb (length s) 564 n)

  pub unpack-yes : length s ≡ 564 → s ≡ packed_of (device_of (words_in s)) → unpacked_of s ≡ Ok (device_of (words_in s))
  unfolding unpacked_of
  unpack-yes l e = rw (eq-eqb (length s) 564 l, same_of s (packed_of (device_of (words_in s))) e)

  pub unpack-no : length s ≡ 564 → (s ≡ packed_of (device_of (words_in s)) → ⊥) → unpacked_of s ≡ Err NotPacked
  unfolding unpacked_of
  unpack-no l n = rw (eq-eqb (length s) 564 l, same_not s (packed_of (device_of (words_in s))) n)

  -- what is accepted packs to the bytes that it came from
  pub pack-unpack : IfOk (unpacked_of s) (λ d. packed_of d ≡ s)
  unfolding unpacked_of
  pack-unpack = go (eqb (length s) 564) (same_bytes s (packed_of d)) refl
    where
      d : Device
      d = device_of (words_in s)

      go : (l q : Bool) → same_bytes s (packed_of d) ≡ q → IfOk (cond l (cond q (Ok d) (Err NotPacked)) (Err WrongLength)) (λ e. packed_of e ≡ s)
      go true true e = sym (same_true s (packed_of d) e)
      go true false e = tt
      go false q e = tt

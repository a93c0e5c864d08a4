-- Laws of the definitions in this folder that no proof outside this file needs. Assumes nothing.
use Rattle.std.specs.Prelude.{Ok, ℕ, zero, suc, ◌+◌, ◌*◌, ◌-◌, ◌/◌, ◌%◌, ◌^◌, ◌≤◌, ◌<◌, ◌≡◌, Bool, true, false, get_or, take, drop, set, replicate, ℤ, pos, negsuc, T, eqb, Float}
use Rattle.std.proofs.Common.{arith, sym, ◌∙◌, length-append, length-take, length-drop, take-append-drop, take_at, take-suc, drop-drop, take_all}
use Rattle.std.proofs.Math.Path.{refl, ap}
use mathlib.Core.List.{List, [], ◌∷◌, ◌++◌, append_assoc, append-nil}
use Rattle.std.proofs.Math.ListN.{length}
use Rattle.std.proofs.Math.Seq.{drop-append-add}
use Rattle.std.proofs.lemmas.List.{set_at}
use Rattle.std.specs.Int.Signed.{mag}
use Rattle.std.specs.Float.{binary32}
use Rattle.std.specs.Float.Ieee.{fits}
use Rattle.std.specs.Float.Ieee.Bits.{to_bits-lt, of_bits-fits}
use borrow.Author.Tests.{lt-ltb, le-ltb, le-leb}
use Rattle.wire.specs.Bytes.{word_bytes, word_of, replaced}
use Rattle.numbers.specs.Floats.{bits_of}
use Rattle.numbers.specs.FloatLaws.{float_back}
use Rattle.linearisation.specs.declared.Point.{Point}
use Rattle.linearisation.specs.declared.Table.{Table}
use Rattle.linearisation.specs.Table.{zero_point}
use Rattle.device.specs.declared.AinBlock.{AinBlock}
use Rattle.device.specs.declared.Device.{Device}
use Rattle.packing.specs.Words.{flag, twos, of_twos, layout_version, number_words, ain_settings_words, ain_state_words, ain_words, place_words, point_words}
use Rattle.packing.specs.Words.{table_words, tot_words, ao_words, di_words, dout_words, device_words, words_of, Small, point, points, table}
use Rattle.packing.specs.Words.{half, ain_settings, ain_state, ain_of, tot_of, ao_of, di_of, dout_of, fields_of, device_of}
use Rattle.packing.specs.Packed.{bytes_of, packed_of, pack_bytes, words_in, unpacked_of}
use Rattle.packing.specs.Laws.{bytes-append, bytes-length, unpack-pack, point-words-more, points-more as more, PlacesBack, places-back-none, places-back-more}

-- ---- words and bytes

-- the word at a place is that of its four bytes
pub word_in : (s : List ℕ) (i : ℕ) → 4 * i + 4 ≤ length s →
    get_or (words_in s) i 0 ≡ word_of (get_or s (4 * i) 0) (get_or s (4 * i + 1) 0) (get_or s (4 * i + 2) 0) (get_or s (4 * i + 3) 0)
word_in [] i h = absurd (omega arith)
word_in (a ∷ []) i h = absurd (omega arith)
word_in (a ∷ b ∷ []) i h = absurd (omega arith)
word_in (a ∷ b ∷ c ∷ []) i h = absurd (omega arith)
word_in (a ∷ b ∷ c ∷ d ∷ s) zero h = refl
word_in (a ∷ b ∷ c ∷ d ∷ s) (suc i) h =
    let e0 : 4 * suc i ≡ suc (suc (suc (suc (4 * i)))) = omega arith in
    let e1 : 4 * suc i + 1 ≡ suc (suc (suc (suc (4 * i + 1)))) = omega arith in
    let e2 : 4 * suc i + 2 ≡ suc (suc (suc (suc (4 * i + 2)))) = omega arith in
    let e3 : 4 * suc i + 3 ≡ suc (suc (suc (suc (4 * i + 3)))) = omega arith in
    rw (e3, e2, e1, e0) (word_in s i (omega arith))

pub small-append : (a b : List ℕ) → Small a → Small b → Small (a ++ b)
small-append [] b h k = k
small-append (w ∷ a) b h k = (h.0, small-append a b h.1 k)

-- ---- bytes put one after the other

pub replaced-twice : (s : List ℕ) (at : ℕ) (a b : List ℕ) → at + length a + length b ≤ length s →
    replaced (replaced s at a) (at + length a) b ≡ replaced s at (a ++ b)
replaced-twice s at a b h =
    let front = take at s ++ a in
    let rest = drop (at + length a) s in
    let m : length front ≡ at + length a = simp (length-append, length-take) (omega arith) in
    let n : at + length a + length b ≡ length front + length b = omega arith in
    let after : drop (at + length a + length b) (front ++ rest) ≡ drop (at + length a + length b) s =
    ap (λ (k : ℕ). drop k (front ++ rest)) n ∙ drop-append-add front rest (length b) ∙ drop-drop (length b) (at + length a) s in
    let e : at + length (a ++ b) ≡ at + length a + length b = omega (arith, length-append a b) in
    rw (take_at front rest (at + length a) m, after, e) (simp append_assoc)

pub replaced-length : (s : List ℕ) (at : ℕ) (a : List ℕ) → at + length a ≤ length s → length (replaced s at a) ≡ length s
replaced-length s at a h = simp (length-append, length-take, length-drop) (omega arith)

-- no bytes
pub put-none : (s : List ℕ) (at : ℕ) → replaced s at [] ≡ s
put-none s at = let e : at + 0 ≡ at = omega arith in rw (append-nil, e) (take-append-drop at s)

-- one word more, at any place
pub put-more : (s : List ℕ) (at : ℕ) (ws : List ℕ) (i : ℕ) → i < length ws → at + 4 * length ws ≤ length s →
    replaced (replaced s at (bytes_of (take i ws))) (at + 4 * i) (word_bytes (get_or ws i 0)) ≡ replaced s at (bytes_of (take (suc i) ws))
put-more s at ws i h room =
    let front = bytes_of (take i ws) in
    let l : length front ≡ 4 * i = bytes-length (take i ws) ∙ simp length-take (omega arith) in
    let e : at + 4 * i ≡ at + length front = omega arith in
    rw (take-suc ws i 0 h, bytes-append (take i ws) (get_or ws i 0 ∷ []), e) (replaced-twice s at front (word_bytes (get_or ws i 0)) (omega arith))

-- ---- fields

pub bits_small : (x : Float) → T (fits binary32 x) → bits_of x < 2 ^ 32
bits_small x h = to_bits-lt binary32 x h

pub flag_small : (b : Bool) → flag b < 2 ^ 32
flag_small true = omega arith
flag_small false = omega arith

pub flag-back : (b : Bool) → eqb (flag b) 1 ≡ b
flag-back true = refl
flag-back false = refl

pub byte_small : (n : ℕ) → n < 256 → n < 2 ^ 32
byte_small n h = omega arith

pub byte-back : (n : ℕ) → n < 256 → n % 256 ≡ n
byte-back n h = omega arith

pub half-small : (n : ℕ) → n < 65536 → n < 2 ^ 32
half-small n h = omega arith

pub half_back : (n : ℕ) → n < 65536 → n % 65536 ≡ n
half_back n h = omega arith

pub high_small : (z : ℤ) → mag z < 2 ^ 63 → twos z / 2 ^ 32 < 2 ^ 32
high_small (pos n) h = omega arith
high_small (negsuc n) h = omega arith

pub low_small : (z : ℤ) → twos z % 2 ^ 32 < 2 ^ 32
low_small z = omega arith

twos_back : (z : ℤ) → mag z < 2 ^ 63 → of_twos (twos z) ≡ z
twos_back (pos n) h = rw (lt-ltb n (2 ^ 63) h)
twos_back (negsuc n) h = rw (le-ltb (2 ^ 64 - suc n) (2 ^ 63) (omega arith)) (ap negsuc (omega arith))

pub total-back : (z : ℤ) → mag z < 2 ^ 63 → of_twos (twos z / 2 ^ 32 * 2 ^ 32 + twos z % 2 ^ 32) ≡ z
total-back z h = let e : twos z / 2 ^ 32 * 2 ^ 32 + twos z % 2 ^ 32 ≡ twos z = omega arith in ap of_twos e ∙ twos_back z h

-- ---- a table's words and their table

pub point-words-length : (n i : ℕ) (ps : List Point) → length (point_words n i ps) ≡ 2 * n
unfolding point_words
point-words-length zero i ps = refl
point-words-length (suc n) i ps = let h = point-words-length n (suc i) ps in omega arith

pub points-length : (n : ℕ) (ws : List ℕ) → length (points n ws).value ≡ n
unfolding points
points-length zero ws = refl
points-length (suc n) ws = ap suc (points-length n (point ws).rest)

-- two words a place
pub points-rest : (n : ℕ) (ws : List ℕ) → (points n ws).rest ≡ drop (2 * n) ws
unfolding points
points-rest zero ws = refl
points-rest (suc n) ws =
    let e : 2 * suc n ≡ 2 + 2 * n = omega arith in
    rw e (points-rest n (drop 1 (drop 1 ws)) ∙ ap (drop (2 * n)) (drop-drop 1 1 ws) ∙ drop-drop (2 * n) 2 ws)

pub points-more : (ws : List ℕ) (n at : ℕ)
    → (points (suc n) (drop at ws)).value ≡ (points n (drop at ws)).value ++ (point (drop (at + 2 * n) ws)).value ∷ []
points-more ws n at =
    let e : (points n (drop at ws)).rest ≡ drop (at + 2 * n) ws = points-rest n (drop at ws) ∙ drop-drop (2 * n) at ws in
    rw (more n (drop at ws), e)

-- the words so far, and zeros up to 43
abbrev words_to : ℕ → Table → List ℕ
words_to i t = t.count ∷ (point_words i 0 t.points ++ replicate (2 * (21 - i)) 0)

pub words-to-more : (t : Table) (i : ℕ) → i < 21
    → set (set (words_to i t) (2 * i + 1) (bits_of (get_or t.points i zero_point).x)) (2 * i + 2) (bits_of (get_or t.points i zero_point).y)
    ≡ words_to (suc i) t
words-to-more t i h =
    let front : List ℕ = t.count ∷ point_words i 0 t.points in
    let x = bits_of (get_or t.points i zero_point).x in
    let y = bits_of (get_or t.points i zero_point).y in
    let rest = replicate {A = ℕ} (2 * (21 - suc i)) 0 in
    let r : 2 * (21 - i) ≡ suc (suc (2 * (21 - suc i))) = omega arith in
    let l : length front ≡ 2 * i + 1 = omega (arith, point-words-length i 0 t.points) in
    let m : length (front ++ x ∷ []) ≡ 2 * i + 2 = omega (arith, l, length-append front (x ∷ [])) in
    let z : 0 + i ≡ i = omega arith in
    rw (r, set_at front 0 (0 ∷ rest) x (2 * i + 1) l)
    (ap (λ (w : List ℕ). set w (2 * i + 2) y) (sym (append_assoc front (x ∷ []) (0 ∷ rest)))
    ∙ set_at (front ++ x ∷ []) 0 rest y (2 * i + 2) m
    ∙ rw (point-words-more i 0 t.points, z) (simp append_assoc))

-- the places so far, and zeros up to 21
abbrev points_to : ℕ → List ℕ → ℕ → List Point
points_to n ws at = (points n (drop at ws)).value ++ replicate (21 - n) zero_point

pub points-to-more : (ws : List ℕ) (at n : ℕ) → n < 21 → set (points_to n ws at) n (point (drop (at + 2 * n) ws)).value ≡ points_to (suc n) ws at
points-to-more ws at n h =
    let from = drop at ws in
    let r : 21 - n ≡ suc (21 - suc n) = omega arith in
    let p = (point (drop (at + 2 * n) ws)).value in
    rw (r, points-more ws n at)
    (set_at (points n from).value zero_point (replicate (21 - suc n) zero_point) p n (points-length n from) ∙ sym (simp append_assoc))

-- numbers that fit 32 bits, and the table with them read again
abbrev Fitting : List Point → Type 0
Fitting [] = Unit
Fitting (p ∷ ps) = T (fits binary32 p.x) × T (fits binary32 p.y) × Fitting ps

fit_at : (ps : List Point) → Fitting ps → (i : ℕ) → T (fits binary32 (get_or ps i zero_point).x) × T (fits binary32 (get_or ps i zero_point).y)
fit_at [] f i = (of_bits-fits binary32 0, of_bits-fits binary32 0)
fit_at (p ∷ ps) f zero = (f.0, f.1)
fit_at (p ∷ ps) f (suc i) = fit_at ps f.2 i

small-points : (n i : ℕ) (ps : List Point) → Fitting ps → Small (point_words n i ps)
unfolding point_words
small-points zero i ps f = tt
small-points (suc n) i ps f =
    (bits_small (get_or ps i zero_point).x (fit_at ps f i).0, (bits_small (get_or ps i zero_point).y (fit_at ps f i).1, small-points n (suc i) ps f))

-- a place is read again from its words
place-back : (p : Point) → T (fits binary32 p.x) → T (fits binary32 p.y) → (rest : List ℕ) → (point (place_words p ++ rest)).value ≡ p
place-back p f g rest = rw (float_back p.x f, float_back p.y g)

-- the first places, and so all
places-back : (ps : List Point) → Fitting ps → (i : ℕ) → i ≤ length ps → PlacesBack ps i
places-back ps f zero h = places-back-none ps
places-back ps f (suc i) h =
    places-back-more ps i (omega arith) (places-back ps f i (omega arith)) (place-back (get_or ps i zero_point) (fit_at ps f i).0 (fit_at ps f i).1)

module _ (t : Table) (full : length t.points ≡ 21) (f : Fitting t.points) where
  pub table-small : t.count < 2 ^ 32 → Small (table_words t)
  unfolding table_words
  table-small c = (c, small-points 21 0 t.points f)

  pub table-back : (rest : List ℕ) → table (table_words t ++ rest) ≡ record { value = t; rest = rest }
  unfolding table table_words
  table-back rest =
      let all : take 21 t.points ≡ t.points = take_all 21 t.points (omega (arith, full)) in
      rw (places-back t.points f 21 (omega (arith, full)) rest, all)

-- ---- a device packed

-- the layout's version and WRITE_LOCKING
abbrev first_words : ℕ → List ℕ
first_words lock = layout_version ∷ number_words lock

-- AIN but for its table
abbrev ain_front : AinBlock → List ℕ
ain_front b = ain_settings_words b.settings ++ ain_state_words b.state ++ number_words b.st_rev

-- the seven parts put one after the other are the packed form
pub pack-puts : (s : List ℕ) (d : Device) → 564 ≤ length s →
    let front = replaced (replaced s 0 (bytes_of (first_words d.write_locking))) 8 (bytes_of (ain_front d.ain)) in
    let middle = replaced (replaced front 120 (bytes_of (table_words d.ain.table))) 292 (bytes_of (tot_words d.tot)) in
    let all = replaced (replaced middle 348 (bytes_of (ao_words d.ao))) 440 (bytes_of (di_words d.di)) in
    replaced all 488 (bytes_of (dout_words d.dout)) ≡ pack_bytes s d
unfolding pack_bytes packed_of words_of device_words ain_words table_words point_words tot_words ao_words di_words dout_words
pack-puts s d h =
    let f = bytes_of (first_words d.write_locking) in
    let a = bytes_of (ain_front d.ain) in
    let l = bytes_of (table_words d.ain.table) in
    let t = bytes_of (tot_words d.tot) in
    let o = bytes_of (ao_words d.ao) in
    let i = bytes_of (di_words d.di) in
    let u = bytes_of (dout_words d.dout) in
    ap (λ (x : List ℕ). replaced (replaced (replaced (replaced (replaced x 120 l) 292 t) 348 o) 440 i) 488 u) (replaced-twice s 0 f a (omega arith))
    ∙ ap (λ (x : List ℕ). replaced (replaced (replaced (replaced x 292 t) 348 o) 440 i) 488 u) (replaced-twice s 0 (f ++ a) l (omega arith))
    ∙ ap (λ (x : List ℕ). replaced (replaced (replaced x 348 o) 440 i) 488 u) (replaced-twice s 0 (f ++ a ++ l) t (omega arith))
    ∙ ap (λ (x : List ℕ). replaced (replaced x 440 i) 488 u) (replaced-twice s 0 (f ++ a ++ l ++ t) o (omega arith))
    ∙ ap (λ (x : List ℕ). replaced x 488 u) (replaced-twice s 0 (f ++ a ++ l ++ t ++ o) i (omega arith))
    ∙ replaced-twice s 0 (f ++ a ++ l ++ t ++ o ++ i) u (omega arith)
    ∙ rw (le-leb 564 (length s) h)

-- one part more
step : {s s' t ws ws' : List ℕ} (at : ℕ) → t ≡ replaced s at (bytes_of ws) → s ≡ s' → ws ≡ ws' → t ≡ replaced s' at (bytes_of ws')
step at e p q = rw (e, p, q)

-- so buffers each of which has one part more end as the packed form
pub pack-steps : (s : List ℕ) (d : Device) → 564 ≤ length s → {f a l t o i u s₁ s₂ s₃ s₄ s₅ s₆ s₇ : List ℕ} → f ≡ first_words d.write_locking
    → a ≡ ain_front d.ain → l ≡ table_words d.ain.table → t ≡ tot_words d.tot → o ≡ ao_words d.ao → i ≡ di_words d.di
    → u ≡ dout_words d.dout → s₁ ≡ replaced s 0 (bytes_of f) → s₂ ≡ replaced s₁ 8 (bytes_of a) → s₃ ≡ replaced s₂ 120 (bytes_of l)
    → s₄ ≡ replaced s₃ 292 (bytes_of t) → s₅ ≡ replaced s₄ 348 (bytes_of o) → s₆ ≡ replaced s₅ 440 (bytes_of i) → s₇ ≡ replaced s₆ 488 (bytes_of u)
    → s₇ ≡ pack_bytes s d
pack-steps s d h f a l t o i u e₁ e₂ e₃ e₄ e₅ e₆ e₇ =
    step 488 e₇ (step 440 e₆ (step 348 e₅ (step 292 e₄ (step 120 e₃ (step 8 e₂ (step 0 e₁ refl f) a) l) t) o) i) u ∙ pack-puts s d h

-- a block's words are small and the block is read again from them
module _ (d : Device) (first : Small (first_words d.write_locking))
    (ain : Small (ain_front d.ain) × ((ain_settings (ain_front d.ain)).value ≡ d.ain.settings)
    × ((ain_state (drop 14 (ain_front d.ain))).value ≡ d.ain.state)
    × ((half (drop 27 (ain_front d.ain))).value ≡ d.ain.st_rev))
    (lin : Small (table_words d.ain.table) × ((table (table_words d.ain.table)).value ≡ d.ain.table))
    (tot : Small (tot_words d.tot) × ((tot_of (tot_words d.tot)).value ≡ d.tot))
    (ao : Small (ao_words d.ao) × ((ao_of (ao_words d.ao)).value ≡ d.ao))
    (di : Small (di_words d.di) × ((di_of (di_words d.di)).value ≡ d.di))
    (dout : Small (dout_words d.dout) × ((dout_of (dout_words d.dout)).value ≡ d.dout)) where
  small_all : Small (words_of d)
  unfolding words_of device_words ain_words table_words point_words tot_words ao_words di_words dout_words
  small_all =
      let f = first_words d.write_locking in
      let a = ain_front d.ain in
      let l = table_words d.ain.table in
      let t = tot_words d.tot in
      let o = ao_words d.ao in
      let i = di_words d.di in
      let three = small-append (f ++ a) l (small-append f a first ain.0) lin.0 in
      let five = small-append (f ++ a ++ l ++ t) o (small-append (f ++ a ++ l) t three tot.0) ao.0 in
      small-append (f ++ a ++ l ++ t ++ o ++ i) (dout_words d.dout) (small-append (f ++ a ++ l ++ t ++ o) i five di.0) dout.0

  device-back : device_of (words_of d) ≡ d
  unfolding fields_of words_of device_words ain_of tot_of ao_of di_of dout_of ain_words tot_words ao_words di_words dout_words table points
      table_words point_words
  device-back = λ k. record {
    write_locking = d.write_locking;
    ain = record { settings = ain.1 k; state = ain.2 k; st_rev = ain.3 k; table = lin.1 k };
    tot = tot.1 k;
    ao = ao.1 k;
    di = di.1 k;
    dout = dout.1 k;
  }

  -- so what was packed is unpacked again
  pub unpack-parts : unpacked_of (packed_of d) ≡ Ok d
  unpack-parts = unpack-pack d small_all device-back

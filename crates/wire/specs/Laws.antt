-- Laws of the definitions in this folder, for callers: the status byte, the five bytes and the two go there and back, and a buffer keeps its length.
-- Assumes nothing.
use Prim.Native.Nat.{ℕ, zero, suc, ◌+◌, ◌/◌, ◌%◌, ◌^◌, ◌<◌, ◌≤◌}
use Rattle.std.proofs.Common.{arith, sym, ap, ◌∙◌, drop_of_length-le, length-append, length-take, drop-cons, drop-drop}
use Rattle.std.specs.Prelude.{◌≡◌, Bool, ◌&&◌, get_or, take, eqb, Ok, Err}
use Rattle.std.proofs.Math.Path.{refl}
use Rattle.std.proofs.Math.Bool.{true, false, cond}
use mathlib.Core.List.{List, [], ◌∷◌, ◌++◌}
use Rattle.std.proofs.Math.ListN.{length, drop, length-drop}
use Rattle.std.proofs.Math.Dec.{leb}
use borrow.Author.Tests.{le-leb, lt-leb, leb-true, eqb-true, eqb-false, ne_eqb}
use Rattle.wire.specs.declared.status.Quality.{Quality}
use Rattle.wire.specs.Refusal.{granted}
use Rattle.wire.specs.declared.status.Quality.TheVariants.{Bad, Uncertain, Good, GoodCascade}
use Rattle.wire.specs.declared.status.Limits.{Limits}
use Rattle.wire.specs.declared.status.Limits.TheVariants.{Unlimited, Low, High, Constant}
use Rattle.wire.specs.declared.status.Status.{Status}
use Rattle.wire.specs.declared.Pair.{Pair}
use Rattle.wire.specs.declared.Discrete.{Discrete}
use Rattle.wire.specs.declared.Refusal.TheVariants.{WrongLength}
use Rattle.wire.specs.Status.{quality_number, limits_number, quality_case, limits_case, case_of, split_of, built_of}
use Rattle.wire.specs.Bytes.{five_bytes, two_bytes, word_of, pair_of, discrete_of, replaced, fits, placed_answer, placed, put_bytes, put_discrete_bytes}
use Rattle.wire.specs.Image.{image_fits, image_bytes, part_length, part_from, part_of}

-- ---- the status byte

pub quality-below : (q : Quality) → quality_number q < 4
quality-below Bad = omega arith
quality-below Uncertain = omega arith
quality-below Good = omega arith
quality-below GoodCascade = omega arith

pub limits-below : (l : Limits) → limits_number l < 4
limits-below Unlimited = omega arith
limits-below Low = omega arith
limits-below High = omega arith
limits-below Constant = omega arith

pub case-of-quality : (q : Quality) → quality_case (quality_number q) ≡ q
case-of-quality Bad = refl
case-of-quality Uncertain = refl
case-of-quality Good = refl
case-of-quality GoodCascade = refl

pub case-of-limits : (l : Limits) → limits_case (limits_number l) ≡ l
case-of-limits Unlimited = refl
case-of-limits Low = refl
case-of-limits High = refl
case-of-limits Constant = refl

-- a number 0 to 3 is the number of its case
number-of-case : {A : Type 0} (number : A → ℕ) (a b c d : A) → number a ≡ 0 → number b ≡ 1 → number c ≡ 2 → number d ≡ 3 → (n : ℕ) → n < 4
    → number (case_of a b c d n) ≡ n
number-of-case {A} number a b c d ea eb ec ed n h = at-0 (eqb n 0) refl
  where
    at-2 : (t : Bool) → eqb n 2 ≡ t → (n ≡ 0 → ⊥) → (n ≡ 1 → ⊥) → number (cond t c d) ≡ n
    at-2 true e n0 n1 = ec ∙ sym (eqb-true n 2 e)
    at-2 false e n0 n1 = let n2 = eqb-false n 2 e in ed ∙ omega arith

    at_1 : (t : Bool) → eqb n 1 ≡ t → (n ≡ 0 → ⊥) → number (cond t b (cond (eqb n 2) c d)) ≡ n
    at_1 true e n0 = eb ∙ sym (eqb-true n 1 e)
    at_1 false e n0 = at-2 (eqb n 2) refl n0 (eqb-false n 1 e)

    at-0 : (t : Bool) → eqb n 0 ≡ t → number (cond t a (cond (eqb n 1) b (cond (eqb n 2) c d))) ≡ n
    at-0 true e = ea ∙ sym (eqb-true n 0 e)
    at-0 false e = at_1 (eqb n 1) refl (eqb-false n 0 e)

pub quality-of-case : (n : ℕ) → n < 4 → quality_number (quality_case n) ≡ n
quality-of-case = number-of-case quality_number Bad Uncertain Good GoodCascade refl refl refl refl

pub limits-of-case : (n : ℕ) → n < 4 → limits_number (limits_case n) ≡ n
limits-of-case = number-of-case limits_number Unlimited Low High Constant refl refl refl refl

-- every status byte is put together again from what it says
pub built-split : (status : ℕ) → status < 256 → built_of (split_of status) ≡ status
unfolding split_of built_of
built-split status h =
    rw (quality-of-case (status / 64) (omega arith), limits-of-case (status % 4) (omega arith)) (omega arith)

-- and what is said, with a sub-status of 0 to 15, is read again from its status byte
pub split-built : (s : Status) → s.sub_status < 16 → split_of (built_of s) ≡ s
unfolding split_of built_of
split-built s h =
    let q : built_of s / 64 ≡ quality_number s.quality = omega (arith, quality-below s.quality, limits-below s.limits) in
    let n : built_of s / 4 % 16 ≡ s.sub_status = omega (arith, quality-below s.quality, limits-below s.limits) in
    let l : built_of s % 4 ≡ limits_number s.limits = omega (arith, quality-below s.quality, limits-below s.limits) in
    rw (q, n, l, case-of-quality, case-of-limits)

-- ---- five bytes, and two

-- n elements of a list from a place on
abbrev elements : List ℕ → ℕ → ℕ → List ℕ
elements s at zero = []
elements s at (suc n) = get_or s at 0 ∷ elements s (suc at) n

-- a list of n is its first n elements
elements-of : (n : ℕ) (s : List ℕ) (at : ℕ) → length s ≡ at + n → elements s at n ≡ drop at s
elements-of zero s at h = sym (drop_of_length-le s {i = at} (omega arith))
elements-of (suc n) s at h = ap (get_or s at 0 ∷◌) (elements-of n s (suc at) (omega arith)) ∙ sym (drop-cons s at 0 (omega arith))

-- a pair is read again from its five bytes
pub pair-of-five : (p : Pair) → p.bits < 2 ^ 32 → pair_of (five_bytes p) ≡ Ok p
unfolding pair_of
pair-of-five p h =
    let w : word_of (p.bits / 2 ^ 24) (p.bits / 2 ^ 16 % 256) (p.bits / 2 ^ 8 % 256) (p.bits % 256) ≡ p.bits = omega arith in
    rw w

-- five bytes are put together again from the pair that they stand for
pub five-of-pair : (s : List ℕ) (p : Pair) → ((i : ℕ) → get_or s i 0 < 256) → pair_of s ≡ Ok p → five_bytes p ≡ s
unfolding pair_of
five-of-pair s p small = go (eqb (length s) 5) refl
  where
    q : Pair
    q = record { bits = word_of (get_or s 0 0) (get_or s 1 0) (get_or s 2 0) (get_or s 3 0); status = get_or s 4 0 }

    go : (t : Bool) → eqb (length s) 5 ≡ t → cond t (Ok q) (Err WrongLength) ≡ Ok p → five_bytes p ≡ s
    go true t e =
        let same : q ≡ p = cc in
        let a : q.bits / 2 ^ 24 ≡ get_or s 0 0 = omega (arith, small 0, small 1, small 2, small 3) in
        let b : q.bits / 2 ^ 16 % 256 ≡ get_or s 1 0 = omega (arith, small 0, small 1, small 2, small 3) in
        let c : q.bits / 2 ^ 8 % 256 ≡ get_or s 2 0 = omega (arith, small 0, small 1, small 2, small 3) in
        let d : q.bits % 256 ≡ get_or s 3 0 = omega (arith, small 0, small 1, small 2, small 3) in
        ap five_bytes (sym same) ∙ rw (a, b, c, d) (elements-of 5 s 0 (eqb-true (length s) 5 t))
    go false t e = cc

-- a discrete value is read again from its two bytes
pub discrete-of-two : (d : Discrete) → discrete_of (two_bytes d) ≡ Ok d
unfolding discrete_of
discrete-of-two d = refl

-- two bytes are put together again from the discrete value that they stand for
pub two-of-discrete : (s : List ℕ) (d : Discrete) → discrete_of s ≡ Ok d → two_bytes d ≡ s
unfolding discrete_of
two-of-discrete s d = go (eqb (length s) 2) refl
  where
    q : Discrete
    q = record { value = get_or s 0 0; status = get_or s 1 0 }

    go : (t : Bool) → eqb (length s) 2 ≡ t → cond t (Ok q) (Err WrongLength) ≡ Ok d
        → two_bytes d ≡ s
    go true t e = let same : q ≡ d = cc in ap two_bytes (sym same) ∙ elements-of 2 s 0 (eqb-true (length s) 2 t)
    go false t e = cc

-- ---- the buffer

pub placed-length : (s : List ℕ) (at : ℕ) (bs : List ℕ) → length (placed s at bs) ≡ length s
unfolding placed
placed-length s at bs = go (fits (length bs) s at) refl
  where
    go : (t : Bool) → fits (length bs) s at ≡ t → length (cond t (replaced s at bs) s) ≡ length s
    go true t = let h = leb-true (at + length bs) (length s) t in simp (length-append, length-take, length-drop) (omega arith)
    go false t = refl

pub placed-accepted : (s : List ℕ) (at : ℕ) (bs : List ℕ) → at + length bs ≤ length s
    → (placed_answer (length bs) s at ≡ granted) × (placed s at bs ≡ replaced s at bs)
unfolding placed_answer placed
placed-accepted s at bs h = let t = le-leb (at + length bs) (length s) h in (rw t, rw t)

pub placed-refused : (s : List ℕ) (at : ℕ) (bs : List ℕ) → length s < at + length bs
    → (placed_answer (length bs) s at ≡ Err WrongLength) × (placed s at bs ≡ s)
unfolding placed_answer placed
placed-refused s at bs h = let t = lt-leb (at + length bs) (length s) h in (rw t, rw t)

-- the bytes of a block, none where it has no part
abbrev pub block_bytes : Pair → Pair → Pair → Discrete → Discrete → ℕ → List ℕ
block_bytes ain tot ao di dout block =
    cond (eqb block 1) (five_bytes ain)
    (cond (eqb block 2) (five_bytes tot)
    (cond (eqb block 3) (five_bytes ao)
    (cond (eqb block 4) (two_bytes di)
    (cond (eqb block 5) (two_bytes dout) []))))

module _ (s : List ℕ) (ain tot ao : Pair) (di dout : Discrete) where
  pub image-accepted : 19 ≤ length s
      → image_bytes s ain tot ao di dout ≡ five_bytes ain ++ five_bytes tot ++ five_bytes ao ++ two_bytes di ++ two_bytes dout ++ drop 19 s
  unfolding image_bytes
  image-accepted h = rw (le-leb 19 (length s) h)

  pub image-length : length (image_bytes s ain tot ao di dout) ≡ length s
  unfolding image_bytes
  image-length = go (image_fits s) refl
    where
      go : (t : Bool) → image_fits s ≡ t
          → length (cond t (five_bytes ain ++ five_bytes tot ++ five_bytes ao ++ two_bytes di ++ two_bytes dout ++ drop 19 s) s) ≡ length s
      go true t = let h = leb-true 19 (length s) t in omega (arith, length-drop 19 s)
      go false t = refl

  -- the image is its five pairs put one after the other
  pub image-puts : 19 ≤ length s →
      put_discrete_bytes (put_discrete_bytes (put_bytes (put_bytes (put_bytes s 0 ain) 5 tot) 10 ao) 15 di) 17 dout ≡ image_bytes s ain tot ao di dout
  image-puts h =
      let a = put_bytes s 0 ain in
      let b = put_bytes a 5 tot in
      let c = put_bytes b 10 ao in
      let d = put_discrete_bytes c 15 di in
      let la = placed-length s 0 (five_bytes ain) in
      let lb = placed-length a 5 (five_bytes tot) in
      let lc = placed-length b 10 (five_bytes ao) in
      let ld = placed-length c 15 (two_bytes di) in
      rw (
        (placed-accepted d 17 (two_bytes dout) (omega arith)).1,
        (placed-accepted c 15 (two_bytes di) (omega arith)).1,
        (placed-accepted b 10 (five_bytes ao) (omega arith)).1,
        (placed-accepted a 5 (five_bytes tot) (omega arith)).1,
        (placed-accepted s 0 (five_bytes ain) (omega arith)).1,
        image-accepted h,
      )
      (rw (drop-drop 5 5 s, drop-drop 5 10 s, drop-drop 2 15 s, drop-drop 2 17 s))

  -- each block's part of an image is its bytes
  pub part-of-image : 19 ≤ length s → (block : ℕ) → part_of (image_bytes s ain tot ao di dout) block ≡ block_bytes ain tot ao di dout block
  unfolding part_of
  part-of-image h block = rw (le-leb 19 (length (image_bytes s ain tot ao di dout)) (omega (arith, image-length)), image-accepted h) (go block)
    where
      Given : ℕ → Type 0
      Given block =
          cond (leb 1 block && leb block 5)
          (take (part_length block) (drop (part_from block) (five_bytes ain ++ five_bytes tot ++ five_bytes ao
          ++ two_bytes di ++ two_bytes dout ++ drop 19 s))) []
          ≡ block_bytes ain tot ao di dout block

      none : (block : ℕ) → 5 < block → Given block
      none block b =
          rw (
            le-leb 1 block (omega arith),
            lt-leb block 5 b,
            ne_eqb block 1 (omega arith),
            ne_eqb block 2 (omega arith),
            ne_eqb block 3 (omega arith),
            ne_eqb block 4 (omega arith),
            ne_eqb block 5 (omega arith),
          )

      go : (block : ℕ) → Given block
      go zero = refl
      go (suc zero) = refl
      go (suc (suc zero)) = refl
      go (suc (suc (suc zero))) = refl
      go (suc (suc (suc (suc zero)))) = refl
      go (suc (suc (suc (suc (suc zero))))) = refl
      go (suc (suc (suc (suc (suc (suc n)))))) = none (suc (suc (suc (suc (suc (suc n)))))) (omega arith)

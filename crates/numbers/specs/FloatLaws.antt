-- Laws of singles that callers cite: bits written and read back, and that no operation leads from a value that is not finite to one that is.
-- Assumes nothing.
use Rattle.std.specs.Prelude.{◌≡◌, ℕ, ◌^◌, ◌<◌, Bool, true, false, cond, not, T, ◌==◌, refl, Float}
use Rattle.std.proofs.Common.{sym, subst, true≢false}
use Rattle.std.specs.Bool.{beq}
use Rattle.std.specs.Float.{nan, inf, fin, Format, binary32}
use Rattle.std.specs.Float.Ieee.{fits, is_nan, le, neg, add, sub, mul, div, unlike}
use Rattle.std.specs.Float.Ieee.Bits.{to_bits-of_bits, of_bits-to_bits}
use Rattle.std.specs.Float.Ieee.Scale.{finite}
use Rattle.numbers.specs.Floats.{float_of, bits_of, finite_or, within}

-- A word that is no NaN's reads back as its own bits.
pub word_back : (w : ℕ) → w < 2 ^ 32 → is_nan (float_of w) ≡ false → bits_of (float_of w) ≡ w
word_back w h e = to_bits-of_bits binary32 w h (subst (λ (b : Bool). T (not b)) (sym e) tt)

-- What is finite, in a range or finite or an infinity is no NaN.
pub finite_number : (x : Float) → finite x ≡ true → is_nan x ≡ false
unfolding is_nan
finite_number nan h = sym h
finite_number (inf s) h = refl
finite_number (fin s m e) h = refl

pub finite_or-number : (s : Bool) (x : Float) → finite_or s x ≡ true → is_nan x ≡ false
unfolding is_nan
finite_or-number s nan h = sym h
finite_or-number s (inf t) h = refl
finite_or-number s (fin t m e) h = refl

pub within-number : (low high x : Float) → within low high x ≡ true → is_nan x ≡ false
unfolding is_nan le
within-number low high (inf s) h = refl
within-number low high (fin s m e) h = refl
within-number nan high nan h = sym h
within-number (inf s) high nan h = sym h
within-number (fin s m e) high nan h = sym h

-- A value of the format is read back from its bits.
pub float_back : (x : Float) → T (fits binary32 x) → float_of (bits_of x) ≡ x
float_back x h = of_bits-to_bits binary32 x h

-- ---- finite in and out
-- No operation leads from a value that is not finite to one that is, save a division by an infinity: so a test of the end result suffices.

pub add_left : (f : Format) (x y : Float) → finite x ≡ false → finite (add f x y) ≡ false
unfolding add
add_left f nan y h = refl
add_left f (inf s) nan h = refl
add_left f (inf s) (inf t) h = unequal (beq s t)
  where
    unequal : (b : Bool) → finite (cond b (inf s) nan) ≡ false
    unequal true = refl
    unequal false = refl
add_left f (inf s) (fin t n d) h = refl
add_left f (fin s m e) y h = absurd (true≢false h)

pub add_right : (f : Format) (x y : Float) → finite y ≡ false → finite (add f x y) ≡ false
unfolding add
add_right f nan y h = refl
add_right f (inf s) nan h = refl
add_right f (inf s) (inf t) h = add_left f (inf s) (inf t) refl
add_right f (inf s) (fin t n d) h = refl
add_right f (fin s m e) nan h = refl
add_right f (fin s m e) (inf t) h = refl
add_right f (fin s m e) (fin t n d) h = absurd (true≢false h)

neg-unfinished : (y : Float) → finite y ≡ false → finite (neg y) ≡ false
unfolding neg
neg-unfinished nan h = refl
neg-unfinished (inf s) h = refl
neg-unfinished (fin s m e) h = absurd (true≢false h)

pub sub-left : (f : Format) (x y : Float) → finite x ≡ false → finite (sub f x y) ≡ false
unfolding sub
sub-left f x y h = add_left f x (neg y) h

pub sub-right : (f : Format) (x y : Float) → finite y ≡ false → finite (sub f x y) ≡ false
unfolding sub
sub-right f x y h = add_right f x (neg y) (neg-unfinished y h)

zero_or : (b : Bool) (s : Bool) → finite (cond b nan (inf s)) ≡ false
zero_or true s = refl
zero_or false s = refl

pub mul_left : (f : Format) (x y : Float) → finite x ≡ false → finite (mul f x y) ≡ false
unfolding mul
mul_left f nan y h = refl
mul_left f (inf s) nan h = refl
mul_left f (inf s) (inf t) h = refl
mul_left f (inf s) (fin t n d) h = zero_or (n == 0) (unlike s t)
mul_left f (fin s m e) y h = absurd (true≢false h)

pub div-left : (f : Format) (x y : Float) → finite x ≡ false → finite (div f x y) ≡ false
unfolding div
div-left f nan y h = refl
div-left f (inf s) nan h = refl
div-left f (inf s) (inf t) h = refl
div-left f (inf s) (fin t n d) h = refl
div-left f (fin s m e) y h = absurd (true≢false h)

-- What lies in a range with finite ends is finite.
pub within-finite : (low high x : Float) → finite low ≡ true → finite high ≡ true → within low high x ≡ true → finite x ≡ true
unfolding le
within-finite nan high x l h w = absurd (true≢false (sym l))
within-finite (inf s) high x l h w = absurd (true≢false (sym l))
within-finite (fin s m e) nan x l h w = absurd (true≢false (sym h))
within-finite (fin s m e) (inf t) x l h w = absurd (true≢false (sym h))
within-finite (fin s m e) (fin t n d) nan l h w = w
within-finite (fin s m e) (fin t n d) (inf true) l h w = w
within-finite (fin s m e) (fin t n d) (inf false) l h w = w
within-finite (fin s m e) (fin t n d) (fin u k c) l h w = refl

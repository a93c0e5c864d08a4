-- Stored words are allowed words of 32 bits: the defaults are, and an accepted write's are. Assumes nothing.
use Rattle.std.specs.Prelude.{Ok, Err, None, Some}
use Prim.Native.Nat.{ℕ, ◌^◌}
use mathlib.Core.Path.{◌≡◌, refl, subst}
use mathlib.Core.Bool.{Bool, true, false, not, ◌&&◌, cond}
use lib.Dec.{T, eqb, ltb}
use lib.Ieee.{le, of_bits, of_int, ne}
use lib.Ieee.Fits.{and_i}
use borrow.Author.Tests.{eqb-true}
use Rattle.scaling.specs.Scaling.{allowed_scale}
use Rattle.wire.specs.Refusal.{granted, Answer}
use Rattle.parameters.specs.declared.Words.{Words}
use Rattle.parameters.specs.declared.Class.{Class}
use Rattle.parameters.specs.declared.Class.TheVariants.{S, N, D, R}
use Rattle.parameters.specs.declared.Allowed.{Allowed}
use Rattle.parameters.specs.declared.Standing.{Standing}
use Rattle.parameters.specs.Table.{Entry, entry_in, entry_of}
use Rattle.parameters.specs.Table as Table
use Rattle.parameters.specs.Words.{allows_of}
use Rattle.parameters.specs.Refused.{read_only, ground}
use Rattle.parameters.specs.Laws.{by_rows, ◌also◌, takes, accepted-takes}
use Rattle.history.specs.Past.{History, start, ◌▷◌, latest, told}
use Rattle.history.specs.Calls.{Event, wrote, words}
use Rattle.history.specs.Rules.{defaults, or_zeros, or_else, words_to, never, stored, is_accepted}

abbrev pub fits : Words → Bool
fits w = ltb w.first (2 ^ 32) && ltb w.second (2 ^ 32)

-- words of an entry that can be written
abbrev pub sound_by : Class → Allowed → Words → Bool
sound_by S allowed w = allows_of allowed w.first w.second && fits w
sound_by N allowed w = allows_of allowed w.first w.second && fits w
sound_by D allowed w = allows_of allowed w.first w.second && fits w
sound_by R allowed w = true

abbrev pub sound : Entry → Words → Bool
sound (Ok p) w = sound_by p.class p.allowed w
sound (Err r) w = true

abbrev pub Sound : History Event → Type 0
Sound h = (block number : ℕ) → T (sound (entry_of block number) (stored h block number))

-- ---- the defaults

default-sound : (block number : ℕ) → T (sound (entry_of block number) (or_zeros (defaults block) number))
unfolding defaults entry_of entry_in Table.physical Table.ain Table.tot Table.ao Table.di Table.dout Table.discrete allows_of allowed_scale le of_bits of_int ne
default-sound block number =
    by_rows
    (λ number e. true)
    (λ block number e. T (sound e (or_zeros (defaults block) number)))
    (λ block number t. tt)
    (λ block number t. tt)
    (tt also tt)
    (tt also tt also tt also tt also tt also tt also tt also tt also tt also tt also tt also tt also tt also tt also tt also tt also tt)
    (tt also tt also tt also tt also tt also tt also tt also tt also tt)
    (tt also tt also tt also tt also tt also tt also tt also tt also tt also tt also tt)
    (tt also tt also tt also tt also tt also tt also tt also tt)
    (tt also tt also tt also tt also tt also tt also tt also tt also tt)
    block
    number
    tt

pub sound-start : Sound start
unfolding stored latest
sound-start block number = default-sound block number

-- ---- an accepted write
accepted-sound : (e : Entry) (a b : ℕ) → T (takes e a b) → T (fits (words a b)) → T (sound e (words a b))
accepted-sound (Err r) a b t f = tt
accepted-sound (Ok p) a b t f = go p.class t
  where
    go : (c : Class) → T (not (read_only c) && allows_of p.allowed a b) → T (sound_by c p.allowed (words a b))
    go S t = and_i (allows_of p.allowed a b) (fits (words a b)) t f
    go N t = and_i (allows_of p.allowed a b) (fits (words a b)) t f
    go D t = and_i (allows_of p.allowed a b) (fits (words a b)) t f
    go R t = tt

accepted-is : (g : Answer) → T (is_accepted g) → g ≡ granted
accepted-is (Ok u) t = refl
accepted-is (Err r) t = absurd t

pub sound-write : (h : History Event) (s : Standing) (block number a b : ℕ) → Sound h → T (is_accepted (ground s block number a b)) → T (fits (words a b)) → Sound (h ▷ wrote block number a b)
unfolding stored latest
sound-write h s block number a b old t f block' number' = go (eqb block block') refl (eqb number number') refl
  where
    same : block ≡ block' → number ≡ number' → T (sound (entry_of block' number') (words a b))
    same p q = subst (λ (x : ℕ). T (sound (entry_of x number') (words a b))) p (subst (λ (x : ℕ). T (sound (entry_of block x) (words a b))) q (accepted-sound (entry_of block number) a b (accepted-takes s block number a b (accepted-is (ground s block number a b) t)) f))

    go : (p : Bool) → eqb block block' ≡ p → (q : Bool) → eqb number number' ≡ q → T (sound (entry_of block' number') (or_else (or_zeros (defaults block') number') (told (cond (p && q) (Some (words a b)) None) (latest (λ p. words_to block' number') never h))))
    go true ep true eq = same (eqb-true block block' ep) (eqb-true number number' eq)
    go true ep false eq = old block' number'
    go false ep q eq = old block' number'

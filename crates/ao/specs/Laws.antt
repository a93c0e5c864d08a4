-- Laws of AO: the test of the end result suffices, and OUT stays finite. What AO and DO have in common is in `blocks`. Assumes nothing.
use Rattle.std.specs.Prelude.{◌≡◌, refl, Bool, true, false, cond, ℕ, eqb, Float, None, Some}
use Rattle.std.proofs.Common.{ap, ◌∙◌, arith}
use Rattle.std.specs.Float.{binary32}
use Rattle.std.specs.Float.Ieee.{sub}
use Rattle.std.specs.Float.Ieee.Fits.{add-fits}
use Rattle.std.specs.Float.Ieee.Scale.{finite}
use Rattle.numbers.specs.Floats.{float_of, bits_of}
use Rattle.numbers.specs.FloatLaws.{float_back, sub-right}
use Rattle.scaling.specs.Scaling.{fraction_of, at_fraction}
use Rattle.scaling.specs.Laws.{at_fraction-unfinished}
use Rattle.blocks.specs.Common.{actual_mode, of_pair}
use Rattle.blocks.specs.Laws.{led-holds, given_holds}
use Rattle.ao.specs.declared.Settings.{Settings}
use Rattle.ao.specs.declared.State.{State}
use Rattle.ao.specs.Tick.{closing, scaled_out, out_of, given_by, given_by_input, given_in, ticked_with, tick_of}

-- The test of the end result suffices: a fraction that is not finite leads to no finite OUT.
pub fraction-tested : (s : Settings) (w : Float) → finite (fraction_of s.pv_scale w) ≡ false → finite (scaled_out s w) ≡ false
unfolding scaled_out
fraction-tested s w h = at_fraction-unfinished s.out_scale (closing s.increase_close f) (go (eqb s.increase_close 1))
  where
    f : Float
    f = fraction_of s.pv_scale w

    go : (b : Bool) → finite (cond b (sub binary32 (float_of 0x3F80_0000) f) f) ≡ false
    go true = sub-right binary32 (float_of 0x3F80_0000) f h
    go false = h

-- What scaling leads to is read back from its bits.
scaled-back : (s : Settings) (w : Float) → float_of (bits_of (scaled_out s w)) ≡ scaled_out s w
unfolding scaled_out at_fraction
scaled-back s w = float_back (scaled_out s w) (add-fits binary32 _ _)

pub out-of-finite : (s : Settings) (w : Float) (bits : ℕ) → out_of s w ≡ Some bits → finite (float_of bits) ≡ true
unfolding out_of
out-of-finite s w bits = go (finite (scaled_out s w)) refl
  where
    go : (b : Bool) → finite (scaled_out s w) ≡ b → cond b (Some (bits_of (scaled_out s w))) None ≡ Some bits → finite (float_of bits) ≡ true
    go true e h = let z : bits_of (scaled_out s w) ≡ bits = cc in rw z at (ap finite (scaled-back s w) ∙ e)
    go false e h = let z : ◌≡◌ {A = ℕ} 0 1 = cc in absurd (omega arith)

-- OUT stays finite.
pub out-finite : (s : Settings) (x : State) (fault : Bool) → finite (float_of x.out.bits) ≡ true → finite (float_of x.operator.bits) ≡ true
    → finite (float_of (tick_of s x fault).state.out.bits) ≡ true
unfolding tick_of ticked_with given_in given_by_input given_by
out-finite s x fault h o =
    given_holds finite_bits (actual_mode fault s.target) x.out.bits (of_pair x.operator) _ h o
    (led-holds (λ (w : Float). Unit) finite_bits (out_of s) x.out.bits h (λ w u. out-of-finite s w) s.fsafe_time s.fsafe_type _ _ tt tt)
  where
    finite_bits : ℕ → Type 0
    finite_bits bits = finite (float_of bits) ≡ true

-- A law of DI's tick: when an Auto tick is Good. Assumes nothing. That OUT_D stays 0 or 1 stands in proofs/Stays.antt.
use Rattle.std.specs.Prelude.{ℕ, ◌≡◌, false, ◌&&◌, Err}
use Rattle.std.proofs.Math.Path.{refl}
use Rattle.std.proofs.Math.Bool.{true}
use Rattle.blocks.specs.Common.{InputStatus, usable_input, good}
use Rattle.blocks.specs.Discrete.{is_discrete}
use Rattle.blocks.specs.Laws.{fail-safe-not-good}
use Rattle.blocks.specs.Laws.{good-by-input}
use Rattle.di.specs.declared.Settings.{Settings}
use Rattle.di.specs.declared.State.{State}
use Rattle.di.specs.Tick.{input_of, fail_safe_out, usable_tick, unusable_tick, auto_by, auto_tick}

module _ (s : Settings) (st : State) (mode value status : ℕ) where
  outcome : InputStatus → ℕ
  outcome i = (auto_by s st mode value status i).out.status

  bad-outcome : (bad : ℕ) → good bad ≡ false → good (outcome (Err bad)) ≡ false
  unfolding outcome auto_by unusable_tick fail_safe_out
  bad-outcome bad = fail-safe-not-good 0 s.fsafe_type _ _ _ _ bad

  usable-outcome : good (outcome usable_input) ≡ good status
  unfolding outcome auto_by usable_tick
  usable-outcome = refl

  -- Q3.11: in Auto, OUT_D's quality is 2 exactly when the input's is and the value is 0 or 1.
  pub good-exactly : good (auto_tick s st mode value status).out.status ≡ good status && is_discrete value
  unfolding auto_tick input_of outcome
  good-exactly = good-by-input status true (is_discrete value) outcome bad-outcome usable-outcome

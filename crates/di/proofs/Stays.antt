-- Laws of DI's tick: OUT_D stays 0 or 1. They stand here and not in specs/, so that an edit of the definition of fail-safe is judged by the contracts.
-- Assumes nothing.
use Rattle.std.specs.Prelude.{ℕ, ◌≡◌, Bool, Err}
use Rattle.std.proofs.Math.Path.{refl}
use Rattle.std.proofs.Math.Bool.{true}
use Rattle.blocks.specs.Common.{usable_input, actual_mode}
use Rattle.blocks.specs.Discrete.{is_discrete, inverted}
use Rattle.blocks.specs.Laws.{Discrete, inverted-discrete, value-discrete, mode-holds, present-holds, fail-safe-holds}
use Rattle.blocks.specs.Laws.{input-holds}
use Rattle.di.specs.declared.Settings.{Settings}
use Rattle.di.specs.declared.State.{State}
use Rattle.di.specs.Tick.{input_of, fail_safe_out, usable_tick, unusable_tick, auto_by, auto_tick, man_tick, out_of_service_tick, tick_by, tick_of}

-- the stored values that OUT_D can come from
pub record DiscreteStore (st : State) : Type 0 where
  pub last : st.last.some ≡ true → Discrete st.last.value
  pub out : Discrete st.out.value
  pub operator : Discrete st.operator.value

module _ (s : Settings) (st : State) (h : DiscreteStore st) (mode value status : ℕ) where
  unusable-stays : (bad : ℕ) → DiscreteStore (auto_by s st mode value status (Err bad))
  unfolding auto_by unusable_tick fail_safe_out
  unusable-stays bad = record {
    last = h.last;
    out =
        fail-safe-holds 0 s.fsafe_type _ _ _ st.out.value bad Discrete refl (value-discrete s.fsafe_val_d)
        (present-holds Discrete st.last.some st.last.value h.last)
        (present-holds Discrete (is_discrete value) (inverted s.invert value) (inverted-discrete s.invert value)) h.out;
    operator = h.operator;
  }

  usable-stays : Discrete value → DiscreteStore (auto_by s st mode value status usable_input)
  unfolding auto_by usable_tick
  usable-stays d = record {
    last = λ e. inverted-discrete s.invert value d;
    out = inverted-discrete s.invert value d;
    operator = h.operator;
  }

  auto-stays : DiscreteStore (auto_tick s st mode value status)
  unfolding auto_tick input_of
  auto-stays = input-holds status true (is_discrete value) DiscreteStore (auto_by s st mode value status) unusable-stays (λ v. usable-stays)

-- From values 0 and 1 a tick leads to values 0 and 1.
pub stays-discrete : (s : Settings) (st : State) → DiscreteStore st → (fault : Bool) (value status : ℕ) → DiscreteStore (tick_of s st fault value status)
unfolding tick_of tick_by out_of_service_tick man_tick
stays-discrete s st h fault value status =
    mode-holds DiscreteStore (actual_mode fault s.target) (out_of_service_tick st) (man_tick st) (auto_tick s st (actual_mode fault s.target) value status)
    (record { last = h.last; out = h.out; operator = h.operator }) (record { last = h.last; out = h.operator; operator = h.operator })
    (auto-stays s st h (actual_mode fault s.target) value status)

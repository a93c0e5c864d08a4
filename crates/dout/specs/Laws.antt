-- Laws of DO: that OUT_D stays 0 or 1. What AO and DO have in common is in `blocks`. Assumes nothing.
use Rattle.std.specs.Prelude.{ℕ, ◌≡◌, Bool, cond, List, eqb, Some}
use Rattle.std.proofs.Common.{subst}
use Rattle.std.proofs.Math.Bool.{true, false}
use Rattle.wire.specs.declared.Discrete.{Discrete as Pair}
use Rattle.wire.specs.Bytes.{discrete_of}
use Rattle.blocks.specs.Common.{rcas, actual_mode, of_discrete}
use Rattle.blocks.specs.Discrete.{is_discrete, inverted}
use Rattle.blocks.specs.Laws.{Discrete, inverted-discrete, value-discrete, led-holds, given_holds, after-telegram-holds, telegram-holds}
use Rattle.blocks.specs.FailSafe.{after_tick}
use Rattle.dout.specs.declared.Settings.{Settings}
use Rattle.dout.specs.declared.Input.{Input}
use Rattle.dout.specs.declared.State.{State}
use Rattle.dout.specs.State.{input_of}
use Rattle.dout.specs.Telegram.{input_after, taken_on, lacking, telegram_of}
use Rattle.dout.specs.Tick.{out_of, given_by, given_by_input, input_used, given_in, ticked_with, tick_of}

-- the values in the state that OUT_D can come from
pub record DiscreteStore (state : State) : Type 0 where
  pub out : Discrete state.out.value
  pub operator : Discrete state.operator.value
  pub sp : Discrete state.sp.value
  pub rcas_in : Discrete state.rcas_in.value

module _ (s : Settings) (state : State) (h : DiscreteStore state) where
  led : (w : ℕ) → Discrete w → (out : ℕ) → out_of s.invert w ≡ Some out → Discrete out
  led w d out e = let z : inverted s.invert w ≡ out = cc in subst Discrete z (inverted-discrete s.invert w d)

  used : (mode : ℕ) → Discrete (input_used state mode).value
  unfolding input_used
  used mode = go (eqb mode rcas)
    where
      go : (b : Bool) → Discrete (cond b state.rcas_in state.sp).value
      go true = h.rcas_in
      go false = h.sp

  given : (mode : ℕ) → Discrete (given_in s state mode).out.value
  unfolding given_in given_by_input given_by
  given mode =
      given_holds Discrete mode state.out.value (of_discrete state.operator) _ h.out h.operator
      (led-holds Discrete Discrete (out_of s.invert) state.out.value h.out led s.fsafe_time s.fsafe_type _
      (input_of (input_used state mode)) (value-discrete s.fsafe_val_d) (used mode))

  -- From values 0 and 1 a tick leads to values 0 and 1.
  pub tick-discrete : (fault : Bool) → DiscreteStore (tick_of s state fault).state
  unfolding tick_of ticked_with after_tick
  tick-discrete fault = record { out = given (actual_mode fault s.target); operator = h.operator; sp = h.sp; rcas_in = h.rcas_in }

heard-discrete : (input : Input) (pair : Pair) → Discrete input.value → Discrete (input_after input pair).value
unfolding input_after
heard-discrete input pair d = after-telegram-holds Discrete pair.status (is_discrete pair.value) pair.value (input_of input) d (λ e. e)

-- So does a telegram, accepted or refused.
pub telegram-discrete : (state : State) (input : ℕ) (bytes : List ℕ) → DiscreteStore state → DiscreteStore (telegram_of state input bytes).state
unfolding telegram_of taken_on
telegram-discrete state input bytes h = telegram-holds DiscreteStore (lacking input) (taken_on state input) state (discrete_of bytes) h taken
  where
    taken : (pair : Pair) → DiscreteStore (taken_on state input pair)
    taken pair = go (eqb input 2)
      where
        go : (b : Bool)
            → DiscreteStore
            (cond b
            (record { out = state.out; mode = state.mode; operator = state.operator; sp = input_after state.sp pair; rcas_in = state.rcas_in })
            (record { out = state.out; mode = state.mode; operator = state.operator; sp = state.sp; rcas_in = input_after state.rcas_in pair }))
        go true = record { out = h.out; operator = h.operator; sp = heard-discrete state.sp pair h.sp; rcas_in = h.rcas_in }
        go false = record { out = h.out; operator = h.operator; sp = h.sp; rcas_in = heard-discrete state.rcas_in pair h.rcas_in }

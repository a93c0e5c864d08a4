-- An accepted write of a block and a read of it step by step, as the code does them, and that they are what Stored and Read say. Assumes nothing.
use Rattle.std.specs.Prelude.{◌≡◌, refl, ℕ, ◌%◌, Bool, true, false, cond, ◌==◌}
use Rattle.std.proofs.Common.{◌∙◌, sym, ap}
use Rattle.wire.specs.declared.Pair.{Pair}
use Rattle.wire.specs.declared.Discrete.{Discrete}
use Rattle.blocks.specs.Common.{operator_after}
use Rattle.ain.specs.declared.Settings.{Settings as AinSettings}
use Rattle.ain.specs.declared.State.{State as AinState}
use Rattle.ain.specs.State.{operated_state as operated_ain}
use Rattle.tot.specs.declared.Settings.{Settings as TotSettings}
use Rattle.tot.specs.declared.State.{State as TotState}
use Rattle.tot.specs.State.{written_state}
use Rattle.ao.specs.declared.Settings.{Settings as AoSettings}
use Rattle.ao.specs.declared.State.{State as AoState}
use Rattle.ao.specs.State.{operated_by as operated_ao}
use Rattle.di.specs.declared.Settings.{Settings as DiSettings}
use Rattle.di.specs.declared.State.{State as DiState}
use Rattle.di.specs.State.{operated_state as operated_di}
use Rattle.dout.specs.declared.Settings.{Settings as DoutSettings}
use Rattle.dout.specs.declared.State.{State as DoutState}
use Rattle.dout.specs.State.{operated_by as operated_dout}
use Rattle.parameters.specs.Table.{is_static}
use Rattle.parameters.specs.Words.{pair_of, discrete_pair}
use Rattle.device.specs.declared.AinBlock.{AinBlock}
use Rattle.device.specs.declared.TotBlock.{TotBlock}
use Rattle.device.specs.declared.AoBlock.{AoBlock}
use Rattle.device.specs.declared.DiBlock.{DiBlock}
use Rattle.device.specs.declared.DoutBlock.{DoutBlock}
use Rattle.device.specs.declared.Head.{Head}
use Rattle.device.specs.Stored.{ain_settings, tot_settings, ao_settings, di_settings, dout_settings, rev_after, entered_by, operator_by}
use Rattle.device.specs.Stored.{ain_written, tot_written, ao_written, di_written, dout_written}

abbrev pub head_of : ℕ → ℕ → ℕ → Head
head_of rev target mode = record { st_rev = rev; target = target; mode = mode }

-- a block with other settings, another state or another ST_REV
abbrev pub ain_with : AinBlock → AinSettings → AinState → ℕ → AinBlock
ain_with b settings state rev = record { settings = settings; state = state; st_rev = rev; table = b.table }

abbrev pub tot_with : TotSettings → TotState → ℕ → TotBlock
tot_with settings state rev = record { settings = settings; state = state; st_rev = rev }

abbrev pub ao_with : AoSettings → AoState → ℕ → AoBlock
ao_with settings state rev = record { settings = settings; state = state; st_rev = rev }

abbrev pub di_with : DiSettings → DiState → ℕ → DiBlock
di_with settings state rev = record { settings = settings; state = state; st_rev = rev }

abbrev pub dout_with : DoutSettings → DoutState → ℕ → DoutBlock
dout_with settings state rev = record { settings = settings; state = state; st_rev = rev }

-- the operator's pair first: the one written, or by a write of the target the one after that; then the settings, and then ST_REV, if the write is static
abbrev pub in_steps : {B : Type 0} → B → B → B → (B → B) → (B → B) → Bool → Bool → Bool → B
in_steps operated entered block set counted output target static =
    let stored = set (cond output operated (cond target entered block)) in cond static (counted stored) stored

-- over the operator's pair, with which `at` is the block
pub steps : {B P : Type 0} (at : P → B) (set counted : B → B) (written taken operator : P) (output target static : Bool)
    → (let stored = set (at (cond output written (cond target taken operator))) in cond static (counted stored) stored)
    ≡ in_steps (at written) (at taken) (at operator) set counted output target static
steps at set counted written taken operator true target static = refl
steps at set counted written taken operator false true static = refl
steps at set counted written taken operator false false static = refl

-- and over the block: `make` gives it of its settings, its state and its ST_REV; `set` changes the settings alone, `counted` ST_REV alone
module _ {B S T P : Type 0} (make : S → T → ℕ → B) (setting : S → S) (operated : T → P → T) (set counted : B → B) where
  pub written-in-steps :
      (sets : (s : S) (t : T) (rev : ℕ) → set (make s t rev) ≡ make (setting s) t rev)
      (counts : (s : S) (t : T) (rev : ℕ) → counted (make s t rev) ≡ make s t (rev_after true rev))
      (s : S) (t : T) (rev : ℕ) (written taken operator : P) (output target static : Bool)
      → make (setting s) (operated t (cond output written (cond target taken operator))) (rev_after static rev)
      ≡ in_steps (make s (operated t written) rev) (make s (operated t taken) rev) (make s (operated t operator) rev) set counted output target static
  unfolding rev_after
  written-in-steps sets counts s t rev written taken operator output target static =
      stored (cond output written (cond target taken operator)) static
      ∙ steps (λ (p : P). make s (operated t p) rev) set counted written taken operator output target static
    where
      stored : (p : P) (static : Bool)
          → make (setting s) (operated t p) (rev_after static rev)
          ≡ (let stored = set (make s (operated t p) rev) in cond static (counted stored) stored)
      stored p true = sym (ap counted (sets s (operated t p) rev) ∙ counts (setting s) (operated t p) rev)
      stored p false = sym (sets s (operated t p) rev)

module _ (number a b : ℕ) where
  -- AIN
  module _ (block : AinBlock) where
    abbrev ain_at : Pair → AinBlock
    ain_at pair = ain_with block block.settings (operated_ain block.state pair) block.st_rev

    abbrev ain_set : AinBlock → AinBlock
    ain_set c = ain_with c (ain_settings c.settings number a b) c.state c.st_rev

    abbrev ain_counted : AinBlock → AinBlock
    ain_counted c = ain_with c c.settings c.state (rev_after true c.st_rev)

    pub ain-in-steps : ain_written block number a b
        ≡ in_steps (ain_at (pair_of a b)) (ain_at (operator_after block.settings.target a block.state.out block.state.operator)) block
        ain_set ain_counted (number == 10) (number == 5) (is_static 1 number)
    unfolding ain_written operator_by entered_by
    ain-in-steps =
        written-in-steps (ain_with block) (λ s. ain_settings s number a b) operated_ain ain_set ain_counted (λ s t rev. refl) (λ s t rev. refl)
        block.settings block.state block.st_rev (pair_of a b) (operator_after block.settings.target a block.state.out block.state.operator)
        block.state.operator (number == 10) (number == 5) (is_static 1 number)

  -- AO
  module _ (block : AoBlock) where
    abbrev ao_at : Pair → AoBlock
    ao_at pair = ao_with block.settings (operated_ao block.state pair) block.st_rev

    abbrev ao_set : AoBlock → AoBlock
    ao_set c = ao_with (ao_settings c.settings number a b) c.state c.st_rev

    abbrev ao_counted : AoBlock → AoBlock
    ao_counted c = ao_with c.settings c.state (rev_after true c.st_rev)

    pub ao-in-steps : ao_written block number a b
        ≡ in_steps (ao_at (pair_of a b)) (ao_at (operator_after block.settings.target a block.state.out block.state.operator)) block
        ao_set ao_counted (number == 37) (number == 5) (is_static 3 number)
    unfolding ao_written operator_by entered_by operator_after operated_ao
    ao-in-steps =
        written-in-steps ao_with (λ s. ao_settings s number a b) operated_ao ao_set ao_counted (λ s t rev. refl) (λ s t rev. refl)
        block.settings block.state block.st_rev (pair_of a b) (operator_after block.settings.target a block.state.out block.state.operator)
        block.state.operator (number == 37) (number == 5) (is_static 3 number)

  -- DI
  module _ (block : DiBlock) where
    abbrev di_at : Discrete → DiBlock
    di_at pair = di_with block.settings (operated_di block.state pair) block.st_rev

    abbrev di_set : DiBlock → DiBlock
    di_set c = di_with (di_settings c.settings number a) c.state c.st_rev

    abbrev di_counted : DiBlock → DiBlock
    di_counted c = di_with c.settings c.state (rev_after true c.st_rev)

    pub di-in-steps : di_written block number a b
        ≡ in_steps (di_at (discrete_pair a b)) (di_at (operator_after block.settings.target a block.state.out block.state.operator)) block
        di_set di_counted (number == 10) (number == 5) (is_static 4 number)
    unfolding di_written operator_by entered_by
    di-in-steps =
        written-in-steps di_with (λ s. di_settings s number a) operated_di di_set di_counted (λ s t rev. refl) (λ s t rev. refl)
        block.settings block.state block.st_rev (discrete_pair a b) (operator_after block.settings.target a block.state.out block.state.operator)
        block.state.operator (number == 10) (number == 5) (is_static 4 number)

  -- DO
  module _ (block : DoutBlock) where
    abbrev dout_at : Discrete → DoutBlock
    dout_at pair = dout_with block.settings (operated_dout block.state pair) block.st_rev

    abbrev dout_set : DoutBlock → DoutBlock
    dout_set c = dout_with (dout_settings c.settings number a) c.state c.st_rev

    abbrev dout_counted : DoutBlock → DoutBlock
    dout_counted c = dout_with c.settings c.state (rev_after true c.st_rev)

    pub dout-in-steps : dout_written block number a b
        ≡ in_steps (dout_at (discrete_pair a b)) (dout_at (operator_after block.settings.target a block.state.out block.state.operator)) block
        dout_set dout_counted (number == 10) (number == 5) (is_static 5 number)
    unfolding dout_written operator_by entered_by operator_after operated_dout
    dout-in-steps =
        written-in-steps dout_with (λ s. dout_settings s number a) operated_dout dout_set dout_counted (λ s t rev. refl) (λ s t rev. refl)
        block.settings block.state block.st_rev (discrete_pair a b) (operator_after block.settings.target a block.state.out block.state.operator)
        block.state.operator (number == 10) (number == 5) (is_static 5 number)

  -- TOT, whose operator's pair is a status alone: it takes none on entering Man
  module _ (block : TotBlock) where
    abbrev tot_set : TotBlock → TotBlock
    tot_set c = tot_with (tot_settings c.settings number a) c.state c.st_rev

    abbrev tot_counted : TotBlock → TotBlock
    tot_counted c = tot_with c.settings c.state (rev_after true c.st_rev)

    pub tot-in-steps : tot_written block number a b
        ≡ in_steps (tot_with block.settings (written_state block.state a (b % 256)) block.st_rev) block block tot_set tot_counted (number == 10)
        (number == 5) (is_static 2 number)
    unfolding tot_written
    tot-in-steps =
        untaken (number == 10) (number == 5)
        ∙ written-in-steps tot_with (λ s. tot_settings s number a) (λ t new. new) tot_set tot_counted (λ s t rev. refl) (λ s t rev. refl)
        block.settings block.state block.st_rev new block.state block.state (number == 10) (number == 5) (is_static 2 number)
      where
        new : TotState
        new = written_state block.state a (b % 256)

        made : TotState → TotBlock
        made state = tot_with (tot_settings block.settings number a) state (rev_after (is_static 2 number) block.st_rev)

        untaken : (output target : Bool) → made (cond output new block.state) ≡ made (cond output new (cond target block.state block.state))
        untaken true target = refl
        untaken false true = refl
        untaken false false = refl

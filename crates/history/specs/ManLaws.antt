-- What request 2 of document 02 comes to, for AIN, AO, DI and DO alike (Q3.8a): what was last given stands in Man; over the rules, and of every device.
-- Assumes nothing.
use Prim.Native.Nat.{ℕ}
use Rattle.std.specs.Prelude.{◌≡◌, Bool, false, ◌⊎◌, eqb, None, Some}
use Rattle.std.proofs.Math.Path.{refl, ap}
use Rattle.std.proofs.Common.{sym, ◌∙◌, subst, true≢false, inl, inr}
use Rattle.numbers.specs.Floats.{float_of}
use Rattle.wire.specs.declared.Pair.{Pair}
use Rattle.wire.specs.Refusal.{granted}
use Rattle.wire.specs.declared.Discrete.{Discrete}
use Rattle.blocks.specs.Common.{actual_mode, operator_after}
use Rattle.blocks.specs.FailSafe.{by_mode}
use Rattle.ain.specs.Tick as Ain
use Rattle.blocks.specs.declared.setpoint.Order.TheVariants.{Position}
use Rattle.ao.specs.State.{operated_by}
use Rattle.ao.specs.Tick as Ao
use Rattle.di.specs.Tick as Di
use Rattle.dout.specs.State.{operated_by as operated_dout}
use Rattle.dout.specs.Tick as Dout
use Rattle.parameters.specs.Table.{ain, ao, di, dout, discrete, entry_in, entry_of}
use Rattle.parameters.specs.Refused.{target_in}
use Rattle.device.specs.declared.Device.{Device}
use Rattle.device.specs.Stored.{entered_by, operator_by, ain_settings, ao_settings, di_settings, dout_settings}
use Rattle.device.specs.Stored.{ain_written, ao_written, di_written, dout_written, stored_in}
use Rattle.device.specs.Read.{ain_words, ao_words, di_words, dout_words, discrete_words, words_of, read_of}
use Rattle.device.specs.Calls.{standing_of, write_of, tick_of}
use Rattle.device.specs.Laws.{stored}
use Rattle.history.specs.Past.{History, ◌▷◌, carried}
use Rattle.history.specs.PastLaws.{From, here, later, latest-holds}
use Rattle.history.specs.Calls.{Fed, Seen, Event, ticked, telegram, wrote, loaded, warmed}
use Rattle.history.specs.Rules.{is_tick, is_start, pair, code, man, mode_at, last_out, handed, or_else, operator, out_number}
use Rattle.history.specs.Rules.{senses, position, Drive, drives, driven, given}

-- Of AIN, AO, DI and DO, whose Man ticks give the operator's pair.
abbrev pub Operated : ℕ → Type 0
Operated block = (block ≡ 1) ⊎ ((block ≡ 3) ⊎ ((block ≡ 4) ⊎ (block ≡ 5)))

-- what holds of the four holds of each
pub operated-each : (P : ℕ → Type 0) → P 1 → P 3 → P 4 → P 5 → (block : ℕ) → Operated block → P block
operated-each P ain ao di dout block (inl e) = subst P (sym e) ain
operated-each P ain ao di dout block (inr (inl e)) = subst P (sym e) ao
operated-each P ain ao di dout block (inr (inr (inl e))) = subst P (sym e) di
operated-each P ain ao di dout block (inr (inr (inr e))) = subst P (sym e) dout

-- between an entry into Man and the tick: no start, no write of OUT, no other entry
abbrev pub HandsNothing : ℕ → History Event → Event → Type 0
HandsNothing block h e = (is_start e ≡ false) × (handed block h e ≡ None)

-- between two places of a history: writes, telegrams and loads alone
abbrev pub NoTickNoStart : History Event → Event → Type 0
NoTickNoStart h e = (is_tick e ≡ false) × (is_start e ≡ false)

module _ (block : ℕ) (operated : Operated block) where
  -- Q2.4: a write that changes the target to Man hands what was last given to the operator
  entry : (h : History Event) (b : ℕ) → eqb (code h block 5) man ≡ false → handed block h (wrote block 5 man b) ≡ Some (last_out block h)
  entry h b = operated-each Hands (λ other. rw other) (λ other. rw other) (λ other. rw other) (λ other. rw other) block operated
    where
      Hands : ℕ → Type 0
      Hands block = eqb (code h block 5) man ≡ false → handed block h (wrote block 5 man b) ≡ Some (last_out block h)

  -- and so it stands as the operator's until another is handed
  pub entered : (h h' : History Event) (b : ℕ) → eqb (code h block 5) man ≡ false → From (HandsNothing block) (h ▷ wrote block 5 man b) h'
      → operator block h' ≡ last_out block h
  unfolding operator
  entered h h' b other f =
      ap (or_else (pair 0 0x4c)) (latest-holds (handed block) is_start h (wrote block 5 man b) (last_out block h) h' refl (entry h b other) f)

  -- A9, O11: a Man tick gives the operator's pair
  man-gives : (h : History Event) (fault : Bool) (fed : Fed) (seen : Seen) → mode_at h fault block ≡ man
      → given block (h ▷ ticked fault fed seen) ≡ operator block h
  unfolding given carried senses drives
  man-gives h fault fed seen = operated-each Gives (λ m. rw m) (λ m. rw m) (λ m. rw m) (λ m. rw m) block operated
    where
      Gives : ℕ → Type 0
      Gives block = mode_at h fault block ≡ man → given block (h ▷ ticked fault fed seen) ≡ operator block h

  -- Q2.4, no jump: with nothing written between, a Man tick after the entry gives the value and status last given before it
  pub no_jump : (h h' : History Event) (b : ℕ) → eqb (code h block 5) man ≡ false → From (HandsNothing block) (h ▷ wrote block 5 man b) h'
      → (fault : Bool) (fed : Fed) (seen : Seen) → mode_at h' fault block ≡ man
      → given block (h' ▷ ticked fault fed seen) ≡ last_out block h
  no_jump h h' b other f fault fed seen m = man-gives h' fault fed seen m ∙ entered h h' b other f

  -- what was last given moves with ticks and starts alone
  last-still : (h h' : History Event) → From NoTickNoStart h h' → last_out block h' ≡ last_out block h
  unfolding last_out carried
  last-still h h' here = refl
  last-still h h' (later {h = p} {e = e} f c) = go e c ∙ last-still h p f
    where
      go : (e : Event) → NoTickNoStart p e → last_out block (p ▷ e) ≡ last_out block p
      go (ticked fault fed seen) c = absurd (true≢false c.0)
      go (telegram input bytes) c = refl
      go (wrote block' number a b) c = refl
      go (loaded bytes) c = refl
      go warmed c = absurd (true≢false c.1)

  -- Q2.4: whatever was written, OUT and other targets too, an entry without a tick between takes what was last given
  pub entered-again : (h h' : History Event) (b : ℕ) → From NoTickNoStart h h' → eqb (code h' block 5) man ≡ false
      → operator block (h' ▷ wrote block 5 man b) ≡ last_out block h
  entered-again h h' b f other = entered h' (h' ▷ wrote block 5 man b) b other here ∙ last-still h h' f

-- Q2.4, Q3.8a, no jump of the valve or the sluice: the Man tick orders it to stay where it was
pub no_move : {A : Type 0} (d : Drive A) → Operated d.block → (h h' : History Event) (b : ℕ) → eqb (code h d.block 5) man ≡ false
    → From (HandsNothing d.block) (h ▷ wrote d.block 5 man b) h'
    → (fault : Bool) → mode_at h' fault d.block ≡ man → driven d h' fault ≡ position (last_out d.block h).bits
unfolding driven drives
no_move d operated h h' b other f fault m = rw m (ap (λ (p : Pair). position p.bits) (entered d.block operated h h' b other f))

-- ---- of every device, by its reads

-- Q2.4, no jump: where a write changes the target of AIN, AO, DI or DO to Man from another, a tick without the fault flag then reads as OUT did before both
pub man-stands : (d : Device) (b : ℕ) (x y : Pair) (z : Discrete) (block : ℕ) → Operated block → eqb (target_in (standing_of d) block) man ≡ false
    → (write_of d block 5 man b).answer ≡ granted
    → read_of (tick_of (write_of d block 5 man b).device false x y z).device block (out_number block) ≡ read_of d block (out_number block)
unfolding target_in read_of words_of ain_words ao_words di_words dout_words discrete_words entry_of entry_in ain ao di dout discrete tick_of stored_in
    ain_written ao_written di_written dout_written ain_settings ao_settings di_settings dout_settings operator_by entered_by operator_after actual_mode
    Ain.tick_of Ain.tick_by Ain.man_tick Di.tick_of Di.tick_by Di.man_tick Ao.tick_of Ao.ticked_with Ao.given_in Dout.tick_of Dout.ticked_with Dout.given_in
    by_mode operated_by operated_dout
man-stands d b x y z =
    operated-each Stands (λ other e. rw (stored d 1 5 man b e, other)) (λ other e. rw (stored d 3 5 man b e, other))
    (λ other e. rw (stored d 4 5 man b e, other)) (λ other e. rw (stored d 5 5 man b e, other))
  where
    Stands : ℕ → Type 0
    Stands block = eqb (target_in (standing_of d) block) man ≡ false → (write_of d block 5 man b).answer ≡ granted
        → read_of (tick_of (write_of d block 5 man b).device false x y z).device block (out_number block) ≡ read_of d block (out_number block)

-- and the valve, or the sluice, is ordered to stay where it was
pub man-stays : (d : Device) (b : ℕ) (x y : Pair) (z : Discrete)
    → (eqb d.ao.settings.target man ≡ false → (write_of d 3 5 man b).answer ≡ granted
    → (tick_of (write_of d 3 5 man b).device false x y z).order ≡ Position (float_of d.ao.state.out.bits))
    × (eqb d.dout.settings.target man ≡ false → (write_of d 5 5 man b).answer ≡ granted
    → (tick_of (write_of d 5 5 man b).device false x y z).order_d ≡ Position d.dout.state.out.value)
unfolding tick_of stored_in ao_written dout_written ao_settings dout_settings operator_by entered_by operator_after actual_mode
    Ao.tick_of Ao.ticked_with Ao.given_in
    Dout.tick_of Dout.ticked_with Dout.given_in by_mode operated_by operated_dout
man-stays d b x y z = (λ other e. rw (stored d 3 5 man b e, other), λ other e. rw (stored d 5 5 man b e, other))

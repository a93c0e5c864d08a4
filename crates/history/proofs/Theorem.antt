-- The claim holds of every list of calls: the device reached is the device by the rules, by one lemma for each call and one induction over the list. Assumes nothing.
use Rattle.std.specs.Prelude.{Ok, Err}
use Prim.Native.Nat.{ℕ, zero, suc, ◌<◌, ◌≤◌, ◌^◌}
use native.Mathlib.Omega.{arith}
use mathlib.Core.Path.{◌≡◌, refl, sym, ap, ◌∙◌, subst}
use mathlib.Core.Bool.{Bool, true, false, not, ◌&&◌, cond}
use mathlib.Core.List.{List, [], ◌∷◌}
use lib.Dec.{T, eqb, leb, leb→le, ltb}
use lib.IntN.{pos, negsuc}
use lib.Ieee.{binary32, of_int}
use lib.Ieee.Fits.{and_l, and_r}
use lib.Ieee.Scale.{finite}
use lib.ListN.{length, get_or}
use borrow.Author.Tests.{eqb-true, ltb-false, lt-ltb, ne_eqb}
use Rattle.numbers.specs.Floats.{float_of, within}
use Rattle.linearisation.specs.Table.{table_of, has_table}
use Rattle.wire.specs.declared.Pair.{Pair}
use Rattle.wire.specs.declared.Discrete.{Discrete}
use Rattle.wire.specs.Bytes.{pair_of, word_of, discrete_of}
use Rattle.wire.specs.Image.{image_bytes}
use Rattle.wire.specs.declared.Refusal.TheVariants.{WrongLength}
use Rattle.wire.specs.Refusal.{granted, Answer, ground as refusal}
use Rattle.blocks.specs.Output.{received_by}
use Rattle.ao.specs.Telegram as Ao
use Rattle.dout.specs.Telegram as Dout
use Rattle.parameters.specs.declared.Standing.{Standing}
use Rattle.parameters.specs.declared.Class.TheVariants.{N}
use Rattle.parameters.specs.declared.Allowed.TheVariants.{Lock}
use Rattle.parameters.specs.Table.{Entry, entry_in, entry_of}
use Rattle.parameters.specs.Table as Table
use Rattle.parameters.specs.Words.{allows_of}
use Rattle.parameters.specs.Refused.{ground, ground_by}
use Rattle.parameters.specs.Laws.{by_rows, ◌also◌, takes, accepted-takes}
use Rattle.device.specs.declared.Device.{Device}
use Rattle.device.specs.Factory.{factory_device}
use Rattle.device.specs.Read.{read_of, words_of, ain_words, ao_words, di_words, dout_words, discrete_words}
use Rattle.device.specs.Calls.{standing_of, write_by, write_of, telegram_of, load_of, warm_started}
use Rattle.device.specs.Laws.{refused-telegram}
use Rattle.history.specs.Past.{History, start, ◌▷◌, latest, carried, Each}
use Rattle.history.specs.Calls.{Fed, Seen, Call, tick, write, load, warm_start, Event, ticked, wrote, loaded, ticked_by, seen_of, fitting, all_fit, after, event, reached_from, trace_from, reached, trace}
use Rattle.history.specs.Rules.{outputs, among, stored, code, table, to_write, to_telegram, to_load, is_accepted, answer, accepted, given, last_out, old_out}
use Rattle.history.specs.Rules as Rules
use Rattle.history.specs.Claim.{Tick, answers, Claim}
use Rattle.history.specs.ManLaws.{Operated, operated-each}
use Rattle.history.proofs.Lists.{present, standing_at, ground-same}
use Rattle.history.proofs.Sound.{Sound, sound-start, sound-write}
use Rattle.history.proofs.Ruled.{Written, ain_at, tot_at, ao_at, di_at, dout_at, tot_in, device_of, ruled-start, ruled-wrote}
use Rattle.history.proofs.Telegrams.{ruled-telegram, ruled-warm}
use Rattle.history.proofs.Loads.{refused-other, load-answer, load-refused, ruled-load, loaded-came}
use Rattle.history.proofs.TickStep.{ain-given, ao-given, di-given, dout-given, order_is, order-d-is, good-is, good-d-is, ruled-tick}
use Rattle.history.proofs.ReadBack.{reads_same, image-answer, image-same}

-- what holds of a device and the accepted events
pub record Holds (d : Device) (h : History Event) : Type 0 where
  pub ruled : d ≡ device_of h
  -- the pair last given is what reads of OUT or OUT_D gave after the tick before
  pub last : (B : ℕ) → Operated B → given B h ≡ last_out B h
  pub sound : Sound h
  -- the device has a table where one came
  pub tabled : has_table (table_of (table h)) ≡ Rules.tabled h
  pub ticks : Each Tick h

-- ---- a write

-- block 0 has one parameter
only-lock : (s : Standing) (block number a b : ℕ) → ground s block number a b ≡ granted → eqb block 0 ≡ true → eqb number 18 ≡ true
unfolding ground entry_of entry_in Table.physical
only-lock s block number a b t e = go (eqb number 18) (subst (λ (x : Answer). T (is_accepted x)) (sym (sym (ap (λ (x : ℕ). ground s x number a b) (eqb-true block 0 e)) ∙ t)) tt)
  where
    go : (p : Bool) → T (is_accepted (ground_by s 0 number a b (cond p (Ok (record { class = N; allowed = Lock })) (Err (refusal 2))))) → p ≡ true
    go true t = refl
    go false t = absurd t

-- an accepted status of OUT, TOTAL or OUT_D is a byte, and so is OUT_D's value
module _ (a b : ℕ) where
  abbrev Small : ℕ → ℕ → Entry → Type 0
  Small block number e = T (takes e a b) → T (among (outputs block) number) → Written block a b

  -- OUT and TOTAL: a value in its range, and a byte; the other rows are not among the outputs
  byte : (range : Bool) → T (range && leb b 255) → (⊥ → a ≤ 255) × (b ≤ 255)
  byte range t = (λ n. absurd n, leb→le b 255 (and_r range (leb b 255) t))

  bytes : {X : Type 0} → T (leb a 1 && leb b 255) → (X → a ≤ 255) × (b ≤ 255)
  bytes t = (λ x. under (leb→le a 1 (and_l (leb a 1) (leb b 255) t)), leb→le b 255 (and_r (leb a 1) (leb b 255) t))
    where
      under : a ≤ 1 → a ≤ 255
      under s = omega arith

  no : {A W : Type 0} → A → ⊥ → W
  no t m = absurd m

  status-small : (block number : ℕ) → T (present number (entry_of block number)) → Small block number (entry_of block number)
  unfolding outputs allows_of Table.physical Table.ain Table.tot Table.ao Table.di Table.dout Table.discrete
  status-small =
      by_rows
      present
      Small
      (λ block number t. absurd t)
      (λ block number t. absurd t)
      (no also tt)
      (no also no also no also no also (λ t m. byte (finite (float_of a)) t) also no also no also no also no also no also no also no also no also no also no also no also tt)
      (no also no also no also (λ t m. byte (within (of_int binary32 (negsuc 999_999_999)) (of_int binary32 (pos 1_000_000_000)) (float_of a)) t) also no also no also no also no also tt)
      (no also no also no also no also no also no also no also no also (λ t m. byte (finite (float_of a)) t) also no also tt)
      (no also no also no also (λ t m. bytes t) also no also no also no also tt)
      (no also no also no also (λ t m. bytes t) also no also no also no also no also tt)

-- one that is taken has a row
taken-present : (e : Entry) (number a b : ℕ) → T (takes e a b) → T (present number e)
taken-present (Ok p) number a b t = tt
taken-present (Err r) number a b t = t

-- what stands, by the device and by the rules
standing-same : (h : History Event) → has_table (table_of (table h)) ≡ Rules.tabled h → standing_of (device_of h) ≡ standing_at h
unfolding standing_at device_of ain_at tot_at ao_at di_at dout_at
standing-same h e = λ i. record { lock = code h 0 18; ain = code h 1 5; tot = code h 2 5; ao = code h 3 5; di = code h 4 5; dout = code h 5 5; table = e i }

write_same : (h : History Event) (block number a b : ℕ) → has_table (table_of (table h)) ≡ Rules.tabled h
    → ground (standing_of (device_of h)) block number a b ≡ to_write h block number a b
write_same h block number a b e = ap (λ (s : Standing). ground s block number a b) (standing-same h e) ∙ ground-same h a b block number

write-ruled : (h : History Event) (block number a b : ℕ) → T (ltb a (2 ^ 32) && ltb b (2 ^ 32)) → Holds (device_of h) h
    → Holds (write_of (device_of h) block number a b).device (cond (is_accepted (to_write h block number a b)) (h ▷ wrote block number a b) h)
unfolding write_of
write-ruled h block number a b fit H = go (to_write h block number a b) refl (write_same h block number a b H.tabled)
  where
    go : (x : Answer) → to_write h block number a b ≡ x → ground (standing_of (device_of h)) block number a b ≡ to_write h block number a b
        → Holds (write_by (device_of h) block number a b (ground (standing_of (device_of h)) block number a b)).device (cond (is_accepted (to_write h block number a b)) (h ▷ wrote block number a b) h)
    go (Ok u) e f =
        let met = f ∙ e in
        let taken = accepted-takes (standing_of (device_of h)) block number a b met in
        rw (f, e) (record {
          ruled = ruled-wrote h block number a b (only-lock (standing_of (device_of h)) block number a b met)
              (λ B e m. subst (λ (x : ℕ). Written x a b) (eqb-true block B e) (status-small a b block number (taken-present (entry_of block number) number a b taken) taken (subst (λ (x : ℕ). T (among (outputs x) number)) (sym (eqb-true block B e)) m))) H.last;
          last = unfold given last_out carried in H.last;
          sound = sound-write h (standing_of (device_of h)) block number a b H.sound (subst (λ (x : Answer). T (is_accepted x)) (sym met) tt) fit;
          tabled = unfold table Rules.tabled latest in H.tabled;
          ticks = (H.ticks, tt);
        })
    go (Err r) e f = rw (f, e) H

-- ---- the other calls

-- bytes by their length
five : (d : Device) (input : ℕ) (bytes : List ℕ) (q : Bool)
    → (received_by (Ao.taken_on d.ao.state input) d.ao.state (cond q (Ok (record { bits = word_of (get_or bytes 0 0) (get_or bytes 1 0) (get_or bytes 2 0) (get_or bytes 3 0); status = get_or bytes 4 0 })) (Err WrongLength))).answer
    ≡ cond (not q) (Err WrongLength) granted
five d input bytes true = refl
five d input bytes false = refl

two : (d : Device) (input : ℕ) (bytes : List ℕ) (q : Bool)
    → (received_by (Dout.taken_on d.dout.state input) d.dout.state (cond q (Ok (record { value = get_or bytes 0 0; status = get_or bytes 1 0 })) (Err WrongLength))).answer
    ≡ cond (not q) (Err WrongLength) granted
two d input bytes true = refl
two d input bytes false = refl

-- what a telegram is answered, by its input
telegram-answer : (d : Device) (input : ℕ) (bytes : List ℕ) → (telegram_of d input bytes).answer ≡ to_telegram input bytes
unfolding telegram_of Ao.telegram_of Dout.telegram_of pair_of discrete_of to_telegram
telegram-answer d zero bytes = five d 0 bytes (eqb (length bytes) 5)
telegram-answer d (suc zero) bytes = five d 1 bytes (eqb (length bytes) 5)
telegram-answer d (suc (suc zero)) bytes = two d 2 bytes (eqb (length bytes) 2)
telegram-answer d (suc (suc (suc zero))) bytes = two d 3 bytes (eqb (length bytes) 2)
telegram-answer d (suc (suc (suc (suc n)))) bytes = rw (lt-ltb 1 (suc (suc (suc (suc n)))) (omega arith), lt-ltb 3 (suc (suc (suc (suc n)))) (omega arith), ne_eqb (suc (suc (suc (suc n)))) 2 (omega arith), ne_eqb (suc (suc (suc (suc n)))) 3 (omega arith))

telegram-ruled : (h : History Event) (input : ℕ) (bytes : List ℕ) → Holds (device_of h) h
    → Holds (telegram_of (device_of h) input bytes).device (cond (is_accepted (to_telegram input bytes)) (h ▷ Event.telegram input bytes) h)
telegram-ruled h input bytes H = go (to_telegram input bytes) refl
  where
    below : (n : ℕ) → n ≤ 3 → n < 4
    below n s = omega arith

    accepted-is : to_telegram input bytes ≡ granted → (input < 4) × (eqb (length bytes) (Rules.telegram_bytes input) ≡ true)
    accepted-is = unfold to_telegram in by (ltb 3 input) refl (eqb (length bytes) (Rules.telegram_bytes input))
      where
        by : (p : Bool) → ltb 3 input ≡ p → (q : Bool) → cond p (Rules.refused 8) (cond (not q) (Rules.refused 7) granted) ≡ granted → (input < 4) × (q ≡ true)
        by true e q t = absurd (refused-other t)
        by false e false t = absurd (refused-other t)
        by false e true t = (below input (ltb-false 3 input e), refl)

    go : (x : Answer) → to_telegram input bytes ≡ x → Holds (telegram_of (device_of h) input bytes).device (cond (is_accepted (to_telegram input bytes)) (h ▷ Event.telegram input bytes) h)
    go (Ok u) e = rw e (record {
      ruled = ruled-telegram h bytes input (accepted-is e).0 (accepted-is e).1;
      last = unfold given last_out carried in H.last;
      sound = unfold stored latest in H.sound;
      tabled = unfold table Rules.tabled latest in H.tabled;
      ticks = (H.ticks, tt);
    })
    go (Err r) e = rw (e, refused-telegram (device_of h) input bytes r (telegram-answer (device_of h) input bytes ∙ e)) H

load-ruled : (h : History Event) (bytes : List ℕ) → Holds (device_of h) h
    → Holds (load_of (device_of h) bytes).device (cond (is_accepted (to_load h bytes)) (h ▷ loaded bytes) h)
load-ruled h bytes H = go (to_load h bytes) refl
  where
    go : (x : Answer) → to_load h bytes ≡ x → Holds (load_of (device_of h) bytes).device (cond (is_accepted (to_load h bytes)) (h ▷ loaded bytes) h)
    go (Ok u) e = rw e (record {
      ruled = ruled-load h bytes e;
      last = unfold given last_out carried in H.last;
      sound = unfold stored latest in H.sound;
      tabled = loaded-came h bytes e;
      ticks = (H.ticks, tt);
    })
    go (Err r) e = rw (e, load-refused (device_of h) bytes r (load-answer h bytes ∙ e)) H

tick-ruled : (h : History Event) (fault : Bool) (fed : Fed) → Holds (device_of h) h → Holds (after (device_of h) (tick fault fed)) (h ▷ event (device_of h) (tick fault fed))
unfolding after event read_of entry_of entry_in Table.ain Table.ao Table.di Table.dout Table.discrete words_of ain_words ao_words di_words dout_words discrete_words stored latest last_out carried
tick-ruled h fault fed H = record {
  ruled = ruled-tick h H.sound fault fed old seen (λ i. (ain-given h H.sound fault fed old seen i).bits);
  last =
      operated-each (λ (B : ℕ). given B after-tick ≡ last_out B after-tick) (sym (ain-given h H.sound fault fed old seen)) (sym (ao-given h H.sound fault fed old seen))
      (λ i. paired (sym (di-given h H.sound fault fed old seen) i)) (λ i. paired (sym (dout-given h H.sound fault fed old seen) i));
  sound = H.sound;
  tabled = unfold table Rules.tabled in H.tabled;
  ticks = (
    H.ticks,
    record {
      drive = order_is h H.sound fault fed old seen;
      drive_d = order-d-is h H.sound fault fed old seen;
      quality = good-is h H.sound fault fed old seen;
      quality_d = good-d-is h H.sound fault fed old seen;
    },
  );
}
  where
    old : (B : ℕ) → Operated B → (given B h).bits ≡ old_out B h
    old B o = unfold old_out in λ i. (H.last B o i).bits

    seen : Seen
    seen = seen_of (ticked_by (device_of h) fault fed)

    after-tick : History Event
    after-tick = h ▷ ticked fault fed seen

    paired : Discrete → Pair
    paired p = Rules.pair p.value p.status

warm-ruled : (h : History Event) → Holds (device_of h) h → Holds (warm_started (device_of h)) (h ▷ Event.warmed)
warm-ruled h H = record {
  ruled = ruled-warm h;
  last = unfold given last_out carried in λ B o i. Rules.held (H.last B o i);
  sound = unfold stored latest in H.sound;
  tabled = unfold table Rules.tabled latest in H.tabled;
  ticks = (H.ticks, tt);
}

-- each call, from the device by the rules
call-ruled : (t : History Event) (c : Call) → T (fitting c) → Holds (device_of (accepted t)) (accepted t) → Holds (after (device_of (accepted t)) c) (accepted (t ▷ event (device_of (accepted t)) c))
unfolding after event accepted
call-ruled t (tick fault fed) fit H = tick-ruled (accepted t) fault fed H
call-ruled t (Call.telegram input bytes) fit H = telegram-ruled (accepted t) input bytes H
call-ruled t (write block number a b) fit H = write-ruled (accepted t) block number a b fit H
call-ruled t (load bytes) fit H = load-ruled (accepted t) bytes H
call-ruled t warm_start fit H = warm-ruled (accepted t) H

step : (d : Device) (t : History Event) (c : Call) → T (fitting c) → Holds d (accepted t) → Holds (after d c) (accepted (t ▷ event d c))
step d t c fit H =
    subst (λ (x : Device). Holds (after x c) (accepted (t ▷ event x c))) (sym H.ruled)
    (call-ruled t c fit (subst (λ (x : Device). Holds x (accepted t)) H.ruled H))

-- a list of calls
run : (cs : List Call) (d : Device) (t : History Event) → T (all_fit cs) → Holds d (accepted t) → Holds (reached_from d cs) (accepted (trace_from d t cs))
unfolding reached_from trace_from
run [] d t fit H = H
run (c ∷ cs) d t fit H = run cs (after d c) (t ▷ event d c) (and_r (fitting c) (all_fit cs) fit) (step d t c (and_l (fitting c) (all_fit cs) fit) H)

start-holds : Holds factory_device (accepted start)
unfolding accepted
start-holds = record { ruled = ruled-start; last = unfold given last_out carried in λ B o. refl; sound = sound-start; tabled = unfold table Rules.tabled latest in refl; ticks = tt }

reached-holds : (cs : List Call) → T (all_fit cs) → Holds (reached cs) (accepted (trace cs))
unfolding reached trace
reached-holds cs fit = run cs factory_device start fit start-holds

-- ---- answers

write-answer : (d : Device) (block number a b : ℕ) (x : Answer) → (write_by d block number a b x).answer ≡ x
write-answer d block number a b (Ok u) = refl
write-answer d block number a b (Err r) = refl

next-same : (h : History Event) (c : Call) → has_table (table_of (table h)) ≡ Rules.tabled h → answers (device_of h) c ≡ answer h (event (device_of h) c)
unfolding event write_of
next-same h (tick fault fed) e = refl
next-same h (Call.telegram input bytes) e = telegram-answer (device_of h) input bytes
next-same h (write block number a b) e = write-answer (device_of h) block number a b (ground (standing_of (device_of h)) block number a b) ∙ write_same h block number a b e
next-same h (load bytes) e = load-answer h bytes
next-same h warm_start e = refl

-- Demand 3: of every list of calls whose words are of 32 bits.
pub demand-3 : (calls : List Call) → T (all_fit calls) → Claim calls
demand-3 calls fit =
    let H = reached-holds calls fit in
    let h = accepted (trace calls) in
    record {
      reads = λ block number. ap (λ (d : Device). read_of d block number) H.ruled ∙ reads_same h H.sound block number;
      total = ap (λ (d : Device). d.tot.state.total) H.ruled ∙ (unfold device_of tot_in in refl);
      ticks = H.ticks;
      next = λ c. ap (λ (d : Device). answers d c) H.ruled ∙ next-same h c H.tabled ∙ ap (λ (d : Device). answer h (event d c)) (sym H.ruled);
      image = λ buffer. (image-answer buffer, ap (λ (d : Device). image_bytes buffer d.ain.state.out d.tot.state.out d.ao.state.out d.di.state.out d.dout.state.out) H.ruled ∙ image-same h buffer);
    }

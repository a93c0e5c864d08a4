-- Laws of calls and reads, document 01, Parameters and Refused calls: what an accepted write, a refused call, a tick, a telegram and a warm start
-- do to what reads give. They hold of every device. Assumes nothing.
use Rattle.std.specs.Prelude.{◌≡◌, ℕ, ◌^◌, ◌<◌, Bool, true, false, cond, not, ◌&&◌, ◌||◌, T, List, ◌==◌, nat_eq, nat_lt, Ok, Err}
use Rattle.std.proofs.Math.Path.{refl, sym, ap}
use Rattle.std.proofs.Common.{◌∙◌, subst, arith, eqb-true, eq-eqb, ne_eqb}
use Rattle.std.specs.Float.Ieee.Fits.{and_l, and_r, and_i}
use Rattle.wire.specs.declared.Pair.{Pair}
use Rattle.wire.specs.declared.Discrete.{Discrete}
use Rattle.wire.specs.Refusal.{granted, Answer, ground as refusal}
use Rattle.wire.specs.declared.Refusal.{Refusal}
use Rattle.wire.specs.Bytes.{pair_of, discrete_of}
use Rattle.blocks.specs.Laws.{refused-keeps}
use Rattle.ain.specs.declared.State.{State as AinState}
use Rattle.tot.specs.declared.State.{State as TotState}
use Rattle.ao.specs.declared.State.{State as AoState}
use Rattle.ao.specs.State.{operated_by}
use Rattle.ao.specs.Telegram.{taken_on, telegram_of as ao_telegram}
use Rattle.di.specs.declared.State.{State as DiState}
use Rattle.dout.specs.declared.State.{State as DoutState}
use Rattle.dout.specs.State.{operated_by as operated_dout}
use Rattle.dout.specs.Telegram.{telegram_of as dout_telegram}
use Rattle.dout.specs.Telegram as Dout
use Rattle.parameters.specs.declared.Words.{Words}
use Rattle.parameters.specs.declared.Class.TheVariants.{N}
use Rattle.parameters.specs.declared.Allowed.TheVariants.{Lock}
use Rattle.parameters.specs.Table.{Row, Entry, words, physical, ain, tot, ao, di, dout, discrete, entry_in, entry_of, is_static}
use Rattle.parameters.specs.Words.{allows_of, code, float, ends}
use Rattle.parameters.specs.Refused.{read_only, stored_entry, ground}
use Rattle.parameters.specs.Laws.{by-block, no_block, by_rows, ◌also◌, takes, accepted-takes, shown_by, shown-back}
use Rattle.device.specs.declared.AinBlock.{AinBlock}
use Rattle.device.specs.declared.TotBlock.{TotBlock}
use Rattle.device.specs.declared.AoBlock.{AoBlock}
use Rattle.device.specs.declared.DiBlock.{DiBlock}
use Rattle.device.specs.declared.DoutBlock.{DoutBlock}
use Rattle.device.specs.declared.Device.{Device}
use Rattle.device.specs.Calls.{Answered}
use Rattle.device.specs.Read.{Reading}
use Rattle.device.specs.Stored.{rev_after, ain_settings, tot_settings, ao_settings, di_settings, dout_settings}
use Rattle.device.specs.Stored.{ain_written, tot_written, ao_written, di_written, dout_written, stored_in}
use Rattle.device.specs.Read.{ain_words, tot_words, ao_words, discrete_words, di_words, dout_words, words_of, read_by, read_of}
use Rattle.device.specs.Calls.{standing_of, write_by, write_of, tick_of, ao_heard, dout_heard, telegram_of, warm_started}

-- what an accepted write moves of what reads give: the parameter written if it is stored, and its block's ST_REV if it is static
abbrev pub moves : ℕ → ℕ → ℕ → ℕ → Bool
moves block number block' number' =
    (block == block') && (stored_entry (entry_of block number) && number == number' || number' == 1 && is_static block number)

-- What a write of two 32-bit words does to what reads give.
pub record WriteLaw (d : Device) (block number a b : ℕ) (r : Answered) : Type 0 where
  -- P14a: a stored parameter reads as it was written, bit for bit
  pub back : r.answer ≡ granted → T (stored_entry (entry_of block number)) → read_of r.device block number ≡ Ok (words a b)
  -- R11: ST_REV counts a static write, whatever it changes
  pub counted : (rev : ℕ) → r.answer ≡ granted → 0 < block → read_of d block 1 ≡ Ok (words rev 0)
      → read_of r.device block 1 ≡ Ok (words (rev_after (is_static block number) rev) 0)
  -- every other read is as before; a write of OUT or TOTAL moves none
  pub others : (block' number' : ℕ) → moves block number block' number' ≡ false → read_of r.device block' number' ≡ read_of d block' number'
  -- R3: a refused write leaves the device as it was
  pub refused : (x : Refusal) → r.answer ≡ Err x → r.device ≡ d
  -- L3: no write moves an alarm
  pub alarms : r.device.ain.state.alarms ≡ d.ain.state.alarms

-- ---- what only ticks and starts move

-- the device with other block states
abbrev with_states : Device → AinState → TotState → AoState → DiState → DoutState → Device
with_states d x y z u v = record {
  write_locking = d.write_locking;
  ain = record { settings = d.ain.settings; state = x; st_rev = d.ain.st_rev; table = d.ain.table };
  tot = record { settings = d.tot.settings; state = y; st_rev = d.tot.st_rev };
  ao = record { settings = d.ao.settings; state = z; st_rev = d.ao.st_rev };
  di = record { settings = d.di.settings; state = u; st_rev = d.di.st_rev };
  dout = record { settings = d.dout.settings; state = v; st_rev = d.dout.st_rev };
}

-- stored parameters and ST_REV
abbrev pub lasting : ℕ → Entry → Bool
lasting number e = stored_entry e || number == 1

states-still : (d : Device) (x : AinState) (y : TotState) (z : AoState) (u : DiState) (v : DoutState) (block number : ℕ)
    → T (lasting number (entry_of block number)) → read_of (with_states d x y z u v) block number ≡ read_of d block number
unfolding read_of words_of ain_words tot_words ao_words di_words dout_words discrete_words physical ain tot ao di dout discrete
states-still d x y z u v =
    by_rows
    lasting
    (λ block number e. read_by (words_of (with_states d x y z u v) block number) e ≡ read_by (words_of d block number) e)
    (λ block number t. refl)
    (λ block number t. refl)
    (refl also tt)
    (refl also refl also refl also refl also refl also refl also refl also refl also refl also refl also refl also refl also refl also tt)
    (refl also refl also refl also refl also refl also refl also tt)
    (refl also refl also refl also refl also refl also refl also refl also refl also tt)
    (refl also refl also refl also refl also refl also tt)
    (refl also refl also refl also refl also refl also refl also tt)

-- R17: a tick, a telegram and a warm start leave stored parameters and ST_REV.
pub tick-keeps : (d : Device) (fault : Bool) (x y : Pair) (z : Discrete) (block number : ℕ) → T (lasting number (entry_of block number))
    → read_of (tick_of d fault x y z).device block number ≡ read_of d block number
unfolding tick_of
tick-keeps d fault x y z =
    let next = (tick_of d fault x y z).device in
    states-still d next.ain.state next.tot.state next.ao.state next.di.state next.dout.state

pub telegram-keeps : (d : Device) (input : ℕ) (bytes : List ℕ) (block number : ℕ) → T (lasting number (entry_of block number))
    → read_of (telegram_of d input bytes).device block number ≡ read_of d block number
unfolding telegram_of
telegram-keeps d input bytes block number t = go (nat_lt 1 input)
  where
    go : (b : Bool) → read_of (cond b (dout_heard d (dout_telegram d.dout.state input bytes)) (ao_heard d (ao_telegram d.ao.state input bytes))).device
        block number ≡ read_of d block number
    go true = states-still d d.ain.state d.tot.state d.ao.state d.di.state (dout_telegram d.dout.state input bytes).state block number t
    go false = states-still d d.ain.state d.tot.state (ao_telegram d.ao.state input bytes).state d.di.state d.dout.state block number t

pub warm-start-keeps : (d : Device) (block number : ℕ) → T (lasting number (entry_of block number))
    → read_of (warm_started d) block number ≡ read_of d block number
unfolding warm_started
warm-start-keeps d =
    let next = warm_started d in
    states-still d next.ain.state next.tot.state next.ao.state next.di.state next.dout.state

-- ---- telegrams

-- A refused telegram leaves the device as it was.
pub refused-telegram : (d : Device) (input : ℕ) (bytes : List ℕ) (r : Refusal) → (telegram_of d input bytes).answer ≡ Err r
    → (telegram_of d input bytes).device ≡ d
unfolding telegram_of ao_telegram dout_telegram
refused-telegram d input bytes r = go (nat_lt 1 input)
  where
    go : (b : Bool) → (cond b (dout_heard d (dout_telegram d.dout.state input bytes)) (ao_heard d (ao_telegram d.ao.state input bytes))).answer ≡ Err r
        → (cond b (dout_heard d (dout_telegram d.dout.state input bytes)) (ao_heard d (ao_telegram d.ao.state input bytes))).device ≡ d
    go true h =
        ap (with_states d d.ain.state d.tot.state d.ao.state d.di.state)
        (refused-keeps (Dout.lacking input) (Dout.taken_on d.dout.state input) d.dout.state (discrete_of bytes) r h)
    go false h =
        ap (λ (x : AoState). with_states d d.ain.state d.tot.state x d.di.state d.dout.state)
        (refused-keeps (nat_lt 1 input) (taken_on d.ao.state input) d.ao.state (pair_of bytes) r h)

-- ---- accepted writes

taken-shown : (e : Entry) (a b : ℕ) → a < 2 ^ 32 → b < 2 ^ 32 → T (takes e a b) → shown_by e (words a b) ≡ words a b
taken-shown (Ok p) a b f g t = shown-back (words a b) f g p.allowed (and_r (not (read_only p.class)) (allows_of p.allowed a b) t)
taken-shown (Err r) a b f g t = refl

-- the parameter written
stored-shown : (d : Device) (a b block number : ℕ) → T (stored_entry (entry_of block number))
    → read_of (stored_in d block number a b) block number ≡ Ok (shown_by (entry_of block number) (words a b))
unfolding read_of words_of ain_words tot_words ao_words di_words dout_words discrete_words physical ain tot ao di dout discrete stored_in
    ain_written tot_written ao_written di_written dout_written ain_settings tot_settings ao_settings di_settings dout_settings
stored-shown d a b =
    by_rows
    (λ number e. stored_entry e)
    (λ block number e. read_by (words_of (stored_in d block number a b) block number) e ≡ Ok (shown_by e (words a b)))
    (λ block number t. absurd t)
    (λ block number t. absurd t)
    (refl also tt)
    (refl also refl also refl also refl also refl also refl also refl also refl also refl also refl also refl also refl also tt)
    (refl also refl also refl also refl also refl also tt)
    (refl also refl also refl also refl also refl also refl also refl also tt)
    (refl also refl also refl also refl also tt)
    (refl also refl also refl also refl also refl also tt)

-- OUT, TOTAL and OUT_D: no read
abbrev unstored : ℕ → Entry → Bool
unstored number (Ok p) = not (read_only p.class) && not (stored_entry (Ok p))
unstored number (Err r) = false

outputs-still : (d : Device) (a b block' number' block number : ℕ) → T (unstored number (entry_of block number))
    → read_of (stored_in d block number a b) block' number' ≡ read_of d block' number'
unfolding read_of words_of ain_words tot_words ao_words di_words dout_words discrete_words physical ain tot ao di dout discrete stored_in
    ain_written tot_written ao_written di_written dout_written ain_settings tot_settings ao_settings di_settings dout_settings rev_after
    is_static entry_of entry_in operated_by operated_dout
outputs-still d a b block' number' =
    by_rows
    unstored
    (λ block number e. read_of (stored_in d block number a b) block' number' ≡ read_of d block' number')
    (λ block number t. absurd t)
    (λ block number t. absurd t)
    tt
    (refl also tt)
    (refl also tt)
    (refl also tt)
    (refl also tt)
    (refl also tt)

unlike : (rows : List Row) (number k : ℕ) → T (stored_entry (entry_in rows number)) → stored_entry (entry_in rows k) ≡ false → (number == k) ≡ false
unlike rows number k t f = ne_eqb number k (λ e. subst T f (subst (λ (m : ℕ). T (stored_entry (entry_in rows m))) e t))

-- another number of the block: `keep` passes a field that the number written does not name
module _ (number n : ℕ) (other : nat_eq number n ≡ false) where
  keep : {A : Type 0} (g : A → Words) (k : ℕ) (x y : A) (rest : Words) → cond (n == k) (g (cond (number == k) x y)) rest ≡ cond (n == k) (g y) rest
  keep g k x y rest = go (n == k) refl
    where
      go : (p : Bool) → (n == k) ≡ p → cond p (g (cond (number == k) x y)) rest ≡ cond p (g y) rest
      go true e = ap (λ (q : Bool). g (cond q x y)) (subst (λ (m : ℕ). (number == m) ≡ false) (eqb-true n k e) other)
      go false e = refl

  keep-rev : (counted : Bool) (rev : ℕ) (rest : Words) → (n == 1 && counted) ≡ false
      → cond (n == 1) (code (rev_after counted rev)) rest ≡ cond (n == 1) (code rev) rest
  unfolding rev_after
  keep-rev counted rev rest = go _ (n == 1) counted
    where
      go : (next : ℕ) (p c : Bool) → (p && c) ≡ false → cond p (code (cond c next rev)) rest ≡ cond p (code rev) rest
      go next true true e = cc
      go next true false e = refl
      go next false c e = refl

  module _ (a b : ℕ) where
    ain-kept : (s : AinBlock) → (n == 1 && is_static 1 number) ≡ false → ain_words (ain_written s number a b) n ≡ ain_words s n
    unfolding ain_words ain_written ain_settings
    ain-kept s r = simp (keep-rev (is_static 1 number), keep code, keep float, keep ends)

    tot-kept : (s : TotBlock) → (number == 10) ≡ false → (n == 1 && is_static 2 number) ≡ false → tot_words (tot_written s number a b) n ≡ tot_words s n
    unfolding tot_words tot_written tot_settings
    tot-kept s o r = simp (o, keep-rev (is_static 2 number), keep code, keep float)

    ao-kept : (s : AoBlock) → (n == 1 && is_static 3 number) ≡ false → ao_words (ao_written s number a b) n ≡ ao_words s n
    unfolding ao_words ao_written ao_settings operated_by
    ao-kept s r = simp (keep-rev (is_static 3 number), keep code, keep float, keep ends)

    di-kept : (s : DiBlock) → (n == 1 && is_static 4 number) ≡ false → di_words (di_written s number a b) n ≡ di_words s n
    unfolding di_words discrete_words di_written di_settings
    di-kept s r = simp (keep-rev (is_static 4 number), keep code)

    dout-kept : (s : DoutBlock) → (n == 1 && is_static 5 number) ≡ false → dout_words (dout_written s number a b) n ≡ dout_words s n
    unfolding dout_words discrete_words dout_written dout_settings operated_dout
    dout-kept s r = simp (keep-rev (is_static 5 number), keep code)

    lock-kept : (d : Device) → T (stored_entry (entry_of 0 number)) → read_of (stored_in d 0 number a b) 0 n ≡ read_of d 0 n
    unfolding read_of words_of stored_in entry_of entry_in physical
    lock-kept d t = go (number == 18) refl (n == 18) refl t
      where
        lock : Entry
        lock = Ok (record { class = N; allowed = Lock })

        go : (p : Bool) → (number == 18) ≡ p → (q : Bool) → (n == 18) ≡ q → T (stored_entry (cond p lock (Err (refusal 2))))
            → read_by (code a) (cond q lock (Err (refusal 2))) ≡ read_by (code d.write_locking) (cond q lock (Err (refusal 2)))
        go p e false f t = refl
        go false e true f t = absurd t
        go true e true f t = let z : true ≡ false = sym (eq-eqb number n (eqb-true number 18 e ∙ sym (eqb-true n 18 f))) ∙ other in cc

    block-kept : (d : Device) (block : ℕ) → T (stored_entry (entry_of block number)) → (n == 1 && is_static block number) ≡ false
        → read_of (stored_in d block number a b) block n ≡ read_of d block n
    unfolding read_of words_of stored_in entry_of entry_in ain tot ao di dout discrete
    block-kept d =
        by-block
        (λ (block : ℕ). T (stored_entry (entry_of block number)) → (n == 1 && is_static block number) ≡ false
        → read_of (stored_in d block number a b) block n ≡ read_of d block n)
        (λ t r. lock-kept d t)
        (λ t r. ap (λ (w : Words). read_by w (entry_in ain n)) (ain-kept d.ain r))
        (λ t r. ap (λ (w : Words). read_by w (entry_in tot n)) (tot-kept d.tot (unlike tot number 10 t refl) r))
        (λ t r. ap (λ (w : Words). read_by w (entry_in ao n)) (ao-kept d.ao r))
        (λ t r. ap (λ (w : Words). read_by w (entry_in di n)) (di-kept d.di r))
        (λ t r. ap (λ (w : Words). read_by w (entry_in dout n)) (dout-kept d.dout r))
        (λ block h t r. absurd (subst (λ (e : Entry). T (stored_entry e)) (no_block block number h) t))

-- another block
other-kept : (d : Device) (block number a b n block' : ℕ) → (block == block') ≡ false → read_of (stored_in d block number a b) block' n ≡ read_of d block' n
unfolding read_of words_of stored_in entry_of
other-kept d block number a b n =
    by-block
    (λ (block' : ℕ). (block == block') ≡ false → read_of (stored_in d block number a b) block' n ≡ read_of d block' n)
    (λ e. rw e)
    (λ e. rw e)
    (λ e. rw e)
    (λ e. rw e)
    (λ e. rw e)
    (λ e. rw e)
    (λ block' h e. rw (no_block block' n h))

-- ST_REV of the block written
abbrev first_of : Reading → ℕ
first_of (Ok w) = w.first
first_of (Err r) = 0

stored-counts : (d : Device) (number a b rev block : ℕ) → 0 < block → T (takes (entry_of block number) a b) → read_of d block 1 ≡ Ok (words rev 0)
    → read_of (stored_in d block number a b) block 1 ≡ Ok (words (rev_after (is_static block number) rev) 0)
unfolding read_of words_of ain_words tot_words ao_words di_words dout_words discrete_words entry_of entry_in ain tot ao di dout discrete
    stored_in ain_written tot_written
    ao_written di_written dout_written
stored-counts d number a b rev =
    by-block
    (λ (block : ℕ). 0 < block → T (takes (entry_of block number) a b) → read_of d block 1 ≡ Ok (words rev 0)
    → read_of (stored_in d block number a b) block 1 ≡ Ok (words (rev_after (is_static block number) rev) 0))
    (λ h t e. absurd (omega arith))
    (λ h t e. ap (λ (x : Reading). Ok (words (rev_after (is_static 1 number) (first_of x)) 0)) e)
    (λ h t e. ap (λ (x : Reading). Ok (words (rev_after (is_static 2 number) (first_of x)) 0)) e)
    (λ h t e. ap (λ (x : Reading). Ok (words (rev_after (is_static 3 number) (first_of x)) 0)) e)
    (λ h t e. ap (λ (x : Reading). Ok (words (rev_after (is_static 4 number) (first_of x)) 0)) e)
    (λ h t e. ap (λ (x : Reading). Ok (words (rev_after (is_static 5 number) (first_of x)) 0)) e)
    (λ block h f t e. absurd (subst (λ (x : Entry). T (takes x a b)) (no_block block number h) t))

unstored-by : (e : Entry) (number a b : ℕ) → T (takes e a b) → stored_entry e ≡ false → T (unstored number e)
unstored-by (Err r) number a b t f = t
unstored-by (Ok p) number a b t f =
    and_i (not (read_only p.class)) (not (stored_entry (Ok p))) (and_l (not (read_only p.class)) (allows_of p.allowed a b) t)
    (subst (λ (x : Bool). T (not x)) (sym f) tt)

stored-keeps : (d : Device) (block number a b block' number' : ℕ) → moves block number block' number' ≡ false → T (takes (entry_of block number) a b)
    → read_of (stored_in d block number a b) block' number' ≡ read_of d block' number'
stored-keeps d block number a b block' number' m t = go (block == block') refl (stored_entry (entry_of block number)) refl (number == number') refl m
  where
    go : (p : Bool) → (block == block') ≡ p → (s : Bool) → stored_entry (entry_of block number) ≡ s → (q : Bool) → (number == number') ≡ q
        → (p && (s && q || number' == 1 && is_static block number)) ≡ false → read_of (stored_in d block number a b) block' number' ≡ read_of d block' number'
    go false e s f q g m = other-kept d block number a b number' block' e
    go true e false f q g m = outputs-still d a b block' number' block number (unstored-by (entry_of block number) number a b t f)
    go true e true f true g m = cc
    go true e true f false g m =
        subst (λ (x : ℕ). read_of (stored_in d block number a b) x number' ≡ read_of d x number') (eqb-true block block' e)
        (block-kept number number' g a b d block (subst T (sym f) tt) m)

module _ (d : Device) (block number a b : ℕ) where
  answered : (write_of d block number a b).answer ≡ ground (standing_of d) block number a b
  unfolding write_of
  answered = go (ground (standing_of d) block number a b)
    where
      go : (g : Answer) → (write_by d block number a b g).answer ≡ g
      go (Ok u) = refl
      go (Err s) = refl

  -- the device is as it was, or it is an accepted write's
  by_answer : (P : Device → Type 0) → P d → (T (takes (entry_of block number) a b) → P (stored_in d block number a b)) → P (write_of d block number a b).device
  unfolding write_of
  by_answer P refused accepted = go (ground (standing_of d) block number a b) refl
    where
      go : (g : Answer) → ground (standing_of d) block number a b ≡ g → P (write_by d block number a b g).device
      go (Ok u) e = accepted (accepted-takes (standing_of d) block number a b e)
      go (Err s) e = refused

  module _ (e : (write_of d block number a b).answer ≡ granted) where
    taken : T (takes (entry_of block number) a b)
    taken = accepted-takes (standing_of d) block number a b (sym answered ∙ e)

    pub stored : (write_of d block number a b).device ≡ stored_in d block number a b
    unfolding write_of
    stored = ap (λ (g : Answer). (write_by d block number a b g).device) (sym answered ∙ e)

  left-as-was : (x : Refusal) → (write_of d block number a b).answer ≡ Err x → (write_of d block number a b).device ≡ d
  unfolding write_of
  left-as-was x e = ap (λ (g : Answer). (write_by d block number a b g).device) (sym answered ∙ e)

  no-alarm : T (takes (entry_of block number) a b) → (stored_in d block number a b).ain.state.alarms ≡ d.ain.state.alarms
  unfolding stored_in ain_written
  no-alarm t = go (block == 1)
    where
      go : (p : Bool) → (cond p (ain_written d.ain number a b) d.ain).state.alarms ≡ d.ain.state.alarms
      go true = refl
      go false = refl

  pub write-law : a < 2 ^ 32 → b < 2 ^ 32 → WriteLaw d block number a b (write_of d block number a b)
  write-law f g = record {
    back =
        λ e t. ap (λ (x : Device). read_of x block number) (stored e) ∙ stored-shown d a b block number t
        ∙ ap Ok (taken-shown (entry_of block number) a b f g (taken e));
    counted = λ rev e h r. ap (λ (x : Device). read_of x block 1) (stored e) ∙ stored-counts d number a b rev block h (taken e) r;
    others =
        λ block' number' m. by_answer (λ (x : Device). read_of x block' number' ≡ read_of d block' number') refl
        (stored-keeps d block number a b block' number' m);
    refused = left-as-was;
    alarms = by_answer (λ (x : Device). x.ain.state.alarms ≡ d.ain.state.alarms) refl no-alarm;
  }

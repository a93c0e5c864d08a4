-- What calls on the device that `replay` hands back answer, by the claim about its list of calls. Assumes nothing.
use Prim.Native.Nat.{ℕ, ◌<◌}
use mathlib.Core.Path.{◌≡◌, refl, ap, ◌∙◌, subst}
use mathlib.Core.Bool.{Bool}
use mathlib.Core.List.{List, [], ◌∷◌, ◌++◌}
use Rattle.std.specs.Prelude.{Option, Some, None}
use Rattle.std.specs.Option.{unwrap_or}
use lib.Dec.{T}
use lib.Ieee.Fits.{and_l, and_r, and_i}
use lib.ListN.{length, get_or}
use Rattle.wire.specs.declared.Pair.{Pair}
use Rattle.wire.specs.declared.Discrete.{Discrete}
use Rattle.wire.specs.Image.{image_answer, image_bytes}
use Rattle.device.specs.declared.Device.{Device}
use Rattle.device.specs.Factory.{factory_device}
use Rattle.device.specs.Read.{read_of}
use Rattle.device.specs.Calls.{tick_of, write_of, telegram_of, load_of}
use Rattle.history.specs.Past.{History, start, ◌▷◌, Each}
use Rattle.history.specs.Calls.{Fed, ticked_by, seen_of, Call, tick, write, load, Event, fitting, all_fit, after, event, reached_from, trace_from, reached, trace}
use Rattle.history.specs.Rules.{accepted, reading, total, order, order_d, to_write, to_telegram, to_load}
use Rattle.history.specs.Rules as Rules
use Rattle.history.specs.Claim.{TickClaim, Tick, Claim}
use Rattle.history.specs.Encoded.{calls_in, decoded, Replays, listed, heard}
use Rattle.history.proofs.Theorem.{demand-3}
use Rattle.history.proofs.Run.{fit_o, all-fit}

-- one call more
reached-more : (cs : List Call) (c : Call) (d : Device) → reached_from d (cs ++ (c ∷ [])) ≡ after (reached_from d cs) c
unfolding reached_from
reached-more [] c d = refl
reached-more (x ∷ cs) c d = reached-more cs c (after d x)

trace-more : (cs : List Call) (c : Call) (d : Device) (h : History Event) → trace_from d h (cs ++ (c ∷ [])) ≡ trace_from d h cs ▷ event (reached_from d cs) c
unfolding reached_from trace_from
trace-more [] c d h = refl
trace-more (x ∷ cs) c d h = trace-more cs c (after d x) (h ▷ event d x)

fit-more : (cs : List Call) (c : Call) → T (all_fit cs) → T (fitting c) → T (all_fit (cs ++ (c ∷ [])))
fit-more [] c t f = and_i (fitting c) (all_fit []) f tt
fit-more (x ∷ cs) c t f = and_i (fitting x) (all_fit (cs ++ (c ∷ []))) (and_l (fitting x) (all_fit cs) t) (fit-more cs c (and_r (fitting x) (all_fit cs) t) f)

-- the orders of a tick after a list
tick-next : (cs : List Call) → T (all_fit cs) → (fault : Bool) (fed : Fed) → TickClaim (accepted (trace cs)) fault fed (seen_of (ticked_by (reached cs) fault fed))
unfolding reached trace event accepted
tick-next cs fit fault fed =
    let all = (demand-3 (cs ++ (tick fault fed ∷ [])) (fit-more cs (tick fault fed) fit tt)).ticks in
    (subst (λ (h : History Event). Each Tick (accepted h)) (trace-more cs (tick fault fed) factory_device start) all).1

-- the device that a list leads to; a malformed one to that without a call
pub reached_or_factory : (s : List ℕ) (r : Option Device) → Replays s r → unwrap_or r factory_device ≡ reached (listed (decoded s))
unfolding reached reached_from
reached_or_factory s r R = go (decoded s) refl
  where
    go : (m : Option (List Call)) → decoded s ≡ m → unwrap_or r factory_device ≡ reached (listed m)
    go None e = rw (R.refused e)
    go (Some cs) e = rw (R.reaches cs e)

pub image_answered : (buffer : List ℕ) → image_answer buffer ≡ Rules.to_image buffer
image_answered buffer = ((demand-3 [] tt).image buffer).0

module _ (s : List ℕ) (bytes : (i : ℕ) → get_or s i 0 < 256) (d : Device) (is : d ≡ reached (listed (decoded s))) where
  -- the list that it leads to; a malformed one to that without a call
  fits : T (all_fit (listed (decoded s)))
  unfolding decoded
  fits = go (calls_in (length s) s) (all-fit (length s) s bytes)
    where
      go : (m : Option (List Call)) → T (fit_o m) → T (all_fit (listed m))
      go None t = tt
      go (Some cs) t = t

  claimed : Claim (listed (decoded s))
  claimed = demand-3 (listed (decoded s)) fits

  pub read_is : (block number : ℕ) → read_of d block number ≡ reading (heard s) block number
  unfolding heard
  read_is block number = ap (λ (d : Device). read_of d block number) is ∙ claimed.reads block number

  pub total_is : d.tot.state.total ≡ total (heard s)
  unfolding heard
  total_is = ap (λ (d : Device). d.tot.state.total) is ∙ claimed.total

  pub drive_is : (fault : Bool) (ain tot : Pair) (di : Discrete) → (tick_of d fault ain tot di).order ≡ order (heard s) fault
  unfolding heard
  drive_is fault ain tot di = let fed : Fed = record { ain = ain; tot = tot; di = di } in ap (λ (d : Device). (ticked_by d fault fed).order) is ∙ (tick-next (listed (decoded s)) fits fault fed).drive

  pub drive_d_is : (fault : Bool) (ain tot : Pair) (di : Discrete) → (tick_of d fault ain tot di).order_d ≡ order_d (heard s) fault
  unfolding heard
  drive_d_is fault ain tot di = let fed : Fed = record { ain = ain; tot = tot; di = di } in ap (λ (d : Device). (ticked_by d fault fed).order_d) is ∙ (tick-next (listed (decoded s)) fits fault fed).drive_d

  pub write_is : (block number a b : ℕ) → (write_of d block number a b).answer ≡ to_write (heard s) block number a b
  unfolding heard event
  write_is block number a b = ap (λ (d : Device). (write_of d block number a b).answer) is ∙ claimed.next (write block number a b)

  pub telegram_is : (input : ℕ) (lent : List ℕ) → (telegram_of d input lent).answer ≡ to_telegram input lent
  unfolding event
  telegram_is input lent = ap (λ (d : Device). (telegram_of d input lent).answer) is ∙ claimed.next (Call.telegram input lent)

  pub load_is : (lent : List ℕ) → (load_of d lent).answer ≡ to_load (heard s) lent
  unfolding heard event
  load_is lent = ap (λ (d : Device). (load_of d lent).answer) is ∙ claimed.next (load lent)

  pub image_is : (buffer : List ℕ) → image_bytes buffer d.ain.state.out d.tot.state.out d.ao.state.out d.di.state.out d.dout.state.out ≡ Rules.image (heard s) buffer
  unfolding heard
  image_is buffer = ap (λ (d : Device). image_bytes buffer d.ain.state.out d.tot.state.out d.ao.state.out d.di.state.out d.dout.state.out) is ∙ (claimed.image buffer).1

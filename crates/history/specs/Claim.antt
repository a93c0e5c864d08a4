-- The claim of demand 3, document 01, History rules: one statement about a whole list of calls, refused ones too, from the factory device. Assumes nothing.
use Rattle.std.specs.Prelude.{ℕ, ◌≡◌, Bool, ◌&&◌, List, T, eqb}
use Rattle.std.specs.Float.Ieee.Scale.{finite}
use Rattle.wire.specs.Refusal.{granted, Answer}
use Rattle.wire.specs.Status.{quality_of}
use Rattle.wire.specs.Image.{image_answer, image_bytes}
use Rattle.device.specs.declared.Device.{Device}
use Rattle.device.specs.Read.{read_of}
use Rattle.device.specs.Calls.{telegram_of, write_of, load_of}
use Rattle.history.specs.Past.{History, Each}
use Rattle.history.specs.Calls.{Fed, Seen, Call, tick, write, load, warm_start, Event, ticked, telegram, wrote, loaded, warmed, event, reached, trace}
use Rattle.history.specs.Rules.{is_auto, answer, accepted, calculated, filter_value, is_bit, total, order, order_d, reading, to_image, image}

-- R8: Good is quality 2, and not 3
abbrev pub good : ℕ → Bool
good status = eqb (quality_of status) 2

-- what is claimed of a tick, by the accepted events before it
pub record TickClaim (h : History Event) (fault : Bool) (fed : Fed) (seen : Seen) : Type 0 where
  -- C3, Q3.6: its drive orders, in every mode
  pub drive : seen.order ≡ order h fault
  pub drive_d : seen.order_d ≡ order_d h fault
  -- R8: in Auto AIN is Good exactly when its input was and the calculated value is finite
  pub quality : T (is_auto h fault 1) → good seen.ain.second ≡ (good fed.ain.status && finite (calculated h (filter_value h) fed.ain))
  -- Q3.11: and DI exactly when its input was and its value is 0 or 1
  pub quality_d : T (is_auto h fault 4) → good seen.di.second ≡ (good fed.di.status && is_bit fed.di.value)

abbrev pub Tick : History Event → Event → Type 0
Tick h (ticked fault fed seen) = TickClaim h fault fed seen
Tick h (telegram input bytes) = Unit
Tick h (wrote block number a b) = Unit
Tick h (loaded bytes) = Unit
Tick h warmed = Unit

-- what a device answers a call; ticks and warm starts have no answer to refuse with and count as accepted
abbrev pub answers : Device → Call → Answer
answers d (tick fault fed) = granted
answers d (Call.telegram input bytes) = (telegram_of d input bytes).answer
answers d (write block number a b) = (write_of d block number a b).answer
answers d (load bytes) = (load_of d bytes).answer
answers d warm_start = granted

-- what is claimed of a list of calls, h being its accepted events
pub record Claimed (calls : List Call) (h : History Event) : Type 0 where
  -- every read of every block and number, refusals included
  pub reads : (block number : ℕ) → read_of (reached calls) block number ≡ reading h block number
  -- R9: the total itself, of which a read gives the highest bits
  pub total : (reached calls).tot.state.total ≡ total h
  -- each tick of the list
  pub ticks : Each Tick h
  -- the answer to whatever call comes next, with the number of its refusal
  pub next : (call : Call) → answers (reached calls) call ≡ answer h (event (reached calls) call)
  -- the image call's answer, and what it leaves in a buffer
  pub image : (buffer : List ℕ) → (image_answer buffer ≡ to_image buffer)
      × (image_bytes buffer (reached calls).ain.state.out (reached calls).tot.state.out (reached calls).ao.state.out
      (reached calls).di.state.out (reached calls).dout.state.out ≡ image h buffer)

-- R1: one claim about the whole list
abbrev pub Claim : List Call → Type 0
Claim calls = Claimed calls (accepted (trace calls))

-- A list of calls as bytes, and what the function that replays one promises. The encoding is ours: the paper names none. Assumes nothing.
use Rattle.std.specs.Prelude.{ℕ, zero, suc, ◌+◌, ◌*◌, ◌≡◌, cond, List, [], ◌∷◌, eqb, ltb, length, get_or, take, drop, Option, Some, None, MatchOption, Result, Ok, Err}
use Rattle.wire.specs.declared.Refusal.{Refusal}
use Rattle.wire.specs.declared.Pair.{Pair}
use Rattle.wire.specs.declared.Discrete.{Discrete}
use Rattle.wire.specs.Bytes.{word_of, pair_of, discrete_of}
use Rattle.device.specs.declared.Device.{Device}
use Rattle.history.specs.declared.Call.{Call as CodeCall}
use Rattle.history.specs.declared.Call.TheVariants.{WarmStart, Tick, Write, Telegram, Load}
use Rattle.history.specs.Calls.{Call, Event, reached, trace}
use Rattle.history.specs.Past.{History}
use Rattle.history.specs.Rules.{accepted}
use Rattle.history.specs.Claim.{Claim}
use Rattle.history.specs.Points.{Points}
use Rattle.history.specs.Cited.{Cited}

-- what stands in front of bytes, and the bytes behind it
pub record Read (A : Type 0) : Type 0 where
  pub value : A
  pub rest : List ℕ

module _ {A : Type 0} where
  abbrev pub read : A → List ℕ → Option (Read A)
  read value rest = Some (record { value = value; rest = rest })

  -- what follows a value that was read; none where none was
  abbrev pub then_read : {B : Type 0} → Option (Read A) → (A → List ℕ → Option B) → Option B
  then_read None next = None
  then_read (Some r) next = next r.value r.rest

  abbrev pub unrefused : Result A Refusal → List ℕ → Option (Read A)
  unrefused (Ok value) rest = read value rest
  unrefused (Err r) rest = None

-- what a method of `Reader` gives and leaves, by what stands in front
module _ {A B : Type 0} where
  abbrev pub ReadsBy : (A → B) → Option (Read B) → Option A → List ℕ → Type 0
  ReadsBy view m r left = MatchOption r (m ≡ None) (λ a. m ≡ read (view a) left)

module _ {A : Type 0} where
  abbrev pub Reads : Option (Read A) → Option A → List ℕ → Type 0
  Reads = ReadsBy (λ (a : A). a)

-- n bytes, where there are as many
unfoldable pub next_bytes : ℕ → List ℕ → Option (Read (List ℕ))
next_bytes n s = cond (ltb (length s) n) None (read (take n s) (drop n s))

-- a byte, a word, highest byte first, and pairs as on the bus
unfoldable pub next_byte : List ℕ → Option (Read ℕ)
next_byte s = then_read (next_bytes 1 s) (λ b. read (get_or b 0 0))

unfoldable pub next_word : List ℕ → Option (Read ℕ)
next_word s = then_read (next_bytes 4 s) (λ b. read (word_of (get_or b 0 0) (get_or b 1 0) (get_or b 2 0) (get_or b 3 0)))

unfoldable pub next_pair : List ℕ → Option (Read Pair)
next_pair s = then_read (next_bytes 5 s) (λ b. unrefused (pair_of b))

unfoldable pub next_discrete : List ℕ → Option (Read Discrete)
next_discrete s = then_read (next_bytes 2 s) (λ b. unrefused (discrete_of b))

-- lent bytes: their length, eight bytes, and they
unfoldable pub next_lent : List ℕ → Option (Read (List ℕ))
next_lent s = then_read (next_word s) (λ high s. then_read (next_word s) (λ low. next_bytes (high * 0x1_0000_0000 + low)))

-- a tick: its fault flag, 0 or 1, and what it is fed
unfoldable pub next_tick : List ℕ → Option (Read Call)
next_tick s =
    then_read (next_byte s) (λ fault s. cond (ltb 1 fault) None
    (then_read (next_pair s) (λ ain s. then_read (next_pair s) (λ tot s. then_read (next_discrete s) (λ di.
    read (Call.tick (eqb fault 1) (record { ain = ain; tot = tot; di = di })))))))

unfoldable pub next_write : List ℕ → Option (Read Call)
next_write s =
    then_read (next_byte s) (λ block s. then_read (next_byte s) (λ number s.
    then_read (next_word s) (λ a s. then_read (next_word s) (λ b. read (Call.write block number a b)))))

unfoldable pub next_telegram : List ℕ → Option (Read Call)
next_telegram s = then_read (next_byte s) (λ input s. then_read (next_lent s) (λ bytes. read (Call.telegram input bytes)))

unfoldable pub next_load : List ℕ → Option (Read Call)
next_load s = then_read (next_lent s) (λ bytes. read (Call.load bytes))

-- a call: a byte that says which, and its arguments
abbrev pub arguments : ℕ → List ℕ → Option (Read Call)
arguments kind s =
    cond (eqb kind 0) (read Call.warm_start s)
    (cond (eqb kind 1) (next_tick s)
    (cond (eqb kind 2) (next_write s)
    (cond (eqb kind 3) (next_telegram s)
    (cond (eqb kind 4) (next_load s) None))))

unfoldable pub next_call : List ℕ → Option (Read Call)
next_call s = then_read (next_byte s) arguments

-- a call of the code, without where its bytes lie
abbrev pub called : CodeCall → Call
called WarmStart = Call.warm_start
called (Tick fault fed) = Call.tick fault (record { ain = fed.ain; tot = fed.tot; di = fed.di })
called (Write block number w) = Call.write block number w.first w.second
called (Telegram input bytes) = Call.telegram input bytes.now
called (Load bytes) = Call.load bytes.now

abbrev pub more : Call → Option (List Call) → Option (List Call)
more c None = None
more c (Some cs) = Some (c ∷ cs)

-- the calls of the bytes, at most so many; none where one is malformed
unfoldable pub calls_in : ℕ → List ℕ → Option (List Call)
calls_in zero [] = Some []
calls_in zero (b ∷ s) = None
calls_in (suc left) [] = Some []
calls_in (suc left) (b ∷ s) = then_read (next_call (b ∷ s)) (λ c s. more c (calls_in left s))

-- the list of calls that the bytes stand for: a call has at least one byte
unfoldable pub decoded : List ℕ → Option (List Call)
decoded s = calls_in (length s) s

-- what `replay` promises of the bytes it is lent and what it hands back
pub record Replays (s : List ℕ) (r : Option Device) : Type 0 where
  -- a malformed list is refused without a call made
  pub refused : decoded s ≡ None → r ≡ None
  -- the device reached by the list's calls
  pub reaches : (calls : List Call) → decoded s ≡ Some calls → r ≡ Some (reached calls)
  -- demand 3, of that list
  pub claim : (calls : List Call) → decoded s ≡ Some calls → Claim calls
  -- the points on the curve
  pub points : Points
  -- and the points of what the rules cite
  pub cited : Cited

-- the calls of the list, none where it is malformed, and their accepted events
abbrev pub listed : Option (List Call) → List Call
listed None = []
listed (Some cs) = cs

unfoldable pub heard : List ℕ → History Event
heard s = accepted (trace (listed (decoded s)))

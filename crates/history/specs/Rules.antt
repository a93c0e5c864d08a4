-- The history rules of document 01, with requests 1 to 3 of document 02: what the head answers, from the accepted events alone (R2): the arguments of
-- calls, and OUT of AIN and AO and OUT_D of DI and DO as read after each tick. Every memory and every choice is said here. What is cited of other
-- crates, arithmetic, encodings and the table's allowed words, is listed in tests/cited and pinned in Cited.
-- A letter and number before a colon is a sentence of the paper, as docs/TRACE.md counts them. Assumes nothing.
use Rattle.std.specs.Prelude.{ℕ, ◌+◌, ◌%◌, Bool, true, false, not, ◌&&◌, ◌||◌, cond, List, [], ◌∷◌, ◌++◌, eqb, ltb, ℤ, pos, Float, length, drop, Result, Ok, Err, Option, None, Some}
use Rattle.std.specs.Int.Signed.{lt_z}
use Rattle.std.specs.Float.{binary32}
use Rattle.std.specs.Float.Ieee.{of_int, add, sub, mul, div, eq, lt, le}
use Rattle.std.specs.Float.Ieee.Scale.{finite}
use Rattle.numbers.specs.Floats.{float_of, bits_of}
use Rattle.scaling.specs.declared.Scale.{Scale}
use Rattle.scaling.specs.Scaling.{fraction_of, at_fraction}
use Rattle.linearisation.specs.declared.Point.{Point}
use Rattle.linearisation.specs.Table.{pairs_in}
use Rattle.wire.specs.declared.Refusal.{Refusal}
use Rattle.wire.specs.declared.Pair.{Pair}
use Rattle.wire.specs.Refusal.{granted, Answer}
use Rattle.wire.specs.declared.Discrete.{Discrete}
use Rattle.wire.specs.Refusal.{ground}
use Rattle.wire.specs.Status.{quality_of, sub_status_of}
use Rattle.wire.specs.Bytes.{five_bytes, pair_of, two_bytes, discrete_of}
use Rattle.tot.specs.Total.{increment_of, thousandths_of, sum_of, value_given}
use Rattle.blocks.specs.declared.setpoint.Order.{Order}
use Rattle.blocks.specs.declared.setpoint.Order.TheVariants.{Position, Safe, Rest}
use Rattle.parameters.specs.declared.Words.{Words}
use Rattle.parameters.specs.Table.{Entry, entry_of}
use Rattle.parameters.specs.Words.{allows_of}
use Rattle.history.specs.Past.{History, start, ◌▷◌, count, count_since, since, told, latest, carried}
use Rattle.history.specs.Calls.{Fed, Seen, Event, ticked, telegram, wrote, loaded, warmed, words}

-- ---- the kinds of events

abbrev pub is_tick : Event → Bool
is_tick (ticked fault fed seen) = true
is_tick (telegram input bytes) = false
is_tick (wrote block number a b) = false
is_tick (loaded bytes) = false
is_tick warmed = false

-- R5: the factory call starts a history, and a warm start starts it anew
abbrev pub is_start : Event → Bool
is_start (ticked fault fed seen) = false
is_start (telegram input bytes) = false
is_start (wrote block number a b) = false
is_start (loaded bytes) = false
is_start warmed = true

-- what a tick, a start and any other event lead to
abbrev pub on_tick : {A : Type 0} → (Bool → Fed → Seen → A) → A → A → Event → A
on_tick f s other (ticked fault fed seen) = f fault fed seen
on_tick f s other (telegram input bytes) = other
on_tick f s other (wrote block number a b) = other
on_tick f s other (loaded bytes) = other
on_tick f s other warmed = s

-- ---- parameters

abbrev pub pair : ℕ → ℕ → Pair
pair bits status = record { bits = bits; status = status }

-- P1, Q3.2a: what each block has, by its number, and a number that is no block's
abbrev pub of_block : {A : Type 0} → A → A → A → A → A → A → A → ℕ → A
of_block physical ain tot ao di dout other block =
    cond (eqb block 0) physical
    (cond (eqb block 1) ain (cond (eqb block 2) tot (cond (eqb block 3) ao (cond (eqb block 4) di (cond (eqb block 5) dout other)))))

-- P3, P10 to P13e, Q1.3: the static parameters of AIN (TARGET_MODE, both scales, LIN_TYPE, PV_FTIME, type and value of the fail-safe, ALARM_HYS, four
-- limits), of TOT (TARGET_MODE, FAIL_TOT, PRESET_TOT) and of AO (TARGET_MODE, PV_SCALE, time, type and value of the fail-safe, INCREASE_CLOSE, OUT_SCALE)
-- Q3.2a, Q3.2b, Q3.3: of DI and DO (TARGET_MODE, INVERT, type and value of the fail-safe; of DO its time)
unfoldable pub statics : ℕ → List ℕ
statics =
    of_block [] (5 ∷ 11 ∷ 12 ∷ 13 ∷ 16 ∷ 17 ∷ 18 ∷ 19 ∷ 21 ∷ 23 ∷ 25 ∷ 27 ∷ []) (5 ∷ 15 ∷ 16 ∷ []) (5 ∷ 11 ∷ 23 ∷ 24 ∷ 25 ∷ 36 ∷ 38 ∷ [])
    (5 ∷ 15 ∷ 20 ∷ 21 ∷ []) (5 ∷ 15 ∷ 20 ∷ 21 ∷ 22 ∷ []) []

-- P3, P9, P12b, P12c: those that are kept and not counted: WRITE_LOCKING; SET_TOT and MODE_TOT. TOTAL, which is kept too, is among the outputs
unfoldable pub kepts : ℕ → List ℕ
kepts = of_block (18 ∷ []) [] (13 ∷ 14 ∷ []) [] [] [] []

-- P11b, P12a, P13f, Q3.2a: OUT of AIN, TOTAL, OUT of AO, OUT_D of DI and of DO
unfoldable pub outputs : ℕ → List ℕ
outputs = of_block [] (10 ∷ []) (10 ∷ []) (37 ∷ []) (10 ∷ []) (10 ∷ []) []

-- P3, P10, P11a, Q3.2a: read only are ST_REV and the actual mode, in AIN also the alarms
unfoldable pub read_onlys : ℕ → List ℕ
read_onlys = of_block [] (1 ∷ 6 ∷ 7 ∷ []) (1 ∷ 6 ∷ []) (1 ∷ 6 ∷ []) (1 ∷ 6 ∷ []) (1 ∷ 6 ∷ []) []

abbrev pub among : List ℕ → ℕ → Bool
among [] number = false
among (n ∷ ns) number = eqb number n || among ns number

unfoldable pub has : ℕ → ℕ → Bool
has block number = among (statics block ++ kepts block ++ outputs block ++ read_onlys block) number

-- P4, Q3.3: a parameter and its default words; the lists leave out defaults of two zeros
pub record Default : Type 0 where
  pub number : ℕ
  pub stands : Words

abbrev brackets : ℕ → ℕ → ℕ → Default
brackets number a b = record { number = number; stands = words a b }

unfoldable pub defaults : ℕ → List Default
defaults =
    of_block
    (brackets 18 2457 0 ∷ [])
    (brackets 5 0x08 0 ∷ brackets 11 0 0x42c8_0000 ∷ brackets 12 0 0x42c8_0000 ∷ brackets 17 1 0 ∷ brackets 19 0x3f00_0000 0
    ∷ brackets 21 0x7f80_0000 0 ∷ brackets 23 0x7f80_0000 0 ∷ brackets 25 0xff80_0000 0 ∷ brackets 27 0xff80_0000 0 ∷ [])
    (brackets 5 0x08 0 ∷ [])
    (brackets 5 0x08 0 ∷ brackets 11 0 0x42c8_0000 ∷ brackets 24 1 0 ∷ brackets 38 0 0x42c8_0000 ∷ [])
    (brackets 5 0x08 0 ∷ [])
    (brackets 5 0x08 0 ∷ [])
    []

abbrev pub or_zeros : List Default → ℕ → Words
or_zeros [] number = words 0 0
or_zeros (d ∷ ds) number = cond (eqb number d.number) d.stands (or_zeros ds number)

-- the words that an event writes to a parameter
abbrev pub words_to : ℕ → ℕ → Event → Option Words
words_to block number (ticked fault fed seen) = None
words_to block number (telegram input bytes) = None
words_to block number (wrote block' number' a b) = cond (eqb block' block && eqb number' number) (Some (words a b)) None
words_to block number (loaded bytes) = None
words_to block number warmed = None

abbrev pub or_else : {A : Type 0} → A → Option A → A
or_else other None = other
or_else other (Some a) = a

abbrev pub never : Event → Bool
never e = false

-- R10, P14a: a stored parameter has the words of the last accepted write to it, before any its default; a warm start leaves it (R17)
unfoldable pub stored : History Event → ℕ → ℕ → Words
stored h block number = or_else (or_zeros (defaults block) number) (latest (λ p. words_to block number) never h)

-- P8: stored words as a whole number, as a single by its bits, and as the two ends of a scale
abbrev pub code : History Event → ℕ → ℕ → ℕ
code h block number = (stored h block number).first

abbrev pub float : History Event → ℕ → ℕ → Float
float h block number = float_of (stored h block number).first

abbrev pub scale : History Event → ℕ → ℕ → Scale
scale h block number = record { low = float_of (stored h block number).first; high = float_of (stored h block number).second }

-- ---- the linearisation table

-- the pairs that a load brings
abbrev pub pairs_told : Event → Option (List Point)
pairs_told (ticked fault fed seen) = None
pairs_told (telegram input bytes) = None
pairs_told (wrote block number a b) = None
pairs_told (loaded bytes) = Some (pairs_in bytes)
pairs_told warmed = None

-- Q1.9a: the table in force is that of the last accepted load, before one it has no pairs; a warm start leaves it
unfoldable pub table : History Event → List Point
table h = or_else [] (latest (λ p. pairs_told) never h)

abbrev pub is_some : {A : Type 0} → Option A → Bool
is_some None = false
is_some (Some a) = true

-- whether a table came
unfoldable pub tabled : History Event → Bool
tabled h = is_some (latest (λ p. pairs_told) never h)

-- Q1.4, Q1.5: what the last pair with its x at or below a value makes of it: with a pair behind it a place on the line through both, each
-- operation rounded, product, quotient and sum in this order; Q1.7: without one its own y
abbrev pub along : Point → List Point → Float → Float
along p [] x = p.y
along p (q ∷ qs) x =
    add binary32 p.y (div binary32 (mul binary32 (sub binary32 x p.x) (sub binary32 q.y p.y)) (sub binary32 q.x p.x))

unfoldable pub said : List Point → Float → Option Float
said [] x = None
said (p ∷ ps) x = told (said ps x) (cond (le p.x x) (Some (along p ps x)) None)

-- Q1.7: a value below the first x gets the first y
abbrev pub lowest : List Point → Float → Float
lowest [] x = x
lowest (p ∷ ps) x = p.y

-- Q1.6: what a value becomes by the pairs, if it is finite; another stays
unfoldable pub linear : List Point → Float → Float
linear ps x = cond (finite x) (or_else (lowest ps x) (said ps x)) x

-- ---- modes

-- P10, Q3.8a: the codes of the modes
abbrev pub out_of_service : ℕ
out_of_service = 0x80

abbrev pub man : ℕ
man = 0x10

abbrev pub auto : ℕ
auto = 0x08

abbrev pub rcas : ℕ
rcas = 0x02

-- M1, R4: a tick's actual mode: O/S under the fault flag, otherwise the target that stands before the tick
unfoldable pub mode_at : History Event → Bool → ℕ → ℕ
mode_at h fault block = cond (fault || eqb (code h block 5) out_of_service) out_of_service (code h block 5)

abbrev pub is_out : History Event → Bool → ℕ → Bool
is_out h fault block = eqb (mode_at h fault block) out_of_service

abbrev pub is_auto : History Event → Bool → ℕ → Bool
is_auto h fault block = eqb (mode_at h fault block) auto

-- M1, M3: the actual mode is that of the last tick since start; before one it is O/S
unfoldable pub actual : ℕ → History Event → ℕ
actual block = carried out_of_service (λ h e old. on_tick (λ fault fed seen. mode_at h fault block) out_of_service old e)

-- ---- refused calls

-- F7: whether the table's row for a parameter allows two words
abbrev pub allowed_in : Entry → ℕ → ℕ → Bool
allowed_in (Ok p) a b = allows_of p.allowed a b
allowed_in (Err r) a b = false

abbrev pub refused : ℕ → Answer
refused n = Err (ground n)

-- Q1.10: LIN_TYPE 1 is written and no table came
abbrev pub lacks_table : History Event → ℕ → ℕ → ℕ → Bool
lacks_table h block number a = eqb block 1 && eqb number 13 && eqb a 1 && not (tabled h)

-- F2 to F8, Q3.10: the grounds on which a write is refused, the first that is met: there is no such block (1); it has no such parameter (2); that one is
-- read only (3); the device is locked and it isn't the lock (4); its words are not allowed, or it lacks a table (5); it is an output and the block's
-- target isn't Man (6)
unfoldable pub to_write : History Event → ℕ → ℕ → ℕ → ℕ → Answer
to_write h block number a b =
    cond (ltb 5 block) (refused 1)
    (cond (not (has block number)) (refused 2)
    (cond (among (read_onlys block) number) (refused 3)
    (cond (eqb (code h 0 18) 0 && not (eqb block 0)) (refused 4)
    (cond (not (allowed_in (entry_of block number) a b && not (lacks_table h block number a))) (refused 5)
    (cond (among (outputs block) number && not (eqb (code h block 5) man)) (refused 6) granted)))))

-- F9, Q3.7: a telegram has five bytes on AO's inputs, 0 and 1, and two on DO's, 2 and 3
abbrev pub telegram_bytes : ℕ → ℕ
telegram_bytes input = cond (ltb 1 input) 2 5

-- F2, F9, F10, Q3.8a, Q3.10: a telegram is refused on any other input (8), and then if it has not its input's number of bytes (7)
unfoldable pub to_telegram : ℕ → List ℕ → Answer
to_telegram input bytes = cond (ltb 3 input) (refused 8) (cond (not (eqb (length bytes) (telegram_bytes input))) (refused 7) granted)

-- Q1.3, Q1.11: whole pairs of eight bytes, from 2 to 21 of them
unfoldable pub is_whole : ℕ → Bool
is_whole n = eqb (n % 8) 0 && not (ltb n 16) && not (ltb 168 n)

-- Q1.11: every x and y is finite, and each x is a lower number than the next one's
abbrev pub all_finite : List Point → Bool
all_finite [] = true
all_finite (p ∷ ps) = finite p.x && finite p.y && all_finite ps

abbrev pub rising : List Point → Bool
rising [] = true
rising (p ∷ []) = true
rising (p ∷ q ∷ ps) = lt p.x q.x && rising (q ∷ ps)

-- Q1.10, Q1.11: a load is refused while the device is locked (4), then if it isn't 2 to 21 whole pairs (9), then if they do not rise or aren't finite (10)
unfoldable pub to_load : History Event → List ℕ → Answer
to_load h bytes =
    cond (eqb (code h 0 18) 0) (refused 4)
    (cond (not (is_whole (length bytes))) (refused 9)
    (cond (not (all_finite (pairs_in bytes) && rising (pairs_in bytes))) (refused 10) granted))

-- what a call is answered, by the events accepted before it; no ground is met by a tick or a warm start
abbrev pub answer : History Event → Event → Answer
answer h (ticked fault fed seen) = granted
answer h (telegram input bytes) = to_telegram input bytes
answer h (wrote block number a b) = to_write h block number a b
answer h (loaded bytes) = to_load h bytes
answer h warmed = granted

abbrev pub is_accepted : Answer → Bool
is_accepted (Ok u) = true
is_accepted (Err r) = false

-- R3: of all events those that are accepted, each by the accepted ones before it; the others are left out
unfoldable pub accepted : History Event → History Event
accepted start = start
accepted (h ▷ e) = cond (is_accepted (answer (accepted h) e)) (accepted h ▷ e) (accepted h)

-- ---- ST_REV

abbrev pub is_static_write : ℕ → Event → Bool
is_static_write block (ticked fault fed seen) = false
is_static_write block (telegram input bytes) = false
is_static_write block (wrote block' number a b) = eqb block' block && among (statics block) number
is_static_write block (loaded bytes) = eqb block 1
is_static_write block warmed = false

-- R11, Q1.9a: ST_REV counts a block's accepted static writes, a load as one of AIN's, whether or not they change a value, and is 0 again after 65,535
unfoldable pub st_rev : History Event → ℕ → ℕ
st_rev h block = count (is_static_write block) h % 65536

-- ---- what was last given, and the operator's pair

-- M2, M3: a value that is only held has status 0x1F
abbrev pub held : Pair → Pair
held p = pair p.bits 0x1f

-- R2, Q3.11: OUT or OUT_D of a block as read after a tick, which is not done of TOT
abbrev pub out_in : Seen → ℕ → Words
out_in seen = of_block (words 0 0) seen.ain (words 0 0) seen.ao seen.di seen.dout (words 0 0)

-- R6, Q3.11: what AIN, AO, DI and DO last gave, as the read of OUT or OUT_D after the last tick has it, a discrete value as its word; at first 0, held
-- at a start
unfoldable pub last_out : ℕ → History Event → Pair
last_out block =
    carried (pair 0 0x1f)
    (λ h e old. on_tick (λ fault fed seen. pair (out_in seen block).first (out_in seen block).second) (held old) old e)

-- R6: old OUT is its value
unfoldable pub old_out : ℕ → History Event → ℕ
old_out block h = (last_out block h).bits

-- Q2.4, Q3.8a: the target of another block than TOT, another than Man, is changed to Man; Q2.5: over Man nothing is changed
abbrev pub enters_man : ℕ → ℕ → ℕ → Bool
enters_man block before after = not (eqb block 2) && not (eqb before man) && eqb after man

-- the number of OUT, TOTAL and OUT_D
abbrev pub out_number : ℕ → ℕ
out_number block = cond (eqb block 3) 37 10

-- P15: the pair that an event makes the operator's: the words of a write of OUT, TOTAL or OUT_D; Q2.4: at a write of the target that enters Man what
-- was last given before it
abbrev pub handed : ℕ → History Event → Event → Option Pair
handed block h (ticked fault fed seen) = None
handed block h (telegram input bytes) = None
handed block h (wrote block' number a b) =
    cond (not (eqb block' block)) None
    (cond (eqb number (out_number block)) (Some (pair a b))
    (cond (eqb number 5 && enters_man block (code h block 5) a) (Some (last_out block h)) None))
handed block h (loaded bytes) = None
handed block h warmed = None

-- P15, R17, Q2.6: the operator's pair is the latest of these since start, whichever of the two it was, before one 0 with 0x4C, whatever the target is; of
-- TOTAL's only the status is used
unfoldable pub operator : ℕ → History Event → Pair
operator block h = or_else (pair 0 0x4c) (latest (handed block) is_start h)

-- ---- input status

-- A5, A6: the Bad status of a tick's input, and none where it is usable. Good Cascade is taken for 0x04, a Bad byte as it came; then it is 0x10 if the
-- value isn't finite, and 0x04 if what is calculated of it isn't. The flags say whether the value, and what is calculated of it, is finite
unfoldable pub bad_status : ℕ → Bool → Bool → Option ℕ
bad_status status value calculated =
    cond (eqb (quality_of status) 3) (Some 0x04)
    (cond (eqb (quality_of status) 0) (Some status)
    (cond (not value) (Some 0x10)
    (cond (not calculated) (Some 0x04) None)))

abbrev pub if_usable : {A : Type 0} → Option ℕ → A → A → A
if_usable None a other = a
if_usable (Some bad) a other = other

-- ---- an input block, AIN or DI, over the type A of its values (Q3.8b)

-- what a tick makes of the transducer's pair: its Bad status, none where it is usable; the value calculated; the value as it comes, which FSAFE_TYPE 2
-- gives, if there is one; the status of a usable tick
pub record Sensed (A : Type 0) : Type 0 where
  pub bad : Option ℕ
  pub value : A
  pub comes : Option A
  pub status : ℕ

-- a block: its number, FSAFE_TYPE's number, FSAFE_VALUE, a value as the word that reads give, and what a tick makes of its pair
pub record Sensor (A : Type 0) : Type 0 where
  pub block : ℕ
  pub kind : ℕ
  pub fallback : History Event → A
  pub word : A → ℕ
  pub sensed : History Event → Fed → Sensed A

module _ {A : Type 0} (s : Sensor A) where
  -- A8, R7: what the latest usable Auto tick since start calculated, whatever the modes of later ticks
  unfoldable pub last_usable : History Event → Option A
  last_usable =
      carried None
      (λ h e old. on_tick
      (λ fault fed seen. cond (is_auto h fault s.block) (if_usable (s.sensed h fed).bad (Some (s.sensed h fed).value) old) old)
      None old e)

  -- A8: the word of a value, or another word without one
  abbrev pub word_or : ℕ → Option A → ℕ
  word_or other None = other
  word_or other (Some x) = s.word x

  -- A8: the value that was last usable with 0x44, and 0 with 0x4C without one
  abbrev pub last_or : Option A → Pair
  last_or None = pair 0 0x4c
  last_or (Some x) = pair (s.word x) 0x44

  -- A8: an Auto tick that isn't usable, by FSAFE_TYPE: 0 gives FSAFE_VALUE with 0x48; 1 the value that was last usable; 2 gives the value as it comes,
  -- or old OUT without one, with the Bad status
  unfoldable pub sensed_fail_safe : History Event → Option A → ℕ → Pair
  sensed_fail_safe h comes bad =
      cond (eqb (code h s.block s.kind) 0) (pair (s.word (s.fallback h)) 0x48)
      (cond (eqb (code h s.block s.kind) 1) (last_or (last_usable h)) (pair (word_or (old_out s.block h) comes) bad))

  -- A7, A8: in Auto the calculated value where the input is usable, else the fail-safe
  abbrev pub sensed_auto : History Event → Sensed A → Option ℕ → Pair
  sensed_auto h x None = pair (s.word x.value) x.status
  sensed_auto h x (Some bad) = sensed_fail_safe h x.comes bad

  -- A7, A9: what the block gives in Auto, and in Man: the operator's pair
  unfoldable pub senses : History Event → Bool → Fed → Pair
  senses h fault fed = cond (is_auto h fault s.block) (sensed_auto h (s.sensed h fed) (s.sensed h fed).bad) (operator s.block h)

-- ---- AIN

-- Q1.3: what is scaled: under LIN_TYPE 1 what the table makes of the input, otherwise the input
abbrev pub measured : History Event → Float → Float
measured h x = cond (eqb (code h 1 13) 1) (linear (table h) x) x

-- A1: its place in PV_SCALE, as a value in OUT_SCALE
unfoldable pub scaled : History Event → Pair → Float
scaled h ain = at_fraction (scale h 1 12) (fraction_of (scale h 1 11) (measured h (float_of ain.bits)))

-- A2: a filter step from the filter value towards the scaled value, by the ticks in PV_FTIME and one; without a filter value, or with PV_FTIME 0, the
-- scaled value itself
abbrev pub filtered_by : Float → Float → Option Float → Float
filtered_by time x None = x
filtered_by time x (Some pv) =
    cond (eq time (of_int binary32 (pos 0))) x
    (add binary32 pv (div binary32 (sub binary32 x pv) (add binary32 (mul binary32 time (of_int binary32 (pos 10))) (of_int binary32 (pos 1)))))

-- A4: the calculated value
unfoldable pub calculated : History Event → Option Float → Pair → Float
calculated h filter ain = filtered_by (float h 1 16) (scaled h ain) filter

-- A5: AIN's Bad status: both the scaled and the filtered value have to be finite
unfoldable pub ain_bad : History Event → Option Float → Pair → Option ℕ
ain_bad h filter ain = bad_status ain.status (finite (float_of ain.bits)) (finite (scaled h ain) && finite (calculated h filter ain))

-- A3, R7: the filter value is what the latest usable Auto tick calculated, if no tick in another mode and no start came since
unfoldable pub filter_value : History Event → Option Float
filter_value =
    carried None
    (λ h e old. on_tick
    (λ fault fed seen. cond (is_auto h fault 1) (if_usable (ain_bad h old fed.ain) (Some (calculated h old fed.ain)) old) None)
    None old e)

-- an alarm: whether it is a low one, and its limit's parameter
pub record Alarm : Type 0 where
  pub low : Bool
  pub limit : ℕ

abbrev pub hi_hi : Alarm
hi_hi = record { low = false; limit = 21 }

abbrev pub hi : Alarm
hi = record { low = false; limit = 23 }

abbrev pub lo : Alarm
lo = record { low = true; limit = 25 }

abbrev pub lo_lo : Alarm
lo_lo = record { low = true; limit = 27 }

-- A10: OUT reaches a limit from below (a high alarm) or from above (a low one), and leaves it when it is back by more than the hysteresis
abbrev pub reaches : Bool → Float → Float → Bool
reaches low limit out = cond low (le out limit) (le limit out)

abbrev pub leaves : Bool → Float → Float → Float → Bool
leaves low limit hysteresis out = cond low (lt (add binary32 limit hysteresis) out) (lt out (sub binary32 limit hysteresis))

abbrev pub reached_by : Alarm → History Event → ℕ → Bool
reached_by a h bits = reaches a.low (float h 1 a.limit) (float_of bits)

abbrev pub left_by : Alarm → History Event → ℕ → Bool
left_by a h bits = leaves a.low (float h 1 a.limit) (float h 1 19) (float_of bits)

-- A10, R12: a tick outside O/S raises an alarm if its OUT reaches the limit that stands before the tick
unfoldable pub raises : Alarm → History Event → Event → Bool
raises a h = on_tick (λ fault fed seen. not (is_out h fault 1) && reached_by a h seen.ain.first) false false

-- A11, R12: it is cleared by an O/S tick, by an OUT that leaves the limit, and by a start
unfoldable pub clears : Alarm → History Event → Event → Bool
clears a h = on_tick (λ fault fed seen. is_out h fault 1 || left_by a h seen.ain.first) true false

-- R12: it stands if it was raised and has not been cleared since
unfoldable pub stands : Alarm → History Event → Bool
stands a h = since (raises a) (clears a) h

-- P11a: 1 for HI_HI, 2 for HI, 4 for LO, 8 for LO_LO
unfoldable pub alarm_sum : History Event → ℕ
alarm_sum h = cond (stands hi_hi h) 1 0 + cond (stands hi h) 2 0 + cond (stands lo h) 4 0 + cond (stands lo_lo h) 8 0

-- whether it stands with this tick's OUT
unfoldable pub stands_with : Alarm → History Event → ℕ → Bool
stands_with a h bits = reached_by a h bits || (stands a h && not (left_by a h bits))

-- A12: the status of a usable Auto tick: with a Good input that of the first alarm that stands, in the order HI_HI, LO_LO, HI, LO; otherwise the input's
unfoldable pub alarmed : History Event → ℕ → ℕ → ℕ
alarmed h bits status =
    cond (not (eqb (quality_of status) 2)) status
    (cond (stands_with hi_hi h bits) 0x8e
    (cond (stands_with lo_lo h bits) 0x8d
    (cond (stands_with hi h bits) 0x8a
    (cond (stands_with lo h bits) 0x89 status))))

-- what a tick makes of AIN's pair
unfoldable pub ain_sensed : History Event → Fed → Sensed Float
ain_sensed h fed = record {
  bad = ain_bad h (filter_value h) fed.ain;
  value = calculated h (filter_value h) fed.ain;
  comes = cond (finite (scaled h fed.ain)) (Some (scaled h fed.ain)) None;
  status = alarmed h (bits_of (calculated h (filter_value h) fed.ain)) fed.ain.status;
}

abbrev pub analog_in : Sensor Float
analog_in = record { block = 1; kind = 17; fallback = λ h. float h 1 18; word = bits_of; sensed = ain_sensed }

-- ---- DI

-- Q3.4a: a discrete value is 0 or 1
abbrev pub is_bit : ℕ → Bool
is_bit value = eqb value 0 || eqb value 1

-- Q3.5: what INVERT 1 makes of a discrete value: it exchanges 0 and 1
abbrev pub exchanged : ℕ → ℕ → ℕ
exchanged invert value = cond (eqb invert 1) (cond (eqb value 0) 1 (cond (eqb value 1) 0 value)) value

-- Q3.4b, Q3.5: what a tick makes of DI's pair: INVERT stands where AIN scales; another value than 0 and 1 is Bad, 0x04, and leaves none to give
unfoldable pub di_sensed : History Event → Fed → Sensed ℕ
di_sensed h fed = record {
  bad = bad_status fed.di.status true (is_bit fed.di.value);
  value = exchanged (code h 4 15) fed.di.value;
  comes = cond (is_bit fed.di.value) (Some (exchanged (code h 4 15) fed.di.value)) None;
  status = fed.di.status;
}

-- FSAFE_VAL_D is given as it is
abbrev pub discrete_in : Sensor ℕ
discrete_in = record { block = 4; kind = 20; fallback = λ h. code h 4 21; word = λ value. value; sensed = di_sensed }

-- ---- TOT

-- T5: TOT's Bad status; nothing is calculated of its value
unfoldable pub tot_bad : Pair → Option ℕ
tot_bad tot = bad_status tot.status (finite (float_of tot.bits)) true

-- T7, R7: the rate of the latest usable Auto tick since start
unfoldable pub rate_value : History Event → Option Float
rate_value =
    carried None (λ h e old. on_tick
    (λ fault fed seen. cond (is_auto h fault 2) (if_usable (tot_bad fed.tot) (Some (float_of fed.tot.bits)) old) old) None old e)

-- T3, P12c: MODE_TOT 0 takes an increment of either sign, 1 those not below 0, 2 those below 0, 3 none
unfoldable pub wanted_by : ℕ → ℤ → ℤ
wanted_by mode z = cond (eqb mode 0 || eqb mode 1 && not (lt_z z (pos 0)) || eqb mode 2 && lt_z z (pos 0)) z (pos 0)

-- T6, T7: the rate that an Auto tick adds by: the input's where it is usable, else by FAIL_TOT: 0 the input's if it is finite, 1 none, 2 the last usable
-- one, if any
abbrev pub added_rate : History Event → Pair → Option ℕ → Option Float
added_rate h tot None = Some (float_of tot.bits)
added_rate h tot (Some bad) =
    cond (eqb (code h 2 15) 0) (cond (finite (float_of tot.bits)) (Some (float_of tot.bits)) None)
    (cond (eqb (code h 2 15) 1) None (rate_value h))

-- T2, T7: what a rate adds, under the MODE_TOT that stands before the tick
abbrev pub adds : History Event → Option Float → ℤ
adds h None = pos 0
adds h (Some rate) = wanted_by (code h 2 14) (increment_of rate)

-- T6, T8, R14: the total after an Auto tick: SET_TOT 1 sets 0 and 2 PRESET_TOT; else the sum with what the tick adds
unfoldable pub total_by : History Event → Pair → ℤ → ℤ
total_by h tot total =
    cond (eqb (code h 2 13) 1) (pos 0)
    (cond (eqb (code h 2 13) 2) (thousandths_of (float h 2 16))
    (sum_of total (adds h (added_rate h tot (tot_bad tot)))))

-- R14: an Auto tick moves the total, and so does a write of TOTAL; nothing else does
abbrev pub total_after : History Event → Event → ℤ → ℤ
total_after h (ticked fault fed seen) total = cond (is_auto h fault 2) (total_by h fed.tot total) total
total_after h (telegram input bytes) total = total
total_after h (wrote block number a b) total = cond (eqb block 2 && eqb number 10) (thousandths_of (float_of a)) total
total_after h (loaded bytes) total = total
total_after h warmed total = total

-- R13: the total, at first 0
unfoldable pub total : History Event → ℤ
total = carried (pos 0) total_after

-- T5, T7, T8: the status of an Auto tick: the input's where it is usable; else the Bad status under FAIL_TOT 0 and while SET_TOT is not 0, 0x40 under 1,
-- and under 2 0x44, or 0x4C without a remembered rate
abbrev pub tot_status : History Event → ℕ → Option ℕ → ℕ
tot_status h status None = status
tot_status h status (Some bad) =
    cond (not (eqb (code h 2 13) 0) || eqb (code h 2 15) 0) bad
    (cond (eqb (code h 2 15) 1) 0x40 (memory (rate_value h)))
  where
    memory : Option Float → ℕ
    memory None = 0x4c
    memory (Some rate) = 0x44

-- T10, T9: what TOT gives in Auto and in Man: the total's value; in Man with the operator's status
unfoldable pub tot_gives : History Event → Bool → Pair → Pair
tot_gives h fault tot =
    cond (is_auto h fault 2) (pair (bits_of (value_given (total_by h tot (total h)))) (tot_status h tot.status (tot_bad tot)))
    (pair (bits_of (value_given (total h))) (operator 2 h).status)

-- ---- an output block, AO or DO, over the type A of its setpoints (Q3.8b)

-- the drive order, a position by the word of OUT
pub data Move : Type 0 where
  position : ℕ → Move
  safe : Move
  rest : Move

-- C3: what a tick gives: the pair and the drive order
pub record Given : Type 0 where
  pub out : Pair
  pub move : Move

-- O10: a pair with the order to go to its value
abbrev pub positioned : ℕ → ℕ → Given
positioned bits status = record { out = pair bits status; move = position bits }

-- O9: OUT by a working value, with the status given; old OUT with 0x04 where there is none
abbrev pub worked_or : ℕ → ℕ → Option ℕ → Given
worked_or old status None = positioned old 0x04
worked_or old status (Some bits) = positioned bits status

abbrev pub holds : (Pair → Bool) → Option Pair → Bool
holds p None = false
holds p (Some x) = p x

-- O1: of either Good quality
abbrev pub is_good : ℕ → Bool
is_good status = eqb (quality_of status) 2 || eqb (quality_of status) 3

-- O1: a telegram of either Good quality is IFS (initiate-fail-safe) by sub-status 8
abbrev pub is_ifs : Pair → Bool
is_ifs p = is_good p.status && eqb (sub_status_of p.status) 8

-- a block: its number, its setpoint inputs in Auto and in RCas, the numbers of FSAFE_TIME and FSAFE_TYPE, FSAFE_VALUE; of its telegrams the word and the
-- status that bytes stand for, whether a word is a setpoint's and which; and the word of OUT by a working value, if there is one
pub record Drive (A : Type 0) : Type 0 where
  pub block : ℕ
  pub sp : ℕ
  pub rcas_in : ℕ
  pub time : ℕ
  pub kind : ℕ
  pub fallback : History Event → A
  pub zero : A
  pub received : List ℕ → Option Pair
  pub fine : ℕ → Bool
  pub value : ℕ → A
  pub worked : History Event → A → Option ℕ

module _ {A : Type 0} (d : Drive A) where
  -- a telegram's pair on an input
  abbrev pub pair_on : ℕ → Event → Option Pair
  pair_on input (ticked fault fed seen) = None
  pair_on input (telegram input' bytes) = cond (eqb input' input) (d.received bytes) None
  pair_on input (wrote block number a b) = None
  pair_on input (loaded bytes) = None
  pair_on input warmed = None

  -- O1: by another sub-status than 8 it is usable if its value is finite. O2: others are nothing
  abbrev pub is_usable : Pair → Bool
  is_usable p = is_good p.status && not (eqb (sub_status_of p.status) 8) && d.fine p.bits

  -- such a telegram on an input
  unfoldable pub is_usable_on : ℕ → Event → Bool
  is_usable_on input e = holds is_usable (pair_on input e)

  unfoldable pub is_ifs_on : ℕ → Event → Bool
  is_ifs_on input e = holds is_ifs (pair_on input e)

  -- O5: whether a usable telegram came on an input since start
  unfoldable pub came : ℕ → History Event → Bool
  came input = since (λ h e. is_usable_on input e) (λ h e. is_start e)

  -- O6: the value of the last usable telegram since start
  abbrev pub setpoint_on : ℕ → Event → Option A
  setpoint_on input e = cond (is_usable_on input e) (value_on (pair_on input e)) None
    where
      value_on : Option Pair → Option A
      value_on None = None
      value_on (Some p) = Some (d.value p.bits)

  unfoldable pub setpoint : ℕ → History Event → A
  setpoint input h = or_else d.zero (latest (λ p. setpoint_on input) is_start h)

  -- O4: n, the ticks after an input's last usable telegram, whatever their mode
  unfoldable pub silence : ℕ → History Event → ℕ
  silence input h = count_since is_tick (is_usable_on input) h

  -- O5: an IFS came since start, and no usable telegram after it
  unfoldable pub ifs : ℕ → History Event → Bool
  ifs input = since (λ h e. is_ifs_on input e) (λ h e. is_usable_on input e || is_start e)

  -- O5: the fail-safe acts without a usable telegram since start, after more ticks than FSAFE_TIME, and after an IFS
  unfoldable pub is_fail_safe : ℕ → History Event → Bool
  is_fail_safe input h = not (came input h) || ltb (code h d.block d.time) (silence input h) || ifs input h

  -- O9: what a working value leads to with its status
  unfoldable pub working : History Event → A → ℕ → Given
  working h w status = worked_or (old_out d.block h) status (d.worked h w)

  -- O7, O8: the fail-safe by FSAFE_TYPE: 0 works by FSAFE_VALUE, 0x48; 1 by the last usable telegram, 0x44, and without one keeps OUT, 0x4C; 2 keeps OUT,
  -- 0x00, and orders Safe
  unfoldable pub driven_fail_safe : ℕ → History Event → Given
  driven_fail_safe input h =
      cond (eqb (code h d.block d.kind) 0) (working h (d.fallback h) 0x48)
      (cond (eqb (code h d.block d.kind) 1)
      (cond (came input h) (working h (setpoint input h) 0x44) (positioned (old_out d.block h) 0x4c))
      (record { out = pair (old_out d.block h) 0x00; move = safe }))

  -- O6, R15, R16: by an input: the fail-safe in exactly the ticks in which it acts, else the last usable telegram, 0x80
  unfoldable pub driven_by : ℕ → History Event → Given
  driven_by input h = cond (is_fail_safe input h) (driven_fail_safe input h) (working h (setpoint input h) 0x80)

  -- O3, O11: what the block gives in Auto (by SP), in RCas (by RCAS_IN) and in Man (the operator's pair)
  unfoldable pub drives : History Event → Bool → Given
  drives h fault =
      cond (is_auto h fault d.block) (driven_by d.sp h)
      (cond (eqb (mode_at h fault d.block) rcas) (driven_by d.rcas_in h)
      (positioned (operator d.block h).bits (operator d.block h).status))

  -- C3, M2: a tick's drive order; in O/S it is Rest
  unfoldable pub driven : History Event → Bool → Move
  driven h fault = cond (is_out h fault d.block) rest (drives h fault).move

-- ---- AO

-- F9: five bytes are a value with a status
abbrev pub five_as : Result Pair Refusal → Option Pair
five_as (Ok p) = Some p
five_as (Err r) = None

-- O9: the working value's place in PV_SCALE, from the other end if INCREASE_CLOSE is 1, as a value in OUT_SCALE
unfoldable pub ao_scaled : History Event → Float → Float
ao_scaled h w = at_fraction (scale h 3 38) (cond (eqb (code h 3 36) 1) (sub binary32 (of_int binary32 (pos 1)) f) f)
  where
    f : Float
    f = fraction_of (scale h 3 11) w

-- O9: OUT by it, if that is finite
unfoldable pub ao_worked : History Event → Float → Option ℕ
ao_worked h w = cond (finite (ao_scaled h w)) (Some (bits_of (ao_scaled h w))) None

-- C5, O3: SP is input 0 and RCAS_IN is 1
abbrev pub analog_out : Drive Float
analog_out = record {
  block = 3;
  sp = 0;
  rcas_in = 1;
  time = 23;
  kind = 24;
  fallback = λ h. float h 3 25;
  zero = float_of 0;
  received = λ bytes. five_as (pair_of bytes);
  fine = λ bits. finite (float_of bits);
  value = float_of;
  worked = ao_worked;
}

-- C4: AO's order as the tick answers it
abbrev pub analog_order : Move → Order Float
analog_order (position bits) = Position (float_of bits)
analog_order safe = Safe
analog_order rest = Rest

unfoldable pub order : History Event → Bool → Order Float
order h fault = analog_order (driven analog_out h fault)

-- ---- DO

-- Q3.7: two bytes are a value with a status
abbrev pub two_as : Result Discrete Refusal → Option Pair
two_as (Ok d) = Some (pair d.value d.status)
two_as (Err r) = None

-- Q3.2b, Q3.7: SP_D is input 2 and RCAS_IN_D is 3. Q3.4b: another setpoint than 0 and 1 counts as one that isn't finite. Q3.5: INVERT exchanges every
-- working value, FSAFE_VAL_D too; there is always one
abbrev pub discrete_out : Drive ℕ
discrete_out = record {
  block = 5;
  sp = 2;
  rcas_in = 3;
  time = 22;
  kind = 20;
  fallback = λ h. code h 5 21;
  zero = 0;
  received = λ bytes. two_as (discrete_of bytes);
  fine = is_bit;
  value = λ word. word;
  worked = λ h w. Some (exchanged (code h 5 15) w);
}

-- Q3.6: DO's order as the tick answers it
abbrev pub discrete_order : Move → Order ℕ
discrete_order (position value) = Position value
discrete_order safe = Safe
discrete_order rest = Rest

unfoldable pub order_d : History Event → Bool → Order ℕ
order_d h fault = discrete_order (driven discrete_out h fault)

-- ---- what reads give

-- P14b, M2 to M4, R17, Q3.8a: the pair last given by a block: at first 0, held through O/S ticks and at a start
unfoldable pub given : ℕ → History Event → Pair
given block =
    carried (pair 0 0x1f)
    (λ h e old. on_tick
    (λ fault fed seen. cond (is_out h fault block) (held old)
    (of_block (held old) (senses analog_in h fault fed) (tot_gives h fault fed.tot) (drives analog_out h fault).out
    (senses discrete_in h fault fed) (drives discrete_out h fault).out (held old) block))
    (held old) old e)

-- P14a, P14b, P7: the words that a parameter reads with: outputs the pair last given, read-only ones a number and 0, all others what is stored
unfoldable pub shown : History Event → ℕ → ℕ → Words
shown h block number =
    cond (among (outputs block) number) (words (given block h).bits (given block h).status)
    (cond (among (read_onlys block) number) (words (cond (eqb number 1) (st_rev h block) (cond (eqb number 6) (actual block h) (alarm_sum h))) 0)
    (stored h block number))

-- F2 to F4, Q3.10: a read is refused where there is no such block (1) or parameter (2)
unfoldable pub reading : History Event → ℕ → ℕ → Result Words Refusal
reading h block number =
    cond (ltb 5 block) (Err (ground 1)) (cond (not (has block number)) (Err (ground 2)) (Ok (shown h block number)))

-- ---- the bus image

-- F9, Q3.9a: a buffer under 19 bytes is refused (7)
unfoldable pub to_image : List ℕ → Answer
to_image buffer = cond (ltb (length buffer) 19) (refused 7) granted

-- a block's discrete pair
abbrev pub discrete : Pair → Discrete
discrete p = record { value = p.bits; status = p.status }

-- B1, Q3.9a: the pairs of AIN, TOT and AO, five bytes each, and of DI and DO, two each, in front of a buffer that has room for them; its other bytes, and
-- those of another buffer, as they were
unfoldable pub image : History Event → List ℕ → List ℕ
image h buffer =
    cond (ltb (length buffer) 19) buffer
    (five_bytes (given 1 h) ++ five_bytes (given 2 h) ++ five_bytes (given 3 h) ++ two_bytes (discrete (given 4 h)) ++ two_bytes (discrete (given 5 h))
    ++ drop 19 buffer)

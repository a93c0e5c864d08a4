-- What a line of the call script asks for, by its table. A line is a list of bytes, without its 0x0A. Assumes nothing.
use Rattle.std.specs.Prelude.{ℕ, ◌≤◌, Option, Some, None, Result, Ok, Err, cond, ◌&&◌, List, [], ◌∷◌, length, get_or, ltb, eqb}
use Rattle.script.specs.declared.Name.{Name}
use Rattle.script.specs.declared.Command.{Command}
use Rattle.script.specs.declared.BadLine.{BadLine}
use Rattle.script.specs.Words.{words_of, is_empty, first_of, rest_of, number_of, up_to, word_value, values_of, fitting, are_bytes, same_bytes}

-- the name that a call's first word is, each given by its bytes: tick, factory, telegram, write, warm, read, image, part, total, load
unfoldable pub name_of : List ℕ → Option Name
name_of w =
    cond (same_bytes w (116 ∷ 105 ∷ 99 ∷ 107 ∷ [])) (Some Name.Tick)
    (cond (same_bytes w (102 ∷ 97 ∷ 99 ∷ 116 ∷ 111 ∷ 114 ∷ 121 ∷ [])) (Some Name.Factory)
    (cond (same_bytes w (116 ∷ 101 ∷ 108 ∷ 101 ∷ 103 ∷ 114 ∷ 97 ∷ 109 ∷ [])) (Some Name.Telegram)
    (cond (same_bytes w (119 ∷ 114 ∷ 105 ∷ 116 ∷ 101 ∷ [])) (Some Name.Write)
    (cond (same_bytes w (119 ∷ 97 ∷ 114 ∷ 109 ∷ [])) (Some Name.Warm)
    (cond (same_bytes w (114 ∷ 101 ∷ 97 ∷ 100 ∷ [])) (Some Name.Read)
    (cond (same_bytes w (105 ∷ 109 ∷ 97 ∷ 103 ∷ 101 ∷ [])) (Some Name.Image)
    (cond (same_bytes w (112 ∷ 97 ∷ 114 ∷ 116 ∷ [])) (Some Name.Part)
    (cond (same_bytes w (116 ∷ 111 ∷ 116 ∷ 97 ∷ 108 ∷ [])) (Some Name.Total)
    (cond (same_bytes w (108 ∷ 111 ∷ 97 ∷ 100 ∷ [])) (Some Name.Load) None)))))))))

-- the value of word k, of n
abbrev pub value_at : ℕ → List (List ℕ) → ℕ → ℕ
value_at n ws k = get_or (values_of n ws) k 0

-- ---- the calls, by the words after their name

-- `factory`, `warm`, `total`
abbrev pub alone_call : Command → List (List ℕ) → Option Command
alone_call command ws = cond (is_empty ws) (Some command) None

-- `tick FAULT AIN_BITS AIN_STATUS TOT_BITS TOT_STATUS DI_VALUE DI_STATUS`. "The fault flag: 0 or 1. Words and value bits: 0 to 4,294,967,295."
-- "status .. : 0 to 255."; DI's: "value and status 0 to 255"
abbrev pub tick_limits : List ℕ
tick_limits = 1 ∷ 4294967295 ∷ 255 ∷ 4294967295 ∷ 255 ∷ 255 ∷ 255 ∷ []

abbrev pub tick_of : List (List ℕ) → Command
tick_of ws =
    Command.Tick (eqb (value_at 7 ws 0) 1) (value_at 7 ws 1) (value_at 7 ws 2) (value_at 7 ws 3) (value_at 7 ws 4) (value_at 7 ws 5) (value_at 7 ws 6)

unfoldable pub tick_call : List (List ℕ) → Option Command
tick_call ws = cond (fitting tick_limits ws) (Some (tick_of ws)) None

-- `telegram INPUT BYTE BYTE ..` "(any number of bytes from none to 64)". "setpoint input, .. telegram byte: 0 to 255."
unfoldable pub telegram_call : List (List ℕ) → Option Command
telegram_call ws =
    cond (up_to 255 (number_of (first_of ws)) && are_bytes 64 (rest_of ws))
    (Some (Command.Telegram (word_value (first_of ws)) (length (rest_of ws))))
    None

-- `write BLOCK PARAMETER WORD1 WORD2`. "Block, parameter .. : 0 to 255."
unfoldable pub write_call : List (List ℕ) → Option Command
write_call ws =
    cond (fitting (255 ∷ 255 ∷ 4294967295 ∷ 4294967295 ∷ []) ws)
    (Some (Command.Write (value_at 4 ws 0) (value_at 4 ws 1) (value_at 4 ws 2) (value_at 4 ws 3)))
    None

-- `read BLOCK PARAMETER`
unfoldable pub read_call : List (List ℕ) → Option Command
read_call ws = cond (fitting (255 ∷ 255 ∷ []) ws) (Some (Command.Read (value_at 2 ws 0) (value_at 2 ws 1))) None

-- `image LENGTH`. "A length: 0 to 64."
unfoldable pub image_call : List (List ℕ) → Option Command
image_call ws = cond (fitting (64 ∷ []) ws) (Some (Command.Image (value_at 1 ws 0))) None

-- `part BLOCK LENGTH`
unfoldable pub part_call : List (List ℕ) → Option Command
part_call ws = cond (fitting (255 ∷ 64 ∷ []) ws) (Some (Command.Part (value_at 2 ws 0) (value_at 2 ws 1))) None

-- `load BYTE BYTE ..` "(none to 256 bytes)"
unfoldable pub load_call : List (List ℕ) → Option Command
load_call ws = cond (are_bytes 256 ws) (Some (Command.Load (length ws))) None

unfoldable pub call_of : Name → List (List ℕ) → Option Command
call_of Name.Factory ws = alone_call Command.Factory ws
call_of Name.Tick ws = tick_call ws
call_of Name.Telegram ws = telegram_call ws
call_of Name.Write ws = write_call ws
call_of Name.Warm ws = alone_call Command.Warm ws
call_of Name.Read ws = read_call ws
call_of Name.Image ws = image_call ws
call_of Name.Part ws = part_call ws
call_of Name.Total ws = alone_call Command.Total ws
call_of Name.Load ws = load_call ws

-- "anything else | `error`"
abbrev pub or_error : Option Command → Result (Option Command) BadLine
or_error (Some command) = Ok (Some command)
or_error None = Err (record {})

-- the call of a line's words; a first word that is no name gives none
abbrev pub named_call : Option Name → List (List ℕ) → Option Command
named_call (Some name) ws = call_of name ws
named_call None ws = None

-- "a line longer than 4,096 bytes is answered `error`"; "A line with no word, and one whose first byte is `#`, gets no answer."
unfoldable pub command_of : List ℕ → Result (Option Command) BadLine
command_of line =
    cond (ltb 4096 (length line)) (Err (record {}))
    (cond (is_empty (words_of line)) (Ok None)
    (cond (eqb (get_or line 0 0) 35) (Ok None)
    (or_error (named_call (name_of (first_of (words_of line))) (rest_of (words_of line))))))

-- the bytes that a call lends, the line's or a buffer's, are as many as its row allows
abbrev pub Within : Command → Type 0
Within Command.Factory = Unit
Within (Command.Tick fault x s y t z u) = Unit
Within (Command.Telegram input n) = n ≤ 64
Within (Command.Write block parameter a b) = Unit
Within Command.Warm = Unit
Within (Command.Read block parameter) = Unit
Within (Command.Image n) = n ≤ 64
Within (Command.Part block n) = n ≤ 64
Within Command.Total = Unit
Within (Command.Load n) = n ≤ 256

-- What reads give, document 01, Parameters and Refused calls, and document 02, request 3. Assumes nothing.
use Rattle.std.specs.Prelude.{ℕ, cond, ◌==◌, Result, Ok, Err}
use Rattle.wire.specs.declared.Discrete.{Discrete}
use Rattle.wire.specs.declared.Refusal.{Refusal}
use Rattle.ain.specs.Alarm.{alarm_byte}
use Rattle.parameters.specs.declared.Words.{Words}
use Rattle.parameters.specs.Table.{Entry, words, entry_of}
use Rattle.parameters.specs.Words.{code, float, ends, given, given_d}
use Rattle.device.specs.declared.AinBlock.{AinBlock}
use Rattle.device.specs.declared.TotBlock.{TotBlock}
use Rattle.device.specs.declared.AoBlock.{AoBlock}
use Rattle.device.specs.declared.DiBlock.{DiBlock}
use Rattle.device.specs.declared.DoutBlock.{DoutBlock}
use Rattle.device.specs.declared.Device.{Device}

-- P10: what every block has but 0, each beside its number, and what more a block has
abbrev pub headed_words : ℕ → ℕ → ℕ → Words → ℕ → Words
headed_words rev target mode more number =
    cond (number == 1) (code rev)
    (cond (number == 5) (code target)
    (cond (number == 6) (code mode) more))

-- P14a: each parameter beside its number; another number, which is refused before, would give 0, 0
abbrev pub ain_more : AinBlock → ℕ → Words
ain_more b number =
    cond (number == 7) (code (alarm_byte b.state.alarms))
    (cond (number == 10) (given b.state.out)
    (cond (number == 11) (ends b.settings.pv_scale)
    (cond (number == 12) (ends b.settings.out_scale)
    (cond (number == 13) (code b.settings.lin_type)
    (cond (number == 16) (float b.settings.pv_ftime)
    (cond (number == 17) (code b.settings.fsafe_type)
    (cond (number == 18) (float b.settings.fsafe_value)
    (cond (number == 19) (float b.settings.alarm_hys)
    (cond (number == 21) (float b.settings.hi_hi_lim)
    (cond (number == 23) (float b.settings.hi_lim)
    (cond (number == 25) (float b.settings.lo_lim)
    (cond (number == 27) (float b.settings.lo_lo_lim) (words 0 0)))))))))))))

unfoldable pub ain_words : AinBlock → ℕ → Words
ain_words b number = headed_words b.st_rev b.settings.target b.state.mode (ain_more b number) number

abbrev pub tot_more : TotBlock → ℕ → Words
tot_more b number =
    cond (number == 10) (given b.state.out)
    (cond (number == 13) (code b.settings.set_tot)
    (cond (number == 14) (code b.settings.mode_tot)
    (cond (number == 15) (code b.settings.fail_tot)
    (cond (number == 16) (float b.settings.preset_tot) (words 0 0)))))

unfoldable pub tot_words : TotBlock → ℕ → Words
tot_words b number = headed_words b.st_rev b.settings.target b.state.mode (tot_more b number) number

abbrev pub ao_more : AoBlock → ℕ → Words
ao_more b number =
    cond (number == 11) (ends b.settings.pv_scale)
    (cond (number == 23) (code b.settings.fsafe_time)
    (cond (number == 24) (code b.settings.fsafe_type)
    (cond (number == 25) (float b.settings.fsafe_value)
    (cond (number == 36) (code b.settings.increase_close)
    (cond (number == 37) (given b.state.out)
    (cond (number == 38) (ends b.settings.out_scale) (words 0 0)))))))

unfoldable pub ao_words : AoBlock → ℕ → Words
ao_words b number = headed_words b.st_rev b.settings.target b.state.mode (ao_more b number) number

-- Q3.2a: what DI and DO have alike, each beside its number, and what more a block has
unfoldable pub discrete_words : Discrete → ℕ → ℕ → ℕ → Words → ℕ → Words
discrete_words out invert fsafe_type fsafe_val_d more number =
    cond (number == 10) (given_d out)
    (cond (number == 15) (code invert)
    (cond (number == 20) (code fsafe_type)
    (cond (number == 21) (code fsafe_val_d) more)))

abbrev pub di_more : DiBlock → ℕ → Words
di_more b = discrete_words b.state.out b.settings.invert b.settings.fsafe_type b.settings.fsafe_val_d (words 0 0)

unfoldable pub di_words : DiBlock → ℕ → Words
di_words b number = headed_words b.st_rev b.settings.target b.state.mode (di_more b number) number

-- Q3.2b: DO has FSAFE_TIME
abbrev pub dout_more : DoutBlock → ℕ → Words
dout_more b number =
    discrete_words b.state.out b.settings.invert b.settings.fsafe_type b.settings.fsafe_val_d
    (cond (number == 22) (code b.settings.fsafe_time) (words 0 0)) number

unfoldable pub dout_words : DoutBlock → ℕ → Words
dout_words b number = headed_words b.st_rev b.settings.target b.state.mode (dout_more b number) number

unfoldable pub words_of : Device → ℕ → ℕ → Words
words_of d block number =
    cond (block == 0) (code d.write_locking)
    (cond (block == 1) (ain_words d.ain number)
    (cond (block == 2) (tot_words d.tot number)
    (cond (block == 3) (ao_words d.ao number)
    (cond (block == 4) (di_words d.di number) (dout_words d.dout number)))))

-- P7, F1: what a read answers: two words, or the ground of its refusal
abbrev pub Reading : Type 0
Reading = Result Words Refusal

-- F2 to F4: a read is refused for its block, then for its parameter
abbrev pub read_by : Words → Entry → Reading
read_by w (Ok p) = Ok w
read_by w (Err r) = Err r

unfoldable pub read_of : Device → ℕ → ℕ → Reading
read_of d block number = read_by (words_of d block number) (entry_of block number)

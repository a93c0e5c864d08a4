-- Whether a write is accepted, document 01, Refused calls: one function of what stands and the call. Assumes nothing.
use Rattle.std.specs.Prelude.{ℕ, Bool, true, false, not, ◌&&◌, cond, eqb, Ok, Err}
use Rattle.wire.specs.Refusal.{granted, Answer}
use Rattle.wire.specs.Refusal as Refusal
use Rattle.blocks.specs.Common.{man}
use Rattle.parameters.specs.declared.Class.{Class}
use Rattle.parameters.specs.declared.Class.TheVariants.{S, N, D, R}
use Rattle.parameters.specs.declared.Allowed.{Allowed}
use Rattle.parameters.specs.declared.Allowed.TheVariants.{Nothing, Lock, Mode, ModeOrRcas, UpTo, Ends, Within, Finite, AtLeastZero}
use Rattle.parameters.specs.declared.Allowed.TheVariants.{FiniteOrInfinity, FiniteOrMinusInfinity, Output, OutputD, Total}
use Rattle.parameters.specs.declared.Standing.{Standing}
use Rattle.parameters.specs.Table.{Entry, entry_of}
use Rattle.parameters.specs.Words.{allows_of}

-- F5: no write changes a read-only parameter
abbrev pub read_only : Class → Bool
read_only S = false
read_only N = false
read_only D = false
read_only R = true

-- F8, Q3.4: OUT, TOTAL and OUT_D, the parameters of a value with a status
abbrev pub output : Allowed → Bool
output Nothing = false
output Lock = false
output Mode = false
output ModeOrRcas = false
output (UpTo n) = false
output Ends = false
output (Within low high) = false
output Finite = false
output AtLeastZero = false
output FiniteOrInfinity = false
output FiniteOrMinusInfinity = false
output Output = true
output OutputD = true
output (Total low high) = true

-- R10: stored are static and kept parameters, TOTAL left out
abbrev pub stored_class : Class → Allowed → Bool
stored_class S allowed = true
stored_class N allowed = not (output allowed)
stored_class D allowed = false
stored_class R allowed = false

abbrev pub stored_entry : Entry → Bool
stored_entry (Ok p) = stored_class p.class p.allowed
stored_entry (Err r) = false

-- the target of a block; asked of blocks 1 to 5 alone
unfoldable pub target_in : Standing → ℕ → ℕ
target_in s block =
    cond (eqb block 1) s.ain
    (cond (eqb block 2) s.tot
    (cond (eqb block 3) s.ao
    (cond (eqb block 4) s.di s.dout)))

-- Q1.10: LIN_TYPE 1 is written and no table is loaded
abbrev pub lacks_table : Standing → ℕ → ℕ → ℕ → Bool
lacks_table s block number a = eqb block 1 && eqb number 13 && eqb a 1 && not s.table

-- F2 to F8: the grounds, the first that is met: no such block (1), none of its parameters (2), a read-only one (3), WRITE_LOCKING is 0 and another is
-- written (4; block 0 has WRITE_LOCKING alone, and its only other value is 2457), words not allowed, or a table lacking (5), an output, its target being
-- other than Man (6)
abbrev pub ground_by : Standing → ℕ → ℕ → ℕ → ℕ → Entry → Answer
ground_by s block number a b (Err r) = Err r
ground_by s block number a b (Ok p) =
    cond (read_only p.class) (Err (Refusal.ground 3))
    (cond (eqb s.lock 0 && not (eqb block 0)) (Err (Refusal.ground 4))
    (cond (not (allows_of p.allowed a b && not (lacks_table s block number a))) (Err (Refusal.ground 5))
    (cond (output p.allowed && not (eqb (target_in s block) man)) (Err (Refusal.ground 6)) granted)))

unfoldable pub ground : Standing → ℕ → ℕ → ℕ → ℕ → Answer
ground s block number a b = ground_by s block number a b (entry_of block number)

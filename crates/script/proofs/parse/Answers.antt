use Rattle.std.proofs.Common.{◌≡◌, ◌<◌, ℕ, List, [], ◌∷◌, length, lt-ltb, le-ltb, eq-eqb, ne_eqb, arith}
use Rattle.script.specs.Words.{words_of, words_after}
use Rattle.script.specs.Command.{command_of}
use Rattle.script.proofs.parse.Goals as goal

-- a line with a word has a byte
has_byte : (s w : List ℕ) (ws : List (List ℕ)) → words_of s ≡ w ∷ ws → 0 < length s
unfolding words_of words_after
has_byte [] w ws e = absurd (let x : [] ≡ w ∷ ws = e in cc)
has_byte (c ∷ s) w ws e = omega arith

pub returns-then-line-gt4096 : goal.returns-then-line-gt4096
unfolding command_of
returns-then-line-gt4096 c = rw (lt-ltb 4096 (length c.args.line.now) c.if-line-gt4096.true)

pub returns-in_default : goal.returns-in_default
unfolding command_of
returns-in_default c = rw (le-ltb 4096 (length c.args.line.now) c.if-line-gt4096.false, c.in_default.ensures.steps.0)

pub bounds-line-0 : goal.bounds-line-0
bounds-line-0 c = let h = has_byte c.args.line.now c.in-Some.word.now _ c.in-Some.ensures.steps in omega arith

pub returns-then-line-eq35 : goal.returns-then-line-eq35
unfolding command_of
returns-then-line-eq35 c =
    rw (le-ltb 4096 (length c.args.line.now) c.if-line-gt4096.false, c.in-Some.ensures.steps, eq-eqb _ _ c.if-line-eq35.true)

pub returns-in-Some-named : goal.returns-in-Some-named
unfolding command_of
returns-in-Some-named c =
    rw (le-ltb 4096 (length c.args.line.now) c.if-line-gt4096.false, c.in-Some.ensures.steps, ne_eqb _ _ c.if-line-eq35.false) (rw (← c.in-Some-named.ensures))

pub returns-in-None : goal.returns-in-None
unfolding command_of
returns-in-None c =
    rw (le-ltb 4096 (length c.args.line.now) c.if-line-gt4096.false, c.in-Some.ensures.steps, ne_eqb _ _ c.if-line-eq35.false) (rw (← c.in-None.ensures))

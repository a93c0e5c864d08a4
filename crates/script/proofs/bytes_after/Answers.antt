use Rattle.std.proofs.Common.{◌∙◌, ◌<◌, sym, length, length-set, arith}
use Rattle.script.specs.Words.{words_of, word_byte}
use Rattle.script.proofs.Lines.{filled_more, filled-all, stepped, rest-dropped}
use Rattle.script.proofs.bytes_after.Goals as goal

pub loop-preserved : goal.loop-preserved
loop-preserved c =
    stepped (λ w. w.now) c.next.result (words_of c.loop.words.rest.now) (words_of c.next.new.self.rest.now) c.next.ensures.steps
    ∙ rw c.loop.invariant (rest-dropped (words_of c.args.line.now) c.loop.counter)

pub loop-byte-preserved : goal.loop-byte-preserved
loop-byte-preserved c =
    let l = c.loop-byte in
    let n = c.low_byte.ensures in
    let ws = words_of l.words.rest.now in
    let h : l.byte-index < length l.out = omega (arith, l.auto.out) in
    rw (length-set l.out l.byte-index c.low_byte.result, n.rest)
    (filled_more word_byte l.out (length l.out) l.byte-index c.low_byte.result ws h h n.byte ∙ l.invariant)

pub returns : goal.returns
returns c =
    let l = c.loop-byte in
    sym (filled-all word_byte l.out (length l.out) l.byte-index (words_of l.words.rest.now) (omega arith) (omega arith)) ∙ l.invariant ∙ rw l.auto.out

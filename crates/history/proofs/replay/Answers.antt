-- `history::replay` meets its contract: each turn makes the call in front, so that what is left to run stays what the whole list runs to.
use Prim.Native.Nat.{◌<◌}
use native.Mathlib.Omega.{arith}
use mathlib.Core.Path.{◌≡◌, sym, ◌∙◌}
use lib.ListN.{length}
use Rattle.std.specs.Prelude.{Some, None}
use Rattle.history.specs.Encoded.{called}
use Rattle.history.proofs.Run.{ended, stopped, shorter, turned, kept-promise}
use Rattle.history.proofs.replay.Goals as goal

pub returns-in_err-call : goal.returns-in_err-call
returns-in_err-call c =
    let l = c.loop-reader in
    let more : 0 < length l.reader.left.now = grind (arith, c.is_empty.ensures, c.loop-reader-test.true) in
    rw c.from_residual.ensures
    (kept-promise c.args.calls.now (λ i. (c.type_inv.calls i).fits) None (sym l.invariant.0 ∙ stopped l.reader.left.now l.device more c.in_err-call.ensures))

pub loop-reader-smaller : goal.loop-reader-smaller
loop-reader-smaller c =
    let l = c.loop-reader in
    let more : 0 < length l.reader.left.now = grind (arith, c.is_empty.ensures, c.loop-reader-test.true) in
    (shorter l.reader.left.now l.invariant.1 more (called c.in_ok-call.field-0) c.call.new.self.left.now c.in_ok-call.ensures).1

pub loop-reader-preserved : goal.loop-reader-preserved
loop-reader-preserved c =
    let l = c.loop-reader in
    let more : 0 < length l.reader.left.now = grind (arith, c.is_empty.ensures, c.loop-reader-test.true) in
    let step = called c.in_ok-call.field-0 in
    let left = c.call.new.self.left.now in (
      rw c.make.ensures (sym (turned l.reader.left.now l.device l.invariant.1 more step left c.in_ok-call.ensures) ∙ l.invariant.0),
      (shorter l.reader.left.now l.invariant.1 more step left c.in_ok-call.ensures).0,
    )

pub returns : goal.returns
returns c =
    let l = c.loop-reader in
    let none : length l.reader.left.now ≡ 0 = grind (arith, c.is_empty.ensures, c.loop-reader-test.false) in
    kept-promise c.args.calls.now (λ i. (c.type_inv.calls i).fits) (Some l.device) (sym l.invariant.0 ∙ ended l.reader.left.now l.device none)

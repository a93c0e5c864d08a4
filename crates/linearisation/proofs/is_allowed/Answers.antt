-- `linearisation::is_allowed` is right: all numbers are finite, and then the x rise or don't; or some number isn't.
use Rattle.std.proofs.Common.{rules, ◌≡◌, ℕ, ◌<◌, true, false, length, slice_index_or, ◌∙◌, sym}
use Rattle.std.proofs.lemmas.Fn.{always_returns_same}
use Rattle.std.specs.List.{All}
use Rattle.std.specs.Float.Ieee.{lt}
use Rattle.linearisation.specs.declared.Point.{Point}
use Rattle.linearisation.specs.Laws.{unwritten}
use Rattle.linearisation.proofs.Pairs.{numbers, allowed_sorted, allowed_unfinished}
use Rattle.linearisation.proofs.is_allowed.Goals as goal

pub returns-then-all : goal.returns-then-all
returns-then-all c =
    let ps = c.args.pairs.now in
    let fine : All (λ (p : Point). numbers p ≡ true) ps = search rules in
    allowed_sorted ps c.is_sorted_by.result fine (c.is_sorted_by.ensures.cases (λ (p q : Point). lt p.x q.x) (always_returns_same _ _ _ (λ a r f called. search rules)))

pub returns-else-all : goal.returns-else-all
returns-else-all c =
    let ps = c.args.pairs.now in
    let some : (k : ℕ) × (k < length ps) × (numbers (slice_index_or ps k unwritten) ≡ false) = search rules in
    c.if-all.false ∙ sym (allowed_unfinished ps some.0 unwritten some.1 some.2)

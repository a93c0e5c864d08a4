-- `Table::value_at` is right: the place that `rposition` gives is that of the pair used, and it gives none where none is.
use Rattle.std.proofs.Common.{rules, ◌≡◌, ℕ, ◌+◌, ◌<◌, ◌≤◌, true, false, length, slice_index_or, ◌∙◌}
use Rattle.std.specs.Float.Ieee.{le}
use Rattle.std.specs.Float.Ieee.Scale.{finite}
use Rattle.linearisation.specs.Laws.{unwritten}
use Rattle.linearisation.specs.Value.{first_y, value_at}
use Rattle.linearisation.proofs.Pairs.{inner_value, last_value, below_value}
use Rattle.linearisation.proofs.Table.value_at.Goals as goal

pub returns-then-not-is_finite : goal.returns-then-not-is_finite
unfolding value_at
returns-then-not-is_finite c = search rules

pub returns-in-Some-get : goal.returns-in-Some-get
returns-in-Some-get c =
    let ps = c.pairs-pairs.result.now in
    let i = c.in-Some.i in
    let x = c.args.x in
    let f : finite x ≡ true = search rules in
    let b : i + 1 < length ps = search rules in
    let l : le (slice_index_or ps i unwritten).x x ≡ true = search rules in
    let none : (k : ℕ) → i < k → k < length ps → le (slice_index_or ps k unwritten).x x ≡ false = search rules in
    let n : c.in-Some-get.next.now ≡ slice_index_or ps (i + 1) unwritten = search rules in
    c.on_line_to.ensures ∙ rw (n, ← c.pairs-pairs.ensures) (inner_value x ps i unwritten f b l none)

pub returns-in-None-get : goal.returns-in-None-get
returns-in-None-get c =
    let ps = c.pairs-pairs.result.now in
    let i = c.in-Some.i in
    let x = c.args.x in
    let f : finite x ≡ true = search rules in
    let b : i < length ps = search rules in
    let e : length ps ≤ i + 1 = search rules in
    let l : le (slice_index_or ps i unwritten).x x ≡ true = search rules in
    let none : (k : ℕ) → i < k → k < length ps → le (slice_index_or ps k unwritten).x x ≡ false = search rules in
    rw (← c.pairs-pairs.ensures) (last_value x ps i unwritten f b e l none)

pub returns-in-None : goal.returns-in-None
returns-in-None c =
    let ps = c.pairs-pairs.result.now in
    let x = c.args.x in
    let f : finite x ≡ true = search rules in
    let none : (k : ℕ) → k < length ps → le (slice_index_or ps k unwritten).x x ≡ false = search rules in
    let y : c.map_or.result ≡ first_y ps x = search rules in
    y ∙ rw (← c.pairs-pairs.ensures) (below_value x ps unwritten f none)

-- `Table::try_from` is right: the tests pick the definition's case.
use Rattle.std.proofs.Common.{length, ◌∙◌, sym, ap, Ok, arith}
use Rattle.linearisation.specs.Table.{loaded_of}
use Rattle.linearisation.specs.Laws.{whole-pairs}
use Rattle.linearisation.proofs.Pairs.{table_made, judged}
use Rattle.linearisation.proofs.TableTryFromRefSliceU8.try_from.Goals as goal

pub returns-then-not-is_whole : goal.returns-then-not-is_whole
unfolding loaded_of
returns-then-not-is_whole c = rw (← c.is_whole.ensures, c.if-not-is_whole.true)

pub points_of-points-requires : goal.points_of-points-requires
points_of-points-requires c =
    let b = whole-pairs (length c.args.bytes.now) (sym c.is_whole.ensures ∙ c.if-not-is_whole.false) in
    omega (arith, b.1, c.as_chunks.ensures.front_len)

pub returns-then-not-is_allowed : goal.returns-then-not-is_allowed
unfolding loaded_of
returns-then-not-is_allowed c =
    let s = c.args.bytes.now in
    let same = judged s c.as_chunks.result.0.now c.points_of-points.result c.as_chunks.ensures.front c.points_of-points.ensures in
    rw (← c.is_whole.ensures, c.if-not-is_whole.false, ← same, ← c.is_allowed.ensures, c.if-not-is_allowed.true)

pub returns : goal.returns
unfolding loaded_of
returns c =
    let s = c.args.bytes.now in
    let same = judged s c.as_chunks.result.0.now c.points_of-points.result c.as_chunks.ensures.front c.points_of-points.ensures in
    rw (← c.is_whole.ensures, c.if-not-is_whole.false, ← same, ← c.is_allowed.ensures, c.if-not-is_allowed.false)
    (ap Ok (table_made s c.as_chunks.result.0.now c.points_of-points.result c.as_chunks.ensures.front c.points_of-points.ensures))

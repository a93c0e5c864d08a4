-- Each return follows the comparisons that the definition makes, in its order.
use Rattle.script.proofs.Told.{told}
use Rattle.script.specs.Command.{name_of}
use Rattle.script.proofs.name_of.Goals as goal

pub returns-then-same : goal.returns-then-same
unfolding name_of
returns-then-same c = rw (told c.same.ensures c.if-same.true)

pub returns-then-same-2 : goal.returns-then-same-2
unfolding name_of
returns-then-same-2 c =
    rw (told c.same.ensures c.if-same.false, told c.same-2.ensures c.if-same-2.true)

pub returns-then-same-3 : goal.returns-then-same-3
unfolding name_of
returns-then-same-3 c =
    rw (told c.same.ensures c.if-same.false, told c.same-2.ensures c.if-same-2.false, told c.same-3.ensures c.if-same-3.true)

pub returns-then-same-4 : goal.returns-then-same-4
unfolding name_of
returns-then-same-4 c =
    rw (told c.same.ensures c.if-same.false, told c.same-2.ensures c.if-same-2.false, told c.same-3.ensures c.if-same-3.false, told c.same-4.ensures c.if-same-4.true)

pub returns-then-same-5 : goal.returns-then-same-5
unfolding name_of
returns-then-same-5 c =
    rw (told c.same.ensures c.if-same.false, told c.same-2.ensures c.if-same-2.false, told c.same-3.ensures c.if-same-3.false, told c.same-4.ensures c.if-same-4.false, told c.same-5.ensures c.if-same-5.true)

pub returns-then-same-6 : goal.returns-then-same-6
unfolding name_of
returns-then-same-6 c =
    rw (told c.same.ensures c.if-same.false, told c.same-2.ensures c.if-same-2.false, told c.same-3.ensures c.if-same-3.false, told c.same-4.ensures c.if-same-4.false, told c.same-5.ensures c.if-same-5.false, told c.same-6.ensures c.if-same-6.true)

pub returns-then-same-7 : goal.returns-then-same-7
unfolding name_of
returns-then-same-7 c =
    rw (told c.same.ensures c.if-same.false, told c.same-2.ensures c.if-same-2.false, told c.same-3.ensures c.if-same-3.false, told c.same-4.ensures c.if-same-4.false, told c.same-5.ensures c.if-same-5.false, told c.same-6.ensures c.if-same-6.false, told c.same-7.ensures c.if-same-7.true)

pub returns-then-same-8 : goal.returns-then-same-8
unfolding name_of
returns-then-same-8 c =
    rw (told c.same.ensures c.if-same.false, told c.same-2.ensures c.if-same-2.false, told c.same-3.ensures c.if-same-3.false, told c.same-4.ensures c.if-same-4.false, told c.same-5.ensures c.if-same-5.false, told c.same-6.ensures c.if-same-6.false, told c.same-7.ensures c.if-same-7.false, told c.same-8.ensures c.if-same-8.true)

pub returns-then-same-9 : goal.returns-then-same-9
unfolding name_of
returns-then-same-9 c =
    rw (told c.same.ensures c.if-same.false, told c.same-2.ensures c.if-same-2.false, told c.same-3.ensures c.if-same-3.false, told c.same-4.ensures c.if-same-4.false, told c.same-5.ensures c.if-same-5.false, told c.same-6.ensures c.if-same-6.false, told c.same-7.ensures c.if-same-7.false, told c.same-8.ensures c.if-same-8.false, told c.same-9.ensures c.if-same-9.true)

pub returns-then-same-10 : goal.returns-then-same-10
unfolding name_of
returns-then-same-10 c =
    rw (told c.same.ensures c.if-same.false, told c.same-2.ensures c.if-same-2.false, told c.same-3.ensures c.if-same-3.false, told c.same-4.ensures c.if-same-4.false, told c.same-5.ensures c.if-same-5.false, told c.same-6.ensures c.if-same-6.false, told c.same-7.ensures c.if-same-7.false, told c.same-8.ensures c.if-same-8.false, told c.same-9.ensures c.if-same-9.false, told c.same-10.ensures c.if-same-10.true)

pub returns : goal.returns
unfolding name_of
returns c =
    rw (told c.same.ensures c.if-same.false, told c.same-2.ensures c.if-same-2.false, told c.same-3.ensures c.if-same-3.false, told c.same-4.ensures c.if-same-4.false, told c.same-5.ensures c.if-same-5.false, told c.same-6.ensures c.if-same-6.false, told c.same-7.ensures c.if-same-7.false, told c.same-8.ensures c.if-same-8.false, told c.same-9.ensures c.if-same-9.false, told c.same-10.ensures c.if-same-10.false)

use Rattle.std.proofs.Common.{◌≡◌, ◌∙◌, sym, ◌<◌, refl, length, ◌-◌, true, false, length-set, Option, None, Some, List, [], ◌∷◌, ℕ, Bool, not, is_some, rules, arith}
use Rattle.std.proofs.lemmas.List.{length-replicate}
use Rattle.std.specs.Bool.{then_some}
use Rattle.std.specs.Option.{MatchOption}
use Rattle.script.specs.Words.{words_of, is_empty, fitting, word_value, values_of}
use Rattle.script.proofs.Lines.{fitting-at, fitting-ended, filled_more, filled-all}
use Rattle.script.proofs.words.Words.numbers.Goals as goal

pub loop-i-init : goal.loop-i-init
loop-i-init g c = record { limits = search rules; size = length-replicate g.row.N 0; fits = refl; values = (let e : g.row.N - 0 ≡ g.row.N = omega arith in rw e) }

pub returns-in_err-values : goal.returns-in_err-values
returns-in_err-values g c =
    let l = c.loop-i in
    let h : l.i < length c.args.limits.now = omega (arith, l.invariant.limits, c.loop-i-test.true) in
    let e : fitting c.args.limits.now (words_of c.args.self.rest.now) ≡ false =
    l.invariant.fits ∙ fitting-at c.args.limits.now l.i (words_of l.self.rest.now) h ∙ rw c.in_err-values.ensures in
    rw c.from_residual.ensures e

pub loop-i-preserved : goal.loop-i-preserved
loop-i-preserved g c =
    let l = c.loop-i in
    let n = c.in_ok-values.ensures in
    let h : l.i < length c.args.limits.now = omega (arith, l.invariant.limits, c.loop-i-test.true) in
    let k : l.i < length l.values = omega (arith, l.invariant.size, c.loop-i-test.true) in
    record {
      limits = l.invariant.limits;
      size = length-set l.values l.i c.in_ok-values.field-0 ∙ l.invariant.size;
      fits = l.invariant.fits ∙ fitting-at c.args.limits.now l.i (words_of l.self.rest.now) h ∙ rw (n.0, n.2);
      values = rw n.2 (filled_more word_value l.values g.row.N l.i c.in_ok-values.field-0 (words_of l.self.rest.now) k c.loop-i-test.true n.1) ∙ l.invariant.values;
    }

-- by whether a word is left
ended : (N : ℕ) (limits values : List ℕ) (ws left : List (List ℕ)) (t : Bool) (r : Option (List ℕ)) → t ≡ is_empty left → r ≡ then_some t values
    → fitting limits ws ≡ is_empty left → values ≡ values_of N ws
    → MatchOption r (fitting limits ws ≡ false) (λ v. (fitting limits ws ≡ true) × (v ≡ values_of N ws))
ended N limits values ws left true r e s f v = rw s (f ∙ sym e, v)
ended N limits values ws left false r e s f v = rw s (f ∙ sym e)

-- `next` gave no word
is_end : {A : Type 0} (view : A → List ℕ) (o : Option A) (left rest : List (List ℕ)) (t : Bool) → is_some o ≡ not t
    → MatchOption o ((left ≡ []) × (rest ≡ [])) (λ w. left ≡ view w ∷ rest) → t ≡ is_empty left
is_end view None left rest true e s = rw s.0
is_end view None left rest false e s = absurd (let z : false ≡ true = e in cc)
is_end view (Some w) left rest true e s = absurd (let z : true ≡ false = e in cc)
is_end view (Some w) left rest false e s = rw s

pub returns : goal.returns
returns g c =
    let l = c.loop-i in
    let ws = words_of l.self.rest.now in
    let f = l.invariant.fits ∙ fitting-ended c.args.limits.now l.i ws (omega (arith, l.invariant.limits, c.loop-i-test.false)) in
    let v = sym (filled-all word_value l.values g.row.N l.i ws (omega (arith, l.invariant.size, c.loop-i-test.false)) c.loop-i-test.false) ∙ l.invariant.values in
    ended g.row.N c.args.limits.now l.values (words_of c.args.self.rest.now) ws c.is_none.result c.then_some.result (is_end (λ w. w.now) c.next.result ws (words_of c.next.new.self.rest.now) c.is_none.result c.is_none.ensures c.next.ensures.steps) c.then_some.ensures f v

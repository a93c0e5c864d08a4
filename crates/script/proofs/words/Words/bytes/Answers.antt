use Rattle.std.proofs.Common.{inl, refl, ◌≡◌, ◌∙◌, ℕ, Bool, true, false, length, List, [], Option, leb, arith}
use Rattle.std.proofs.Math.Bool.{and-false}
use Rattle.std.specs.Option.{MatchOption}
use Rattle.std.specs.Bool.{then_some}
use Rattle.script.specs.Words.{words_of, are_bytes}
use Rattle.script.proofs.Lines.{all_bytes, drained, tested, words-short}
use Rattle.script.proofs.words.Words.bytes.Goals as goal

pub returns-then-not-all : goal.returns-then-not-all
returns-then-not-all c =
    let a : all_bytes (words_of c.args.self.rest.now) ≡ c.all.result =
    tested {u = c.all.new.self} (λ w. w.now) (λ s. words_of s.rest.now) c.all.ensures.ran (λ p x b q t. t.met) in
    rw (a, c.if-not-all.true) (and-false (leb (length (words_of c.args.self.rest.now)) c.args.most))

pub count-count-requires-clause-fits : goal.count-count-requires-clause-fits
unfolding words_of
count-count-requires-clause-fits c = inl (omega (arith, words-short [] c.args.self.rest.now, c.ranges.self.0))

counted : (most n : ℕ) (ws : List (List ℕ)) (r : Option ℕ) → r ≡ then_some (leb n most) n → n ≡ length ws → all_bytes ws ≡ true
    → MatchOption r (are_bytes most ws ≡ false) (λ k. (are_bytes most ws ≡ true) × (k ≡ length ws))
counted most n ws r e h a = go (leb n most) refl r e
  where
    go : (t : Bool) → leb n most ≡ t → (r : Option ℕ) → r ≡ then_some t n → MatchOption r (are_bytes most ws ≡ false) (λ k. (are_bytes most ws ≡ true) × (k ≡ length ws))
    go true t r e = rw e (rw (a, ← h, t), h)
    go false t r e = rw e (rw (← h, t))

pub returns : goal.returns
returns c =
    let r = c.count-count.ensures.ran in
    let n : c.count-count.result ≡ length (words_of c.args.self.rest.now) =
    r.2 ∙ drained (λ w. w.now) (λ s. words_of s.rest.now) r.0 c.args.self r.1.1.0 r.1.1.1 r.1.1.2.0 in
    let a : all_bytes (words_of c.args.self.rest.now) ≡ c.all.result =
    tested {u = c.all.new.self} (λ w. w.now) (λ s. words_of s.rest.now) c.all.ensures.ran (λ p x b q t. t.met) in
    counted c.args.most c.count-count.result (words_of c.args.self.rest.now) c.then_some.result c.then_some.ensures n (a ∙ c.if-not-all.false)

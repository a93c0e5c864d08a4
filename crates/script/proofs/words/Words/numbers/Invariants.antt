-- The values so far and those of the words left are all, and all fit if the words left do.
use Rattle.std.proofs.Common.{◌≡◌, ◌-◌, ◌++◌, length, take, drop}
use Rattle.script.specs.Words.{words_of, fitting, values_of}
use Rattle.script.proofs.words.Words.numbers.Given as goal

abbrev pub invariant-loop-i : goal.invariant-loop-i
invariant-loop-i g l = record {
  limits : length l.limits ≡ g.row.N;
  size : length l.values ≡ g.row.N;
  fits : fitting l.limits (words_of l.fn.self.rest.now) ≡ fitting (drop l.i l.limits) (words_of l.self.rest.now);
  values : take l.i l.values ++ values_of (g.row.N - l.i) (words_of l.self.rest.now) ≡ values_of g.row.N (words_of l.fn.self.rest.now);
}

-- The word's bytes are its eight digits, two and two.
use Rattle.std.proofs.Common.{rules, ◌≡◌, ◌/◌, ◌%◌, ℕ, List, subst, arith}
use Rattle.text.specs.Appended.{Fits}
use Rattle.text.specs.Digits.{hex_word}
use Rattle.text.proofs.fit_word.Goals as goal

pub returns : goal.returns
returns g c =
    let P : List ℕ → Type 0 = λ bs. Fits g.row.N c.args.out.now c.try_extend_from_slice.new.self bs c.try_extend_from_slice.result in
    let w = c.args.word in
    let a : w / 16777216 % 256 / 16 % 16 ≡ w / 16 / 16 / 16 / 16 / 16 / 16 / 16 % 16 = omega arith in
    let b : w / 16777216 % 256 % 16 ≡ w / 16 / 16 / 16 / 16 / 16 / 16 % 16 = omega arith in
    let d : w / 65536 % 256 / 16 % 16 ≡ w / 16 / 16 / 16 / 16 / 16 % 16 = omega arith in
    let e : w / 65536 % 256 % 16 ≡ w / 16 / 16 / 16 / 16 % 16 = omega arith in
    let f : w / 256 % 256 / 16 % 16 ≡ w / 16 / 16 / 16 % 16 = omega arith in
    let h : w / 256 % 256 % 16 ≡ w / 16 / 16 % 16 = omega arith in
    let i : w % 256 / 16 % 16 ≡ w / 16 % 16 = omega arith in
    let j : w % 256 % 16 ≡ w % 16 = omega arith in
    let bytes : c.as_flattened.result.now ≡ hex_word w =
    rw (c.as_flattened.ensures.value, c.hex.ensures, c.hex-2.ensures, c.hex-3.ensures, c.hex-4.ensures, c.to_be_bytes.ensures, a, b, d, e, f, h, i, j) in
    subst P bytes (search rules)

-- `packing::pack` meets its contract: the words of the device one after the other, and each is read again from its bytes.
use Rattle.std.proofs.Common.{◌≡◌, ◌<◌, ◌^◌, ◌∙◌, ℕ, List, [], ◌++◌, get_or, length, append-nil, arith, rules, Ok}
use borrow.Author.Tests.{le-leb, lt-leb}
use Rattle.device.specs.declared.Device.{Device}
use Rattle.packing.specs.Words.{device_words, fields_of, words_of}
use Rattle.packing.specs.Packed.{packed_of, pack_answer, pack_bytes, unpacked_of}
use Rattle.packing.specs.Laws.{small-each, unpack-pack, words-length}
use Rattle.packing.proofs.pack.Goals as goal

-- words that fit and are read again as the device
again : (d : Device) (ws : List ℕ) → ws ≡ words_of d → ((i : ℕ) → get_or ws i 0 < 2 ^ 32)
    → ((rest : List ℕ) → (fields_of (device_words d ++ rest)).value ≡ d) → unpacked_of (packed_of d) ≡ Ok d
unfolding words_of
again d ws e fit back = unpack-pack d (rw e at (small-each ws fit)) (rw append-nil at (back []))

pub returns-then-buf-lt-PACKED-clause-value : goal.returns-then-buf-lt-PACKED-clause-value
unfolding pack_answer
returns-then-buf-lt-PACKED-clause-value c = rw (lt-leb 564 (length c.args.buf.now) (omega arith))

pub returns-then-buf-lt-PACKED-clause-buf_after : goal.returns-then-buf-lt-PACKED-clause-buf_after
unfolding pack_bytes
returns-then-buf-lt-PACKED-clause-buf_after c = rw (lt-leb 564 (length c.args.buf.now) (omega arith))

pub returns-then-buf-lt-PACKED-clause-d_value : goal.returns-then-buf-lt-PACKED-clause-d_value
unfolding words_of
returns-then-buf-lt-PACKED-clause-d_value c =
    let e : c.words-words.result.now ≡ words_of c.args.d = c.words-words.ensures ∙ rw (c.put.ensures.to_after, c.push.ensures.self_after, c.new-to.ensures) in
    again c.args.d c.words-words.result.now e (search rules) c.put.ensures.back

pub put_words-requires : goal.put_words-requires
unfolding words_of
put_words-requires c =
    let e : c.words-words.result.now ≡ words_of c.args.d = c.words-words.ensures ∙ rw (c.put.ensures.to_after, c.push.ensures.self_after, c.new-to.ensures) in
    rw (e, words-length c.args.d) (omega arith)

pub returns-clause-value : goal.returns-clause-value
unfolding pack_answer
returns-clause-value c = rw (le-leb 564 (length c.args.buf.now) (omega arith))

pub returns-clause-buf_after : goal.returns-clause-buf_after
unfolding pack_bytes packed_of words_of
returns-clause-buf_after c =
    let e : c.words-words.result.now ≡ words_of c.args.d = c.words-words.ensures ∙ rw (c.put.ensures.to_after, c.push.ensures.self_after, c.new-to.ensures) in
    c.put_words.ensures ∙ rw (e, words-length c.args.d, le-leb 564 (length c.args.buf.now) (omega arith))

pub returns-clause-d_value : goal.returns-clause-d_value
unfolding words_of
returns-clause-d_value c =
    let e : c.words-words.result.now ≡ words_of c.args.d = c.words-words.ensures ∙ rw (c.put.ensures.to_after, c.push.ensures.self_after, c.new-to.ensures) in
    again c.args.d c.words-words.result.now e (search rules) c.put.ensures.back

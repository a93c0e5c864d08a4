-- `packing::put_words` meets its contract: one word's bytes after the other.
use Rattle.std.proofs.Common.{◌≡◌, ◌∙◌, get_or, add-one, arith}
use Rattle.wire.specs.Bytes.{word_bytes}
use Rattle.packing.specs.Laws.{put-more, be-bytes}
use Rattle.packing.proofs.put_words.Goals as goal

pub loop-i-preserved : goal.loop-i-preserved
loop-i-preserved c =
    let s = c.args.buf.now in
    let ws = c.args.words.now in
    let i = c.loop-i.i in
    let word = c.type_inv.words i in
    let e : c.copy_from_slice.new.self ≡ word_bytes (get_or ws i 0) = c.copy_from_slice.ensures.after ∙ c.to_be_bytes.ensures ∙ be-bytes (get_or ws i 0) word.fits in
    rw (e, c.loop-i.invariant, add-one i) (put-more s ws i (omega arith) (omega arith))

-- `packing::unpack` meets its contract: the three returns are the three cases of the definition.
use Rattle.std.proofs.Common.{◌≡◌, List, ℕ, replicate, refl, sym, ap, ◌∙◌}
use mathlib.Core.Bool.{true≢false}
use Rattle.packing.specs.Words.{fields_of, device_of}
use Rattle.packing.specs.Packed.{packed_of, words_in}
use Rattle.packing.specs.Laws.{unpack-length, unpack-yes, unpack-no, pack-exact}
use Rattle.packing.proofs.unpack.Goals as goal

pub returns-then-bytes-ne-PACKED-clause-value : goal.returns-then-bytes-ne-PACKED-clause-value
returns-then-bytes-ne-PACKED-clause-value c = sym (unpack-length c.args.bytes.now c.if-bytes-ne-PACKED.true)

pub returns-then-same-clause-value : goal.returns-then-same-clause-value
returns-then-same-clause-value c =
    let s = c.args.bytes.now in
    let d : c.take-device.result ≡ device_of (words_in s) =
    c.take-device.ensures.value ∙ ap (λ (ws : List ℕ). (fields_of ws).value) c.next_word.ensures.self_after in
    let packed = c.pack.ensures.buf_after ∙ pack-exact (replicate 564 0) c.take-device.result refl in
    let same = c.same.ensures.0 c.if-same.true ∙ packed ∙ ap packed_of d in
    rw d (sym (unpack-yes s c.if-bytes-ne-PACKED.false same))

pub returns-then-same-clause-device_value : goal.returns-then-same-clause-device_value
returns-then-same-clause-device_value c =
    let packed = c.pack.ensures.buf_after ∙ pack-exact (replicate 564 0) c.take-device.result refl in
    sym (c.same.ensures.0 c.if-same.true ∙ packed)

pub returns-else-same-clause-value : goal.returns-else-same-clause-value
returns-else-same-clause-value c =
    let s = c.args.bytes.now in
    let d : c.take-device.result ≡ device_of (words_in s) =
    c.take-device.ensures.value ∙ ap (λ (ws : List ℕ). (fields_of ws).value) c.next_word.ensures.self_after in
    let packed = c.pack.ensures.buf_after ∙ pack-exact (replicate 564 0) c.take-device.result refl in
    let other : s ≡ packed_of (device_of (words_in s)) → ⊥ =
    λ q. true≢false (sym (c.same.ensures.1 (q ∙ ap packed_of (sym d) ∙ sym packed)) ∙ c.if-same.false) in
    sym (unpack-no s c.if-bytes-ne-PACKED.false other)

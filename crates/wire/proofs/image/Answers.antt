-- `wire::image` meets its contract: five writes one behind the other are the image.
use native.Mathlib.Omega.{arith}
use borrow.Author.Tests.{le-leb}
use Rattle.std.proofs.Common.{drop-drop, length}
use Rattle.wire.specs.Image.{image_bytes}
use Rattle.wire.proofs.image.Goals as goal

pub returns-clause-buf_after : goal.returns-clause-buf_after
unfolding image_bytes
returns-clause-buf_after c = let s = c.args.buf.now in
    rw (c.copy_from_slice.ensures.after, c.copy_from_slice-2.ensures.after, c.copy_from_slice-3.ensures.after, c.copy_from_slice-4.ensures.after, c.copy_from_slice-5.ensures.after, c.to_bytes.ensures, c.to_bytes-2.ensures, c.to_bytes-3.ensures, c.to_bytes-4.ensures, c.to_bytes-5.ensures, le-leb 19 (length s) (omega arith))
    (rw (drop-drop 5 5 s, drop-drop 5 10 s, drop-drop 2 15 s, drop-drop 2 17 s))

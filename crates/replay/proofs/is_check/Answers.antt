-- `replay::is_check` is safe: the bytes that were read are no more than there is room for.
use mathlib.Core.Path.{sym}
use native.Mathlib.Omega.{arith}
use lib.Seq.{length-take-le}
use Rattle.requests.proofs.Decoding.{bytes_fit}
use Rattle.replay.proofs.is_check.Goals as goal

pub slice_bounds-sheet-end : goal.slice_bounds-sheet-end
slice_bounds-sheet-end g c =
    let fits = bytes_fit _ _ _ _ _ _ c.read_hex.ensures c.in-Some.is in
    let kept = c.read_hex.auto.out in
    omega arith

pub slice_bounds-is_certificate-end : goal.slice_bounds-is_certificate-end
slice_bounds-is_certificate-end g c =
    let fits = bytes_fit _ _ _ _ _ _ c.read_hex.ensures c.in-Some.is in
    let kept = c.read_hex.auto.out in
    sym (length-take-le _ _ (omega arith))

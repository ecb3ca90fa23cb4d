-- `replay::is_sheet` is safe: the bytes that were read are no more than there is room for.
use mathlib.Core.Path.{sym}
use native.Mathlib.Omega.{arith}
use lib.Seq.{length-take-le}
use Rattle.requests.proofs.Decoding.{bytes_fit}
use Rattle.replay.proofs.is_sheet.Goals as goal

pub slice_bounds-bytes-end : goal.slice_bounds-bytes-end
slice_bounds-bytes-end g c =
    let fits = bytes_fit _ _ _ _ _ _ c.read_hex.ensures c.in-Some.is in
    let kept = c.read_hex.auto.out in
    omega arith

pub slice_bounds-answer_either-end : goal.slice_bounds-answer_either-end
slice_bounds-answer_either-end g c =
    let fits = bytes_fit _ _ _ _ _ _ c.read_hex.ensures c.in-Some.is in
    let kept = c.read_hex.auto.out in
    sym (length-take-le _ _ (omega arith))

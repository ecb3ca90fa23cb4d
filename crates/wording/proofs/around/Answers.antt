-- `around` meets its contract, by what its callees ensure.
use Rattle.wording.specs.Text.{text, up_to, after, piece}
use Rattle.wording.proofs.Answering.{around_here, around_end}
use Rattle.wording.proofs.around.Goals as goal

pub returns-then-place-s : goal.returns-then-place-s
returns-then-place-s c =
    let start = c.saturating_sub-from in
    let dots = c.dots-begun in
    let bytes = c.bytes-before in
    around_here _ _ _ start.ensures _ _ _ _ dots.ensures bytes.ensures c.if-place-s.true c.here.ensures

pub returns : goal.returns
unfolding text up_to after piece
returns c =
    let start = c.saturating_sub-from in
    let dots = c.dots-begun in
    let bytes = c.bytes-before in
    around_end _ _ _ start.ensures _ _ _ _ dots.ensures bytes.ensures c.if-place-s.false c.words.ensures

-- `here` meets its contract, by what its callees ensure.
use Rattle.wording.specs.Text.{text, up_to, after, piece}
use Rattle.wording.specs.Answers.{here_text}
use Rattle.wording.proofs.Answering.{three}
use Rattle.wording.proofs.here.Goals as goal

pub returns : goal.returns
unfolding here_text text up_to after piece
returns c =
    let fill = c.fill-marked in
    let bytes = c.bytes-after in
    rw (← c.from.ensures) (three _ _ _ _ _ _ _ fill.ensures bytes.ensures c.dots.ensures)

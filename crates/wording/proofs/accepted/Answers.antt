-- `accepted` meets its contract: the template is one piece.
use Rattle.wording.specs.Text.{text, up_to, after, piece}
use Rattle.wording.specs.Answers.{accepted_text}
use Rattle.wording.proofs.accepted.Goals as goal

pub returns : goal.returns
unfolding accepted_text text up_to after piece
returns c = c.fill.ensures

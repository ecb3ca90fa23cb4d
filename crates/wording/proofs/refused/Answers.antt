-- `refused` meets its contract: the template is one piece.
use Rattle.wording.specs.Text.{text, up_to, after, piece}
use Rattle.wording.specs.Answers.{refused_text}
use Rattle.wording.proofs.refused.Goals as goal

pub returns : goal.returns
unfolding refused_text text up_to after piece
returns c = c.fill.ensures

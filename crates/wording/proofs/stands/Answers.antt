-- `stands` meets its contract: the template is one piece.
use Rattle.wording.specs.Text.{text, up_to, after, piece}
use Rattle.wording.specs.Answers.{stands_text}
use Rattle.wording.proofs.stands.Goals as goal

pub returns : goal.returns
unfolding stands_text text up_to after piece
returns c = c.fill.ensures

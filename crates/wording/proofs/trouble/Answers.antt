-- `trouble` meets its contract: the piece is filled.
use Rattle.wording.specs.Text.{text}
use Rattle.wording.specs.Tables.{troubles}
use Rattle.wording.specs.Answers.{trouble_text}
use Rattle.wording.proofs.trouble.Goals as goal

pub returns : goal.returns
unfolding trouble_text troubles text
returns c = c.fill.ensures

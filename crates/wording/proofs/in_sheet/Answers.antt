-- `in_sheet` meets its contract, by what its callees ensure.
use Rattle.wording.specs.Text.{text, up_to, after, piece}
use Rattle.wording.specs.Answers.{sheet_text}
use Rattle.wording.proofs.Answering.{three}
use Rattle.wording.proofs.in_sheet.Goals as goal

pub returns : goal.returns
unfolding sheet_text text up_to after piece
returns c = three _ _ _ _ _ _ _ c.fill-said.ensures c.around-shown.ensures c.words.ensures

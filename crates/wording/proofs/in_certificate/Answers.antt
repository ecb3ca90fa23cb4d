-- `in_certificate` meets its contract, by what its callees ensure.
use Rattle.wording.specs.Text.{text, up_to, after, piece}
use Rattle.wording.specs.Answers.{certificate_text}
use Rattle.wording.proofs.Answering.{three}
use Rattle.wording.proofs.in_certificate.Goals as goal

pub returns : goal.returns
unfolding certificate_text text up_to after piece
returns c = three _ _ _ _ _ _ _ c.fill-said.ensures c.around-shown.ensures c.words.ensures

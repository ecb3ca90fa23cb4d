-- `at_phrase` meets its contract, by what its callees ensure.
use Rattle.wording.specs.Text.{text, up_to, after, piece}
use Rattle.wording.specs.Tables.{kinds}
use Rattle.wording.specs.Answers.{phrase_text}
use Rattle.wording.proofs.Answering.{three}
use Rattle.wording.proofs.at_phrase.Goals as goal

pub returns : goal.returns
unfolding phrase_text kinds text up_to after piece
returns c =
    let facts-of = c.facts_of-facts in
    let fill = c.fill-said in
    let at1 = c.at in
    let fill2 = c.fill-told in
    rw (← facts-of.ensures, ← at1.ensures) (three _ _ _ _ _ _ _ fill.ensures fill2.ensures c.words.ensures)

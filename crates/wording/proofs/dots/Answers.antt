-- `dots` meets its contract: the mark, or nothing.
use Rattle.wording.specs.Page.{write}
use Rattle.wording.specs.Text.{text, up_to, after, piece}
use Rattle.wording.specs.Answers.{dots_text}
use Rattle.wording.proofs.dots.Goals as goal

pub returns-then-more : goal.returns-then-more
unfolding dots_text text piece up_to after
returns-then-more c = rw c.if-more.true c.words.ensures

pub returns : goal.returns
unfolding dots_text write
returns c = rw c.if-more.false

-- By the constructor's number.
use Rattle.expressions.proofs.Leaves.{takes_one, takes_two}
use Rattle.expressions.proofs.takes.Goals as goal

pub returns-then-c-eq-NOT : goal.returns-then-c-eq-NOT
returns-then-c-eq-NOT c = search takes_one

pub returns-else-c-eq-NOT : goal.returns-else-c-eq-NOT
returns-else-c-eq-NOT c = search takes_two

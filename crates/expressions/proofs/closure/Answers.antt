-- The kind says which it is.
use Rattle.expressions.proofs.Leaves.{closure_method, closure_function}
use Rattle.expressions.proofs.closure.Goals as goal

pub returns-then-kind : goal.returns-then-kind
returns-then-kind c = search closure_method

pub returns-else-kind : goal.returns-else-kind
returns-else-kind c = search closure_function

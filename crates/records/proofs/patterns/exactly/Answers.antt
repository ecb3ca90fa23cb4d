-- A refusal is handed on; the proposition's number is the left operand.
use Rattle.language.specs.Numbers.{then}
use Rattle.std.proofs.lemmas.Result.{err_from_is_err_and}
use Rattle.records.specs.Operands.{exactly_row}
use Rattle.records.proofs.patterns.exactly.Goals as goal

pub returns-in_err-left : goal.returns-in_err-left
unfolding exactly_row then
returns-in_err-left c =
    let e = err_from_is_err_and c.from_residual.result c.from_residual.ensures.1 in
    rw (e.1, e.2) (rw (← c.in_err-left.ensures.0))

pub returns : goal.returns
unfolding exactly_row then
returns c = rw (← c.in_ok-left.ensures.0) c.small.ensures

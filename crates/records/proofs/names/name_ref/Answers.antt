-- A refusal is handed on; a reference is looked up among the names.
use Rattle.language.specs.Numbers.{then}
use Rattle.std.proofs.lemmas.Result.{err_from_is_err_and}
use Rattle.records.specs.Reading.{name_ref}
use Rattle.records.proofs.names.name_ref.Goals as goal

pub returns-in_err-p : goal.returns-in_err-p
unfolding name_ref then
returns-in_err-p c =
    let e = err_from_is_err_and c.from_residual.result c.from_residual.ensures.1 in
    rw (e.1, e.2) (rw (← c.in_err-p.ensures), tt)

pub returns : goal.returns
unfolding name_ref then
returns c = (rw (← c.in_ok-p.ensures, c.cell.ensures.0), c.cell.ensures.1)

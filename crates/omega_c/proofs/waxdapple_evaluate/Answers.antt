-- `omega_c::waxdapple_evaluate` meets its contract: the values are those of the door's answer.
use mathlib.Core.Path.{sym, ap}
use Rattle.omega_c.specs.Answers.{evaluated}
use Rattle.omega_c.proofs.waxdapple_evaluate.Goals as goal

pub returns-in-Ok : goal.returns-in-Ok
unfolding evaluated
returns-in-Ok c = record { answer = _; evaluates = c.evaluate.ensures; values_are = sym (ap evaluated c.in-Ok.is) }

pub returns-in-Err : goal.returns-in-Err
unfolding evaluated
returns-in-Err c = record { answer = _; evaluates = c.evaluate.ensures; values_are = rw c.number.ensures (sym (ap evaluated c.in-Err.is)) }

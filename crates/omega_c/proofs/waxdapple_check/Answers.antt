-- `omega_c::waxdapple_check` meets its contract: the values are those of the door's answer.
use mathlib.Core.Path.{sym, ap}
use Rattle.omega_c.specs.Answers.{checked}
use Rattle.omega_c.proofs.waxdapple_check.Goals as goal

pub returns-in-Ok : goal.returns-in-Ok
unfolding checked
returns-in-Ok c = record { answer = _; checks = c.check.ensures; values_are = sym (ap checked c.in-Ok.is) }

pub returns-in-Err : goal.returns-in-Err
unfolding checked
returns-in-Err c = record { answer = _; checks = c.check.ensures; values_are = rw c.number.ensures (sym (ap checked c.in-Err.is)) }

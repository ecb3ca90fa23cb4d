-- `evaluator::certify` meets its contract: what was written, or that there is no room for it.
use mathlib.Core.Path.{sym, ap}
use Rattle.evaluator.proofs.Certifying.{told, certifies}
use Rattle.evaluator.proofs.certify.Goals as goal

pub returns : goal.returns
unfolding told
returns c = certifies _ _ _ _ _ _ _ _ _ c.write.ensures _ (sym (ap (told _) c.in-Some.is))

pub returns-in_default : goal.returns-in_default
unfolding told
returns-in_default c = certifies _ _ _ _ _ _ _ _ _ c.write.ensures _ (sym (ap (told _) c.in_default.is))

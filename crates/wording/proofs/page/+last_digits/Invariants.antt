-- Each turn has one digit less to write.
use Rattle.wording.proofs.page.+last_digits.Given as goal

abbrev pub decreases-last_digits : goal.decreases-last_digits
decreases-last_digits l = l.k

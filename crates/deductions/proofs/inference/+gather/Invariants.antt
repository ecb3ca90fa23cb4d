-- The number of arguments left falls.
use Rattle.deductions.proofs.inference.+gather.Given as goal

abbrev pub decreases-gather : goal.decreases-gather
decreases-gather l = l.n

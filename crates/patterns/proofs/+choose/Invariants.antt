-- Each clause that misses leaves one clause less. The first that fits is chosen.
use Rattle.patterns.proofs.+choose.Given as goal

abbrev pub decreases-choose : goal.decreases-choose
decreases-choose l = l.left

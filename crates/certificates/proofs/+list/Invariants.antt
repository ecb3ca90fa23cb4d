-- The parts of a proposition are earlier in the table, so its number falls. Each way lists them, then enters the proposition behind them.
use Rattle.certificates.proofs.+list.Given as goal

abbrev pub decreases-list : goal.decreases-list
decreases-list l = l.p

-- The first j numbers are stored, the rest from there on.
use Rattle.words.proofs.Runs.{Storing}
use Rattle.words.proofs.put_all.Given as goal

abbrev pub invariant-loop-j : goal.invariant-loop-j
invariant-loop-j l = Storing l.initial.s l.i l.vs l.s l.j

-- The words and names so far are those that naming gives, and the answer from the start is the answer from here.
use Rattle.reader.proofs.Naming.{At}
use Rattle.reader.proofs.read_propositions.Given as goal

abbrev pub invariant-loop-i : goal.invariant-loop-i
invariant-loop-i l = At l.s l.count l.words l.at l.initial.names l.initial.forms l.names l.forms l.i l.used l.p

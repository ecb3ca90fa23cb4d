-- What is decoded from the start is what is decoded from here, and what was read stands at the front of out.
use Rattle.requests.proofs.Decoding.{At}
use Rattle.requests.proofs.pairs.Given as goal

abbrev pub invariant-loop-i : goal.invariant-loop-i
invariant-loop-i l = At l.line l.from l.n l.initial.out l.out l.i

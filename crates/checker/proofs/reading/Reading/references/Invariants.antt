-- One reference after another: what is left to read is what the definition has left.
use Rattle.checker.proofs.Tallies.{Referring}
use Rattle.checker.proofs.reading.Reading.references.Given as goal

abbrev pub invariant-loop : goal.invariant-loop
invariant-loop l = Referring l.self.certificate.now l.self.count l.k l.at l.counter l.next

-- The numbers from the start are those stored, and the rest from here.
use Rattle.records.specs.Reading.{name_ref}
use Rattle.reader.proofs.Filling.{In}
use Rattle.reader.proofs.parts.members.Given as goal

abbrev pub invariant-loop-i : goal.invariant-loop-i
invariant-loop-i l = In (name_ref l.s l.names) l.count l.at l.initial.base l.base l.i l.p

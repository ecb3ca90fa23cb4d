-- The rows from the start are those laid, and the rest from here.
use Rattle.records.specs.Reading.{phrase_row}
use Rattle.reader.proofs.Filling.{At}
use Rattle.reader.proofs.parts.phrase_rows.Given as goal

abbrev pub invariant-loop-i : goal.invariant-loop-i
invariant-loop-i l = At 12 512 (phrase_row l.s l.names l.patterns) l.count l.at l.initial.phrases l.phrases l.i l.p

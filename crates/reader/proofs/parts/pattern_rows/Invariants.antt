-- The rows from the start are those laid, and the rest from here.
use Rattle.records.specs.Reading.{pattern_row}
use Rattle.reader.proofs.Filling.{At}
use Rattle.reader.proofs.parts.pattern_rows.Given as goal

abbrev pub invariant-loop-i : goal.invariant-loop-i
invariant-loop-i l = At 5 128 (pattern_row l.s l.names) l.count l.at l.initial.patterns l.patterns l.i l.p

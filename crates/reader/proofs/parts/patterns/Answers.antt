-- A refused count reads nothing.
use mathlib.Core.Path.{sym}
use Rattle.numbers.proofs.Bounds.{from_got}
use Rattle.reader.specs.Parts.{part_two}
use Rattle.reader.proofs.Filling.{count_refused, count_read}
use Rattle.reader.proofs.parts.patterns.Goals as goal

pub pattern_rows-requires : goal.pattern_rows-requires
pattern_rows-requires c = ((from_got _ _ _ _ 0 128 (sym c.in-Ok.ensures)).to_top, c.requires)

pub returns-in-Ok : goal.returns-in-Ok
unfolding part_two
returns-in-Ok c = count_read _ _ _ _ _ _ _ _ _ (sym c.in-Ok.ensures) c.pattern_rows.ensures

pub returns-in-Err : goal.returns-in-Err
unfolding part_two
returns-in-Err c = count_refused _ _ _ _ _ _ (sym c.in-Err.ensures)

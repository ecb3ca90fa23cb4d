-- A refused count reads nothing.
use mathlib.Core.Path.{sym}
use Rattle.numbers.proofs.Bounds.{from_got}
use Rattle.reader.specs.Parts.{part_three}
use Rattle.reader.proofs.Filling.{count_refused, count_read}
use Rattle.reader.proofs.parts.phrases.Goals as goal

pub phrase_rows-requires : goal.phrase_rows-requires
phrase_rows-requires c = (c.requires.0, (from_got _ _ _ _ 1 512 (sym c.in-Ok.ensures)).to_top, c.requires.1)

pub returns-in-Ok : goal.returns-in-Ok
unfolding part_three
returns-in-Ok c = count_read _ _ _ _ _ _ _ _ _ (sym c.in-Ok.ensures) c.phrase_rows.ensures

pub returns-in-Err : goal.returns-in-Err
unfolding part_three
returns-in-Err c = count_refused _ _ _ _ _ _ (sym c.in-Err.ensures)

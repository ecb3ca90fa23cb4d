-- A row's number stands in the buffer past the rows before it.
use mathlib.Core.Path.{◌∙◌, sym}
use Rattle.records.proofs.Tables.{cell_at}
use Rattle.records.proofs.patterns.cell.Goals as goal

pub returns : goal.returns
returns c = (c.cell.ensures.0 ∙ sym (cell_at 5 _ _ _ _ c.requires.0 c.requires.2), c.cell.ensures.1)

-- A row's first number stands in the buffer past the rows before it.
use mathlib.Core.Path.{◌∙◌, sym}
use native.Mathlib.Omega.{arith}
use Rattle.records.proofs.Tables.{cell_first}
use Rattle.phrases.proofs.before.Before.kind_of.Goals as goal

pub returns : goal.returns
returns c = c.at.ensures ∙ sym (cell_first 12 _ _ _ c.requires (omega arith))

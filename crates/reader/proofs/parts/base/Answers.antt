-- A refused count reads nothing.
use mathlib.Core.Path.{sym}
use native.Mathlib.Omega.{arith}
use Rattle.numbers.proofs.Bounds.{from_got}
use Rattle.reader.specs.Parts.{part_four}
use Rattle.reader.proofs.Filling.{members_refused, members_read}
use Rattle.reader.proofs.parts.base.Goals as goal

pub members-requires : goal.members-requires
members-requires c = let h = (from_got _ _ _ _ 0 64 (sym c.in-Ok.ensures)).to_top in let l = c.requires in omega arith

pub returns-in-Ok : goal.returns-in-Ok
unfolding part_four
returns-in-Ok c = members_read _ _ _ _ _ _ _ (sym c.in-Ok.ensures) c.members.ensures

pub returns-in-Err : goal.returns-in-Err
unfolding part_four
returns-in-Err c = members_refused _ _ _ _ (sym c.in-Err.ensures)

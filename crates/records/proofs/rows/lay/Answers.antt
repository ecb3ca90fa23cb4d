-- What is copied over a part of the table is the row, laid there.
use native.Mathlib.Omega.{arith}
use Rattle.records.proofs.Tables.{copied}
use Rattle.records.proofs.rows.lay.Goals as goal

pub returns : goal.returns
returns c = rw c.copy_from_slice.ensures.after (copied c.args.t.now c.args.row.now c.args.from _ (omega arith) c.requires)

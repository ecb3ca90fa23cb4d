-- A refusal lays nothing; a row that was read is laid behind the others.
use Rattle.std.proofs.lemmas.Result.{err_from_is_err_and}
use Rattle.records.proofs.Tables.{put_refused, put_row}
use borrow.Author.Rules.{rules}
use Rattle.records.proofs.patterns.read_pattern.Goals as goal

pub returns-in_err-next : goal.returns-in_err-next
returns-in_err-next c =
    let e = err_from_is_err_and c.from_residual.result c.from_residual.ensures.1 in
    rw (e.1, e.2) (put_refused _ _ _ _ c.pattern_row.ensures _ _ _ c.in_err-next.was)

pub returns : goal.returns
returns c = put_row _ _ _ _ c.pattern_row.ensures _ _ _ _ (search rules) c.in_ok-next.was c.lay.ensures

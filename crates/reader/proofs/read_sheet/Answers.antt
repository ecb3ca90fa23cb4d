-- Where the propositions are refused nothing more is read; else the patterns are read over them.
use Rattle.std.proofs.lemmas.Result.{err_from_is_err_and}
use Rattle.reader.proofs.Stages.{whole_refused, whole_read}
use Rattle.reader.proofs.read_sheet.Goals as goal

pub returns-in_err-next : goal.returns-in_err-next
returns-in_err-next c =
    let e = err_from_is_err_and c.from_residual.result c.from_residual.ensures.1 in
    rw (e.1, e.2) (whole_refused _ _ _ _ _ _ c.propositions-p.ensures _ _ _ _ c.in_err-next.was)

pub returns : goal.returns
returns c = whole_read _ _ _ _ _ _ c.propositions-p.ensures _ _ _ _ _ _ _ _ c.in_ok-next.was c.read_patterns.ensures

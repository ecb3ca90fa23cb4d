-- Where the patterns are refused nothing more is read; else the phrases are read over them.
use Rattle.std.proofs.lemmas.Result.{err_from_is_err_and}
use Rattle.reader.proofs.Stages.{from_patterns_refused, from_patterns_read}
use Rattle.reader.proofs.read_patterns.Goals as goal

pub returns-in_err-next : goal.returns-in_err-next
returns-in_err-next c = λ T H.
    let e = err_from_is_err_and c.from_residual.result c.from_residual.ensures.1 in
    rw (e.1, e.2) (from_patterns_refused _ T _ _ _ _ _ _ _ H _ c.patterns-q.ensures _ c.in_err-next.was)

pub returns : goal.returns
returns c = λ T H. from_patterns_read _ T _ _ _ _ _ _ _ H _ c.patterns-q.ensures _ _ _ _ c.in_ok-next.was c.read_phrases.ensures

-- Where the phrases are refused nothing more is read; else the base is read over them.
use Rattle.std.proofs.lemmas.Result.{err_from_is_err_and}
use Rattle.reader.proofs.Stages.{from_phrases_refused, from_phrases_read}
use Rattle.reader.proofs.read_phrases.Goals as goal

pub returns-in_err-next : goal.returns-in_err-next
returns-in_err-next c = λ T H many.
    let e = err_from_is_err_and c.from_residual.result c.from_residual.ensures.1 in
    rw (e.1, e.2) (from_phrases_refused _ T _ _ _ _ _ _ _ H many _ c.phrases-f.ensures _ c.in_err-next.was)

pub returns : goal.returns
returns c = λ T H many. from_phrases_read _ T _ _ _ _ _ _ _ H many _ c.phrases-f.ensures _ _ _ c.in_ok-next.was c.read_base.ensures

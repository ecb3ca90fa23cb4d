-- Where the base is refused the root is not read; else the root answers.
use mathlib.Core.Path.{sym}
use Rattle.std.proofs.lemmas.Result.{err_from_is_err_and}
use Rattle.reader.proofs.Stages.{from_base_refused, from_base_rootless, from_base_rooted}
use Rattle.reader.proofs.read_base.Goals as goal

pub returns-in_err-next : goal.returns-in_err-next
returns-in_err-next c = λ T H many are.
    let e = err_from_is_err_and c.from_residual.result c.from_residual.ensures.1 in
    rw (e.1, e.2) (from_base_refused _ T _ _ _ _ _ _ _ _ H many are _ c.base-b.ensures _ c.in_err-next.was)

pub returns-in_err-root : goal.returns-in_err-root
returns-in_err-root c = λ T H many are.
    let e = err_from_is_err_and c.from_residual-in_err-root.result c.from_residual-in_err-root.ensures.1 in
    rw (e.1, e.2) (from_base_rootless _ T _ _ _ _ _ _ _ _ H many are _ c.base-b.ensures _ _ c.in_ok-next.was (sym c.in_err-root.ensures))

pub returns : goal.returns
returns c = λ T H many are. from_base_rooted _ T _ _ _ _ _ _ _ _ H many are _ c.base-b.ensures _ _ _ c.in_ok-next.was (sym c.in_ok-root.ensures)

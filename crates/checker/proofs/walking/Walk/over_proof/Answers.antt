-- A proof that is refused is refused alike over every listing of that length, and one that is read is judged.
use mathlib.Core.Path.{sym, ap, ◌∙◌}
use Rattle.std.proofs.lemmas.Result.{err_from_is_err_and}
use Rattle.language.specs.Numbered.{numbered}
use Rattle.checker.proofs.Mapping.{mapped_ok, mapped_err}
use Rattle.checker.proofs.Passing.{proof_refused, proof_judged}
use Rattle.checker.proofs.walking.Walk.over_proof.Goals as goal

pub returns-in_err-stated : goal.returns-in_err-stated
returns-in_err-stated c =
    let e = err_from_is_err_and c.from_residual.result c.from_residual.ensures.1 in
    let m = mapped_err _ _ _ c.map_err.ensures.cases _ c.in_err-stated.was in
    rw (e.1, e.2) (proof_refused _ _ _ _ _ _ _ _ _ _ m.2 (λ ps l. sym (ap numbered m.1) ∙ c.proof.ensures ps l))

pub returns : goal.returns
returns c =
    let e = mapped_ok _ _ _ c.map_err.ensures.cases _ c.in_ok-stated.was in
    proof_judged _ _ _ _ _ _ _ _ _ _ c.judge.ensures (λ ps l. sym (ap numbered e) ∙ c.proof.ensures ps l)

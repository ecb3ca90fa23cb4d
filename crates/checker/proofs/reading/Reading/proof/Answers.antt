-- The proof is read, then the number of its conclusion.
use Rattle.std.proofs.lemmas.Result.{err_from_is_err_and}
use Rattle.checker.proofs.Statements.{proof_refused, proof_read}
use Rattle.checker.proofs.reading.Reading.proof.Goals as goal

pub returns-in_err-proof : goal.returns-in_err-proof
returns-in_err-proof c =
    let e = err_from_is_err_and c.from_residual.result c.from_residual.ensures.1 in
    λ ps l. rw (e.1, e.2) (proof_refused _ ps _ _ l _ _ (c.in_err-proof.ensures ps l))

pub returns : goal.returns
returns c = λ ps l. proof_read _ ps _ _ l _ _ (c.in_ok-proof.ensures ps l) c.conclusion.ensures

-- `evaluator::run` meets its contract: what the run concludes is certified, and what it refuses is handed on.
use Rattle.std.proofs.lemmas.Result.{err_from_is_err_and}
use Rattle.evaluator.proofs.Running.{run_ends, run_gives, run_stops}
use Rattle.evaluator.proofs.run.Goals as goal

pub certify-requires : goal.certify-requires
certify-requires c = run_ends _ _ _ _ _ c.requires.1 c.requires.0 _ _ c.in_ok-p.ensures.deduced

pub returns : goal.returns
returns c = run_gives _ _ _ _ _ c.requires.1 c.requires.0 _ _ c.in_ok-p.ensures.deduced _ _ _ c.certify.ensures

pub returns-in_err-p : goal.returns-in_err-p
returns-in_err-p c =
    let e = err_from_is_err_and c.from_residual.result c.from_residual.ensures.1 in
    rw (e.1, e.2) (run_stops _ _ _ _ _ c.requires.1 c.requires.0 _ c.in_err-p.ensures.deduced _)

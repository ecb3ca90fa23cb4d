-- `replay::evaluate_into` is safe: an accepted certificate is no longer than the output.
use native.Mathlib.Omega.{arith}
use Rattle.evaluator.proofs.Fitting.{accepted_fits}
use Rattle.replay.proofs.evaluate_into.Goals as goal

pub accepted-requires : goal.accepted-requires
accepted-requires g c =
    let fits = accepted_fits _ _ _ _ _ _ _ _ c.evaluate.ensures c.in-Ok.is in
    let kept = c.evaluate.auto.out in
    let most = c.requires in
    (omega arith, omega arith)

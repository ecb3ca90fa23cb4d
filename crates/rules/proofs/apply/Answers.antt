-- Each way through the code is one of the four ways of a ruling.
use mathlib.Core.Path.{◌≡◌}
use Rattle.std.proofs.Common.{arith}
use Rattle.std.proofs.lemmas.Result.{err_from_is_err_and}
use Rattle.language.specs.declared.refusal.Why.TheVariants.{WrongShapes}
use Rattle.rules.proofs.Applies.{safe, new_fits, ruling_unfit, ruling_known, ruling_missing, ruling_new}
use Rattle.rules.proofs.apply.Goals as goal

pub conclude-requires : goal.conclude-requires
conclude-requires c = safe _ _ _ _ c.args.rule _ _ _ c.requires

pub returns-in_err-conclusion : goal.returns-in_err-conclusion
returns-in_err-conclusion c =
    let e = err_from_is_err_and c.from_residual.result c.from_residual.ensures.1 in
    let w : c.in_err-conclusion.field-0.0 ≡ WrongShapes = grind arith in
    rw (e.1, e.2, w) (ruling_unfit _ _ _ _ _ _ _ _ c.requires (grind arith))

pub returns-then-not-grounded : goal.returns-then-not-grounded
returns-then-not-grounded c = ruling_missing _ _ _ _ _ _ _ _ c.requires c.in_ok-conclusion.conclusion (grind arith) (grind arith)

pub intern-requires : goal.intern-requires
intern-requires c = (c.requires.room.0, new_fits _ _ _ _ c.args.rule _ _ _ c.requires _ (grind arith))

pub returns-in-Known : goal.returns-in-Known
returns-in-Known c = ruling_known _ _ _ _ _ _ _ _ c.requires _ (grind arith) (grind arith)

pub returns-in-New : goal.returns-in-New
returns-in-New c = ruling_new _ _ _ _ _ _ _ _ c.requires _ _ _ (grind arith) (grind arith) c.intern.ensures

-- The count first, then that every argument is a proposition, then the rule.
use mathlib.Core.Path.{sym, ◌∙◌}
use Rattle.deductions.proofs.Rules.{args_long, conclude_asks, rule_miscounted, rule_other, rule_applied}
use Rattle.deductions.proofs.Run.infer.Goals as goal

pub taken-requires : goal.taken-requires
taken-requires c = args_long _ _ _ _ _ _ c.requires

pub conclude-requires : goal.conclude-requires
conclude-requires c = conclude_asks _ _ _ _ _ _ c.requires (c.if-n-arguments.false ∙ c.arguments.ensures) _ _ _ (sym c.in-Some.is ∙ c.taken.ensures)

pub returns-clause-applying : goal.returns-clause-applying
returns-clause-applying c =
    let s = c.conclude.ensures.same in
    rw (s.1, s.2) (λ d. rule_applied _ _ _ _ _ _ d _ _ _ _ _ _ _ _ _ c.requires c.arguments.ensures c.if-n-arguments.false (sym c.in-Some.is ∙ c.taken.ensures) c.conclude.ensures.inferred)

pub returns-in_default-clause-applying : goal.returns-in_default-clause-applying
returns-in_default-clause-applying c = λ d. rule_other _ _ _ _ _ _ d _ _ c.arguments.ensures c.if-n-arguments.false (sym c.in_default.is ∙ c.taken.ensures)

pub returns-then-n-arguments-clause-applying : goal.returns-then-n-arguments-clause-applying
returns-then-n-arguments-clause-applying c = λ d. rule_miscounted _ _ _ _ _ _ d _ _ c.arguments.ensures c.if-n-arguments.true

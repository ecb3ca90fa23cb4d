-- The table is ready for the rule, and what it answers is the node's.
use mathlib.Core.Path.{refl}
use Rattle.checker.proofs.RuleNodes.{rule_ready, rule_walks}
use Rattle.checker.proofs.walking.Walk.rule.Goals as goal

pub apply-requires : goal.apply-requires
apply-requires c = rule_ready _ _ _ _ _ _ _ _ _ _ _ _ c.taken-rule.ensures c.arguments.ensures c.given-g.ensures c.requires

pub returns-in-Ok-clause-walks : goal.returns-in-Ok-clause-walks
returns-in-Ok-clause-walks c = rule_walks _ _ _ _ _ _ _ _ _ _ _ _ c.taken-rule.ensures c.arguments.ensures c.given-g.ensures _ _ _ c.in-Ok.ensures refl

pub returns-in-Err-clause-walks : goal.returns-in-Err-clause-walks
returns-in-Err-clause-walks c = rule_walks _ _ _ _ _ _ _ _ _ _ _ _ c.taken-rule.ensures c.arguments.ensures c.given-g.ensures _ _ _ c.in-Err.ensures refl

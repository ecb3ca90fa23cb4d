-- A node by its kind: each call finds what it asks in what was read, and each return answers what the definition concludes.
-- Nesting left is what falls: a node opens, then its parts are walked.
use mathlib.Core.Path.{sym, ◌∙◌}
use native.Mathlib.Omega.{arith}
use Rattle.std.proofs.lemmas.Result.{err_from_is_err_and}
use Rattle.language.proofs.RuleNumbers.{rule_kind, sequence_kind, hypothesis_kind}
use Rattle.checker.proofs.Opening.{deep_enough, walk_rule, rule_walked, walk_two, two_walked, walk_under, under_walked}
use Rattle.checker.proofs.Sequences.{walk_first, two_refused, push_fits, walk_second, two_concluded}
use Rattle.checker.proofs.Hypotheses.{hypothesis_fits, walk_inside, under_refused, conditional_fits, under_concluded}
use Rattle.checker.proofs.walking.Walk.+node_walk.Goals as goal

pub in_turn-node-requires : goal.in_turn-node-requires
in_turn-node-requires t c = (omega (arith, c.decreases), walk_first _ _ _ _ _ _ _ _ c.requires)

pub in_turn-returns-in_err-w-clause-walks : goal.in_turn-returns-in_err-w-clause-walks
in_turn-returns-in_err-w-clause-walks t c =
    let e = err_from_is_err_and c.from_residual.result c.from_residual.ensures.1 in
    rw (e.1, e.2) (two_refused _ _ _ _ _ _ _ _ _ _ _ c.in_err-w.ensures.walks)

pub in_turn-put-requires : goal.in_turn-put-requires
in_turn-put-requires t c =
    let s = c.in_ok-w.ensures.same in
    let h = push_fits _ _ _ _ _ _ _ _ _ _ _ c.in_ok-w.ensures.walks s.forms_long s.base_long c.requires in
    omega arith

pub in_turn-node-requires-2 : goal.in_turn-node-requires-2
in_turn-node-requires-2 t c =
    let s = c.in_ok-w.ensures.same in
    (omega (arith, c.decreases), rw (s.certificate, s.names) (walk_second _ _ _ _ _ _ _ _ _ _ _ c.in_ok-w.ensures.walks s.forms_long s.base_long c.requires _ c.put.ensures))

pub in_turn-returns-clause-walks : goal.in_turn-returns-clause-walks
in_turn-returns-clause-walks t c =
    let s = c.in_ok-w.ensures.same in
    two_concluded _ _ _ _ _ _ _ _ _ _ _ c.in_ok-w.ensures.walks s.forms_long s.base_long _ _ _ _ c.put.ensures (rw (s.certificate, s.names) at c.node-2.ensures.walks)

pub under-put-requires : goal.under-put-requires
under-put-requires t c =
    let f = hypothesis_fits _ _ _ _ _ _ _ _ _ _ c.named-p.ensures c.requires in
    omega (arith, f)

pub under-node-requires : goal.under-node-requires
under-node-requires t c =
    (omega (arith, c.decreases), walk_inside _ _ _ _ _ _ _ _ _ _ c.named-p.ensures c.requires _ c.put.ensures)

pub under-returns-in_err-w-clause-walks : goal.under-returns-in_err-w-clause-walks
under-returns-in_err-w-clause-walks t c =
    let e = err_from_is_err_and c.from_residual.result c.from_residual.ensures.1 in
    rw (e.1, e.2) (under_refused _ _ _ _ _ _ _ _ _ _ c.named-p.ensures _ _ _ _ c.put.ensures c.in_err-w.ensures.walks)

pub under-conditional-f-requires : goal.under-conditional-f-requires
under-conditional-f-requires t c =
    let s = c.in_ok-w.ensures.same in
    conditional_fits _ _ _ _ _ _ _ _ _ _ c.named-p.ensures _ _ _ _ c.put.ensures c.in_ok-w.ensures.walks s.forms_long c.requires

pub under-returns-clause-walks : goal.under-returns-clause-walks
under-returns-clause-walks t c =
    let s = c.in_ok-w.ensures.same in
    under_concluded _ _ _ _ _ _ _ _ _ _ c.named-p.ensures _ _ _ _ c.put.ensures c.in_ok-w.ensures.walks s.forms_long _ _ c.conditional-f.ensures

pub node-rule-requires : goal.node-rule-requires
node-rule-requires t c =
    let e = rule_kind _ (sym c.of.ensures ∙ c.in-Rule.is) in
    walk_rule _ _ _ _ _ _ _ _ _ _ c.taken-kind.ensures e c.requires

pub node-overflow_sub-d : goal.node-overflow_sub-d
node-overflow_sub-d t c =
    let h = deep_enough _ _ _ _ _ _ _ _ _ _ c.taken-kind.ensures c.requires in
    omega arith

pub node-in_turn-requires : goal.node-in_turn-requires
node-in_turn-requires t c =
    let h = deep_enough _ _ _ _ _ _ _ _ _ _ c.taken-kind.ensures c.requires in
    let e = sequence_kind _ (sym c.of.ensures ∙ c.in-Sequence.is) in
    (omega (arith, c.decreases), walk_two _ _ _ _ _ _ _ _ _ _ c.taken-kind.ensures h e c.requires)

pub node-overflow_sub-d-in-Hypothesis : goal.node-overflow_sub-d-in-Hypothesis
node-overflow_sub-d-in-Hypothesis t c =
    let h = deep_enough _ _ _ _ _ _ _ _ _ _ c.taken-kind.ensures c.requires in
    omega arith

pub node-under-requires : goal.node-under-requires
node-under-requires t c =
    let h = deep_enough _ _ _ _ _ _ _ _ _ _ c.taken-kind.ensures c.requires in
    let k = hypothesis_kind _ (sym c.of.ensures ∙ c.in-Hypothesis.is) in
    (omega (arith, c.decreases), walk_under _ _ _ _ _ _ _ _ _ _ c.taken-kind.ensures h k.0 k.1 c.requires)

pub node-returns-in-Rule-clause-walks : goal.node-returns-in-Rule-clause-walks
node-returns-in-Rule-clause-walks t c =
    let e = rule_kind _ (sym c.of.ensures ∙ c.in-Rule.is) in
    rule_walked _ _ _ _ _ _ _ _ _ _ c.taken-kind.ensures e _ _ _ c.rule.ensures.walks

pub node-returns-in-Sequence-clause-walks : goal.node-returns-in-Sequence-clause-walks
node-returns-in-Sequence-clause-walks t c =
    let h = deep_enough _ _ _ _ _ _ _ _ _ _ c.taken-kind.ensures c.requires in
    let e = sequence_kind _ (sym c.of.ensures ∙ c.in-Sequence.is) in
    two_walked _ _ _ _ _ _ _ _ _ _ c.taken-kind.ensures h e _ _ _ c.in_turn.ensures.walks

pub node-returns-in-Hypothesis-clause-walks : goal.node-returns-in-Hypothesis-clause-walks
node-returns-in-Hypothesis-clause-walks t c =
    let h = deep_enough _ _ _ _ _ _ _ _ _ _ c.taken-kind.ensures c.requires in
    let k = hypothesis_kind _ (sym c.of.ensures ∙ c.in-Hypothesis.is) in
    under_walked _ _ _ _ _ _ _ _ _ _ c.taken-kind.ensures h k.0 k.1 _ _ _ c.under.ensures.walks

-- At each return the tests and readings on the way leave one case of the definition. Nesting left is what falls.
use mathlib.Core.Path.{◌≡◌, sym, ◌∙◌}
use mathlib.Core.Logic.{⊎_elim}
use native.Mathlib.Omega.{arith}
use Rattle.std.proofs.lemmas.Result.{err_from_is_err_and}
use Rattle.language.proofs.RuleNumbers.{rule_kind, sequence_kind, hypothesis_kind}
use Rattle.numbers.proofs.Bounds.{from_got}
use Rattle.checker.proofs.Tallies.{kind_refused, rest_tallied, no_nesting, no_nodes, rest_rule, rest_two, rest_under}
use Rattle.checker.proofs.Tallies.{first_refused, second_refused, two_tallied, rules_few, hypothesis_refused, under_tallied}
use Rattle.checker.proofs.reading.Reading.+node_reading.Goals as goal

pub node-returns-in_err-kind : goal.node-returns-in_err-kind
node-returns-in_err-kind t c =
    let e = err_from_is_err_and c.from_residual.result c.from_residual.ensures.1 in
    λ ps l. rw (e.1, e.2) (kind_refused _ ps _ _ _ _ _ (sym c.in_err-kind.ensures))

pub node-rest-requires : goal.node-rest-requires
node-rest-requires t c =
    let h = (from_got _ _ _ _ _ _ (sym c.in_ok-kind.ensures)).to_top in
    (omega arith, (omega arith, omega arith))

pub node-returns-then-used-lt-NODES : goal.node-returns-then-used-lt-NODES
node-returns-then-used-lt-NODES t c =
    λ ps l. rest_tallied _ ps _ _ _ _ (sym c.in_ok-kind.ensures) _ _ c.if-d-gt0.true (omega arith) (c.rest.ensures ps _ l)

pub node-returns : goal.node-returns
node-returns t c =
    let e = sym c.in_ok-kind.ensures in
    λ ps l. ⊎_elim (λ w. no_nodes _ ps _ _ _ _ e _ w.1) (λ w. no_nesting _ ps _ _ _ _ e _ w) c.else-d-gt0.either

pub rest-returns-in-Rule : goal.rest-returns-in-Rule
rest-returns-in-Rule t c =
    let e = rule_kind _ (sym c.of.ensures ∙ c.in-Rule.is) in
    λ ps at l. rest_rule _ _ ps _ at _ _ _ e (c.rule.ensures ps at l)

pub rest-returns-in-Sequence : goal.rest-returns-in-Sequence
rest-returns-in-Sequence t c =
    let e = sequence_kind _ (sym c.of.ensures ∙ c.in-Sequence.is) in
    λ ps at l. rest_two _ _ ps _ at _ _ _ e (c.two.ensures ps l)

pub rest-returns-in-Hypothesis : goal.rest-returns-in-Hypothesis
rest-returns-in-Hypothesis t c =
    let k = hypothesis_kind _ (sym c.of.ensures ∙ c.in-Hypothesis.is) in
    let e : c.args.kind ≡ 2 = grind arith in
    λ ps at l. rest_under _ _ ps _ at _ _ _ e (c.under.ensures ps l)

pub two-returns-in_err-first : goal.two-returns-in_err-first
two-returns-in_err-first t c =
    let e = err_from_is_err_and c.from_residual.result c.from_residual.ensures.1 in
    λ ps l. rw (e.1, e.2) (first_refused _ _ ps _ _ _ _ (c.in_err-first.ensures ps l))

pub two-returns-in_err-second : goal.two-returns-in_err-second
two-returns-in_err-second t c =
    let e = err_from_is_err_and c.from_residual-in_err-second.result c.from_residual-in_err-second.ensures.1 in
    λ ps l. rw (e.1, e.2) (second_refused _ _ ps _ _ _ (c.in_ok-first.ensures ps l) _ _ (c.in_err-second.ensures ps l))

pub two-overflow_add-result : goal.two-overflow_add-result
two-overflow_add-result t c =
    let x = rules_few _ _ _ _ _ _ c.in_ok-first.ensures in
    let y = rules_few _ _ _ _ _ _ c.in_ok-second.ensures in
    omega arith

pub two-returns : goal.two-returns
two-returns t c = λ ps l. two_tallied _ _ ps _ _ _ (c.in_ok-first.ensures ps l) _ (c.in_ok-second.ensures ps l)

pub under-returns-in_err-hypothesis : goal.under-returns-in_err-hypothesis
under-returns-in_err-hypothesis t c =
    let e = err_from_is_err_and c.from_residual.result c.from_residual.ensures.1 in
    λ ps l. rw (e.1, e.2) (hypothesis_refused _ _ _ _ ps _ l _ _ (sym c.in_err-hypothesis.ensures))

pub under-returns : goal.under-returns
under-returns t c = λ ps l. under_tallied _ _ _ _ ps _ l _ _ _ (sym c.in_ok-hypothesis.ensures) (c.node.ensures ps l)

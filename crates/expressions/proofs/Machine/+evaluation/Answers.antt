-- Remaining nesting falls: a phrase's parts run with one less, and a list of arguments with one argument less. At each return the callees'
-- answers and the tests give the language's answer, by one law of Steps, Calls, Operators or Matches.
use mathlib.Core.Path.{refl}
use native.Mathlib.Omega.{arith}
use Rattle.std.proofs.lemmas.Result.{err_from_is_err_and}
use Rattle.expressions.proofs.Operators.{function_small, function_ready, function_called, function_miscounted, other_called}
use Rattle.expressions.proofs.Calls.{none_left, argument_ready, arg_got, arg_fits, arg_push, argument_more, argument_refused, operator_is, call_list, call_apply, call_is, arguments_refused, operator_refused}
use Rattle.expressions.proofs.Steps.{ready_at, ready_push, push_fits, got, let_first, let_second, let_is, let_refused, spent_out, too_deep, entered}
use Rattle.expressions.proofs.Matches.{parts_bindable, clause_ready, clause_runs, none_fits, subject_is, subject_refused, subject_other, other_kind, matching, match_is}
use Rattle.expressions.proofs.Machine.+evaluation.Goals as goal

pub apply-enter-requires : goal.apply-enter-requires
apply-enter-requires t c =
    (omega (arith, c.requires), function_ready _ _ _ _ _ _ _ c.requires c.in-Function.is c.at-body.ensures)

pub apply-returns-in-Prop : goal.apply-returns-in-Prop
apply-returns-in-Prop t c = record { same = search; called = other_called _ _ _ _ _ _ _ c.in-Prop.is }

pub apply-overflow_mul-row : goal.apply-overflow_mul-row
apply-overflow_mul-row t c = let r = function_small _ _ _ _ _ _ c.requires c.in-Function.is in omega (arith, r)

pub apply-overflow_add-row : goal.apply-overflow_add-row
apply-overflow_add-row t c = let r = function_small _ _ _ _ _ _ c.requires c.in-Function.is in omega (arith, r)

pub apply-overflow_add-row-in-Function : goal.apply-overflow_add-row-in-Function
apply-overflow_add-row-in-Function t c = let r = function_small _ _ _ _ _ _ c.requires c.in-Function.is in omega (arith, r)

pub apply-returns-then-at-n-clause-called : goal.apply-returns-then-at-n-clause-called
apply-returns-then-at-n-clause-called t c = function_miscounted _ _ _ _ _ _ _ _ _ c.in-Function.is c.at.ensures c.if-at-n.true

pub apply-returns-else-at-n-clause-called : goal.apply-returns-else-at-n-clause-called
apply-returns-else-at-n-clause-called t c = function_called _ _ _ _ _ _ _ _ _ _ _ c.in-Function.is c.at.ensures c.if-at-n.false c.at-body.ensures c.enter.ensures.evaluated

pub arguments-returns-then-left-eq0-clause-listed : goal.arguments-returns-then-left-eq0-clause-listed
arguments-returns-then-left-eq0-clause-listed t c = none_left _ _ _ _ _ _ _ c.if-left-eq0.true

pub arguments-enter-requires : goal.arguments-enter-requires
arguments-enter-requires t c =
    (omega (arith, c.requires), argument_ready _ _ _ _ _ _ _ c.if-left-eq0.false c.at-k.ensures c.requires)

pub arguments-bind_value-self-requires : goal.arguments-bind_value-self-requires
arguments-bind_value-self-requires t c =
    let if1 = c.if-left-eq0 in
    let at1 = c.at-k in
    let A = c.in_ok-v.ensures.evaluated in
    let G = arg_got _ _ _ _ _ _ _ _ _ _ if1.false at1.ensures c.requires A in
    arg_fits _ _ _ _ _ _ _ G if1.false

pub arguments-arguments-requires : goal.arguments-arguments-requires
arguments-arguments-requires t c =
    let s = c.in_ok-v.ensures.same in
    let if1 = c.if-left-eq0 in
    let at1 = c.at-k in
    let bind_value = c.bind_value-self in
    let A = c.in_ok-v.ensures.evaluated in
    let G = arg_got _ _ _ _ _ _ _ _ _ _ if1.false at1.ensures c.requires A in
    (omega (arith, c.requires, if1.false), rw (s.phrases, s.patterns, bind_value.ensures.0, bind_value.ensures.1) (arg_push _ _ _ _ _ _ _ G if1.false))

pub arguments-returns-clause-listed : goal.arguments-returns-clause-listed
arguments-returns-clause-listed t c =
    let s = c.in_ok-v.ensures.same in
    let if1 = c.if-left-eq0 in
    let at1 = c.at-k in
    let bind_value = c.bind_value-self in
    let A = c.in_ok-v.ensures.evaluated in
    let G = arg_got _ _ _ _ _ _ _ _ _ _ if1.false at1.ensures c.requires A in
    let f = arg_fits _ _ _ _ _ _ _ G if1.false in
    let B = rw (s.phrases, s.patterns, bind_value.ensures.0, bind_value.ensures.1) at c.arguments.ensures.listed in
    argument_more _ _ _ _ _ _ _ _ _ _ _ if1.false at1.ensures f.0 A B

pub arguments-returns-in_err-v-clause-listed : goal.arguments-returns-in_err-v-clause-listed
arguments-returns-in_err-v-clause-listed t c =
    let e = err_from_is_err_and c.from_residual.result c.from_residual.ensures.1 in
    rw (e.1, e.2) (argument_refused _ _ _ _ _ _ _ _ _ _ c.if-left-eq0.false c.at-k.ensures c.in_err-v.ensures.evaluated)

pub bind-enter-requires : goal.bind-enter-requires
bind-enter-requires t c =
    (omega (arith, c.requires), ready_at _ _ _ _ _ 4 4 0 0 c.requires.0 (let_first _ _ _ _ _ 4 4 c.requires.1 c.at-first.ensures c.requires.0) (omega arith) (omega arith))

pub bind-bind_value-self-requires : goal.bind-bind_value-self-requires
bind-bind_value-self-requires t c =
    let A = c.in_ok-v.ensures.evaluated in
    let G = got _ _ _ _ _ 4 4 _ _ _ c.requires.0 (let_first _ _ _ _ _ 4 4 c.requires.1 c.at-first.ensures c.requires.0) A in
    push_fits _ _ _ _ _ 4 3 G

pub bind-enter-requires-2 : goal.bind-enter-requires-2
bind-enter-requires-2 t c =
    let s = c.in_ok-v.ensures.same in
    let A = c.in_ok-v.ensures.evaluated in
    let G = got _ _ _ _ _ 4 4 _ _ _ c.requires.0 (let_first _ _ _ _ _ 4 4 c.requires.1 c.at-first.ensures c.requires.0) A in
    let R = ready_push _ _ _ _ _ _ 4 3 G (let_second _ _ _ _ _ 4 4 c.requires.1 c.at-second.ensures G.ready) in
    (omega (arith, c.requires), rw (s.phrases, s.patterns, c.bind_value-self.ensures.0, c.bind_value-self.ensures.1) (ready_at _ _ _ _ _ 4 3 0 0 R R.row (omega arith) (omega arith)))

pub bind-returns-clause-stepped : goal.bind-returns-clause-stepped
bind-returns-clause-stepped t c =
    let s = c.in_ok-v.ensures.same in
    let at1 = c.at-first in
    let bind_value = c.bind_value-self in
    let at2 = c.at-second in
    let A = c.in_ok-v.ensures.evaluated in
    let B = rw (s.phrases, s.patterns, bind_value.ensures.0, bind_value.ensures.1) at c.enter-2.ensures.evaluated in
    let_is _ _ _ _ _ c.requires.1 _ at1.ensures _ _ _ _ at2.ensures c.requires.0 A B

pub bind-returns-in_err-v-clause-stepped : goal.bind-returns-in_err-v-clause-stepped
bind-returns-in_err-v-clause-stepped t c =
    let e = err_from_is_err_and c.from_residual.result c.from_residual.ensures.1 in
    rw (e.1, e.2) (let_refused _ _ _ _ _ c.requires.1 _ c.at-first.ensures _ _ c.in_err-v.ensures.evaluated)

pub call-enter-requires : goal.call-enter-requires
call-enter-requires t c =
    (omega (arith, c.requires), ready_at _ _ _ _ _ 4 4 0 0 c.requires.0 (operator_is _ _ _ _ c.requires.1 _ 4 4 c.at-operator.ensures c.requires.0) (omega arith) (omega arith))

pub call-arguments-requires : goal.call-arguments-requires
call-arguments-requires t c =
    let s = c.in_ok-v.ensures.same in
    let A = c.in_ok-v.ensures.evaluated in
    let G = got _ _ _ _ _ 4 4 _ _ _ c.requires.0 (operator_is _ _ _ _ c.requires.1 _ 4 4 c.at-operator.ensures c.requires.0) A in
    let L = call_list _ _ _ _ c.requires.1 _ _ c.at-count.ensures G in
    let few = L.few in
    (omega (arith, c.requires, few), rw (s.phrases, s.patterns, c.scope-onto.ensures) L)

pub call-apply-requires : goal.call-apply-requires
call-apply-requires t c =
    let s = c.in_ok-v.ensures.same in
    let s₂ = c.in_ok-e.ensures.same in
    let at1 = c.at-operator in
    let at2 = c.at-count in
    let scope = c.scope-onto in
    let A = c.in_ok-v.ensures.evaluated in
    let G = got _ _ _ _ _ 4 4 _ _ _ c.requires.0 (operator_is _ _ _ _ c.requires.1 _ 4 4 at1.ensures c.requires.0) A in
    let B = rw (s.phrases, s.patterns, scope.ensures) at c.in_ok-e.ensures.listed in
    (omega (arith, c.requires), rw (s₂.phrases, s₂.patterns, s.phrases, s.patterns) (call_apply _ _ _ _ _ c.requires.1 _ _ _ _ at2.ensures G B))

pub call-returns-clause-stepped : goal.call-returns-clause-stepped
call-returns-clause-stepped t c =
    let s = c.in_ok-v.ensures.same in
    let s₂ = c.in_ok-e.ensures.same in
    let at1 = c.at-operator in
    let at2 = c.at-count in
    let scope = c.scope-onto in
    let A = c.in_ok-v.ensures.evaluated in
    let B = rw (s.phrases, s.patterns, scope.ensures) at c.in_ok-e.ensures.listed in
    call_is _ _ _ _ _ c.requires.1 _ _ at1.ensures at2.ensures _ _ _ _ _ A B (rw (s₂.phrases, s₂.patterns, s.phrases, s.patterns) at c.apply.ensures.called)

pub call-returns-in_err-e-clause-stepped : goal.call-returns-in_err-e-clause-stepped
call-returns-in_err-e-clause-stepped t c =
    let s = c.in_ok-v.ensures.same in
    let e = err_from_is_err_and c.from_residual-in_err-e.result c.from_residual-in_err-e.ensures.1 in
    rw (e.1, e.2) (arguments_refused _ _ _ _ _ c.requires.1 _ _ c.at-operator.ensures c.at-count.ensures _ _ _ _ c.in_ok-v.ensures.evaluated (rw (s.phrases, s.patterns, c.scope-onto.ensures) at c.in_err-e.ensures.listed))

pub call-returns-in_err-v-clause-stepped : goal.call-returns-in_err-v-clause-stepped
call-returns-in_err-v-clause-stepped t c =
    let e = err_from_is_err_and c.from_residual.result c.from_residual.ensures.1 in
    rw (e.1, e.2) (operator_refused _ _ _ _ _ c.requires.1 _ _ c.at-operator.ensures c.at-count.ensures _ _ c.in_err-v.ensures.evaluated)

pub clause-chosen-requires : goal.clause-chosen-requires
clause-chosen-requires t c = (_, c.requires)

pub clause-bind_parts-inner-requires : goal.clause-bind_parts-inner-requires
clause-bind_parts-inner-requires t c =
    let C = rw c.in-Some.is at c.chosen.ensures in
    parts_bindable _ _ _ _ _ _ refl _ _ C c.requires

pub clause-overflow_add-self : goal.clause-overflow_add-self
clause-overflow_add-self t c =
    let C = rw c.in-Some.is at c.chosen.ensures in
    let b = parts_bindable _ _ _ _ _ _ refl _ _ C c.requires in
    let r = b.room in
    let s = b.short in omega (arith, r, s)

pub clause-enter-requires : goal.clause-enter-requires
clause-enter-requires t c =
    let C = rw c.in-Some.is at c.chosen.ensures in
    (omega (arith, c.requires), clause_ready _ _ _ _ _ _ refl _ _ C _ _ c.bind_parts-inner.ensures c.requires)

pub clause-returns-clause-selected : goal.clause-returns-clause-selected
clause-returns-clause-selected t c =
    let bind_parts = c.bind_parts-inner in
    let C = rw c.in-Some.is at c.chosen.ensures in
    let b = parts_bindable _ _ _ _ _ _ refl _ _ C c.requires in
    clause_runs _ _ _ _ _ _ refl _ _ C _ _ bind_parts.ensures _ _ b.room c.enter.ensures.evaluated

pub clause-returns-in_default-clause-selected : goal.clause-returns-in_default-clause-selected
clause-returns-in_default-clause-selected t c = none_fits _ _ _ _ _ _ refl _ (rw c.in_default.is at c.chosen.ensures)

pub enter-returns-then-depth-eq0-clause-evaluated : goal.enter-returns-then-depth-eq0-clause-evaluated
enter-returns-then-depth-eq0-clause-evaluated t c = too_deep _ _ _ _ _ c.if-remaining-eq0.false c.if-depth-eq0.true

pub enter-returns-then-remaining-eq0-clause-evaluated : goal.enter-returns-then-remaining-eq0-clause-evaluated
enter-returns-then-remaining-eq0-clause-evaluated t c = spent_out _ _ _ _ _ c.if-remaining-eq0.true

pub enter-returns-in-Some-Call-clause-evaluated : goal.enter-returns-in-Some-Call-clause-evaluated
enter-returns-in-Some-Call-clause-evaluated t c = entered _ _ _ _ _ _ c.if-remaining-eq0.false c.if-depth-eq0.false c.call.ensures.stepped

pub enter-returns-in-Some-Let-clause-evaluated : goal.enter-returns-in-Some-Let-clause-evaluated
enter-returns-in-Some-Let-clause-evaluated t c = entered _ _ _ _ _ _ c.if-remaining-eq0.false c.if-depth-eq0.false c.bind.ensures.stepped

pub enter-returns-in-Some-Match-clause-evaluated : goal.enter-returns-in-Some-Match-clause-evaluated
enter-returns-in-Some-Match-clause-evaluated t c = entered _ _ _ _ _ _ c.if-remaining-eq0.false c.if-depth-eq0.false c.matched.ensures.stepped

pub enter-returns-in_default-clause-evaluated : goal.enter-returns-in_default-clause-evaluated
enter-returns-in_default-clause-evaluated t c = entered _ _ _ _ _ _ c.if-remaining-eq0.false c.if-depth-eq0.false (c.plain.ensures.stepped _)

pub matched-enter-requires : goal.matched-enter-requires
matched-enter-requires t c =
    (omega (arith, c.requires), ready_at _ _ _ _ _ 4 4 0 0 c.requires.0 (subject_is _ _ _ _ _ 4 4 c.requires.1 c.at-subject.ensures c.requires.0) (omega arith) (omega arith))

pub matched-returns-in_default-clause-stepped : goal.matched-returns-in_default-clause-stepped
matched-returns-in_default-clause-stepped t c =
    let A = c.in_ok-v.ensures.evaluated in
    subject_other _ _ _ _ _ c.requires.1 _ c.at-subject.ensures _ _ (other_kind c.in_ok-v.v c.in_default.not-Prop) A

pub matched-clause-requires : goal.matched-clause-requires
matched-clause-requires t c =
    let s = c.in_ok-v.ensures.same in
    let A = c.in_ok-v.ensures.evaluated in
    let G = got _ _ _ _ _ 4 4 _ _ _ c.requires.0 (subject_is _ _ _ _ _ 4 4 c.requires.1 c.at-subject.ensures c.requires.0) A in
    (omega (arith, c.requires), rw (s.phrases, s.patterns) (matching _ _ _ _ _ _ c.requires.1 c.in-Prop.is G))

pub matched-returns-in_err-v-clause-stepped : goal.matched-returns-in_err-v-clause-stepped
matched-returns-in_err-v-clause-stepped t c =
    let e = err_from_is_err_and c.from_residual.result c.from_residual.ensures.1 in
    rw (e.1, e.2) (subject_refused _ _ _ _ _ c.requires.1 _ c.at-subject.ensures _ _ c.in_err-v.ensures.evaluated)

pub matched-returns-clause-stepped : goal.matched-returns-clause-stepped
matched-returns-clause-stepped t c =
    let s = c.in_ok-v.ensures.same in
    let at1 = c.at-subject in
    let A = c.in_ok-v.ensures.evaluated in
    match_is _ _ _ _ _ c.requires.1 _ at1.ensures _ _ _ _ c.in-Prop.is A (rw (s.phrases, s.patterns) at c.clause.ensures.selected)

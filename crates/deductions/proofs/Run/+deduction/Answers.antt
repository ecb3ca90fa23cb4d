-- Remaining nesting falls: a phrase's parts run with one less, and a list of arguments or steps with one less of them. At each return the callees'
-- answers and the tests give the language's answer, by one law of Entering, Lets, Supposing, Announcing, Calling, Rules or Matching.
use native.Mathlib.Omega.{arith}
use mathlib.Core.Path.{refl}
use Rattle.std.proofs.Common.{rules}
use Rattle.std.proofs.lemmas.Result.{err_from_is_err_and}
use Rattle.deductions.proofs.Entering.{spent_out, too_deep, entered, last_kind}
use Rattle.deductions.proofs.Announcing.{by_ready, by_expression, by_fails, by_refused, by_is, ready_expression}
use Rattle.deductions.proofs.Calling.{other_applied, method_small, method_ready, method_applied, method_miscounted, args_none, argument_ready, argument_fails, argument_fits, arguments_ready, arguments_fail, argument_then, join_after, call_row, call_refused, callable, call_is, call_list, called_fails, applicable, called_is}
use mathlib.Core.List.{[], ◌∷◌}
use Rattle.deductions.proofs.Sorts.{otherwise}
use Rattle.deductions.proofs.Supposing.{assume_runs, hyp_row, hyp_refused, hyp_other, hyp_ready, hyp_fails, hyp_still, imply_asks, assume_is, suppose_runs, hyp_one, refute_asks, suppose_is, under_ready, under_is}
use Rattle.deductions.proofs.Lets.{ready_less, held, join_fits, let_first, let_refused, let_is, let_ready, let_value_fits, block_is, block_ready, either_value, either_refused, either_lemma, either_fails, sequel_fits, step_in, step_ready, step_kind, last_ready, last_step, step_fails, step_then, steps_ready}
use Rattle.deductions.proofs.Matching.{none_fits, parts_bindable, parts_fit, clause_ready, clause_runs, match_first, match_refused, match_other, matching, match_is}
use Rattle.records.proofs.PhraseNumbers.{phrase_not}
use Rattle.records.specs.declared.phrase_kind.PhraseKind.TheVariants as kind
use Rattle.deductions.proofs.Run.+deduction.Goals as goal

pub announced-enter-requires : goal.announced-enter-requires
announced-enter-requires t c =
    (omega (arith, c.decreases), by_ready _ c.args.site.depth _ _ _ _ _ _ c.requires.1 c.at-f.ensures c.at-d.ensures c.requires.0)

pub announced-evaluate-requires : goal.announced-evaluate-requires
announced-evaluate-requires t c =
    let s = c.in_ok-q.ensures.same in
    rw (s.phrases, s.patterns) (by_expression _ _ _ _ _ _ _ _ c.requires.1 c.at-f.ensures c.at-d.ensures _ _ c.requires.0 c.in_ok-q.ensures.deduced)

pub announced-returns-clause-stepped : goal.announced-returns-clause-stepped
announced-returns-clause-stepped t c =
    let s = c.in_ok-q.ensures.same in
    by_is _ _ _ _ _ _ _ _ c.requires.1 c.at-f.ensures c.at-d.ensures _ _ c.in_ok-q.ensures.deduced _ _ _ _ _ (rw (s.phrases, s.patterns) at c.in_ok-v.ensures.evaluated) c.compare.ensures

pub announced-returns-in_err-v-clause-stepped : goal.announced-returns-in_err-v-clause-stepped
announced-returns-in_err-v-clause-stepped t c =
    let s = c.in_ok-q.ensures.same in
    let e = err_from_is_err_and c.from_residual-in_err-v.result c.from_residual-in_err-v.ensures.1 in
    rw (e.1, e.2) (by_refused _ _ _ _ _ _ _ _ c.requires.1 c.at-f.ensures c.at-d.ensures _ _ c.in_ok-q.ensures.deduced _ _ (rw (s.phrases, s.patterns) at c.in_err-v.ensures.evaluated))

pub announced-returns-in_err-q-clause-stepped : goal.announced-returns-in_err-q-clause-stepped
announced-returns-in_err-q-clause-stepped t c =
    let e = err_from_is_err_and c.from_residual.result c.from_residual.ensures.1 in
    rw (e.1, e.2) (by_fails _ _ _ _ _ _ _ _ c.requires.1 c.at-f.ensures c.at-d.ensures _ _ c.in_err-q.ensures.deduced)

pub bind-either-requires : goal.bind-either-requires
bind-either-requires t c =
    (omega (arith, c.decreases), ready_less _ _ _ _ _ _ _ _ _ _ _ _ _ _ c.requires.0 (let_first _ c.args.site.depth _ _ _ _ c.requires.1 _ _ c.at-f.ensures c.at-d.ensures _ _ _ _ c.requires.0) (omega arith) (omega arith) (omega arith) (omega arith))

pub bind-bind_value-self-requires : goal.bind-bind_value-self-requires
bind-bind_value-self-requires t c = let_value_fits _ _ _ _ _ _ _ _ (held _ _ _ _ _ _ _ _ _ _ _ _ _ _ c.requires.0 (let_first _ c.args.site.depth _ _ _ _ c.requires.1 _ _ c.at-f.ensures c.at-d.ensures _ _ _ _ c.requires.0) c.in_ok-v.ensures.fetched)

pub bind-enter-requires : goal.bind-enter-requires
bind-enter-requires t c =
    let s = c.in_ok-v.ensures.same in
    (omega (arith, c.decreases), rw (s.phrases, s.patterns, c.join.ensures.0, c.join.ensures.1, c.bind_value-self.ensures.0, c.bind_value-self.ensures.1) (let_ready _ c.args.site.depth _ _ _ _ c.requires.1 _ _ c.at-f.ensures c.at-d.ensures _ _ _ c.requires.0 (held _ _ _ _ _ _ _ _ _ _ _ _ _ _ c.requires.0 (let_first _ c.args.site.depth _ _ _ _ c.requires.1 _ _ c.at-f.ensures c.at-d.ensures _ _ _ _ c.requires.0) c.in_ok-v.ensures.fetched)))

pub bind-join-requires : goal.bind-join-requires
bind-join-requires t c =
    let r = c.requires.0.room.base in
    join_fits _ _ _ _ _ _ _ _ _ _ _ _ (omega (arith, r)) (held _ _ _ _ _ _ _ _ _ _ _ _ _ _ c.requires.0 (let_first _ c.args.site.depth _ _ _ _ c.requires.1 _ _ c.at-f.ensures c.at-d.ensures _ _ _ _ c.requires.0) c.in_ok-v.ensures.fetched)

pub bind-returns-clause-stepped : goal.bind-returns-clause-stepped
bind-returns-clause-stepped t c =
    let s = c.in_ok-v.ensures.same in
    let_is _ _ _ _ _ _ c.requires.1 _ _ c.at-f.ensures c.at-d.ensures _ _ _ _ c.requires.0 c.in_ok-v.ensures.fetched (rw (s.phrases, s.patterns, c.join.ensures.0, c.join.ensures.1, c.bind_value-self.ensures.0, c.bind_value-self.ensures.1) at c.enter.ensures.deduced)

pub bind-returns-in_err-v-clause-stepped : goal.bind-returns-in_err-v-clause-stepped
bind-returns-in_err-v-clause-stepped t c =
    let e = err_from_is_err_and c.from_residual.result c.from_residual.ensures.1 in
    rw (e.1, e.2) (let_refused _ _ _ _ _ _ c.requires.1 _ _ c.at-f.ensures c.at-d.ensures _ _ c.in_err-v.ensures.fetched)

pub block-steps-requires : goal.block-steps-requires
block-steps-requires t c =
    let L = block_ready _ _ _ _ _ _ c.requires.1 c.at-count.ensures c.requires.0 in
    (omega (arith, c.decreases, L.few), L)

pub block-returns-clause-stepped : goal.block-returns-clause-stepped
block-returns-clause-stepped t c =
    let at1 = c.at-count in
    let steps' = c.steps in
    block_is _ _ _ _ _ _ _ _ c.requires.1 at1.ensures steps'.ensures.stepping

pub steps-enter-requires : goal.steps-enter-requires
steps-enter-requires t c =
    let at1 = c.at-k in
    (omega (arith, c.decreases), (last_ready _ _ _ _ _ _ _ at1.ensures c.requires, step_kind _ _ _ _ _ _ _ at1.ensures c.requires))

pub steps-returns-then-left-eq1-clause-stepping : goal.steps-returns-then-left-eq1-clause-stepping
steps-returns-then-left-eq1-clause-stepping t c =
    let at1 = c.at-k in
    let if1 = c.if-left-eq1 in
    let enter' = c.enter in
    last_step _ _ _ _ _ _ _ at1.ensures _ _ if1.true enter'.ensures.deduced

pub steps-either-requires : goal.steps-either-requires
steps-either-requires t c =
    (omega (arith, c.decreases), step_ready _ _ _ _ _ _ _ c.at-k.ensures c.requires)

pub steps-join-requires : goal.steps-join-requires
steps-join-requires t c =
    let r = c.requires.ready.room.base in
    join_fits _ _ _ _ _ _ _ _ _ _ _ _ (omega (arith, r)) (held _ _ _ _ _ _ _ _ _ _ _ _ _ _ c.requires.ready (step_in _ _ _ _ _ _ _ c.at-k.ensures c.requires) c.in_ok-l.ensures.fetched)

pub steps-steps-requires : goal.steps-steps-requires
steps-steps-requires t c =
    let s = c.in_ok-l.ensures.same in
    let o = c.requires.some in
    (omega (arith, c.decreases, o), rw (s.phrases, s.patterns, c.join.ensures.0, c.join.ensures.1) (steps_ready _ _ _ _ _ _ _ c.at-k.ensures _ _ _ _ c.requires c.if-left-eq1.false c.in_ok-l.ensures.fetched))

pub steps-returns-clause-stepping : goal.steps-returns-clause-stepping
steps-returns-clause-stepping t c =
    let s = c.in_ok-l.ensures.same in
    step_then _ _ _ _ _ _ _ c.at-k.ensures _ _ _ _ _ c.requires c.if-left-eq1.false c.in_ok-l.ensures.fetched (rw (s.phrases, s.patterns, c.join.ensures.0, c.join.ensures.1) at c.steps.ensures.stepping)

pub steps-returns-in_err-l-clause-stepping : goal.steps-returns-in_err-l-clause-stepping
steps-returns-in_err-l-clause-stepping t c =
    let e = err_from_is_err_and c.from_residual.result c.from_residual.ensures.1 in
    rw (e.1, e.2) (step_fails _ _ _ _ _ _ _ c.at-k.ensures _ _ _ c.requires c.if-left-eq1.false c.in_err-l.ensures.fetched)

pub apply-enter-requires : goal.apply-enter-requires
apply-enter-requires t c =
    (omega (arith, c.decreases), method_ready _ _ _ _ _ _ _ c.in-Method.is _ c.at-body.ensures c.requires)

pub apply-returns-then-at-n-clause-applying : goal.apply-returns-then-at-n-clause-applying
apply-returns-then-at-n-clause-applying t c = method_miscounted _ _ _ _ _ _ _ c.in-Method.is _ _ _ c.at.ensures c.if-at-n.true

pub apply-returns-in-Prop-clause-applying : goal.apply-returns-in-Prop-clause-applying
apply-returns-in-Prop-clause-applying t c = other_applied _ _ _ _ _ _ _ _ c.in-Prop.is

pub apply-returns-else-at-n-clause-applying : goal.apply-returns-else-at-n-clause-applying
apply-returns-else-at-n-clause-applying t c = method_applied _ _ _ _ _ _ _ c.in-Method.is _ _ _ _ _ c.at.ensures c.if-at-n.false c.at-body.ensures c.enter.ensures.deduced

pub apply-overflow_mul-row : goal.apply-overflow_mul-row
apply-overflow_mul-row t c = let s = method_small _ _ _ _ _ _ _ c.in-Method.is c.requires in omega (arith, s)

pub apply-overflow_add-row : goal.apply-overflow_add-row
apply-overflow_add-row t c = let s = method_small _ _ _ _ _ _ _ c.in-Method.is c.requires in omega (arith, s)

pub apply-overflow_add-row-in-Method : goal.apply-overflow_add-row-in-Method
apply-overflow_add-row-in-Method t c = let s = method_small _ _ _ _ _ _ _ c.in-Method.is c.requires in omega (arith, s)

pub arguments-returns-then-left-eq0-clause-listed : goal.arguments-returns-then-left-eq0-clause-listed
arguments-returns-then-left-eq0-clause-listed t c = args_none _ _ _ _ _ _ _ _ c.if-left-eq0.true

pub arguments-either-requires : goal.arguments-either-requires
arguments-either-requires t c =
    (omega (arith, c.decreases), argument_ready _ c.args.site.depth _ _ _ _ _ _ _ c.at-k.ensures c.if-left-eq0.false c.requires)

pub arguments-bind_value-self-requires : goal.arguments-bind_value-self-requires
arguments-bind_value-self-requires t c = argument_fits _ _ _ _ _ _ _ _ _ c.at-k.ensures c.if-left-eq0.false _ _ _ c.in_ok-v.ensures.fetched c.requires

pub arguments-arguments-requires : goal.arguments-arguments-requires
arguments-arguments-requires t c =
    let s = c.in_ok-v.ensures.same in
    (omega (arith, c.decreases, c.if-left-eq0.false), rw (s.phrases, s.patterns, c.bind_value-self.ensures.0, c.bind_value-self.ensures.1) (arguments_ready _ _ _ _ _ _ _ _ _ c.at-k.ensures c.if-left-eq0.false _ _ _ c.in_ok-v.ensures.fetched c.requires))

pub arguments-join-requires : goal.arguments-join-requires
arguments-join-requires t c =
    let s = c.in_ok-v.ensures.same in
    join_after _ _ _ _ _ _ _ _ _ c.at-k.ensures c.if-left-eq0.false _ _ _ c.in_ok-v.ensures.fetched c.requires _ _ _ (rw (s.phrases, s.patterns, c.bind_value-self.ensures.0, c.bind_value-self.ensures.1) at c.in_ok-env.ensures.listed)

pub arguments-returns-clause-listed : goal.arguments-returns-clause-listed
arguments-returns-clause-listed t c =
    let s = c.in_ok-v.ensures.same in
    rw (c.join.ensures.0, c.join.ensures.1) (argument_then _ _ _ _ _ _ _ _ _ c.at-k.ensures c.if-left-eq0.false _ _ _ c.in_ok-v.ensures.fetched c.requires _ _ _ (rw (s.phrases, s.patterns, c.bind_value-self.ensures.0, c.bind_value-self.ensures.1) at c.in_ok-env.ensures.listed))

pub arguments-returns-in_err-env-clause-listed : goal.arguments-returns-in_err-env-clause-listed
arguments-returns-in_err-env-clause-listed t c =
    let s = c.in_ok-v.ensures.same in
    let e = err_from_is_err_and c.from_residual-in_err-env.result c.from_residual-in_err-env.ensures.1 in
    rw (e.1, e.2) (arguments_fail _ _ _ _ _ _ _ _ _ c.at-k.ensures c.if-left-eq0.false _ _ _ c.in_ok-v.ensures.fetched c.requires _ _ (rw (s.phrases, s.patterns, c.bind_value-self.ensures.0, c.bind_value-self.ensures.1) at c.in_err-env.ensures.listed))

pub arguments-returns-in_err-v-clause-listed : goal.arguments-returns-in_err-v-clause-listed
arguments-returns-in_err-v-clause-listed t c =
    let e = err_from_is_err_and c.from_residual.result c.from_residual.ensures.1 in
    rw (e.1, e.2) (argument_fails _ _ _ _ _ _ _ _ _ c.at-k.ensures c.if-left-eq0.false _ _ c.in_err-v.ensures.fetched)

pub call-evaluate-requires : goal.call-evaluate-requires
call-evaluate-requires t c =
    ready_expression _ _ _ _ _ _ _ _ _ _ c.requires.0 (call_row _ c.args.site.depth _ _ _ _ _ _ c.requires.1 c.at-f.ensures c.at-count.ensures c.requires.0)

pub call-called-requires : goal.call-called-requires
call-called-requires t c =
    let s = c.in_ok-v.ensures.same in
    (omega (arith, c.decreases), rw (s.phrases, s.patterns) (callable _ _ _ _ _ _ _ _ c.requires.1 c.at-f.ensures c.at-count.ensures _ _ _ _ c.requires.0 c.in_ok-v.ensures.evaluated))

pub call-returns-clause-stepped : goal.call-returns-clause-stepped
call-returns-clause-stepped t c =
    let s = c.in_ok-v.ensures.same in
    call_is _ _ _ _ _ _ _ _ c.requires.1 c.at-f.ensures c.at-count.ensures _ _ _ _ _ c.in_ok-v.ensures.evaluated (rw (s.phrases, s.patterns) at c.called.ensures.calling)

pub call-returns-in_err-v-clause-stepped : goal.call-returns-in_err-v-clause-stepped
call-returns-in_err-v-clause-stepped t c =
    let e = err_from_is_err_and c.from_residual.result c.from_residual.ensures.1 in
    rw (e.1, e.2) (call_refused _ _ _ _ _ _ _ _ c.requires.1 c.at-f.ensures c.at-count.ensures _ _ c.in_err-v.ensures.evaluated)

pub called-arguments-requires : goal.called-arguments-requires
called-arguments-requires t c =
    let L = call_list _ c.args.site.depth _ _ _ _ _ _ c.requires in
    (omega (arith, c.decreases, L.few), rw c.scope-onto.ensures L)

pub called-apply-requires : goal.called-apply-requires
called-apply-requires t c =
    let s = c.in_ok-env.ensures.same in
    (omega (arith, c.decreases), rw (s.phrases, s.patterns) (applicable _ _ _ _ _ _ _ _ c.requires _ _ _ (rw c.scope-onto.ensures at c.in_ok-env.ensures.listed)))

pub called-returns-clause-calling : goal.called-returns-clause-calling
called-returns-clause-calling t c =
    let s = c.in_ok-env.ensures.same in
    called_is _ _ _ _ _ _ _ _ c.requires _ _ _ (rw c.scope-onto.ensures at c.in_ok-env.ensures.listed) _ (rw (s.phrases, s.patterns) at c.apply.ensures.applying)

pub called-returns-in_err-env-clause-calling : goal.called-returns-in_err-env-clause-calling
called-returns-in_err-env-clause-calling t c =
    let e = err_from_is_err_and c.from_residual.result c.from_residual.ensures.1 in
    rw (e.1, e.2) (called_fails _ _ _ _ _ _ _ _ c.requires _ _ (rw c.scope-onto.ensures at c.in_err-env.ensures.listed))

pub enter-returns-then-site-eq0-clause-deduced : goal.enter-returns-then-site-eq0-clause-deduced
enter-returns-then-site-eq0-clause-deduced t c = too_deep _ _ _ _ _ _ c.if-remaining-eq0.false c.if-site-eq0.true

pub enter-returns-clause-deduced : goal.enter-returns-clause-deduced
enter-returns-clause-deduced t c = entered _ _ _ _ _ _ _ c.if-remaining-eq0.false c.if-site-eq0.false c.step.ensures.stepped

pub enter-returns-then-remaining-eq0-clause-deduced : goal.enter-returns-then-remaining-eq0-clause-deduced
enter-returns-then-remaining-eq0-clause-deduced t c = spent_out _ _ _ _ _ _ c.if-remaining-eq0.true

pub clause-overflow_add-self : goal.clause-overflow_add-self
clause-overflow_add-self t c = let f = parts_fit _ _ _ _ _ _ _ refl c.requires.kind _ _ (rw c.in-Some.is at c.chosen.ensures) c.requires in omega (arith, f)

pub clause-enter-requires : goal.clause-enter-requires
clause-enter-requires t c =
    (omega (arith, c.decreases), clause_ready _ _ _ _ _ _ _ refl c.requires.kind _ _ (rw c.in-Some.is at c.chosen.ensures) _ _ c.bind_parts.ensures c.requires)

pub clause-bind_parts-requires : goal.clause-bind_parts-requires
clause-bind_parts-requires t c = parts_bindable _ _ _ _ _ _ _ refl c.requires.kind _ _ (rw c.in-Some.is at c.chosen.ensures) c.requires

pub clause-returns-clause-selected : goal.clause-returns-clause-selected
clause-returns-clause-selected t c = clause_runs _ _ _ _ _ _ _ refl c.requires.kind _ _ (rw c.in-Some.is at c.chosen.ensures) _ _ c.bind_parts.ensures _ _ c.requires c.enter.ensures.deduced

pub clause-returns-in_default-clause-selected : goal.clause-returns-in_default-clause-selected
clause-returns-in_default-clause-selected t c = none_fits _ _ _ _ _ _ _ refl c.requires.kind _ (rw c.in_default.is at c.chosen.ensures)

pub matched-either-requires : goal.matched-either-requires
matched-either-requires t c =
    (omega (arith, c.decreases), ready_less _ _ _ _ _ _ _ _ _ _ _ _ _ _ c.requires.0 (match_first _ c.args.site.depth _ _ _ _ _ c.requires.1 c.at-f.ensures _ _ _ _ c.requires.0) (omega arith) (omega arith) (omega arith) (omega arith))

pub matched-returns-in_default-clause-stepped : goal.matched-returns-in_default-clause-stepped
matched-returns-in_default-clause-stepped t c = match_other _ _ _ _ _ _ _ c.requires.1 c.at-f.ensures _ _ _ c.in_ok-v.ensures.fetched (otherwise c.in_ok-v.v c.in_default.not-Prop)

pub matched-clause-requires : goal.matched-clause-requires
matched-clause-requires t c =
    let s = c.in_ok-v.ensures.same in
    (omega (arith, c.decreases), rw (s.phrases, s.patterns) (matching _ _ _ _ _ _ _ c.requires.1 c.at-f.ensures _ _ _ c.in_ok-v.ensures.fetched _ c.in-Prop.is c.requires.0))

pub matched-returns-clause-stepped : goal.matched-returns-clause-stepped
matched-returns-clause-stepped t c =
    let s = c.in_ok-v.ensures.same in
    match_is _ _ _ _ _ _ _ c.requires.1 c.at-f.ensures _ _ _ c.in_ok-v.ensures.fetched _ c.in-Prop.is c.requires.0 _ (rw (s.phrases, s.patterns) at c.clause.ensures.selected)

pub matched-returns-in_err-v-clause-stepped : goal.matched-returns-in_err-v-clause-stepped
matched-returns-in_err-v-clause-stepped t c =
    let e = err_from_is_err_and c.from_residual.result c.from_residual.ensures.1 in
    rw (e.1, e.2) (match_refused _ _ _ _ _ _ _ c.requires.1 c.at-f.ensures _ _ c.in_err-v.ensures.fetched)

pub either-returns-then-at-clause-fetched : goal.either-returns-then-at-clause-fetched
either-returns-then-at-clause-fetched t c = either_value _ _ _ _ _ _ _ _ _ _ _ c.at.ensures c.if-at.true c.in_ok-v.ensures.evaluated

pub either-returns-in_err-v-clause-fetched : goal.either-returns-in_err-v-clause-fetched
either-returns-in_err-v-clause-fetched t c =
    let e = err_from_is_err_and c.from_residual.result c.from_residual.ensures.1 in
    rw (e.1, e.2) (either_refused _ _ _ _ _ _ _ _ _ c.at.ensures c.if-at.true c.in_err-v.ensures.evaluated)

pub either-returns-clause-fetched : goal.either-returns-clause-fetched
either-returns-clause-fetched t c = either_lemma _ _ _ _ _ _ _ _ _ (sequel_fits _ 0 _ _ _ _ _ _ _ _ (omega arith) c.requires) c.at.ensures c.if-at.false (rw (c.sequence-self.ensures.0, c.sequence-self.ensures.1) at c.in_ok-p.ensures.deduced)

pub either-returns-in_err-p-clause-fetched : goal.either-returns-in_err-p-clause-fetched
either-returns-in_err-p-clause-fetched t c =
    let e = err_from_is_err_and c.from_residual-in_err-p.result c.from_residual-in_err-p.ensures.1 in
    rw (e.1, e.2) (either_fails _ _ _ _ _ _ _ _ _ (sequel_fits _ 0 _ _ _ _ _ _ _ _ (omega arith) c.requires) c.at.ensures c.if-at.false (rw (c.sequence-self.ensures.0, c.sequence-self.ensures.1) at c.in_err-p.ensures.deduced))

pub assume-evaluate-requires : goal.assume-evaluate-requires
assume-evaluate-requires t c =
    ready_expression _ _ _ _ _ _ _ _ _ _ c.requires.0 (hyp_row _ _ _ _ _ _ _ _ _ (assume_runs _ c.args.site.depth _ _ _ _ _ _ c.requires.1 c.at-f.ensures c.at-d.ensures) _ _ _ _ c.requires.0)

pub assume-returns-in_default-clause-stepped : goal.assume-returns-in_default-clause-stepped
assume-returns-in_default-clause-stepped t c = hyp_other _ _ _ _ _ _ _ _ _ (assume_runs _ c.args.site.depth _ _ _ _ _ _ c.requires.1 c.at-f.ensures c.at-d.ensures) _ _ _ _ c.in_ok-v.ensures.evaluated (otherwise c.in_ok-v.v c.in_default.not-Prop)

pub assume-under-requires : goal.assume-under-requires
assume-under-requires t c =
    let s = c.in_ok-v.ensures.same in
    (omega (arith, c.decreases), rw (s.phrases, s.patterns) (hyp_ready _ _ _ _ _ _ _ _ _ (assume_runs _ c.args.site.depth _ _ _ _ _ _ c.requires.1 c.at-f.ensures c.at-d.ensures) _ _ _ _ c.in_ok-v.ensures.evaluated _ c.in-Prop.is [] _ (hyp_still _ _ _ _ _ _ _ _ (assume_runs _ c.args.site.depth _ _ _ _ _ _ c.requires.1 c.at-f.ensures c.at-d.ensures) _ _ _ _ c.in_ok-v.ensures.evaluated _ c.in-Prop.is) c.requires.0))

pub assume-conditional-made-requires : goal.assume-conditional-made-requires
assume-conditional-made-requires t c =
    let s = c.in_ok-v.ensures.same in
    imply_asks _ _ _ _ _ _ _ _ (assume_runs _ c.args.site.depth _ _ _ _ _ _ c.requires.1 c.at-f.ensures c.at-d.ensures) _ _ _ _ c.in_ok-v.ensures.evaluated _ c.in-Prop.is _ _ c.requires.0 (rw (s.phrases, s.patterns) at c.in_ok-q.ensures.supposing)

pub assume-returns-clause-stepped : goal.assume-returns-clause-stepped
assume-returns-clause-stepped t c =
    let s = c.in_ok-v.ensures.same in
    assume_is _ _ _ _ _ _ _ _ (assume_runs _ c.args.site.depth _ _ _ _ _ _ c.requires.1 c.at-f.ensures c.at-d.ensures) _ _ _ _ c.in_ok-v.ensures.evaluated _ c.in-Prop.is _ _ _ _ c.requires.0 (rw (s.phrases, s.patterns) at c.in_ok-q.ensures.supposing) c.conditional-made.ensures

pub assume-returns-in_err-q-clause-stepped : goal.assume-returns-in_err-q-clause-stepped
assume-returns-in_err-q-clause-stepped t c =
    let s = c.in_ok-v.ensures.same in
    let e = err_from_is_err_and c.from_residual-in_err-q.result c.from_residual-in_err-q.ensures.1 in
    rw (e.1, e.2) (hyp_fails _ _ _ _ _ _ _ _ _ (assume_runs _ c.args.site.depth _ _ _ _ _ _ c.requires.1 c.at-f.ensures c.at-d.ensures) _ _ _ _ c.in_ok-v.ensures.evaluated _ c.in-Prop.is [] _ (hyp_still _ _ _ _ _ _ _ _ (assume_runs _ c.args.site.depth _ _ _ _ _ _ c.requires.1 c.at-f.ensures c.at-d.ensures) _ _ _ _ c.in_ok-v.ensures.evaluated _ c.in-Prop.is) refl _ _ (rw (s.phrases, s.patterns) at c.in_err-q.ensures.supposing))

pub assume-returns-in_err-v-clause-stepped : goal.assume-returns-in_err-v-clause-stepped
assume-returns-in_err-v-clause-stepped t c =
    let e = err_from_is_err_and c.from_residual.result c.from_residual.ensures.1 in
    rw (e.1, e.2) (hyp_refused _ _ _ _ _ _ _ _ _ (assume_runs _ c.args.site.depth _ _ _ _ _ _ c.requires.1 c.at-f.ensures c.at-d.ensures) _ _ c.in_err-v.ensures.evaluated)

pub suppose-evaluate-requires : goal.suppose-evaluate-requires
suppose-evaluate-requires t c =
    ready_expression _ _ _ _ _ _ _ _ _ _ c.requires.0 (hyp_row _ _ _ _ _ _ _ _ _ (suppose_runs _ c.args.site.depth _ _ _ _ _ _ c.requires.1 c.at-f.ensures c.at-d.ensures) _ _ _ _ c.requires.0)

pub suppose-returns-in_default-clause-stepped : goal.suppose-returns-in_default-clause-stepped
suppose-returns-in_default-clause-stepped t c = hyp_other _ _ _ _ _ _ _ _ _ (suppose_runs _ c.args.site.depth _ _ _ _ _ _ c.requires.1 c.at-f.ensures c.at-d.ensures) _ _ _ _ c.in_ok-v.ensures.evaluated (otherwise c.in_ok-v.v c.in_default.not-Prop)

pub suppose-under-requires : goal.suppose-under-requires
suppose-under-requires t c =
    let s = c.in_ok-v.ensures.same in
    (omega (arith, c.decreases), rw (s.phrases, s.patterns, c.sequence-self.ensures.0, c.sequence-self.ensures.1) (hyp_ready _ _ _ _ _ _ _ _ _ (suppose_runs _ c.args.site.depth _ _ _ _ _ _ c.requires.1 c.at-f.ensures c.at-d.ensures) _ _ _ _ c.in_ok-v.ensures.evaluated _ c.in-Prop.is (1 ∷ []) _ (hyp_one _ _ _ _ _ _ _ _ (suppose_runs _ c.args.site.depth _ _ _ _ _ _ c.requires.1 c.at-f.ensures c.at-d.ensures) _ _ _ _ c.in_ok-v.ensures.evaluated _ c.in-Prop.is (sequel_fits _ 0 _ _ _ _ _ _ _ _ (omega arith) c.requires.0)) c.requires.0))

pub suppose-refute-requires : goal.suppose-refute-requires
suppose-refute-requires t c =
    let s = c.in_ok-v.ensures.same in
    refute_asks _ _ _ _ _ _ _ _ (suppose_runs _ c.args.site.depth _ _ _ _ _ _ c.requires.1 c.at-f.ensures c.at-d.ensures) _ _ _ _ c.in_ok-v.ensures.evaluated _ c.in-Prop.is (sequel_fits _ 0 _ _ _ _ _ _ _ _ (omega arith) c.requires.0) _ _ c.requires.0 (rw (s.phrases, s.patterns, c.sequence-self.ensures.0, c.sequence-self.ensures.1) at c.in_ok-q.ensures.supposing)

pub suppose-returns-clause-stepped : goal.suppose-returns-clause-stepped
suppose-returns-clause-stepped t c =
    let s = c.in_ok-v.ensures.same in
    let f = c.refute.ensures.same in
    rw (f.1, f.2) (suppose_is _ _ _ _ _ _ _ _ (suppose_runs _ c.args.site.depth _ _ _ _ _ _ c.requires.1 c.at-f.ensures c.at-d.ensures) _ _ _ _ c.in_ok-v.ensures.evaluated _ c.in-Prop.is (sequel_fits _ 0 _ _ _ _ _ _ _ _ (omega arith) c.requires.0) _ _ _ _ _ _ c.requires.0 (rw (s.phrases, s.patterns, c.sequence-self.ensures.0, c.sequence-self.ensures.1) at c.in_ok-q.ensures.supposing) f.0.tokens_long c.refute.ensures.refuted)

pub suppose-returns-in_err-q-clause-stepped : goal.suppose-returns-in_err-q-clause-stepped
suppose-returns-in_err-q-clause-stepped t c =
    let s = c.in_ok-v.ensures.same in
    let e = err_from_is_err_and c.from_residual-in_err-q.result c.from_residual-in_err-q.ensures.1 in
    rw (e.1, e.2) (hyp_fails _ _ _ _ _ _ _ _ _ (suppose_runs _ c.args.site.depth _ _ _ _ _ _ c.requires.1 c.at-f.ensures c.at-d.ensures) _ _ _ _ c.in_ok-v.ensures.evaluated _ c.in-Prop.is (1 ∷ []) _ (hyp_one _ _ _ _ _ _ _ _ (suppose_runs _ c.args.site.depth _ _ _ _ _ _ c.requires.1 c.at-f.ensures c.at-d.ensures) _ _ _ _ c.in_ok-v.ensures.evaluated _ c.in-Prop.is (sequel_fits _ 0 _ _ _ _ _ _ _ _ (omega arith) c.requires.0)) refl _ _ (rw (s.phrases, s.patterns, c.sequence-self.ensures.0, c.sequence-self.ensures.1) at c.in_err-q.ensures.supposing))

pub suppose-returns-in_err-v-clause-stepped : goal.suppose-returns-in_err-v-clause-stepped
suppose-returns-in_err-v-clause-stepped t c =
    let e = err_from_is_err_and c.from_residual.result c.from_residual.ensures.1 in
    rw (e.1, e.2) (hyp_refused _ _ _ _ _ _ _ _ _ (suppose_runs _ c.args.site.depth _ _ _ _ _ _ c.requires.1 c.at-f.ensures c.at-d.ensures) _ _ c.in_err-v.ensures.evaluated)

pub under-enter-requires : goal.under-enter-requires
under-enter-requires t c =
    (omega (arith, c.decreases), (rw (c.put.ensures, c.hypothesis-self.ensures.0, c.hypothesis-self.ensures.1) (under_ready _ 0 _ _ _ _ _ c.requires), c.requires.kind))

pub under-returns-clause-supposing : goal.under-returns-clause-supposing
under-returns-clause-supposing t c = under_is _ _ _ _ _ _ _ _ c.requires (rw (c.put.ensures, c.hypothesis-self.ensures.0, c.hypothesis-self.ensures.1) at c.enter.ensures.deduced)

pub step-matched-requires : goal.step-matched-requires
step-matched-requires t c =
    (omega (arith, c.decreases), (c.requires.0, last_kind _ _ _ _ _ _ _ _ _ _ c.requires.0 c.requires.1 c.at.ensures (phrase_not _ _ kind.MethodCall c.of.ensures (search rules)) (phrase_not _ _ kind.Assume c.of.ensures (search rules)) (phrase_not _ _ kind.Suppose c.of.ensures (search rules)) (phrase_not _ _ kind.DLet c.of.ensures (search rules)) (phrase_not _ _ kind.By c.of.ensures (search rules)) (phrase_not _ _ kind.Block c.of.ensures (search rules))))

-- The count, then the last argument, then the first: at each return the tests say which case of the language holds.
use native.Mathlib.Omega.{arith}
use mathlib.Core.Path.{sym, ◌∙◌}
use Rattle.std.proofs.lemmas.Result.{err_from_is_err_and}
use Rattle.expressions.proofs.Leaves.{refused_by}
use Rattle.expressions.proofs.Constructors.{con_miscounted, con_one, con_two, con_first_other, con_last_other, last_bounds, first_bounds, form_room, last_low, first_low}
use Rattle.expressions.proofs.Machine.construct.Goals as goal

pub returns-then-n-takes-clause-called : goal.returns-then-n-takes-clause-called
returns-then-n-takes-clause-called c = λ d. con_miscounted _ _ _ _ _ _ _ _ c.takes.ensures c.if-n-takes.true

pub binding-last-requires : goal.binding-last-requires
binding-last-requires c = last_bounds _ _ _ _ _ c.requires _ c.takes.ensures c.if-n-takes.false

pub returns-in_err-q-clause-called : goal.returns-in_err-q-clause-called
returns-in_err-q-clause-called c =
    let e = err_from_is_err_and c.from_residual.result c.from_residual.ensures.1 in
    let n = c.in_err-q.ensures in
    rw (e.1, e.2, refused_by _ _ _ n.ok_part n.value)
    (λ d. con_last_other _ _ _ _ _ _ _ _ c.takes.ensures c.if-n-takes.false _ c.binding-last.ensures (sym c.part.ensures ∙ n.ok_part))

pub formed-requires : goal.formed-requires
formed-requires c =
    let r = form_room _ _ _ _ _ c.requires _ c.takes.ensures c.if-n-takes.false in
    let q = last_low _ _ _ _ _ c.requires _ c.takes.ensures c.if-n-takes.false _ _ c.binding-last.ensures (sym c.part.ensures ∙ c.in_ok-q.ensures.ok_part) in
    (r.0, r.2, q, omega arith)

pub returns-then-c-eq-NOT-clause-called : goal.returns-then-c-eq-NOT-clause-called
returns-then-c-eq-NOT-clause-called c =
    let r = form_room _ _ _ _ _ c.requires _ c.takes.ensures c.if-n-takes.false in
    λ d. rw (c.formed.ensures.same.1) (con_one _ _ _ _ _ _ _ _ c.takes.ensures c.if-n-takes.false _ c.binding-last.ensures _ _ _ r.0 r.1 c.if-c-eq-NOT.true (sym c.part.ensures ∙ c.in_ok-q.ensures.ok_part) c.formed.ensures.made)

pub binding-first-requires : goal.binding-first-requires
binding-first-requires c = first_bounds _ _ _ _ _ c.requires _ c.takes.ensures c.if-n-takes.false _ c.binding-last.ensures c.if-c-eq-NOT.false

pub returns-in_err-p-clause-called : goal.returns-in_err-p-clause-called
returns-in_err-p-clause-called c =
    let e = err_from_is_err_and c.from_residual-in_err-p.result c.from_residual-in_err-p.ensures.1 in
    let n = c.in_err-p.ensures in
    rw (e.1, e.2, refused_by _ _ _ n.ok_part n.value)
    (λ d. con_first_other _ _ _ _ _ _ _ _ c.takes.ensures c.if-n-takes.false _ c.binding-last.ensures _ c.if-c-eq-NOT.false c.binding-first.ensures (sym c.part-2.ensures ∙ n.ok_part))

pub formed-requires-2 : goal.formed-requires-2
formed-requires-2 c =
    let r = form_room _ _ _ _ _ c.requires _ c.takes.ensures c.if-n-takes.false in
    let q = last_low _ _ _ _ _ c.requires _ c.takes.ensures c.if-n-takes.false _ _ c.binding-last.ensures (sym c.part.ensures ∙ c.in_ok-q.ensures.ok_part) in
    let p = first_low _ _ _ _ _ c.requires _ c.takes.ensures c.if-n-takes.false _ _ _ c.binding-last.ensures c.if-c-eq-NOT.false c.binding-first.ensures (sym c.part-2.ensures ∙ c.in_ok-p.ensures.ok_part) in
    (r.0, r.2, p, q)

pub returns-clause-called : goal.returns-clause-called
returns-clause-called c =
    let r = form_room _ _ _ _ _ c.requires _ c.takes.ensures c.if-n-takes.false in
    λ d. rw (c.formed-2.ensures.same.1) (con_two _ _ _ _ _ _ _ _ c.takes.ensures c.if-n-takes.false _ c.binding-last.ensures _ _ _ _ _ r.0 r.1 c.if-c-eq-NOT.false (sym c.part.ensures ∙ c.in_ok-q.ensures.ok_part) c.binding-first.ensures (sym c.part-2.ensures ∙ c.in_ok-p.ensures.ok_part) c.formed-2.ensures.made)

-- `evaluator::evaluate` meets its contract: a budget or a buffer that is refused leaves everything as it was; else the fronts are lent to the answer and wiped.
use native.Mathlib.Omega.{arith}
use mathlib.Core.Path.{refl, sym, ap, ◌∙◌}
use mathlib.Core.Bool.{not}
use lib.Seq.{length-take-le}
use Rattle.language.specs.Doors.{evaluation_lengths}
use Rattle.evaluator.specs.Door.{scratch}
use Rattle.theorems.proofs.Buffers.{enough_at, fronts, fronts_long, over, over_enough}
use Rattle.evaluator.proofs.Scratch.{seven_fixed, door_over, door_short, door_answers}
use Rattle.evaluator.proofs.evaluate.Goals as goal

pub returns-then-budget-gt-BUDGET : goal.returns-then-budget-gt-BUDGET
returns-then-budget-gt-BUDGET c = door_over _ _ _ _ c.if-budget-gt-BUDGET.true

pub returns-then-is_short : goal.returns-then-is_short
returns-then-is_short c = door_short _ _ _ _ c.if-budget-gt-BUDGET.false (sym c.is_short.ensures ∙ ap not c.if-is_short.true)

pub slice_bounds-answer-end-2 : goal.slice_bounds-answer-end-2
slice_bounds-answer-end-2 c =
    let long = sym c.is_short.ensures ∙ ap not c.if-is_short.false in
    sym (length-take-le 9220 c.args.listing.now (enough_at _ _ long 0 (omega arith)))

pub slice_bounds-answer-end-4 : goal.slice_bounds-answer-end-4
slice_bounds-answer-end-4 c =
    let long = sym c.is_short.ensures ∙ ap not c.if-is_short.false in
    sym (length-take-le 4610 c.args.forms.now (enough_at _ _ long 1 (omega arith)))

pub slice_bounds-answer-end-6 : goal.slice_bounds-answer-end-6
slice_bounds-answer-end-6 c =
    let long = sym c.is_short.ensures ∙ ap not c.if-is_short.false in
    sym (length-take-le 640 c.args.patterns.now (enough_at _ _ long 2 (omega arith)))

pub slice_bounds-answer-end-8 : goal.slice_bounds-answer-end-8
slice_bounds-answer-end-8 c =
    let long = sym c.is_short.ensures ∙ ap not c.if-is_short.false in
    sym (length-take-le 6144 c.args.phrases.now (enough_at _ _ long 3 (omega arith)))

pub slice_bounds-answer-end-10 : goal.slice_bounds-answer-end-10
slice_bounds-answer-end-10 c =
    let long = sym c.is_short.ensures ∙ ap not c.if-is_short.false in
    sym (length-take-le 1088 c.args.base.now (enough_at _ _ long 4 (omega arith)))

pub slice_bounds-answer-end-12 : goal.slice_bounds-answer-end-12
slice_bounds-answer-end-12 c =
    let long = sym c.is_short.ensures ∙ ap not c.if-is_short.false in
    sym (length-take-le 16384 c.args.binds.now (enough_at _ _ long 5 (omega arith)))

pub slice_bounds-answer-end-14 : goal.slice_bounds-answer-end-14
slice_bounds-answer-end-14 c =
    let long = sym c.is_short.ensures ∙ ap not c.if-is_short.false in
    sym (length-take-le 11264 c.args.tokens.now (enough_at _ _ long 6 (omega arith)))

pub answer-r-requires : goal.answer-r-requires
unfolding fronts
answer-r-requires c =
    let start = c.args in
    let long = sym c.is_short.ensures ∙ ap not c.if-is_short.false in
    (fronts_long evaluation_lengths (scratch start.listing.now start.forms.now start.patterns.now start.phrases.now start.base.now start.binds.now start.tokens.now) long, c.if-budget-gt-BUDGET.false)

pub clear-requires : goal.clear-requires
unfolding over
clear-requires c =
    let lent = c.answer-r in
    let start = c.args in
    let long = sym c.is_short.ensures ∙ ap not c.if-is_short.false in
    over_enough evaluation_lengths (scratch lent.new.listing lent.new.forms lent.new.patterns lent.new.phrases lent.new.base lent.new.binds lent.new.tokens) (scratch start.listing.now start.forms.now start.patterns.now start.phrases.now start.base.now start.binds.now start.tokens.now)
    (seven_fixed start.listing.now start.forms.now start.patterns.now start.phrases.now start.base.now start.binds.now start.tokens.now lent.new.listing lent.new.forms lent.new.patterns lent.new.phrases lent.new.base lent.new.binds lent.new.tokens long lent.auto.listing lent.auto.forms lent.auto.patterns lent.auto.phrases lent.auto.base lent.auto.binds lent.auto.tokens) long

pub returns : goal.returns
unfolding over
returns c =
    let lent = c.answer-r in
    let start = c.args in
    let long = sym c.is_short.ensures ∙ ap not c.if-is_short.false in
    door_answers _ _ _ _ c.if-budget-gt-BUDGET.false long refl _ _ (scratch lent.new.listing lent.new.forms lent.new.patterns lent.new.phrases lent.new.base lent.new.binds lent.new.tokens) _
    (seven_fixed start.listing.now start.forms.now start.patterns.now start.phrases.now start.base.now start.binds.now start.tokens.now lent.new.listing lent.new.forms lent.new.patterns lent.new.phrases lent.new.base lent.new.binds lent.new.tokens long lent.auto.listing lent.auto.forms lent.auto.patterns lent.auto.phrases lent.auto.base lent.auto.binds lent.auto.tokens) lent.ensures c.clear.ensures

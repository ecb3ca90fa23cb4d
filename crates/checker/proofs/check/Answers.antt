-- `checker::check` meets its contract: a buffer that is short refuses with everything as it was; else the fronts are lent to the check and wiped.
use native.Mathlib.Omega.{arith}
use mathlib.Core.Path.{sym, ap, ◌∙◌}
use mathlib.Core.Bool.{not}
use lib.Seq.{length-take-le}
use Rattle.language.specs.Doors.{check_lengths}
use Rattle.theorems.proofs.Buffers.{enough_at, over, over_enough}
use Rattle.checker.specs.Verdicts.{scratch}
use Rattle.checker.proofs.Scratch.{five_fixed, door_short, door_answers}
use Rattle.checker.proofs.check.Goals as goal

pub returns-then-is_short : goal.returns-then-is_short
returns-then-is_short c = door_short _ _ _ _ _ _ _ (sym c.is_short.ensures ∙ ap not c.if-is_short.true)

pub slice_bounds-answer-end : goal.slice_bounds-answer-end
slice_bounds-answer-end c = enough_at _ _ (sym c.is_short.ensures ∙ ap not c.if-is_short.false) 0 (omega arith)

pub slice_bounds-answer-end-2 : goal.slice_bounds-answer-end-2
slice_bounds-answer-end-2 c =
    let long = sym c.is_short.ensures ∙ ap not c.if-is_short.false in
    sym (length-take-le 4608 c.args.names.now (enough_at _ _ long 0 (omega arith)))

pub slice_bounds-answer-end-3 : goal.slice_bounds-answer-end-3
slice_bounds-answer-end-3 c = enough_at _ _ (sym c.is_short.ensures ∙ ap not c.if-is_short.false) 1 (omega arith)

pub slice_bounds-answer-end-4 : goal.slice_bounds-answer-end-4
slice_bounds-answer-end-4 c =
    let long = sym c.is_short.ensures ∙ ap not c.if-is_short.false in
    sym (length-take-le 12290 c.args.forms.now (enough_at _ _ long 1 (omega arith)))

pub slice_bounds-answer-end-5 : goal.slice_bounds-answer-end-5
slice_bounds-answer-end-5 c = enough_at _ _ (sym c.is_short.ensures ∙ ap not c.if-is_short.false) 2 (omega arith)

pub slice_bounds-answer-end-6 : goal.slice_bounds-answer-end-6
slice_bounds-answer-end-6 c =
    let long = sym c.is_short.ensures ∙ ap not c.if-is_short.false in
    sym (length-take-le 640 c.args.patterns.now (enough_at _ _ long 2 (omega arith)))

pub slice_bounds-answer-end-7 : goal.slice_bounds-answer-end-7
slice_bounds-answer-end-7 c = enough_at _ _ (sym c.is_short.ensures ∙ ap not c.if-is_short.false) 3 (omega arith)

pub slice_bounds-answer-end-8 : goal.slice_bounds-answer-end-8
slice_bounds-answer-end-8 c =
    let long = sym c.is_short.ensures ∙ ap not c.if-is_short.false in
    sym (length-take-le 6144 c.args.phrases.now (enough_at _ _ long 3 (omega arith)))

pub slice_bounds-answer-end-9 : goal.slice_bounds-answer-end-9
slice_bounds-answer-end-9 c = enough_at _ _ (sym c.is_short.ensures ∙ ap not c.if-is_short.false) 4 (omega arith)

pub slice_bounds-answer-end-10 : goal.slice_bounds-answer-end-10
slice_bounds-answer-end-10 c =
    let long = sym c.is_short.ensures ∙ ap not c.if-is_short.false in
    sym (length-take-le 576 c.args.base.now (enough_at _ _ long 4 (omega arith)))

pub answer-r-requires : goal.answer-r-requires
answer-r-requires c =
    let start = c.args in
    let long = sym c.is_short.ensures ∙ ap not c.if-is_short.false in
    record {
      names_long = length-take-le 4608 start.names.now (enough_at _ _ long 0 (omega arith));
      forms_long = length-take-le 12290 start.forms.now (enough_at _ _ long 1 (omega arith));
      patterns_long = length-take-le 640 start.patterns.now (enough_at _ _ long 2 (omega arith));
      phrases_long = length-take-le 6144 start.phrases.now (enough_at _ _ long 3 (omega arith));
      base_long = length-take-le 576 start.base.now (enough_at _ _ long 4 (omega arith));
    }

pub clear-requires : goal.clear-requires
unfolding over
clear-requires c =
    let lent = c.answer-r in
    let start = c.args in
    let long = sym c.is_short.ensures ∙ ap not c.if-is_short.false in
    over_enough check_lengths (scratch lent.new.names lent.new.forms lent.new.patterns lent.new.phrases lent.new.base) (scratch start.names.now start.forms.now start.patterns.now start.phrases.now start.base.now)
    (five_fixed start.names.now start.forms.now start.patterns.now start.phrases.now start.base.now lent.new.names lent.new.forms lent.new.patterns lent.new.phrases lent.new.base long lent.auto.names lent.auto.forms lent.auto.patterns lent.auto.phrases lent.auto.base) long

pub returns : goal.returns
unfolding over
returns c =
    let lent = c.answer-r in
    let start = c.args in
    let long = sym c.is_short.ensures ∙ ap not c.if-is_short.false in
    door_answers _ _ start.names.now start.forms.now start.patterns.now start.phrases.now start.base.now long _ (scratch lent.new.names lent.new.forms lent.new.patterns lent.new.phrases lent.new.base) c.clear.new.names c.clear.new.forms c.clear.new.patterns c.clear.new.phrases c.clear.new.base
    (five_fixed start.names.now start.forms.now start.patterns.now start.phrases.now start.base.now lent.new.names lent.new.forms lent.new.patterns lent.new.phrases lent.new.base long lent.auto.names lent.auto.forms lent.auto.patterns lent.auto.phrases lent.auto.base) lent.ensures c.clear.ensures

-- `fails` meets its contract: the tests say where the place is.
use mathlib.Core.Path.{refl}
use Rattle.wording.proofs.Answering.{fails_sheet, fails_high, fails_low}
use mathlib.Core.List.{[]}
use Rattle.wording.proofs.fails.Goals as goal

pub returns-then-number-le-BYTES_AFTER : goal.returns-then-number-le-BYTES_AFTER
returns-then-number-le-BYTES_AFTER c =
    let refused = c.refused-k in
    fails_sheet _ [] _ _ _ _ _ refused.ensures c.if-number-ge-BYTES_END.true c.if-number-le-BYTES_AFTER.true c.in_sheet.ensures

pub returns-else-number-le-BYTES_AFTER : goal.returns-else-number-le-BYTES_AFTER
returns-else-number-le-BYTES_AFTER c = fails_high _ [] _ _ _ _ _ c.refused-k.ensures c.if-number-ge-BYTES_END.true c.if-number-le-BYTES_AFTER.false refl

pub returns-else-number-ge-BYTES_END : goal.returns-else-number-ge-BYTES_END
returns-else-number-ge-BYTES_END c = fails_low _ [] _ _ _ _ _ c.refused-k.ensures c.if-number-ge-BYTES_END.false refl

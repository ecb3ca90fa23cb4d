-- `falls` meets its contract: the tests say where the place is.
use mathlib.Core.Path.{refl}
use Rattle.wording.proofs.Answering.{falls_sheet, falls_certificate, falls_nowhere}
use Rattle.wording.proofs.falls.Goals as goal

pub returns-then-number-le-BYTES_AFTER : goal.returns-then-number-le-BYTES_AFTER
returns-then-number-le-BYTES_AFTER c =
    let refused = c.refused-k in
    falls_sheet _ _ _ _ _ _ _ refused.ensures c.if-number-ge-BYTES_END.true c.if-number-le-BYTES_AFTER.true c.in_sheet.ensures

pub returns-then-number-ge-BYTES_END : goal.returns-then-number-ge-BYTES_END
returns-then-number-ge-BYTES_END c =
    let refused = c.refused-k in
    falls_certificate _ _ _ _ _ _ _ refused.ensures c.if-number-ge-BYTES_END.true c.if-number-le-BYTES_AFTER.false c.in_certificate.ensures

pub returns : goal.returns
returns c = falls_nowhere _ _ _ _ _ _ _ c.refused-k.ensures c.if-number-ge-BYTES_END.false refl

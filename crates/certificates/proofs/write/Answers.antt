-- The certificate is measured, and written where the output has room for it.
use mathlib.Core.Path.{refl}
use Rattle.std.proofs.Common.{rules}
use Rattle.certificates.proofs.Certifying.{writing, written, too_short}
use Rattle.certificates.proofs.write.Goals as goal

pub returns-then-out-length : goal.returns-then-out-length
returns-then-out-length c = too_short _ _ _ _ _ _ _ _ c.order-needed.ensures _ c.emit.ensures.emitted _ c.if-out-length.true

pub emit-requires-2 : goal.emit-requires-2
emit-requires-2 c = (writing _ _ _ _ _ _ _ _ c.order-needed.ensures _ c.emit.ensures.emitted _ c.if-out-length.false c.requires, refl)

pub returns : goal.returns
returns c =
    let w = written _ _ _ _ _ _ _ _ c.order-needed.ensures _ c.emit.ensures.emitted _ c.if-out-length.false _ _ c.emit-2.ensures.emitted in
    search (rules, w)

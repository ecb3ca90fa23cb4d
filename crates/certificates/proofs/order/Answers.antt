-- A wiped listing, grown by what the proof needs, then by the conclusion.
use Rattle.certificates.proofs.Ordering.{telling, concluding, orders}
use Rattle.certificates.proofs.order.Goals as goal

pub list_needed-needed-requires : goal.list_needed-needed-requires
list_needed-needed-requires c = telling _ _ _ _ _ _ _ c.wipe.ensures c.wipe.auto.s c.requires

pub list-count-requires : goal.list-count-requires
list-count-requires c =
    let wipe = c.wipe in
    concluding _ _ _ _ _ _ _ wipe.ensures wipe.auto.s _ _ c.list_needed-needed.ensures c.requires

pub returns : goal.returns
returns c =
    let wipe = c.wipe in
    let list-needed = c.list_needed-needed in
    orders _ _ _ _ _ _ _ wipe.ensures wipe.auto.s _ _ list-needed.ensures _ _ c.list-count.ensures

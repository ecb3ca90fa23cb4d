-- What was listed and what is ahead make up what the proof needs.
use Rattle.certificates.proofs.Needing.{needing_start, name_listable, needing_name, needing_head, needing_end}
use Rattle.certificates.proofs.list_needed.Goals as goal

pub loop-i-init : goal.loop-i-init
loop-i-init c = needing_start _ _ _ _ _

pub list-count-requires : goal.list-count-requires
list-count-requires c =
    name_listable _ _ _ _ _ _ _ _ _ _ c.loop-i.invariant c.loop-i-test.true c.if-left-gt0.true _ c.at.ensures c.requires

pub loop-i-preserved-then-left-gt0 : goal.loop-i-preserved-then-left-gt0
loop-i-preserved-then-left-gt0 c =
    let loop = c.loop-i in
    let loop-test = c.loop-i-test in
    needing_name _ _ _ _ _ _ _ _ _ _ loop.invariant loop-test.true c.if-left-gt0.true _ c.at.ensures _ _ c.list-count.auto.listing c.list-count.ensures

pub loop-i-preserved : goal.loop-i-preserved
loop-i-preserved c = needing_head _ _ _ _ _ _ _ _ _ _ c.loop-i.invariant c.loop-i-test.true c.if-left-gt0.false _ c.head_of-head.ensures.0 c.head_of-head.ensures.1 c.head_of-head.ensures.3

pub returns : goal.returns
returns c = needing_end _ _ _ _ _ _ _ _ _ _ c.loop-i.invariant c.loop-i-test.false

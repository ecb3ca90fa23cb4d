-- A number more is written.
use Rattle.std.proofs.Common.{sym, ◌∙◌}
use Rattle.wording.proofs.Walking.{listed_more, listed_past}
use Rattle.wording.proofs.page.listed.Goals as goal

pub loop-x-preserved : goal.loop-x-preserved
loop-x-preserved g c =
    let m = c.loop-x.invariant ∙ listed_more g.T.Numeric.number c.args.items.now c.loop-x.x-index c.x-item.result _ c.loop-x-test.true in
    rw (c.spaced-k.ensures, c.wide.ensures) (rw (← c.x-item.is) at m)

pub returns : goal.returns
returns g c = sym (c.loop-x.invariant ∙ listed_past g.T.Numeric.number c.args.items.now c.loop-x.x-index _ c.loop-x-test.false)

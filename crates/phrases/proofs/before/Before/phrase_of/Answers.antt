-- The shape of the kind picks the reader of the operands.
use Rattle.phrases.specs.Shapes.{shaped_row}
use Rattle.phrases.proofs.before.Before.phrase_of.Goals as goal

pub returns-in_default : goal.returns-in_default
unfolding shaped_row
returns-in_default c = rw (← c.shape_of.ensures, c.in_default.is)

pub returns-in-Name : goal.returns-in-Name
unfolding shaped_row
returns-in-Name c = rw (← c.shape_of.ensures, c.in-Some.is, c.in-Name.is) c.name.ensures

pub returns-in-One : goal.returns-in-One
unfolding shaped_row
returns-in-One c = rw (← c.shape_of.ensures, c.in-Some.is, c.in-One.is) c.one.ensures

pub returns-in-Two : goal.returns-in-Two
unfolding shaped_row
returns-in-Two c = rw (← c.shape_of.ensures, c.in-Some.is, c.in-Two.is) c.two.ensures

pub returns-in-Call : goal.returns-in-Call
unfolding shaped_row
returns-in-Call c = rw (← c.shape_of.ensures, c.in-Some.is, c.in-Call.is) c.call.ensures

pub returns-in-Block : goal.returns-in-Block
unfolding shaped_row
returns-in-Block c = rw (← c.shape_of.ensures, c.in-Some.is, c.in-Block.is) c.block.ensures

pub returns-in-Match : goal.returns-in-Match
unfolding shaped_row
returns-in-Match c = rw (← c.shape_of.ensures, c.in-Some.is, c.in-Match.is) c.cases.ensures

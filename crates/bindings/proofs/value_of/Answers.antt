-- The kind says which value it is.
use Rattle.bindings.specs.Numbers.{value_of}
use Rattle.bindings.proofs.Numbers.{value_4}
use Rattle.bindings.proofs.value_of.Goals as goal

pub returns-in-0 : goal.returns-in-0
unfolding value_of
returns-in-0 c = rw c.in-0.is

pub returns-in-1 : goal.returns-in-1
unfolding value_of
returns-in-1 c = rw c.in-1.is

pub returns-in-2 : goal.returns-in-2
unfolding value_of
returns-in-2 c = rw c.in-2.is

pub returns-in-3 : goal.returns-in-3
unfolding value_of
returns-in-3 c = rw c.in-3.is

pub returns-in_default : goal.returns-in_default
returns-in_default c = search value_4

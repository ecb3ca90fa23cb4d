-- The five refusals of bytes have their own numbers; every other from 3 on is over 7, and stays.
use mathlib.Core.Path.{refl}
use Rattle.language.specs.Numbers.{pick}
use Rattle.checker.specs.Tally.{own_number}
use Rattle.checker.proofs.Refusing.{kept}
use Rattle.checker.proofs.reading.own.Goals as goal

pub returns-in-BytesEnd : goal.returns-in-BytesEnd
unfolding own_number pick
returns-in-BytesEnd c = rw c.in-BytesEnd.is ((λ l. refl), refl)

pub returns-in-NotShortest : goal.returns-in-NotShortest
unfolding own_number pick
returns-in-NotShortest c = rw c.in-NotShortest.is ((λ l. refl), refl)

pub returns-in-OutOfRange : goal.returns-in-OutOfRange
unfolding own_number pick
returns-in-OutOfRange c = rw c.in-OutOfRange.is ((λ l. refl), refl)

pub returns-in-WrongReference : goal.returns-in-WrongReference
unfolding own_number pick
returns-in-WrongReference c = rw c.in-WrongReference.is ((λ l. refl), refl)

pub returns-in-BytesAfter : goal.returns-in-BytesAfter
unfolding own_number pick
returns-in-BytesAfter c = rw c.in-BytesAfter.is ((λ l. refl), refl)

pub returns-in_default : goal.returns-in_default
returns-in_default c =
    let d = c.in_default in
    ((λ l. kept _ l d.not-BytesEnd d.not-NotShortest d.not-OutOfRange d.not-WrongReference d.not-BytesAfter), refl)

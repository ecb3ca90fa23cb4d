-- Each clause that misses leaves one clause less. The first that fits is chosen.
use native.Mathlib.Omega.{arith}
use Rattle.patterns.proofs.Choosing.{none_left, first_tried, others, first_fits, first_misses}
use Rattle.patterns.proofs.+choose.Goals as goal

pub returns-then-left-eq0 : goal.returns-then-left-eq0
returns-then-left-eq0 t c = none_left _ _ _ _ _ _ c.if-left-eq0.true

pub tried-requires : goal.tried-requires
tried-requires t c = rw c.nothing.ensures (first_tried _ _ _ _ _ _ _ c.if-left-eq0.false c.at-q.ensures c.requires)

pub choose-requires : goal.choose-requires
choose-requires t c =
    (omega (arith, c.requires, c.if-left-eq0.false), others _ _ _ _ _ _ c.if-left-eq0.false c.requires)

pub returns-in-Some : goal.returns-in-Some
returns-in-Some t c =
    let if1 = c.if-left-eq0 in
    let at1 = c.at-q in
    first_fits _ _ _ _ _ _ _ _ _ if1.false at1.ensures c.at.ensures (rw (c.nothing.ensures, c.in-Some.is) at c.tried.ensures)

pub returns-in-None : goal.returns-in-None
returns-in-None t c =
    let if1 = c.if-left-eq0 in
    first_misses _ _ _ _ _ _ _ _ if1.false c.at-q.ensures (rw (c.nothing.ensures, c.in-None.is) at c.tried.ensures) c.choose.ensures

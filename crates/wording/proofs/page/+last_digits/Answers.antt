-- At each return the tests that led there pick the case of the definition.
use Rattle.wording.proofs.Writing.{digits_none, digits_one, digits_more}
use Rattle.wording.proofs.page.+last_digits.Goals as goal

pub returns-then-k-eq0 : goal.returns-then-k-eq0
returns-then-k-eq0 t c = digits_none _ _ _ c.if-k-eq0.true

pub returns-then-n-lt10 : goal.returns-then-n-lt10
returns-then-n-lt10 t c = digits_one _ _ _ _ _ c.if-k-eq0.false c.if-n-lt10.true c.digit.ensures c.put.ensures

pub returns : goal.returns
returns t c = digits_more _ _ _ _ _ _ c.if-k-eq0.false c.if-n-lt10.false c.last_digits-next.ensures c.digit-2.ensures c.put-2.ensures

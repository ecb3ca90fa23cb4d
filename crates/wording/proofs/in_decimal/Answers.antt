-- `in_decimal` meets its contract, by what its callees ensure.
use Rattle.wording.proofs.Bytes.{bytes_none, bytes_some}
use Rattle.wording.specs.Text.{text, up_to, after, piece}
use Rattle.wording.proofs.in_decimal.Goals as goal

pub returns-then-certificate-eq0 : goal.returns-then-certificate-eq0
unfolding text piece up_to after
returns-then-certificate-eq0 c = bytes_none _ _ _ c.if-certificate-eq0.true c.words.ensures

pub returns : goal.returns
unfolding text piece up_to after
returns c =
    let if1 = c.if-certificate-eq0 in
    let number = c.number-first in
    let bytes = c.bytes-all in
    bytes_some _ _ _ _ _ _ if1.false c.from.ensures number.ensures bytes.ensures c.words-2.ensures

-- Both limits are tested; then the five numbers are stored, one after the other.
use borrow.Author.Tests.{lt-leb, le-leb}
use Rattle.language.specs.Numbers.{check}
use Rattle.records.specs.Reading.{small_row}
use Rattle.records.proofs.patterns.small.Goals as goal

pub returns-then-p-gt4 : goal.returns-then-p-gt4
unfolding small_row check
returns-then-p-gt4 c = simp (lt-leb _ _ c.if-p-gt4.true)

pub returns-then-p-gt256 : goal.returns-then-p-gt256
unfolding small_row check
returns-then-p-gt256 c = simp (le-leb _ _ c.if-p-gt4.false, lt-leb _ _ c.if-p-gt256.true)

pub returns : goal.returns
unfolding small_row check
returns c =
    let if1 = c.if-p-gt4 in
    let if2 = c.if-p-gt256 in
    let put = c.put in
    let put2 = c.put-2 in
    let put3 = c.put-3 in
    let put4 = c.put-4 in
    simp (le-leb _ _ if1.false, le-leb _ _ if2.false, c.put-5.ensures, put4.ensures, put3.ensures, put2.ensures, put.ensures, c.number.ensures, c.requires.row_value)

-- The tests tell which of the three forms the number has.
use mathlib.Core.Path.{sym}
use Rattle.numbers.proofs.Groups.{one_byte, two_bytes, three_bytes}
use Rattle.numbers.proofs.length_of.Goals as goal

pub returns-then-v-lt128 : goal.returns-then-v-lt128
returns-then-v-lt128 c = sym (one_byte _ c.if-v-lt128.true)

pub returns-then-v-lt16384 : goal.returns-then-v-lt16384
returns-then-v-lt16384 c = sym (two_bytes _ c.if-v-lt128.false c.if-v-lt16384.true)

pub returns-else-v-lt16384 : goal.returns-else-v-lt16384
returns-else-v-lt16384 c = sym (three_bytes _ c.if-v-lt16384.false)

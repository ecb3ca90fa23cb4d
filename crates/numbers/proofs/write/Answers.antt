-- The tests tell which of the three forms is stored; its length is the room that each store has.
use mathlib.Core.Path.{refl}
use native.Mathlib.Omega.{arith}
use native.Mathlib.Numerals.{add-one, add-two}
use lib.ListN.{length-set}
use Rattle.theorems.proofs.Spelling.{one_group}
use Rattle.numbers.proofs.Groups.{two_groups, three_groups, one_byte, two_bytes, three_bytes}
use borrow.Author.Rules.{rules}
use Rattle.numbers.proofs.write.Goals as goal

pub bounds-out-at : goal.bounds-out-at
bounds-out-at c = let n = one_byte _ c.if-v-lt128.true in search rules

pub returns-then-v-lt128 : goal.returns-then-v-lt128
returns-then-v-lt128 c = rw (one_group _ c.if-v-lt128.true) (refl, refl)

pub bounds-out-at-then-v-lt16384 : goal.bounds-out-at-then-v-lt16384
bounds-out-at-then-v-lt16384 c = let n = two_bytes _ c.if-v-lt128.false c.if-v-lt16384.true in search rules

pub bounds-out-at-then-v-lt16384-2 : goal.bounds-out-at-then-v-lt16384-2
bounds-out-at-then-v-lt16384-2 c = let n = two_bytes _ c.if-v-lt128.false c.if-v-lt16384.true in simp length-set (omega arith)

pub returns-then-v-lt16384 : goal.returns-then-v-lt16384
returns-then-v-lt16384 c = rw (two_groups _ c.if-v-lt128.false c.if-v-lt16384.true) (refl, simp add-one)

pub bounds-out-at-2 : goal.bounds-out-at-2
bounds-out-at-2 c = let n = three_bytes _ c.if-v-lt16384.false in search rules

pub bounds-out-at-3 : goal.bounds-out-at-3
bounds-out-at-3 c = let n = three_bytes _ c.if-v-lt16384.false in simp length-set (omega arith)

pub bounds-out-at-4 : goal.bounds-out-at-4
bounds-out-at-4 c = let n = three_bytes _ c.if-v-lt16384.false in simp length-set (omega arith)

pub returns : goal.returns
returns c = rw (three_groups _ c.if-v-lt16384.false) (refl, simp (add-one, add-two))

-- What was read is a number, which the test holds below its limit, or a refusal, which is handed on.
use Rattle.language.specs.Numbers.{below, then, check}
use borrow.Author.Tests.{lt-ltb, le-ltb}
use Rattle.std.proofs.lemmas.Result.{err_from_is_err_and}
use Rattle.numbers.proofs.referring.Goals as goal

pub returns-in_err-v : goal.returns-in_err-v
unfolding below then check
returns-in_err-v c = let p = err_from_is_err_and c.from_residual.result c.from_residual.ensures.1 in rw (p.1, p.2) (simp (← c.in_err-v.ensures))

pub returns-then-v-n : goal.returns-then-v-n
unfolding below then check
returns-then-v-n c = simp (lt-ltb _ _ c.if-v-n.true, ← c.in_ok-v.ensures)

pub returns : goal.returns
unfolding below then check
returns c = simp (le-ltb _ _ c.if-v-n.false, ← c.in_ok-v.ensures)

-- `checker::is_short` meets its contract: the tests are those of `enough`.
use Rattle.std.proofs.Common.{arith}
use Rattle.std.proofs.lemmas.Bool.Decides.{nat_tests}
use Rattle.language.specs.Doors.{enough}
use Rattle.checker.proofs.is_short.Goals as goal

pub returns-then-phrases-lt-PHRASES : goal.returns-then-phrases-lt-PHRASES
unfolding enough
returns-then-phrases-lt-PHRASES c = grind (arith, nat_tests)

pub returns-else-phrases-lt-PHRASES : goal.returns-else-phrases-lt-PHRASES
unfolding enough
returns-else-phrases-lt-PHRASES c = grind (arith, nat_tests)

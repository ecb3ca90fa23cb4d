-- What is counted from the start is what is counted from here.
use Rattle.std.proofs.Common.{◌≡◌, ◌-◌}
use Rattle.requests.specs.Decimals.{counted}
use Rattle.requests.proofs.digits.Given as goal

abbrev pub invariant-loop-i : goal.invariant-loop-i
invariant-loop-i l = counted l.line (l.to - l.from) l.from 0 ≡ counted l.line (l.to - l.i) l.i l.v

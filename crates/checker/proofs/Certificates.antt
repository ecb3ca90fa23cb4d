-- A certificate's bytes by their parts.
use mathlib.Core.Path.{◌≡◌, refl}
use Prim.Native.Nat.{ℕ}
use mathlib.Core.List.{List, []}
use Rattle.language.specs.Numbers.{then, from, times}
use Rattle.language.specs.Read.{proposition}
use Rattle.language.specs.Check.{certificate_at}
use Rattle.checker.specs.Tally.{proof_at}

-- the count, the listed propositions, the proof and its conclusion
pub certificate_parts : (s : List ℕ) → certificate_at s ≡ then (from 0 4608 s 0) (λ np a. then (times np (proposition s) [] a) (λ ps b. proof_at s ps b))
unfolding certificate_at proof_at
certificate_parts s = refl

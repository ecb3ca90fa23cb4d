-- What evaluating a sheet answers, where scratch is long enough: the sheet, then the run, then the room.
use Rattle.std.specs.Prelude.{ℕ, ◌-◌, List, length, leb}
use Rattle.language.specs.Refusals.{budget_over, output_short}
use Rattle.language.specs.Syntax.{Sheet}
use Rattle.language.specs.Numbers.{Got, got, no, pick}
use Rattle.language.specs.Read.{sheet}
use Rattle.language.specs.Plain.{inferences}
use Rattle.language.specs.Values.{Out, out, stop, empty}
use Rattle.language.specs.Run.{Derived, deduce}
use Rattle.language.specs.Certificate.{certificate}

-- what an evaluation answers
pub data Answer : Type 0 where
  -- the certificate, the work and the inferences
  accepted : List ℕ → ℕ → ℕ → Answer
  -- a refusal's number and place
  refused : ℕ → ℕ → Answer

-- the certificate, where the output has room for it
unfoldable pub written : ℕ → List ℕ → ℕ → ℕ → Answer
unfolding pick
written room bytes work rules = pick (leb (length bytes) room) (accepted bytes work rules) (refused output_short 0)

-- a run that has ended; its work is what it spent of the budget
unfoldable pub ended : ℕ → ℕ → Out Derived → Answer
unfolding written certificate inferences
ended budget room (stop n k) = refused n k
ended budget room (out d w) = written room (certificate d) (budget - w) (inferences d.proof)

-- the root, run in the sheet's base inside at most 63 others
unfoldable pub started : ℕ → ℕ → Got Sheet → Answer
unfolding ended deduce
started budget room (no n p) = refused n p
started budget room (got S end) = ended budget room (deduce S.phrases 64 empty S.base S.root budget)

-- a sheet's bytes, a budget, and room for so many bytes
unfoldable pub answer : List ℕ → ℕ → ℕ → Answer
unfolding pick started sheet
answer s budget room = pick (leb budget 1024) (started budget room (sheet s)) (refused budget_over 0)

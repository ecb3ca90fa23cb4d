-- What evaluation and check answer for every input, in document 01's numbers, and what output and scratch hold afterwards.
use Rattle.std.specs.Prelude.{ℕ, List, [], ◌∷◌, ◌++◌, Bool, true, false, ◌&&◌, length, drop, replicate, leb, Result, Ok, Err}
use Rattle.language.specs.Refusals.{budget_over, scratch_short}
use Rattle.language.specs.Numbers.{pick}
use Rattle.language.specs.Answer.{Answer, accepted, refused, answer}
use Rattle.language.specs.Check.{Verdict, stands, falls, verdict}
use Rattle.language.specs.Numbered.{number_of}
use Rattle.language.specs.declared.refusal.Refusal.{Refusal}
use Rattle.language.specs.declared.Work.{Work}
use Rattle.language.specs.declared.Inferences.{Inferences}
use Rattle.language.specs.declared.Accepted.{Accepted}
use Rattle.language.specs.declared.Stands.{Stands}

-- the answer of an evaluation that is accepted, and of a certificate that stands
abbrev pub accepted_with : ℕ → Work → Inferences → Result Accepted Refusal
accepted_with n w i = Ok (record { length = n; work = w; inferences = i })

abbrev pub stands_with : ℕ → Inferences → Result Stands Refusal
stands_with k i = Ok (record { conclusion = k; inferences = i })

-- the number and values of each case of an evaluation's answer: 0, certificate length, work, inferences; or number and place
unfoldable pub evaluated_numbers : Result Accepted Refusal → List ℕ
evaluated_numbers (Ok a) = 0 ∷ (a.length ∷ (a.work.0 ∷ (a.inferences.0 ∷ [])))
evaluated_numbers (Err r) = number_of r.0 ∷ (r.1 ∷ [])

-- the number and values of each case of a check's answer: 0, conclusion number, inferences; or number and place
unfoldable pub checked_numbers : Result Stands Refusal → List ℕ
checked_numbers (Ok c) = 0 ∷ (c.conclusion ∷ (c.inferences.0 ∷ []))
checked_numbers (Err r) = number_of r.0 ∷ (r.1 ∷ [])

-- the fixed lengths of an evaluation's scratch: listing, forms, patterns, phrases, base, bindings, tokens (docs/SCRATCH.md)
abbrev pub evaluation_lengths : List ℕ
evaluation_lengths = 9220 ∷ (4610 ∷ (640 ∷ (6144 ∷ (1088 ∷ (16384 ∷ (11264 ∷ []))))))

-- the fixed lengths of a check's scratch: names, forms, patterns, phrases, base
abbrev pub check_lengths : List ℕ
check_lengths = 4608 ∷ (12290 ∷ (640 ∷ (6144 ∷ (576 ∷ []))))

-- each buffer is as long as fixed
unfoldable pub enough : List ℕ → List (List ℕ) → Bool
enough [] bs = true
enough (n ∷ ns) [] = false
enough (n ∷ ns) (b ∷ bs) = leb n (length b) && enough ns bs

-- zero up to the fixed length, and untouched past it
unfoldable pub wiped : List ℕ → List (List ℕ) → List (List ℕ)
wiped [] bs = bs
wiped (n ∷ ns) [] = []
wiped (n ∷ ns) (b ∷ bs) = (replicate n 0 ++ drop n b) ∷ wiped ns bs

-- bytes written to the front of the output, which is untouched past them
unfoldable pub fronted : List ℕ → List ℕ → List ℕ
fronted bytes output = bytes ++ drop (length bytes) output

-- an evaluation's answer in numbers, and the lent buffers after it
pub record Evaluation : Type 0 where
  pub numbers : List ℕ
  pub output : List ℕ
  pub scratch : List (List ℕ)

-- 1 and 2 touch nothing; every other refusal leaves the output as it was
unfoldable pub finished : Answer → List ℕ → List (List ℕ) → Evaluation
unfolding fronted wiped
finished (accepted bytes w i) output scratch =
    record { numbers = 0 ∷ (length bytes ∷ (w ∷ (i ∷ []))); output = fronted bytes output; scratch = wiped evaluation_lengths scratch }
finished (refused n p) output scratch = record { numbers = n ∷ (p ∷ []); output = output; scratch = wiped evaluation_lengths scratch }

-- the whole answer of an evaluation: 1, 2, the sheet, 7, the run, 18
unfoldable pub evaluation : List ℕ → ℕ → List ℕ → List (List ℕ) → Evaluation
unfolding pick enough finished answer
evaluation s budget output scratch =
    let untouched : ℕ → Evaluation = λ n. record { numbers = n ∷ (0 ∷ []); output = output; scratch = scratch } in
    pick (leb budget 1024)
    (pick (enough evaluation_lengths scratch) (finished (answer s budget (length output)) output scratch) (untouched scratch_short))
    (untouched budget_over)

-- a check's answer in numbers, and its scratch after it
pub record Checking : Type 0 where
  pub numbers : List ℕ
  pub scratch : List (List ℕ)

unfoldable pub verdict_numbers : Verdict → List ℕ
verdict_numbers (stands k i) = 0 ∷ (k ∷ (i ∷ []))
verdict_numbers (falls n p) = n ∷ (p ∷ [])

-- the whole answer of a check: 2, the sheet, the certificate's bytes, its rules, 20
unfoldable pub checking : List ℕ → List ℕ → List (List ℕ) → Checking
unfolding pick enough wiped verdict_numbers verdict
checking s bytes scratch =
    pick (enough check_lengths scratch)
    (record { numbers = verdict_numbers (verdict s bytes); scratch = wiped check_lengths scratch })
    (record { numbers = scratch_short ∷ (0 ∷ []); scratch = scratch })

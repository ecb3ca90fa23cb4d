-- The doors' answers as a number and values of a fixed count, 0 where there is none.
use Rattle.std.specs.Prelude.{ℕ, ◌≡◌, List, [], ◌∷◌, Result, Ok, Err}
use Rattle.language.specs.Numbered.{number_of}
use Rattle.language.specs.declared.refusal.Refusal.{Refusal}
use Rattle.language.specs.declared.Accepted.{Accepted}
use Rattle.language.specs.declared.Stands.{Stands}
use Rattle.evaluator.specs.Door.{Evaluates}
use Rattle.checker.specs.Verdicts.{Checks}

-- the number, then the length or the place, the work, the inferences
unfoldable pub evaluated : Result Accepted Refusal → List ℕ
evaluated (Ok a) = 0 ∷ (a.length ∷ (a.work.0 ∷ (a.inferences.0 ∷ [])))
evaluated (Err r) = number_of r.0 ∷ (r.1 ∷ (0 ∷ (0 ∷ [])))

-- the number, then the conclusion or the place, the inferences
unfoldable pub checked : Result Stands Refusal → List ℕ
checked (Ok c) = 0 ∷ (c.conclusion ∷ (c.inferences.0 ∷ []))
checked (Err r) = number_of r.0 ∷ (r.1 ∷ (0 ∷ []))

-- the values are those of an answer that the door allows
pub record Evaluation (s : List ℕ) (budget : ℕ) (values : List ℕ) (out₀ out : List ℕ) (bs₀ bs : List (List ℕ)) : Type 0 where
  pub answer : Result Accepted Refusal
  pub evaluates : Evaluates s budget answer out₀ out bs₀ bs
  pub values_are : values ≡ evaluated answer

pub record Check (s bytes : List ℕ) (values : List ℕ) (ns₀ fs₀ ps₀ hs₀ bs₀ ns fs ps hs bs : List ℕ) : Type 0 where
  pub answer : Result Stands Refusal
  pub checks : Checks s bytes answer ns₀ fs₀ ps₀ hs₀ bs₀ ns fs ps hs bs
  pub values_are : values ≡ checked answer

-- The door `evaluate`: the scratch as one list, and what is answered and left.
use Rattle.std.specs.Prelude.{ℕ, ◌≡◌, List, [], ◌∷◌, Result}
use Rattle.language.specs.Answer.{Answer}
use Rattle.language.specs.Doors.{evaluated_numbers, Evaluation, finished, evaluation}
use Rattle.language.specs.declared.Accepted.{Accepted}
use Rattle.language.specs.declared.refusal.Refusal.{Refusal}

-- the seven buffers, in the order of their fixed lengths
abbrev pub scratch : List ℕ → List ℕ → List ℕ → List ℕ → List ℕ → List ℕ → List ℕ → List (List ℕ)
scratch listing forms patterns phrases base binds tokens = listing ∷ (forms ∷ (patterns ∷ (phrases ∷ (base ∷ (binds ∷ (tokens ∷ []))))))

-- an answer in numbers, and the output after it
pub record Gives (a : Answer) (out₀ : List ℕ) (r : Result Accepted Refusal) (out : List ℕ) : Type 0 where
  pub numbers : evaluated_numbers r ≡ (finished a out₀ []).numbers
  pub output : out ≡ (finished a out₀ []).output

-- answer, output and scratch are the definition's
pub record Evaluates (s : List ℕ) (budget : ℕ) (r : Result Accepted Refusal) (out₀ out : List ℕ) (bs₀ bs : List (List ℕ)) : Type 0 where
  pub answers : ◌≡◌ {A = Evaluation} (record { numbers = evaluated_numbers r; output = out; scratch = bs }) (evaluation s budget out₀ bs₀)

-- The parts of an evaluation: the root's run, and its certificate.
use Rattle.std.specs.Prelude.{ℕ, ◌-◌, ◌≤◌, List, length, Result}
use Rattle.language.specs.Form.{Form}
use Rattle.language.specs.Plain.{inferences}
use Rattle.language.specs.Values.{empty}
use Rattle.language.specs.Run.{deduce}
use Rattle.language.specs.Certificate.{certificate}
use Rattle.language.specs.Answer.{ended, written}
use Rattle.language.specs.declared.Accepted.{Accepted}
use Rattle.language.specs.declared.refusal.Refusal.{Refusal}
use Rattle.expressions.specs.Machine.{Shared, kind, counters}
use Rattle.expressions.specs.Asked.{Text}
use Rattle.deductions.specs.Machine.{Progress, M, mk, progress, remaining}
use Rattle.deductions.specs.Asked.{In, Setting, Ready}
use Rattle.certificates.specs.Certified.{Writing}
use Rattle.evaluator.specs.Door.{Gives}

-- the state in which a root begins: so many words formed, nothing bound, the whole budget, no token
abbrev pub start : List ℕ → List ℕ → List ℕ → List ℕ → ℕ → ℕ → M
start forms binds base tokens words budget = mk forms binds base tokens (progress (counters words 0 budget) 0)

-- the deduction k may run from m, in the base's first b numbers, and the listing has room for every word of the table twice
pub record Rooted (s : Shared) (m : M) (b k : ℕ) (listing : List ℕ) : Type 0 where
  pub ready : Ready (In k) s m 0 b 0 0 0 0
  pub deduction : 16 ≤ kind s.phrases k
  pub listed : 9220 ≤ length listing
  pub formed : length m.forms ≤ 4610

-- whatever phrases and base the state stands for, the answer is that of the definitions' run
pub record Runs (s : Shared) (m : M) (b k : ℕ) (out₀ : List ℕ) (r : Result Accepted Refusal) (out : List ℕ) : Type 0 where
  pub gives : (x : Text) (fs β : List Form) → Setting x fs empty β s m 0 b → In k x →
      Gives (ended (remaining m) (length out₀) (deduce x.phrases 64 empty β k (remaining m))) out₀ r out

-- a run has ended with the conclusion p
pub record Ending (forms tokens listing : List ℕ) (p : ℕ) (at : Progress) (budget : ℕ) : Type 0 where
  pub writing : Writing forms at.state.props tokens at.tokens p listing
  pub spent : at.state.remaining.0 ≤ budget

-- the answer is the certificate's, where there is room for it
pub record Certifies (forms tokens listing : List ℕ) (p : ℕ) (at : Progress) (budget : ℕ) (out₀ : List ℕ) (r : Result Accepted Refusal) (out : List ℕ) : Type 0 where
  pub gives : (x : Writing forms at.state.props tokens at.tokens p listing) →
      Gives (written (length out₀) (certificate x.derived) (budget - at.state.remaining.0) (inferences x.derived.proof)) out₀ r out

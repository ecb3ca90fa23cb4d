-- What the two evaluating functions leave open. Their answer and what is left of the budget are fixed, and what table, bindings and tokens stand for;
-- not the numbers in them, nor what stands past the base that was given. After a refusal its number and place are fixed, and the counts
-- by the contracts' own clauses: the doors wipe the rest.
use Rattle.std.specs.Prelude.{ℕ, ◌≡◌, List, ◌++◌, take}
use Rattle.language.specs.Form.{Form}
use Rattle.language.specs.Values.{Val}
use Rattle.language.specs.Run.{Derived}
use Rattle.forms.specs.Table.{Table, number_of}
use Rattle.bindings.specs.declared.Value.{Value}
use Rattle.bindings.specs.Stands.{Is, Stands}
use Rattle.tokens.specs.Tells.{Tells}
use Rattle.expressions.specs.Machine as expressions
use Rattle.deductions.specs.Machine.{M, inner, remaining, MOut, concluded, refused}

-- in the table and the bindings that m has, which go on from the trees fs, v stands for X
pub record Valued (rows : List (List ℕ)) (fs : List Form) (X : Val) (v : Value) (m : expressions.M) : Type 0 where
  pub more : List Form
  pub table : Table (take m.st.props m.forms) (fs ++ more)
  pub stands : Stands rows (fs ++ more) m.binds m.st.bindings X v

-- one value with one rest of the budget, or one refusal
unfoldable pub ValuesAlike : List (List ℕ) → List Form → expressions.MOut → expressions.MOut → Type 0
ValuesAlike rows fs (expressions.done v m) (expressions.done v' m') = (m.st.remaining.0 ≡ m'.st.remaining.0) × ((X : Val) × Valued rows fs X v m × Valued rows fs X v' m')
ValuesAlike rows fs (expressions.done v m) (expressions.refused n k) = ⊥
ValuesAlike rows fs (expressions.refused n k) (expressions.done v m) = ⊥
ValuesAlike rows fs (expressions.refused n k) (expressions.refused n' k') = (n ≡ n') × (k ≡ k')

-- in the table that m has, which goes on from the trees fs, number p is the conclusion of d, and the tokens added since m₀ tell its proof
pub record Concludes (fs : List Form) (m₀ : M) (d : Derived) (p : ℕ) (m : M) : Type 0 where
  pub more : List Form
  pub told : List ℕ
  pub table : Table (take (inner m).st.props (inner m).forms) (fs ++ more)
  pub concludes : Is (fs ++ more) p d.conclusion
  pub tokens : take m.at.tokens m.tokens ≡ take m₀.at.tokens m₀.tokens ++ told
  pub tells : Tells (fs ++ more) d.proof told

-- one conclusion with one proof and one rest of the budget, or one refusal
unfoldable pub ConclusionsAlike : List Form → M → MOut → MOut → Type 0
ConclusionsAlike fs m₀ (concluded p m) (concluded p' m') = (remaining m ≡ remaining m') × ((d : Derived) × Concludes fs m₀ d p m × Concludes fs m₀ d p' m')
ConclusionsAlike fs m₀ (concluded p m) (refused n k) = ⊥
ConclusionsAlike fs m₀ (refused n k) (concluded p m) = ⊥
ConclusionsAlike fs m₀ (refused n k) (refused n' k') = (n ≡ n') × (k ≡ k')

-- so the number answered is the conclusion's in the table that is left: no other number there is
unfoldable pub ConclusionNumber : Type 0
ConclusionNumber =
    (fs : List Form) (m₀ : M) (d : Derived) (p : ℕ) (m : M) → Concludes fs m₀ d p m → p ≡ number_of d.conclusion (take (inner m).st.props (inner m).forms)

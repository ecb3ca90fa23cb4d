-- What applying a rule answers, by the trees that the numbers stand for, and what it leaves in the table.
use Rattle.std.specs.Prelude.{ℕ, ◌+◌, ◌<◌, ◌≤◌, ◌≡◌, Bool, true, false, List, [], ◌∷◌, ◌++◌, length, get_or, take, Result, Ok, Err}
use Rattle.language.specs.declared.refusal.Why.{Why}
use Rattle.language.specs.declared.refusal.Why.TheVariants.{WrongShapes, PremiseMissing}
use Rattle.language.specs.Numbered.{number_of as why_number}
use Rattle.language.specs.Form.{Form, verum, members}
use Rattle.language.specs.Rules.{Ruled, gives, misshapen, ruled}
use Rattle.words.specs.Front.{front}
use Rattle.forms.specs.declared.Formed.{Formed}
use Rattle.forms.specs.Table.{tree, Table, number_of, growing}
use Rattle.rules.specs.Base.{base_of}

-- an application's number: 0; 13, the arguments don't have the rule's shapes; 14, a premise is not in the base
abbrev pub applied_number : Result Formed Why → ℕ
applied_number (Ok f) = 0
applied_number (Err w) = why_number w

-- words that stand for trees
pub record Standing (ws : List ℕ) : Type 0 where
  pub trees : List Form
  pub table : Table ws trees

-- the first n words stand for trees, there is room for one more, and arguments and base are numbers of them
pub record Ready (t : List ℕ) (n : ℕ) (s : List ℕ) (b x y z : ℕ) : Type 0 where
  pub formed : Standing (take n t)
  pub room : (n < length t) × (n < 16384)
  pub arguments : (x < n) × (y < n) × (z < n)
  pub based : (j : ℕ) → j < b → get_or s j 0 < n

-- an answer with the words then in use, and the conclusion where there is one
pub record Outcome : Type 0 where
  pub answer : Result Formed Why
  pub words : List ℕ
  pub conclusion : Form

-- a conclusion whose premises are in the base, or not
unfoldable pub whether : Bool → Form → List ℕ → Outcome
unfolding number_of growing
whether true q ws = record { answer = Ok (record { at = number_of q (growing q ws); size = length (growing q ws) }); words = growing q ws; conclusion = q }
whether false q ws = record { answer = Err PremiseMissing; words = ws; conclusion = q }

-- what a rule comes to in a base
unfoldable pub outcome : Ruled → List Form → List ℕ → Outcome
unfolding whether members
outcome misshapen β ws = record { answer = Err WrongShapes; words = ws; conclusion = verum }
outcome (gives ps q) β ws = whether (members ps β) q ws

-- the answer is the outcome's, the table has its words, they stand for the old trees and at most one more, and a number
-- that is given is the conclusion's
pub record Comes (o : Outcome) (n : ℕ) (fs : List Form) (t₀ t : List ℕ) (r : Result Formed Why) : Type 0 where
  pub answer : r ≡ o.answer
  pub words : t ≡ front o.words t₀
  pub more : List Form
  pub table : Table o.words (fs ++ more)
  pub paid : length o.words ≤ n + 1
  pub is : (f : Formed) → o.answer ≡ Ok f → (f.at < f.size) × (tree (fs ++ more) f.at ≡ o.conclusion)

-- for whatever trees the words stand for, what the rule comes to at the arguments' trees and the base's
pub record Ruling (t₀ : List ℕ) (n : ℕ) (s : List ℕ) (b rule x y z : ℕ) (t : List ℕ) (r : Result Formed Why) : Type 0 where
  pub rules : (fs : List Form) → Table (take n t₀) fs →
      Comes (outcome (ruled rule (tree fs x ∷ (tree fs y ∷ (tree fs z ∷ [])))) (base_of fs s b) (take n t₀)) n fs t₀ t r

-- Doors that document 01 shuts out, and some more, each by what it does. A door is any function from what is lent to what it answers and leaves.
use Rattle.std.specs.Prelude.{ℕ, ◌+◌, ◌≤◌, ◌<◌, ◌≡◌, true, List, [], ◌∷◌, ◌++◌, length, take, Result, Err}
use Rattle.language.specs.Syntax.{Sheet, dedu, block, by, phrase_at}
use Rattle.language.specs.Numbers.{got}
use Rattle.language.specs.Read.{sheet}
use Rattle.language.specs.Values.{empty}
use Rattle.language.specs.Run.{Derived}
use Rattle.language.specs.Derives.{Derives}
use Rattle.language.specs.Certificate.{certificate}
use Rattle.language.specs.Doors.{accepted_with, stands_with, check_lengths, evaluation_lengths, enough, fronted}
use Rattle.language.specs.declared.Work.{Work}
use Rattle.language.specs.declared.Inferences.{Inferences}
use Rattle.language.specs.declared.refusal.Refusal.{Refusal}
use Rattle.language.specs.declared.Accepted.{Accepted}
use Rattle.language.specs.declared.Stands.{Stands}
use Rattle.evaluator.specs.Door.{Evaluates}
use Rattle.checker.specs.Verdicts.{scratch, Checks}
use Rattle.theorems.specs.Demands.{SheetDerives}
use Rattle.doors.specs.Demands.{AnswersExactly}

-- what an evaluation answers and leaves
pub record Evaluating : Type 0 where
  pub answer : Result Accepted Refusal
  pub output : List ℕ
  pub scratch : List (List ℕ)

-- sheet, budget, output and scratch
abbrev pub Evaluator : Type 0
Evaluator = List ℕ → ℕ → List ℕ → List (List ℕ) → Evaluating

-- it has the contract of `evaluate`
unfoldable pub HasEvaluate : Evaluator → Type 0
HasEvaluate E =
    (s : List ℕ) (budget : ℕ) (out₀ : List ℕ) (bs₀ : List (List ℕ)) →
    Evaluates s budget (E s budget out₀ bs₀).answer out₀ (E s budget out₀ bs₀).output bs₀ (E s budget out₀ bs₀).scratch

-- it meets demand 2, as `EvaluateExactly` has it of `evaluate`
unfoldable pub MeetsDemand2 : Evaluator → Type 0
MeetsDemand2 E =
    (s : List ℕ) (budget : ℕ) (out₀ : List ℕ) (bs₀ : List (List ℕ)) → budget ≤ 1024 → enough evaluation_lengths bs₀ ≡ true →
    (S : Sheet) (end : ℕ) → sheet s ≡ got S end → AnswersExactly S budget (E s budget out₀ bs₀).answer out₀ (E s budget out₀ bs₀).output

-- it refuses everything
unfoldable pub RefusesEverything : Evaluator → Type 0
RefusesEverything E = (s : List ℕ) (budget : ℕ) (out₀ : List ℕ) (bs₀ : List (List ℕ)) → (r : Refusal) × ((E s budget out₀ bs₀).answer ≡ Err r)

-- it always emits true-intro
unfoldable pub EmitsTrueIntro : Evaluator → Type 0
EmitsTrueIntro E =
    (s : List ℕ) (budget n : ℕ) (w : Work) (i : Inferences) (out₀ : List ℕ) (bs₀ : List (List ℕ)) → (E s budget out₀ bs₀).answer ≡ accepted_with n w i →
    (E s budget out₀ bs₀).output ≡ fronted (1 ∷ (1 ∷ (0 ∷ (13 ∷ (0 ∷ []))))) out₀

-- it writes nothing
unfoldable pub WritesNothing : Evaluator → Type 0
WritesNothing E = (s : List ℕ) (budget : ℕ) (out₀ : List ℕ) (bs₀ : List (List ℕ)) → (E s budget out₀ bs₀).output ≡ out₀

-- it runs a block's first step and pretends the rest
unfoldable pub RunsFirstStep : Evaluator → Type 0
RunsFirstStep E =
    (s : List ℕ) (S : Sheet) (end budget j : ℕ) (js : List ℕ) (n : ℕ) (w : Work) (i : Inferences) (out₀ : List ℕ) (bs₀ : List (List ℕ)) →
    sheet s ≡ got S end → phrase_at S.phrases S.root ≡ dedu (block j js) → (E s budget out₀ bs₀).answer ≡ accepted_with n w i →
    (d : Derived) × (u : ℕ) × Derives S.phrases 63 empty S.base j d u × ((E s budget out₀ bs₀).output ≡ fronted (certificate d) out₀)

-- its work is invented: what it was given
unfoldable pub SpendsTheBudget : Evaluator → Type 0
SpendsTheBudget E =
    (s : List ℕ) (budget n : ℕ) (out₀ : List ℕ) (bs₀ : List (List ℕ)) (w : Work) (i : Inferences) → (E s budget out₀ bs₀).answer ≡ accepted_with n w i → w.0 ≡ budget

-- its inferences are invented: one for each evaluation begun
unfoldable pub InfersItsWork : Evaluator → Type 0
InfersItsWork E =
    (s : List ℕ) (budget n : ℕ) (out₀ : List ℕ) (bs₀ : List (List ℕ)) (w : Work) (i : Inferences) → (E s budget out₀ bs₀).answer ≡ accepted_with n w i → i.0 ≡ w.0

-- it leaves the scratch as it was
unfoldable pub LeavesEvaluationScratch : Evaluator → Type 0
LeavesEvaluationScratch E = (s : List ℕ) (budget : ℕ) (out₀ : List ℕ) (bs₀ : List (List ℕ)) → (E s budget out₀ bs₀).scratch ≡ bs₀

-- it takes what was derived for the announced conclusion, whatever that is
unfoldable pub BelievesAnnounced : Evaluator → Type 0
BelievesAnnounced E =
    (s : List ℕ) (S : Sheet) (end budget e k : ℕ) (out₀ : List ℕ) (bs₀ : List (List ℕ)) (d : Derived) (u : ℕ) →
    budget ≤ 1024 → enough evaluation_lengths bs₀ ≡ true → sheet s ≡ got S end → phrase_at S.phrases S.root ≡ dedu (by e k) →
    Derives S.phrases 63 empty S.base k d u → u + 2 ≤ budget → length (certificate d) ≤ length out₀ →
    (n : ℕ) × (w : Work) × (i : Inferences) × ((E s budget out₀ bs₀).answer ≡ accepted_with n w i)

-- where a certificate has no room, it writes what fits
unfoldable pub WritesWhatFits : Evaluator → Type 0
WritesWhatFits E =
    (s : List ℕ) (budget n : ℕ) (w : Work) (i : Inferences) (out₀ out₁ : List ℕ) (bs₀ : List (List ℕ)) → (E s budget out₁ bs₀).answer ≡ accepted_with n w i →
    length out₀ < n → (E s budget out₀ bs₀).output ≡ take (length out₀) (E s budget out₁ bs₀).output

-- it accepts only where the output already holds the certificate; demand 2 alone shuts it out
unfoldable pub AcceptsWhatIsThere : Evaluator → Type 0
AcceptsWhatIsThere E =
    (s : List ℕ) (S : Sheet) (end budget n : ℕ) (w : Work) (i : Inferences) (out₀ : List ℕ) (bs₀ : List (List ℕ)) (d : Derived) (u : ℕ) →
    budget ≤ 1024 → sheet s ≡ got S end → SheetDerives S d u → (E s budget out₀ bs₀).answer ≡ accepted_with n w i → out₀ ≡ fronted (certificate d) out₀

-- what a check answers and leaves
pub record CheckedSo : Type 0 where
  pub answer : Result Stands Refusal
  pub names : List ℕ
  pub forms : List ℕ
  pub patterns : List ℕ
  pub phrases : List ℕ
  pub base : List ℕ

-- sheet, certificate and scratch
abbrev pub Checker : Type 0
Checker = List ℕ → List ℕ → List ℕ → List ℕ → List ℕ → List ℕ → List ℕ → CheckedSo

-- it has the contract of `check`
unfoldable pub HasCheck : Checker → Type 0
HasCheck K =
    (s bytes ns fs ps hs bs : List ℕ) →
    Checks s bytes (K s bytes ns fs ps hs bs).answer ns fs ps hs bs (K s bytes ns fs ps hs bs).names (K s bytes ns fs ps hs bs).forms
    (K s bytes ns fs ps hs bs).patterns (K s bytes ns fs ps hs bs).phrases (K s bytes ns fs ps hs bs).base

-- with scratch that is long enough it accepts everything
unfoldable pub AcceptsAll : Checker → Type 0
AcceptsAll K =
    (s bytes ns fs ps hs bs : List ℕ) → enough check_lengths (scratch ns fs ps hs bs) ≡ true → (k : ℕ) × (i : Inferences) × ((K s bytes ns fs ps hs bs).answer ≡ stands_with k i)

-- it refuses everything
unfoldable pub RefusesAll : Checker → Type 0
RefusesAll K = (s bytes ns fs ps hs bs : List ℕ) → (r : Refusal) × ((K s bytes ns fs ps hs bs).answer ≡ Err r)

-- it does not look whether premises are in the base: it answers alike for any two sheets that read
unfoldable pub IgnoresBase : Checker → Type 0
IgnoresBase K =
    (s s' bytes ns fs ps hs bs : List ℕ) (S S' : Sheet) (end end' : ℕ) → sheet s ≡ got S end → sheet s' ≡ got S' end' →
    (K s bytes ns fs ps hs bs).answer ≡ (K s' bytes ns fs ps hs bs).answer

-- it does not compare the stated conclusion: where one number stands, any number below it does
unfoldable pub IgnoresConclusion : Checker → Type 0
IgnoresConclusion K =
    (s before ns fs ps hs bs : List ℕ) (k j : ℕ) (i : Inferences) → j < k → (K s (before ++ (k ∷ [])) ns fs ps hs bs).answer ≡ stands_with k i →
    (K s (before ++ (j ∷ [])) ns fs ps hs bs).answer ≡ stands_with j i

-- it counts no inferences
unfoldable pub CountsNone : Checker → Type 0
CountsNone K = (s bytes ns fs ps hs bs : List ℕ) (k : ℕ) (i : Inferences) → (K s bytes ns fs ps hs bs).answer ≡ stands_with k i → i.0 ≡ 0

-- it leaves the names as they were
unfoldable pub LeavesCheckScratch : Checker → Type 0
LeavesCheckScratch K = (s bytes ns fs ps hs bs : List ℕ) → (K s bytes ns fs ps hs bs).names ≡ ns

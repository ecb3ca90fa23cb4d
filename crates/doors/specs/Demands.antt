-- The three demands, of the doors themselves: over any results that the contracts of `evaluate` and `check` allow.
use Rattle.std.specs.Prelude.{ℕ, ◌≤◌, ◌<◌, ◌≡◌, true, ◌&&◌, List, [], ◌∷◌, ◌↔◌, length, take, leb, Result, Err}
use Rattle.language.specs.Form.{State, holds, holds_all}
use Rattle.language.specs.Syntax.{Sheet}
use Rattle.language.specs.Numbers.{got, pick}
use Rattle.language.specs.Read.{sheet}
use Rattle.language.specs.Plain.{inferences}
use Rattle.language.specs.Run.{Derived}
use Rattle.language.specs.Certificate.{certificate}
use Rattle.language.specs.Doors.{evaluated_numbers, checked_numbers, evaluation_lengths, check_lengths, enough, wiped, fronted}
use Rattle.language.specs.declared.refusal.Refusal.{Refusal}
use Rattle.language.specs.declared.Accepted.{Accepted}
use Rattle.language.specs.declared.Stands.{Stands}
use Rattle.theorems.specs.Demands.{SheetDerives, Concludes}
use Rattle.theorems.specs.Growth.{Parts, Grown}
use Rattle.evaluator.specs.Door.{Evaluates}
use Rattle.checker.specs.Verdicts.{scratch, Checks}

-- demand 1: every input has one answer, one output and one content of each buffer
unfoldable pub EvaluateOnce : Type 0
EvaluateOnce =
    (s : List ℕ) (budget : ℕ) (r r' : Result Accepted Refusal) (out₀ out out' : List ℕ) (bs₀ bs bs' : List (List ℕ)) →
    Evaluates s budget r out₀ out bs₀ bs → Evaluates s budget r' out₀ out' bs₀ bs' → (r ≡ r') × (out ≡ out') × (bs ≡ bs')

-- a refusal leaves the output as it was
unfoldable pub EvaluateRefuses : Type 0
EvaluateRefuses =
    (s : List ℕ) (budget : ℕ) (refusal : Refusal) (out₀ out : List ℕ) (bs₀ bs : List (List ℕ)) → Evaluates s budget (Err refusal) out₀ out bs₀ bs → out ≡ out₀

-- scratch that is long enough, with a budget within its limit, ends zero up to the fixed lengths; else it is as it was
unfoldable pub EvaluateScratch : Type 0
EvaluateScratch =
    (s : List ℕ) (budget : ℕ) (r : Result Accepted Refusal) (out₀ out : List ℕ) (bs₀ bs : List (List ℕ)) → Evaluates s budget r out₀ out bs₀ bs →
    bs ≡ pick (leb budget 1024 && enough evaluation_lengths bs₀) (wiped evaluation_lengths bs₀) bs₀

-- demand 2, of a sheet as read, a budget, an answer and an output before and after: the answer is 0, n, w and i exactly when the rules derive a
-- conclusion by work w within the budget and 64 levels, n is the length of its certificate, i its inferences, and the output has room for it;
-- and so answered, the output is the certificate of whatever the rules derive, and untouched past it
abbrev pub AnswersExactly : Sheet → ℕ → Result Accepted Refusal → List ℕ → List ℕ → Type 0
AnswersExactly S budget r out₀ out =
    (n w i : ℕ) →
    ((evaluated_numbers r ≡ 0 ∷ (n ∷ (w ∷ (i ∷ []))))
    ↔ ((d : Derived) × SheetDerives S d w × (w ≤ budget) × (n ≡ length (certificate d)) × (i ≡ inferences d.proof) × (n ≤ length out₀)))
    × (evaluated_numbers r ≡ 0 ∷ (n ∷ (w ∷ (i ∷ []))) → (d : Derived) (u : ℕ) → SheetDerives S d u → out ≡ fronted (certificate d) out₀)

-- with a budget within its limit and scratch long enough, a sheet that reads is so answered
unfoldable pub EvaluateExactly : Type 0
EvaluateExactly =
    (s : List ℕ) (budget : ℕ) (r : Result Accepted Refusal) (out₀ out : List ℕ) (bs₀ bs : List (List ℕ)) → Evaluates s budget r out₀ out bs₀ bs →
    budget ≤ 1024 → enough evaluation_lengths bs₀ ≡ true → (S : Sheet) (end : ℕ) → sheet s ≡ got S end → AnswersExactly S budget r out₀ out

-- no certificate is longer than 47,612 bytes: an output of that length has room for any
unfoldable pub EvaluateRoom : Type 0
EvaluateRoom =
    (s : List ℕ) (budget : ℕ) (r : Result Accepted Refusal) (out₀ out : List ℕ) (bs₀ bs : List (List ℕ)) → Evaluates s budget r out₀ out bs₀ bs →
    budget ≤ 1024 → enough evaluation_lengths bs₀ ≡ true → (n w i : ℕ) → evaluated_numbers r ≡ 0 ∷ (n ∷ (w ∷ (i ∷ []))) → n ≤ 47612

-- demand 3: an accepted answer stands. With propositions and assumptions appended to the sheet, a budget no smaller within its limit and room for the
-- certificate, the answer is the same and the certificate the same to the byte; the rules derive the same in both sheets by the same work, and that is
-- what the certificate concludes
unfoldable pub EvaluateStands : Type 0
EvaluateStands =
    (s t : List ℕ) (S T : Sheet) (p : Parts s S) (q : Parts t T) (b b' n w i : ℕ) → Grown p q → b ≤ b' → b' ≤ 1024 →
    (r : Result Accepted Refusal) (out₀ out : List ℕ) (bs₀ bs : List (List ℕ)) → Evaluates s b r out₀ out bs₀ bs → enough evaluation_lengths bs₀ ≡ true →
    evaluated_numbers r ≡ 0 ∷ (n ∷ (w ∷ (i ∷ []))) →
    (r' : Result Accepted Refusal) (out₀' out' : List ℕ) (bs₀' bs' : List (List ℕ)) → Evaluates t b' r' out₀' out' bs₀' bs' → enough evaluation_lengths bs₀' ≡ true →
    n ≤ length out₀' → (r' ≡ r) × (take n out' ≡ take n out)
    × ((d : Derived) × SheetDerives S d w × SheetDerives T d w × Concludes (take n out) d.conclusion)

-- the certificate checks alone against the longer sheet; what it concludes is what the rules derive in both sheets by the same work, and it is true in
-- every valve state that makes all assumptions of the longer one true
unfoldable pub CertificateStands : Type 0
CertificateStands =
    (s t : List ℕ) (S T : Sheet) (p : Parts s S) (q : Parts t T) (b n w i : ℕ) → Grown p q → b ≤ 1024 →
    (r : Result Accepted Refusal) (out₀ out : List ℕ) (bs₀ bs : List (List ℕ)) → Evaluates s b r out₀ out bs₀ bs → enough evaluation_lengths bs₀ ≡ true →
    evaluated_numbers r ≡ 0 ∷ (n ∷ (w ∷ (i ∷ []))) →
    (x : Result Stands Refusal) (ns₀ fs₀ ps₀ hs₀ ms₀ ns fs ps hs ms : List ℕ) → Checks t (take n out) x ns₀ fs₀ ps₀ hs₀ ms₀ ns fs ps hs ms →
    enough check_lengths (scratch ns₀ fs₀ ps₀ hs₀ ms₀) ≡ true →
    (d : Derived) × SheetDerives S d w × SheetDerives T d w
    × ((c : Concludes (take n out) d.conclusion) × (checked_numbers x ≡ 0 ∷ (c.read.conclusion ∷ (i ∷ []))))
    × ((σ : State) → holds_all σ T.base ≡ true → holds σ d.conclusion ≡ true)

-- what is past the longest sheet cannot matter: a front that is longer than any sheet has the answer, output and scratch of the whole
unfoldable pub EvaluateFront : Type 0
EvaluateFront =
    (s : List ℕ) (n budget : ℕ) (r : Result Accepted Refusal) (out₀ out : List ℕ) (bs₀ bs : List (List ℕ)) → 12297 < n →
    Evaluates (take n s) budget r out₀ out bs₀ bs ↔ Evaluates s budget r out₀ out bs₀ bs

-- nor what is past the longest certificate: so it is of a check, with fronts of sheet and certificate
unfoldable pub CheckFront : Type 0
CheckFront =
    (s bytes : List ℕ) (n m : ℕ) (r : Result Stands Refusal) (ns₀ fs₀ ps₀ hs₀ bs₀ ns fs ps hs bs : List ℕ) → 12297 < n → 80388 < m →
    Checks (take n s) (take m bytes) r ns₀ fs₀ ps₀ hs₀ bs₀ ns fs ps hs bs ↔ Checks s bytes r ns₀ fs₀ ps₀ hs₀ bs₀ ns fs ps hs bs

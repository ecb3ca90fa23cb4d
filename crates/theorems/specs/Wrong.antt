-- The wrong evaluators that document 01 names, each by what it does.
use Rattle.std.specs.Prelude.{ℕ, List, [], ◌∷◌, ◌≡◌}
use Rattle.language.specs.Syntax.{Sheet, dedu, block, phrase_at}
use Rattle.language.specs.Numbers.{got}
use Rattle.language.specs.Read.{sheet}
use Rattle.language.specs.Values.{empty}
use Rattle.language.specs.Run.{Derived}
use Rattle.language.specs.Derives.{Derives}
use Rattle.language.specs.Certificate.{certificate}
use Rattle.language.specs.Answer.{accepted, refused}
use Rattle.theorems.specs.Demands.{Evaluator}

-- it refuses everything
unfoldable pub RefusesEverything : Evaluator → Type 0
RefusesEverything E = (s : List ℕ) (budget room : ℕ) → (n : ℕ) × (p : ℕ) × (E s budget room ≡ refused n p)

-- it always emits true-intro
unfoldable pub EmitsTrueIntro : Evaluator → Type 0
EmitsTrueIntro E =
    (s : List ℕ) (budget room : ℕ) (bytes : List ℕ) (w i : ℕ) → E s budget room ≡ accepted bytes w i → bytes ≡ 1 ∷ (1 ∷ (0 ∷ (13 ∷ (0 ∷ []))))

-- it writes nothing
unfoldable pub WritesNothing : Evaluator → Type 0
WritesNothing E = (s : List ℕ) (budget room : ℕ) (bytes : List ℕ) (w i : ℕ) → E s budget room ≡ accepted bytes w i → bytes ≡ []

-- it runs a block's first step and pretends the rest
unfoldable pub RunsFirstStep : Evaluator → Type 0
RunsFirstStep E =
    (s : List ℕ) (S : Sheet) (end budget room j : ℕ) (js bytes : List ℕ) (w i : ℕ) →
    sheet s ≡ got S end → phrase_at S.phrases S.root ≡ dedu (block j js) → E s budget room ≡ accepted bytes w i →
    (d : Derived) × (u : ℕ) × Derives S.phrases 63 empty S.base j d u × (bytes ≡ certificate d)

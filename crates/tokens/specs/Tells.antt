-- When tokens are a plain proof in prefix order, its propositions as numbers of formed ones.
use Rattle.std.specs.Prelude.{ℕ, ◌<◌, ◌≡◌, List, [], ◌∷◌, ◌++◌, length, get_or}
use Rattle.language.specs.Form.{Form}
use Rattle.language.specs.Rules.{arity}
use Rattle.language.specs.Plain.{Plain, infer, seq, under}
use Rattle.language.specs.Run.{Derived}
use Rattle.bindings.specs.Stands.{Is}

-- numbers of propositions, one for each
unfoldable pub Names : List Form → List ℕ → List Form → Type 0
Names fs [] [] = Unit {0}
Names fs [] (p ∷ ps) = ⊥
Names fs (n ∷ ns) [] = ⊥
Names fs (n ∷ ns) (p ∷ ps) = Is fs n p × Names fs ns ps

-- the tokens ts are the proof, in prefix order; a rule has as many arguments as it takes
unfoldable pub Tells : List Form → Plain → List ℕ → Type 0
unfolding Names
Tells fs (infer r ps) ts = (ns : List ℕ) × (ts ≡ 0 ∷ (r ∷ ns)) × Names fs ns ps × (length ns ≡ get_or arity r 0) × (r < 16)
Tells fs (seq a b) ts = (xs ys : List ℕ) × (ts ≡ 1 ∷ (xs ++ ys)) × Tells fs a xs × Tells fs b ys
Tells fs (under p a) ts = (n : ℕ) × (xs : List ℕ) × (ts ≡ 2 ∷ (n ∷ xs)) × Is fs n p × Tells fs a xs

-- lemmas, each a 1 and then its proof: something follows each
unfoldable pub TellsLemmas : List Form → List Derived → List ℕ → Type 0
unfolding Tells
TellsLemmas fs [] ts = ts ≡ []
TellsLemmas fs (d ∷ ds) ts = (xs ys : List ℕ) × (ts ≡ 1 ∷ (xs ++ ys)) × Tells fs d.proof xs × TellsLemmas fs ds ys

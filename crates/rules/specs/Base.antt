-- The base as a stack of numbers, and a rule's premises in it.
use Rattle.std.specs.Prelude.{ℕ, zero, suc, ◌/◌, ◌%◌, ◌≡◌, Bool, false, ◌&&◌, ◌||◌, List, [], ◌∷◌, get_or, eqb}
use Rattle.language.specs.Form.{Form, member}
use Rattle.forms.specs.Table.{tree}

-- two bases have the same propositions: a base is a set
abbrev pub Alike : List Form → List Form → Type 0
Alike β γ = (p : Form) → member p β ≡ member p γ

-- the trees on the stack, the top first
unfoldable pub base_of : List Form → List ℕ → ℕ → List Form
base_of fs s zero = []
base_of fs s (suc b) = tree fs (get_or s b 0) ∷ base_of fs s b

-- a number is among the first b on the stack
unfoldable pub within : ℕ → List ℕ → ℕ → Bool
within p s zero = false
within p s (suc b) = eqb p (get_or s b 0) || within p s b

-- the arguments that are premises of each rule: 1 the first, 2 the second, 4 the third
abbrev pub premises : List ℕ
premises = 1 ∷ (3 ∷ (3 ∷ (1 ∷ (3 ∷ (1 ∷ (1 ∷ (1 ∷ (2 ∷ (7 ∷ (3 ∷ (1 ∷ (1 ∷ (0 ∷ (3 ∷ (0 ∷ [])))))))))))))))

-- a premise is on the stack where it is asked
abbrev pub asked : ℕ → ℕ → List ℕ → ℕ → Bool
asked k p s b = eqb k 0 || within p s b

-- all premises of rule r are on the stack
abbrev pub grounds : List ℕ → ℕ → ℕ → ℕ → ℕ → ℕ → Bool
grounds s b r x y z =
    let m = get_or premises r 0 in
    asked (m % 2) x s b && (asked (m / 2 % 2) y s b && asked (m / 4) z s b)

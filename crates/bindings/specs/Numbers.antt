-- Values and bindings as numbers, and a search along a chain of them.
use Rattle.std.specs.Prelude.{◌≡◌, List, [], ◌∷◌, ℕ, zero, suc, ◌+◌, ◌*◌, ◌<◌, ◌^◌, get_or, Option, Some, None}
use Rattle.bindings.specs.declared.Closure.{Closure}
use Rattle.bindings.specs.declared.Value.{Value}
use Rattle.bindings.specs.declared.Value.TheVariants.{Prop, Constructor, Rule, Function, Method}
use Rattle.bindings.specs.declared.Binding.{Binding}

abbrev pub closure_of : ℕ → ℕ → Closure
closure_of a b = record { phrase = a; env = b }

-- the value of a kind and two parts
unfoldable pub value_of : ℕ → ℕ → ℕ → Value
value_of zero a b = Prop a
value_of (suc zero) a b = Constructor a
value_of (suc (suc zero)) a b = Rule a
value_of (suc (suc (suc zero))) a b = Function (closure_of a b)
value_of (suc (suc (suc (suc k)))) a b = Method (closure_of a b)

-- a binding's four numbers
abbrev pub numbers_of : Value → ℕ → List ℕ
numbers_of (Prop p) next = 0 ∷ p ∷ 0 ∷ next ∷ []
numbers_of (Constructor c) next = 1 ∷ c ∷ 0 ∷ next ∷ []
numbers_of (Rule r) next = 2 ∷ r ∷ 0 ∷ next ∷ []
numbers_of (Function f) next = 3 ∷ f.phrase ∷ f.env ∷ next ∷ []
numbers_of (Method m) next = 4 ∷ m.phrase ∷ m.env ∷ next ∷ []

abbrev pub numbers : Binding → List ℕ
numbers b = numbers_of b.value b.next

-- they fit a cell
abbrev pub SmallValue : Value → Type 0
SmallValue (Prop p) = p < 2 ^ 32
SmallValue (Constructor c) = c < 2 ^ 32
SmallValue (Rule r) = r < 2 ^ 32
SmallValue (Function f) = (f.phrase < 2 ^ 32) × (f.env < 2 ^ 32)
SmallValue (Method m) = (m.phrase < 2 ^ 32) × (m.env < 2 ^ 32)

pub record Small (b : Binding) : Type 0 where
  pub value : SmallValue b.value
  pub next : b.next < 2 ^ 32

-- binding number j of a buffer
abbrev pub value_at : List ℕ → ℕ → Value
value_at t j = value_of (get_or t (4 * j) 0) (get_or t (4 * j + 1) 0) (get_or t (4 * j + 2) 0)

abbrev pub next_at : List ℕ → ℕ → ℕ
next_at t j = get_or t (4 * j + 3) 0

abbrev pub binding_at : List ℕ → ℕ → Binding
binding_at t j = record { value = value_at t j; next = next_at t j }

-- the first n bindings of t are those of t'
abbrev pub Kept : List ℕ → List ℕ → ℕ → Type 0
Kept t t' n = (i : ℕ) → i < 4 * n → get_or t' i 0 ≡ get_or t i 0

-- the k-th value along the chain that starts at x
unfoldable pub first : List ℕ → ℕ → Option Value
first t zero = None
first t (suc j) = Some (value_at t j)

unfoldable pub beyond : (ℕ → Option Value) → List ℕ → ℕ → Option Value
beyond f t zero = None
beyond f t (suc j) = f (next_at t j)

unfoldable pub found : List ℕ → ℕ → ℕ → Option Value
unfolding first beyond
found t x zero = first t x
found t x (suc k) = beyond (λ y. found t y k) t x

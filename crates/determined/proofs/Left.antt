-- What is left in the lent buffers is known buffer by buffer.
use Prim.Native.Nat.{ℕ}
use mathlib.Core.Path.{◌≡◌, ap}
use mathlib.Core.List.{List}
use lib.ListN.{get_or}

-- what is left in one, and in those after it
pub pair : {A B : Type 0} {p q : A × B} → p.0 ≡ q.0 → p.1 ≡ q.1 → p ≡ q
pair e f = λ i. (e i, f i)

-- an element of a list of buffers, or of values
pub element : {A : Type 0} (x : A) (k : ℕ) {xs ys : List A} → xs ≡ ys → get_or xs k x ≡ get_or ys k x
element x k e = ap (λ l. get_or l k x) e

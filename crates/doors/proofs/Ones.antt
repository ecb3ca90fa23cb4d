-- Scratch that is long enough and all ones: a door that does not wipe it is seen.
use Prim.Native.Nat.{ℕ, suc}
use native.Mathlib.Omega.{arith}
use mathlib.Core.Path.{◌≡◌, refl, ap, ap₂, ◌∙◌}
use mathlib.Core.Bool.{true, ◌&&◌}
use mathlib.Core.List.{List, [], ◌∷◌}
use lib.ListN.{get_or, replicate, length-replicate}
use lib.Dec.{leb}
use borrow.Author.Tests.{le-leb}
use Rattle.language.specs.Doors.{enough, wiped}
use Rattle.theorems.proofs.Lists.{clash}

-- buffers of given lengths, all ones
unfoldable pub ones : List ℕ → List (List ℕ)
ones [] = []
ones (n ∷ ns) = replicate n 1 ∷ ones ns

pub ones_enough : (ns : List ℕ) → enough ns (ones ns) ≡ true
unfolding enough ones
ones_enough [] = refl
ones_enough (n ∷ ns) = ap₂ ◌&&◌ (ap (leb n) (length-replicate n 1) ∙ le-leb n n (omega arith)) (ones_enough ns)

-- wiped, they are others
pub wiped_not : (n : ℕ) (ns : List ℕ) → wiped (suc n ∷ ns) (ones (suc n ∷ ns)) ≡ ones (suc n ∷ ns) → ⊥
unfolding wiped ones
wiped_not n ns e = clash (ap (λ (bs : List (List ℕ)). get_or (get_or bs 0 []) 0 7) e)

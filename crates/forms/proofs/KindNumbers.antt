-- A kind's number and the kind of a number undo one another.
use Prim.Native.Nat.{ℕ, ◌<◌, ◌≤◌}
use mathlib.Core.Path.{◌≡◌, refl}
use mathlib.Core.Logic.{◌⊎◌, inl, inr}
use native.Mathlib.Omega.{arith}
use Rattle.std.specs.Prelude.{Some, get_or}
use Rattle.language.proofs.Numbering as numbering
use Rattle.forms.specs.KindNumbers.{kind_number, kinds, kind_of}
use Rattle.forms.specs.declared.kind.Kind.{Kind}
use Rattle.forms.specs.declared.kind.Kind.TheVariants.{Atom, True, False, Not, And, Or, If, Iff}

pub kind_found : (k : Kind) → kind_of (kind_number k) ≡ Some k
kind_found Atom = refl
kind_found True = refl
kind_found False = refl
kind_found Not = refl
kind_found And = refl
kind_found Or = refl
kind_found If = refl
kind_found Iff = refl

pub kind_at : (n : ℕ) (d : Kind) → n < 8 → kind_number (get_or kinds n d) ≡ n
kind_at = numbering.at kinds kind_number refl

pub number_found : (n : ℕ) (k : Kind) → kind_of n ≡ Some k → kind_number k ≡ n
number_found = numbering.found kinds kind_number refl

pub number_is : (n : ℕ) (k j : Kind) → Some k ≡ kind_of n → k ≡ j → n ≡ kind_number j
number_is = numbering.is kinds kind_number refl

pub kind_once : (j k : Kind) → kind_number j ≡ kind_number k → j ≡ k
kind_once = numbering.once kinds kind_number refl kind_found

-- records without parts are below a negation's, true and false above an atom's, and those of two parts above a negation's
pub plain_below : (k : Kind) → (k ≡ Atom) ⊎ ((k ≡ True) ⊎ (k ≡ False)) → kind_number k < 3
plain_below k (inl e) = rw e (omega arith)
plain_below k (inr (inl e)) = rw e (omega arith)
plain_below k (inr (inr e)) = rw e (omega arith)

pub truth_between : (k : Kind) → (k ≡ True) ⊎ (k ≡ False) → (1 ≤ kind_number k) × (kind_number k < 3)
truth_between k (inl e) = rw e (omega arith, omega arith)
truth_between k (inr e) = rw e (omega arith, omega arith)

pub joined_above : (k : Kind) → (k ≡ And) ⊎ ((k ≡ Or) ⊎ ((k ≡ If) ⊎ (k ≡ Iff))) → 4 ≤ kind_number k
joined_above k (inl e) = rw e (omega arith)
joined_above k (inr (inl e)) = rw e (omega arith)
joined_above k (inr (inr (inl e))) = rw e (omega arith)
joined_above k (inr (inr (inr e))) = rw e (omega arith)

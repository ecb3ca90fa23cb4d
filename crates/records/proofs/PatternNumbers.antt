-- A pattern kind's number and the kind of a number undo one another.
use Prim.Native.Nat.{ℕ, ◌≤◌}
use mathlib.Core.Path.{◌≡◌, refl}
use mathlib.Core.Logic.{◌⊎◌, inl, inr}
use native.Mathlib.Omega.{arith}
use Rattle.std.specs.Prelude.{Some, None}
use Rattle.language.proofs.Numbering as numbering
use Rattle.records.specs.PatternNumbers.{pattern_number, pattern_kinds, pattern_kind_of}
use Rattle.records.specs.declared.pattern_kind.PatternKind.{PatternKind}
use Rattle.records.specs.declared.pattern_kind.PatternKind.TheVariants.{Any, Exactly, Not, And, Or, If, Iff}

pub pattern_found : (k : PatternKind) → pattern_kind_of (pattern_number k) ≡ Some k
pattern_found Any = refl
pattern_found Exactly = refl
pattern_found Not = refl
pattern_found And = refl
pattern_found Or = refl
pattern_found If = refl
pattern_found Iff = refl

pub number_is : (n : ℕ) (k j : PatternKind) → Some k ≡ pattern_kind_of n → k ≡ j → n ≡ pattern_number j
number_is = numbering.is pattern_kinds pattern_number refl

pub none_found : (n : ℕ) → pattern_kind_of n ≡ None → 7 ≤ n
none_found = numbering.none pattern_kinds pattern_number refl

-- the kinds of patterns over two are above a negation's
pub joined_above : (k : PatternKind) → (k ≡ And) ⊎ ((k ≡ Or) ⊎ ((k ≡ If) ⊎ (k ≡ Iff))) → 3 ≤ pattern_number k
joined_above k (inl e) = rw e (omega arith)
joined_above k (inr (inl e)) = rw e (omega arith)
joined_above k (inr (inr (inl e))) = rw e (omega arith)
joined_above k (inr (inr (inr e))) = rw e (omega arith)

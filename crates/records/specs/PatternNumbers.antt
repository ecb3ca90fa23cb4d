-- The number of each kind of pattern.
use Rattle.std.specs.Prelude.{ℕ, List, [], ◌∷◌, Option, slice_get}
use Rattle.records.specs.declared.pattern_kind.PatternKind.{PatternKind}
use Rattle.records.specs.declared.pattern_kind.PatternKind.TheVariants.{Any, Exactly, Not, And, Or, If, Iff}

-- the number under which document 01 has it
abbrev pub pattern_number : PatternKind → ℕ
pattern_number Any = 0
pattern_number Exactly = 1
pattern_number Not = 2
pattern_number And = 3
pattern_number Or = 4
pattern_number If = 5
pattern_number Iff = 6

-- the kinds in the order of their numbers
abbrev pub pattern_kinds : List PatternKind
pattern_kinds = Any ∷ (Exactly ∷ (Not ∷ (And ∷ (Or ∷ (If ∷ (Iff ∷ []))))))

-- the kind of a number, where it is a kind's
abbrev pub pattern_kind_of : ℕ → Option PatternKind
pattern_kind_of n = slice_get pattern_kinds n

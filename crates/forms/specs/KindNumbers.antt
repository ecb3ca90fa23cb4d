-- The number of each kind.
use Rattle.std.specs.Prelude.{ℕ, List, [], ◌∷◌, Option, slice_get}
use Rattle.forms.specs.declared.kind.Kind.{Kind}
use Rattle.forms.specs.declared.kind.Kind.TheVariants.{Atom, True, False, Not, And, Or, If, Iff}

-- the number under which document 01 has it
abbrev pub kind_number : Kind → ℕ
kind_number Atom = 0
kind_number True = 1
kind_number False = 2
kind_number Not = 3
kind_number And = 4
kind_number Or = 5
kind_number If = 6
kind_number Iff = 7

-- the kinds in the order of their numbers
abbrev pub kinds : List Kind
kinds = Atom ∷ (True ∷ (False ∷ (Not ∷ (And ∷ (Or ∷ (If ∷ (Iff ∷ [])))))))

-- the kind of a number, where it is a kind's
abbrev pub kind_of : ℕ → Option Kind
kind_of n = slice_get kinds n

-- Every member of a list has a property.
use Rattle.std.specs.Prelude.{List, [], ◌∷◌}

abbrev pub All : {A : Type 0} → (A → Type 0) → List A → Type 0
All G [] = Unit {0}
All G (a ∷ l) = G a × All G l

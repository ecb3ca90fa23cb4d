-- What a reading answers, a value and the place past it or a refusal, in the definition's words.
use Rattle.std.specs.Prelude.{ℕ, Result, Ok, Err}
use Rattle.language.specs.Numbers.{Got, got, no}
use Rattle.language.specs.Numbered.{number_of}
use Rattle.language.specs.declared.refusal.Refusal.{Refusal}

abbrev pub gotten : {A : Type 0} → Result (A × ℕ) Refusal → Got A
gotten (Ok p) = got p.0 p.1
gotten (Err r) = no (number_of r.0) r.1

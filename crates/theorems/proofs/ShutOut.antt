-- What demand 2 shuts out: the wrong evaluators that document 01 names, each refuted by case C1, and invented counts.
use Prim.Native.Nat.{ℕ, ◌≤◌}
use native.Mathlib.Omega.{arith}
use mathlib.Core.Path.{◌≡◌, refl, ap, ◌∙◌}
use mathlib.Core.List.{List, [], ◌∷◌}
use Rattle.language.specs.Form.{conj, atom, bin}
use Rattle.language.specs.Syntax.{Sheet}
use Rattle.language.specs.Numbers.{Got, got, no}
use Rattle.language.specs.Read.{sheet}
use Rattle.language.specs.Plain.{infer}
use Rattle.language.specs.Values.{empty}
use Rattle.language.specs.Run.{Derived, derived, deduce}
use Rattle.language.specs.Derives.{Derives}
use Rattle.language.specs.Certificate.{certificate}
use Rattle.language.specs.Answer.{answer, accepted}
use Rattle.language.specs.Cases.{c1, c1_certificate}
use Rattle.theorems.specs.Demands.{Evaluator, MeetsDemand2, AcceptsExactly, DeducesExactly}
use Rattle.theorems.specs.Wrong.{RefusesEverything, EmitsTrueIntro, WritesNothing, RunsFirstStep}
use Rattle.theorems.proofs.Lists.{clash}
use Rattle.theorems.proofs.Exact.{interpreted, determined}
use Rattle.theorems.proofs.Accepting.{accepts_exactly}

-- two evaluators that meet demand 2 accept the same, with the same certificate and the same counts: no count can be invented
pub counts_determined : (E F : Evaluator) → MeetsDemand2 E → MeetsDemand2 F →
    (s : List ℕ) (S : Sheet) (end budget room : ℕ) (bytes : List ℕ) (w i : ℕ) → sheet s ≡ got S end → budget ≤ 1024 →
    E s budget room ≡ accepted bytes w i → F s budget room ≡ accepted bytes w i
counts_determined E F e f s S end budget room bytes w i reads small h =
    (f s S end budget room bytes w i reads small).1 ((e s S end budget room bytes w i reads small).0 h)

-- what C1's sheet says, and what its first step derives
abbrev pub sheet_of : Got Sheet → Sheet
sheet_of (got S end) = S
sheet_of (no n p) = record { props = []; patterns = []; phrases = []; base = []; root = 0 }

abbrev pub S₁ : Sheet
S₁ = sheet_of (sheet c1)

pub c1_reads : sheet c1 ≡ got S₁ 43
unfolding sheet
c1_reads = refl

c1_accepted : answer c1 11 24 ≡ accepted c1_certificate 11 3
unfolding answer
c1_accepted = refl

abbrev pub first : Derived
first = derived (atom 0) (infer 5 (bin conj (atom 0) (atom 1) ∷ []))

pub first_derived : Derives S₁.phrases 63 empty S₁.base 6 first 3
unfolding sheet deduce DeducesExactly
first_derived =
    let (u, x, e) = (interpreted S₁.phrases 63 empty S₁.base 6 3 0 first).0 refl in
    let z : u ≡ 3 = omega arith in
    rw z at x

-- its certificate is not C1's
not_c1 : c1_certificate ≡ certificate first → ⊥
unfolding certificate
not_c1 e = clash (cc)

module _ (E : Evaluator) (meets : MeetsDemand2 E) where
  on_c1 : E c1 11 24 ≡ accepted c1_certificate 11 3
  unfolding AcceptsExactly
  on_c1 = counts_determined answer E accepts_exactly meets c1 S₁ 43 11 24 c1_certificate 11 3 c1_reads (omega arith) c1_accepted

  pub refusing_shut_out : RefusesEverything E → ⊥
  unfolding RefusesEverything
  refusing_shut_out h = let (n, p, e) = h c1 11 24 in let k = on_c1 in clash (cc)

  pub true_intro_shut_out : EmitsTrueIntro E → ⊥
  unfolding EmitsTrueIntro
  true_intro_shut_out h = let e = h c1 11 24 c1_certificate 11 3 on_c1 in clash (cc)

  pub writing_nothing_shut_out : WritesNothing E → ⊥
  unfolding WritesNothing
  writing_nothing_shut_out h = let e = h c1 11 24 c1_certificate 11 3 on_c1 in clash (cc)

  pub first_step_shut_out : RunsFirstStep E → ⊥
  unfolding RunsFirstStep sheet
  first_step_shut_out h =
      let (d, u, x, e) = h c1 S₁ 43 11 24 6 (7 ∷ (8 ∷ [])) c1_certificate 11 3 c1_reads refl on_c1 in
      let is : d ≡ first = (determined x first_derived).0 in
      not_c1 (e ∙ ap certificate is)

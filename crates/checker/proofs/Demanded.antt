-- Demand 2 of the door `check`; and any two results that its contract allows are equal.
use Prim.Native.Nat.{ℕ}
use native.Mathlib.Omega.{arith}
use mathlib.Core.Path.{◌≡◌, sym, ap, ap₂, ◌∙◌}
use mathlib.Core.Bool.{true}
use mathlib.Core.List.{List, [], ◌∷◌}
use Rattle.language.specs.Check.{Verdict, stands, falls, verdict}
use Rattle.language.specs.Doors.{checked_numbers, verdict_numbers, check_lengths, enough, Checking}
use Rattle.std.specs.Prelude.{Result, Ok, Err}
use Rattle.language.specs.Numbered.{number_of}
use Rattle.language.specs.declared.refusal.Refusal.{Refusal}
use Rattle.language.specs.declared.Stands.{Stands}
use Rattle.theorems.proofs.Refusals.{refusal_once}
use Rattle.theorems.proofs.Lists.{clash}
use Rattle.theorems.specs.Demands.{ChecksExactly, StandsTrue}
use Rattle.theorems.proofs.Checking.{checks_exactly, stands_true}
use Rattle.checker.specs.Verdicts.{scratch, Checks}
use Rattle.checker.specs.Demand.{CheckExactly, CheckTrue}
use Rattle.checker.proofs.Scratch.{checking_enough}

-- the numbers of an accepted verdict are its own
accepted_is : (v : Verdict) (k i : ℕ) → verdict_numbers v ≡ 0 ∷ (k ∷ (i ∷ [])) → v ≡ stands k i
unfolding verdict_numbers
accepted_is (stands a b) k i e = let x : a ≡ k = cc in let y : b ≡ i = cc in rw (x, y)
accepted_is (falls n p) k i e = absurd (let z : ◌≡◌ {A = ℕ} 0 1 = cc in omega arith)

numbers_are : (s bytes : List ℕ) (r : Result Stands Refusal) (ns₀ fs₀ ps₀ hs₀ bs₀ ns fs ps hs bs : List ℕ) → Checks s bytes r ns₀ fs₀ ps₀ hs₀ bs₀ ns fs ps hs bs →
    enough check_lengths (scratch ns₀ fs₀ ps₀ hs₀ bs₀) ≡ true → checked_numbers r ≡ verdict_numbers (verdict s bytes)
numbers_are s bytes r ns₀ fs₀ ps₀ hs₀ bs₀ ns fs ps hs bs x e =
    ap (λ (c : Checking). c.numbers) (x.checks ∙ checking_enough s bytes (scratch ns₀ fs₀ ps₀ hs₀ bs₀) e)

pub check_exactly : CheckExactly
unfolding CheckExactly ChecksExactly verdict_numbers
check_exactly s bytes r ns₀ fs₀ ps₀ hs₀ bs₀ ns fs ps hs bs x long S end k i reads =
    let n = numbers_are s bytes r ns₀ fs₀ ps₀ hs₀ bs₀ ns fs ps hs bs x long in (
      (λ e. (checks_exactly s bytes S end k i reads).0 (accepted_is (verdict s bytes) k i (sym n ∙ e))),
      (λ h. n ∙ ap verdict_numbers ((checks_exactly s bytes S end k i reads).1 h)),
    )

pub check_true : CheckTrue
unfolding CheckTrue StandsTrue
check_true s bytes r ns₀ fs₀ ps₀ hs₀ bs₀ ns fs ps hs bs x long S end k i reads e =
    let n = numbers_are s bytes r ns₀ fs₀ ps₀ hs₀ bs₀ ns fs ps hs bs x long in
    stands_true s bytes S end k i reads (accepted_is (verdict s bytes) k i (sym n ∙ e))

-- an answer is known by its numbers
numbers_once : (r r' : Result Stands Refusal) → checked_numbers r ≡ checked_numbers r' → r ≡ r'
unfolding checked_numbers
numbers_once (Ok c) (Ok c') e =
    let x : c.conclusion ≡ c'.conclusion = cc in
    let y : c.inferences.0 ≡ c'.inferences.0 = cc in
    ap₂ (λ (a b : ℕ). Ok (record { conclusion = a; inferences = record { 0 = b } })) x y
numbers_once (Ok c) (Err r) e = absurd (clash cc)
numbers_once (Err r) (Ok c) e = absurd (clash cc)
numbers_once (Err r) (Err r') e =
    let x : number_of r.0 ≡ number_of r'.0 = cc in
    let y : r.1 ≡ r'.1 = cc in
    ap Err (refusal_once r r' x y)

pub check_once : (s bytes : List ℕ) (r r' : Result Stands Refusal) (ns₀ fs₀ ps₀ hs₀ bs₀ ns fs ps hs bs ns' fs' ps' hs' bs' : List ℕ) →
    Checks s bytes r ns₀ fs₀ ps₀ hs₀ bs₀ ns fs ps hs bs → Checks s bytes r' ns₀ fs₀ ps₀ hs₀ bs₀ ns' fs' ps' hs' bs' →
    (r ≡ r') × (scratch ns fs ps hs bs ≡ scratch ns' fs' ps' hs' bs')
check_once s bytes r r' ns₀ fs₀ ps₀ hs₀ bs₀ ns fs ps hs bs ns' fs' ps' hs' bs' x y =
    let e = x.checks ∙ sym y.checks in
    (numbers_once r r' (ap (λ (c : Checking). c.numbers) e), ap (λ (c : Checking). c.scratch) e)

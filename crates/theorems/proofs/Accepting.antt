-- Demand 2, the evaluator: it accepts exactly what the rules derive within the budget.
-- The interpreter is exact; what is left is reading, room and counts.
use Prim.Native.Nat.{ℕ, ◌-◌, ◌≤◌}
use native.Mathlib.Omega.{arith}
use mathlib.Core.Path.{◌≡◌, refl}
use mathlib.Core.List.{List}
use mathlib.Core.Bool.{Bool, true, false}
use lib.ListN.{length}
use lib.Dec.{leb}
use borrow.Author.Tests.{leb-true, le-leb}
use Rattle.language.specs.Refusals.{output_short}
use Rattle.language.specs.Syntax.{Sheet}
use Rattle.language.specs.Numbers.{pick}
use Rattle.language.specs.Plain.{inferences}
use Rattle.language.specs.Values.{empty, Out}
use Rattle.language.specs.Run.{Derived, deduce}
use Rattle.language.specs.Derives.{Derives}
use Rattle.language.specs.Certificate.{certificate}
use Rattle.language.specs.Answer.{accepted, refused, written, ended, started, answer}
use Rattle.theorems.specs.Demands.{DeducesExactly, AcceptsExactly}
use Rattle.theorems.proofs.Lists.{clash}
use Rattle.theorems.proofs.Ran.{Ran, stopped, ended as ended_with}
use Rattle.theorems.proofs.Obeys.{deduce_ran}
use Rattle.theorems.proofs.Exact.{interpreted}

-- what is answered where the certificate is c: it, or that the room is short
module _ (room : ℕ) (c : List ℕ) (w i : ℕ) where
  written_fits : length c ≤ room → written room c w i ≡ accepted c w i
  unfolding written
  written_fits l = rw (le-leb (length c) room l)

  fits_written : {bytes : List ℕ} {w' i' : ℕ} → written room c w i ≡ accepted bytes w' i' →
      (bytes ≡ c) × (w' ≡ w) × (i' ≡ i) × (length c ≤ room)
  unfolding written
  fits_written {bytes} {w'} {i'} = go (leb (length c) room) refl
    where
      go : (b : Bool) → leb (length c) room ≡ b → pick b (accepted c w i) (refused output_short 0) ≡ accepted bytes w' i' →
          (bytes ≡ c) × (w' ≡ w) × (i' ≡ i) × (length c ≤ room)
      go true l h = (cc, cc, cc, leb-true (length c) room l)
      go false l h = absurd (clash (cc))

module _ (S : Sheet) (budget room : ℕ) (bytes : List ℕ) (w i : ℕ) where
  abbrev Accepted : Type 0
  Accepted =
      (d : Derived) × Derives S.phrases 64 empty S.base S.root d w × (w ≤ budget) × (bytes ≡ certificate d)
      × (i ≡ inferences d.proof) × (length bytes ≤ room)

  only : {o : Out Derived} → Ran (Derives S.phrases 64 empty S.base S.root) budget o → ended budget room o ≡ accepted bytes w i → Accepted
  unfolding ended
  only stopped h = absurd (clash (cc))
  only (ended_with {a} {w'} u x e) h =
      let (b, v, j, l) = fits_written room (certificate a) (budget - w') (inferences a.proof) h in
      let z : w ≡ u = omega arith in
      (a, rw z x, omega arith, b, j, rw b l)

  all : Accepted → ended budget room (deduce S.phrases 64 empty S.base S.root budget) ≡ accepted bytes w i
  unfolding ended DeducesExactly
  all (d, x, l, b, j, f) =
      let left = budget - w in
      let r = (interpreted S.phrases 64 empty S.base S.root budget left d).1 (w, x, omega arith) in
      let z : budget - left ≡ w = omega arith in
      cc (written_fits room (certificate d) (budget - left) (inferences d.proof) (rw (← b) f))

pub accepts_exactly : AcceptsExactly
unfolding AcceptsExactly answer started
accepts_exactly s S end budget room bytes w i reads small =
    rw (le-leb budget 1024 small, reads)
    (only S budget room bytes w i (deduce_ran S.phrases 64 empty S.base S.root budget), all S budget room bytes w i)

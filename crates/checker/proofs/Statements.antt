-- What a certificate states after its proof: the number of its conclusion, at which the bytes end.
use Prim.Native.Nat.{ℕ}
use mathlib.Core.Path.{◌≡◌, refl, ◌∙◌}
use mathlib.Core.Bool.{Bool, true, false}
use mathlib.Core.List.{List}
use lib.ListN.{length}
use Rattle.std.specs.Prelude.{Result, Ok, Err}
use lib.Dec.{eqb}
use borrow.Author.Tests.{eq-eqb, ne_eqb}
use Rattle.language.specs.Refusals.{bytes_after}
use Rattle.language.specs.Form.{Form}
use Rattle.language.specs.Numbers.{Got, got, no, then, check, below}
use Rattle.language.specs.Plain.{inferences}
use Rattle.language.specs.Check.{Node, plain, node, Certificate}
use Rattle.language.specs.declared.Inferences.{Inferences}
use Rattle.checker.specs.declared.reading.NodesRead.{NodesRead}
use Rattle.checker.specs.declared.reading.Stated.{Stated}
use Rattle.checker.specs.Tally.{tallied, proof_at, ended_by, concluded_by, concluded_at, certified}
use Rattle.checker.proofs.Tallies.{tally_read, tally_refused}

-- the conclusion's number, and the end
module _ (s : List ℕ) (count : ℕ) (rules : Inferences) (at : ℕ) where
  pub conclusion_refused : (w p : ℕ) → below count s at ≡ no w p → Err (w, p) ≡ concluded_at s count rules at
  unfolding concluded_at concluded_by
  conclusion_refused w p e = rw e

  module _ (k end : ℕ) (e : below count s at ≡ got k end) where
    pub conclusion_read : end ≡ length s → Ok (record { rules = rules; conclusion = k; place = at }) ≡ concluded_at s count rules at
    unfolding concluded_at concluded_by ended_by
    conclusion_read h = rw (e, eq-eqb end (length s) h)

    pub conclusion_goes_on : (end ≡ length s → ⊥) → Err (bytes_after, end) ≡ concluded_at s count rules at
    unfolding concluded_at concluded_by ended_by
    conclusion_goes_on h = rw (e, ne_eqb end (length s) h)

-- what is stated, by whether the bytes end there
module _ (ps : List Form) (x : Node) (rules : Inferences) (place bytes : ℕ) (e : inferences (plain x) ≡ rules.0) where
  abbrev stating : ℕ → ℕ → Got Certificate
  stating k end = got (record { forms = ps; proof = x; conclusion = k; place = place }) end

  ended : (k end : ℕ) (b : Bool) → ended_by b end (record { rules = rules; conclusion = k; place = place }) ≡ certified (check b bytes_after end (stating k end))
  unfolding ended_by certified check
  ended k end true = rw e
  ended k end false = refl

  concluded_same : (g : Got ℕ) → concluded_by rules place bytes g ≡ certified (then g (λ k end. check (eqb end bytes) bytes_after end (stating k end)))
  unfolding concluded_by certified then
  concluded_same (got k end) = ended k end (eqb end bytes)
  concluded_same (no w p) = refl

-- the proof, then its conclusion
module _ (s : List ℕ) (ps : List Form) (count at : ℕ) (l : length ps ≡ count) where
  pub proof_refused : (w p : ℕ) → Err (w, p) ≡ tallied (node 512 s ps 0 at) → Err (w, p) ≡ certified (proof_at s ps at)
  unfolding proof_at then certified
  proof_refused w p f = rw (tally_refused (node 512 s ps 0 at) w p f)

  pub proof_read : (x : NodesRead) (r : Result Stated (ℕ × ℕ)) → Ok x ≡ tallied (node 512 s ps 0 at) → r ≡ concluded_at s count x.rules x.next → r ≡ certified (proof_at s ps at)
  unfolding proof_at then concluded_at
  proof_read x r f g =
      let T = tally_read (node 512 s ps 0 at) x f in
      let h : r ≡ concluded_by x.rules x.next (length s) (below (length ps) s x.next) = rw l g in
      rw T.is (h ∙ concluded_same ps T.counted.node x.rules x.next (length s) T.inferred (below (length ps) s x.next))

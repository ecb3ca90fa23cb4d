-- What the first reading of a proof answers: its nodes and rules counted, or the definition's refusal.
use Rattle.std.specs.Prelude.{ℕ, ◌+◌, Bool, true, false, List, length, leb, eqb, Result, Ok, Err}
use Rattle.language.specs.Refusals.{bytes_after, in_certificate}
use Rattle.language.specs.Form.{Form}
use Rattle.language.specs.Numbers.{Got, got, no, then, check, pick, below}
use Rattle.language.specs.Plain.{inferences}
use Rattle.language.specs.Check.{Node, plain, Counted, node, Certificate}
use Rattle.language.specs.declared.Inferences.{Inferences}
use Rattle.checker.specs.declared.reading.NodesRead.{NodesRead}
use Rattle.checker.specs.declared.reading.Stated.{Stated}

-- a node's inferences: the rules of its plain proof
abbrev pub inferred : Node → Inferences
inferred x = record { 0 = inferences (plain x) }

-- a node that was read: the nodes read with it, its inferences, and where it ends; or a refusal's number and place
unfoldable pub tallied : Got Counted → Result NodesRead (ℕ × ℕ)
unfolding inferences plain
tallied (got c next) = Ok (record { nodes = c.nodes; rules = inferred c.node; next = next })
tallied (no why place) = Err (why, place)

-- what follows the listed propositions of a certificate: the proof and the number of the conclusion, and nothing after it
unfoldable pub proof_at : List ℕ → List Form → ℕ → Got Certificate
unfolding then check below node
proof_at s ps at =
    then (node 512 s ps 0 at) (λ x c. then (below (length ps) s c) (λ k end.
    check (eqb end (length s)) bytes_after end
    (got (record { forms = ps; proof = x.node; conclusion = k; place = c }) end)))

-- what is stated, where the bytes end with it
unfoldable pub ended_by : Bool → ℕ → Stated → Result Stated (ℕ × ℕ)
ended_by true end c = Ok c
ended_by false end c = Err (bytes_after, end)

-- the number of a conclusion, after a proof of so many inferences
unfoldable pub concluded_by : Inferences → ℕ → ℕ → Got ℕ → Result Stated (ℕ × ℕ)
unfolding ended_by
concluded_by rules at bytes (got k end) = ended_by (eqb end bytes) end (record { rules = rules; conclusion = k; place = at })
concluded_by rules at bytes (no why place) = Err (why, place)

unfoldable pub concluded_at : List ℕ → ℕ → Inferences → ℕ → Result Stated (ℕ × ℕ)
unfolding concluded_by below
concluded_at s count rules at = concluded_by rules at (length s) (below count s at)

-- a proof and a conclusion that were read: the inferences, the conclusion's number and its place
unfoldable pub certified : Got Certificate → Result Stated (ℕ × ℕ)
unfolding inferences plain
certified (got c end) = Ok (record { rules = inferred c.proof; conclusion = c.conclusion; place = c.place })
certified (no why place) = Err (why, place)

-- a refusal's number where it is met in a certificate's bytes: 3 to 7 are 35 to 39
unfoldable pub own_number : ℕ → ℕ
unfolding pick
own_number why = pick (leb why bytes_after) (why + in_certificate) why

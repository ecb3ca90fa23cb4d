-- A certificate's bytes read within its limits, and what checking one against a sheet answers.
use Rattle.std.specs.Prelude.{ℕ, ◌+◌, List, [], ◌∷◌, length, get_or, ltb, leb, eqb}
use Rattle.language.specs.Refusals.{out_of_range, bytes_after, wrong_shapes, premise_missing, certificate_over, stated_differs, in_certificate}
use Rattle.language.specs.Form.{Form, cond, verum, bin, same, members}
use Rattle.language.specs.Rules.{arity, Ruled, gives, misshapen, ruled}
use Rattle.language.specs.Syntax.{Sheet}
use Rattle.language.specs.Numbers.{Got, got, no, then, check, pick, from, below, times}
use Rattle.language.specs.Read.{reference, proposition, sheet}
use Rattle.language.specs.Plain.{Plain, infer, seq, under, inferences}

-- a proof as read: each rule with its offset
pub data Node : Type 0 where
  rule_n : ℕ → ℕ → List Form → Node
  seq_n : Node → Node → Node
  under_n : Form → Node → Node

-- the plain proof that was read
unfoldable pub plain : Node → Plain
plain (rule_n at r ps) = infer r ps
plain (seq_n a b) = seq (plain a) (plain b)
plain (under_n p a) = under p (plain a)

-- a node, and how many nodes have been read with it
pub record Counted : Type 0 where
  pub node : Node
  pub nodes : ℕ

-- a rule node, whose kind has been read: the rule and its arguments
unfoldable pub rule_node : List ℕ → List Form → ℕ → ℕ → ℕ → Got Counted
unfolding then from times reference
rule_node s ps used at a =
    then (from 0 15 s a)
    (λ r b. then (times (get_or arity r 0) (λ acc. reference s ps) [] b)
    (λ xs. got (record { node = rule_n at r xs; nodes = used + 1 })))

-- reading a node after so many nodes, at a place
abbrev pub ReadNode : Type 0
ReadNode = ℕ → ℕ → Got Counted

-- the readers of a node's rest, by its kind; R reads a node inside
unfoldable pub inner : ReadNode → List ℕ → List Form → ℕ → ℕ → List ReadNode
unfolding then reference rule_node
inner R s ps used at =
    (λ u a. rule_node s ps used at a)
    ∷ ((λ u a. then (R (used + 1) a) (λ x b. then (R x.nodes b) (λ y. got (record { node = seq_n x.node y.node; nodes = y.nodes }))))
    ∷ ((λ u a. then (reference s ps a) (λ p b. then (R (used + 1) b) (λ x. got (record { node = under_n p x.node; nodes = x.nodes }))))
    ∷ []))

-- a node, with so much nesting left; the limits are looked at once its kind is read
unfoldable pub node : ℕ → List ℕ → List Form → ReadNode
unfolding then check from inner
node ℕ.zero s ps used at = then (from 0 2 s at) (λ kind a. no certificate_over at)
node (ℕ.suc n) s ps used at =
    then (from 0 2 s at)
    (λ kind a. check (ltb used 7168) certificate_over at (get_or (inner (node n s ps) s ps used at) kind (λ u b. no out_of_range at) used a))

-- a certificate as read
pub record Certificate : Type 0 where
  pub forms : List Form
  pub proof : Node
  pub conclusion : ℕ
  -- the place of the conclusion's number
  pub place : ℕ

-- count of propositions, their records, the proof, the number of the conclusion; nothing follows
unfoldable pub certificate_at : List ℕ → Got Certificate
unfolding then check from below times proposition node
certificate_at s =
    then (from 0 4608 s 0) (λ np a. then (times np (proposition s) [] a) (λ ps b.
    then (node 512 s ps 0 b) (λ x c. then (below (length ps) s c) (λ k end.
    check (eqb end (length s)) bytes_after end
    (got (record { forms = ps; proof = x.node; conclusion = k; place = c }) end)))))

-- 3 to 7 met in a certificate's bytes are 35 to 39
unfoldable pub own : {A : Type 0} → Got A → Got A
unfolding pick
own (got a at) = got a at
own (no n p) = no (pick (leb n bytes_after) (n + in_certificate) n) p

-- a rule node's conclusion in the base, 13 before 14
unfoldable pub ruled_in : Ruled → List Form → ℕ → Got Form
unfolding check members
ruled_in misshapen β at = no wrong_shapes at
ruled_in (gives premises q) β at = check (members premises β) premise_missing at (got q at)

-- what a proof concludes, or the refusal of the first rule that fails in prefix order
unfoldable pub concluded : List Form → Node → Got Form
unfolding then ruled_in ruled
concluded β (rule_n at r ps) = ruled_in (ruled r ps) β at
concluded β (seq_n a b) = then (concluded β a) (λ p at. concluded (p ∷ β) b)
concluded β (under_n p a) = then (concluded (p ∷ β) a) (λ q at. got (bin cond p q) at)

-- what a check answers
pub data Verdict : Type 0 where
  -- the conclusion's number and the inferences
  stands : ℕ → ℕ → Verdict
  falls : ℕ → ℕ → Verdict

-- the stated conclusion is the derived one
unfoldable pub stated : Certificate → Got Form → Verdict
unfolding same pick inferences plain
stated c (no n p) = falls n p
stated c (got q at) =
    pick (same q (get_or c.forms c.conclusion verum)) (stands c.conclusion (inferences (plain c.proof))) (falls stated_differs c.place)

-- a certificate in the base of a sheet
unfoldable pub checked : Sheet → Got Certificate → Verdict
unfolding stated concluded
checked S (no n p) = falls n p
checked S (got c end) = stated c (concluded S.base c.proof)

-- a certificate's bytes against a sheet as read
unfoldable pub against : List ℕ → Got Sheet → Verdict
unfolding checked own certificate_at
against bytes (no n p) = falls n p
against bytes (got S end) = checked S (own (certificate_at bytes))

-- a certificate's bytes against a sheet's: the sheet's refusals first
unfoldable pub verdict : List ℕ → List ℕ → Verdict
unfolding against sheet
verdict s bytes = against bytes (sheet s)

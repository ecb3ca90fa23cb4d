-- Plain proofs, and what they prove.
use Rattle.std.specs.Prelude.{ℕ, ◌+◌, List, ◌∷◌, true, ◌≡◌, length, get_or}
use Rattle.language.specs.Form.{Form, cond, bin, members}
use Rattle.language.specs.Rules.{arity, gives, ruled}

-- a rule at its arguments; D1;D2; assume P in D
pub data Plain : Type 0 where
  infer : ℕ → List Form → Plain
  seq : Plain → Plain → Plain
  under : Form → Plain → Plain

-- `Proves β D P`: in the base β the plain proof D concludes P
pub data Proves : List Form → Plain → Form → Type 0 where
  by_rule : {β ps premises : List Form} {r : ℕ} {q : Form} →
      length ps ≡ get_or arity r 0 → ruled r ps ≡ gives premises q → members premises β ≡ true → Proves β (infer r ps) q
  in_turn : {β : List Form} {a b : Plain} {p q : Form} → Proves β a p → Proves (p ∷ β) b q → Proves β (seq a b) q
  assuming : {β : List Form} {a : Plain} {p q : Form} → Proves (p ∷ β) a q → Proves β (under p a) (bin cond p q)

-- the rules in a plain proof
unfoldable pub inferences : Plain → ℕ
inferences (infer r ps) = 1
inferences (seq a b) = inferences a + inferences b
inferences (under p a) = inferences a

-- A base is a set: what a proof concludes depends on what is in the base, not on the order in which it stands there.
use Prim.Native.Nat.{ℕ}
use mathlib.Core.Path.{◌≡◌, refl, ap, ◌∙◌}
use mathlib.Core.Bool.{Bool}
use mathlib.Core.List.{List, ◌∷◌}
use Rattle.language.specs.Refusals.{premise_missing}
use Rattle.language.specs.Form.{Form, cond, bin}
use Rattle.language.specs.Rules.{Ruled, gives, misshapen, ruled}
use Rattle.language.specs.Numbers.{Got, got, no, then, check}
use Rattle.language.specs.Check.{Node, rule_n, seq_n, under_n, ruled_in, concluded}
use Rattle.rules.specs.Base.{Alike}
use Rattle.rules.proofs.Sets.{alike_more, members_alike}

ruled_alike : (β γ : List Form) → Alike β γ → (R : Ruled) (at : ℕ) → ruled_in R β at ≡ ruled_in R γ at
unfolding ruled_in
ruled_alike β γ h misshapen at = refl
ruled_alike β γ h (gives ps q) at = ap (λ (b : Bool). check b premise_missing at (got q at)) (members_alike β γ h ps)

then_alike : (g : Got Form) (f e : Form → ℕ → Got Form) → ((q : Form) (at : ℕ) → f q at ≡ e q at) → then g f ≡ then g e
unfolding then
then_alike (got q at) f e h = h q at
then_alike (no n p) f e h = refl

pub concluded_alike : (x : Node) (β γ : List Form) → Alike β γ → concluded β x ≡ concluded γ x
unfolding concluded
concluded_alike (rule_n at r ps) β γ h = ruled_alike β γ h (ruled r ps) at
concluded_alike (seq_n a b) β γ h =
    ap (λ (g : Got Form). then g (λ p at. concluded (p ∷ β) b)) (concluded_alike a β γ h)
    ∙ then_alike (concluded γ a) (λ p at. concluded (p ∷ β) b) (λ p at. concluded (p ∷ γ) b) (λ q at. concluded_alike b (q ∷ β) (q ∷ γ) (alike_more β γ q h))
concluded_alike (under_n p a) β γ h =
    ap (λ (g : Got Form). then g (λ q at. got (bin cond p q) at)) (concluded_alike a (p ∷ β) (p ∷ γ) (alike_more β γ p h))

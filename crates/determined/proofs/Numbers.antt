-- The public functions of `numbers`: each by the equations that its contract has.
use mathlib.Core.Path.{refl, sym, ◌∙◌}
use seplogic.Ra.Ura.{Ura}
use base.Logic.{ent}
use contract.Monad.{fact, fact_i, fact_use, conj, conj_l, conj_r}
use Rattle.numbers.proofs.Answers.{gotten_once, cursor_once}
use Rattle.determined.specs.Once.{Once, OnceHeld}
use Rattle.determined.specs.Numbers.{Numbers}
use Rattle.determined.proofs.Left.{pair}

-- a fact that follows from two
from_facts : {M : Type 1} (𝓤 : Ura M) (A B C : Type 0) → (A → B → C) → ent 𝓤 (conj 𝓤 (fact 𝓤 A) (fact 𝓤 B)) (fact 𝓤 C)
from_facts 𝓤 A B C f =
    fact_use 𝓤 A (conj_l 𝓤 (fact 𝓤 A) (fact 𝓤 B)) (λ a. fact_use 𝓤 B (conj_r 𝓤 (fact 𝓤 A) (fact 𝓤 B)) (λ b. fact_i 𝓤 C (conj 𝓤 (fact 𝓤 A) (fact 𝓤 B)) (f a b)))

pub numbers : Numbers
unfolding Once OnceHeld
numbers = record {
  cursor_at = λ M 𝓤 𝓛 mem run κs a g z z' ws ws'. from_facts 𝓤 _ _ _ (λ x y. (cursor_once _ _ z z' x y, refl));
  moved = λ M 𝓤 𝓛 mem run κs a g z z' ws ws'. from_facts 𝓤 _ _ _ (λ x y. (cursor_once _ _ z z' x y, refl));
  number_at = λ M 𝓤 𝓛 mem run κs a g z z' ws ws'. from_facts 𝓤 _ _ _ (λ x y. (gotten_once z z' (x ∙ sym y), refl));
  number_from = λ M 𝓤 𝓛 mem run κs a g z z' ws ws'. from_facts 𝓤 _ _ _ (λ x y. (gotten_once z z' (x ∙ sym y), refl));
  number_below = λ M 𝓤 𝓛 mem run κs a g z z' ws ws'. from_facts 𝓤 _ _ _ (λ x y. (gotten_once z z' (x ∙ sym y), refl));
  read = λ κs a z z' ws ws' x y. (gotten_once z z' (x ∙ sym y), refl);
  read_from = λ κs a z z' ws ws' x y. (gotten_once z z' (x ∙ sym y), refl);
  read_below = λ κs a z z' ws ws' x y. (gotten_once z z' (x ∙ sym y), refl);
  length_of = λ κs a z z' ws ws' x y. (x ∙ sym y, refl);
  write = λ κs a z z' ws ws' x y. (x.0 ∙ sym y.0, pair (x.1 ∙ sym y.1) refl);
  cursor_at_learnt = λ κs a z z' ws ws' x y. (cursor_once _ _ z z' x y, refl);
  moved_learnt = λ κs a z z' ws ws' x y. (cursor_once _ _ z z' x y, refl);
  number_at_learnt = λ κs a z z' ws ws' x y. (gotten_once z z' (x ∙ sym y), refl);
  number_from_learnt = λ κs a z z' ws ws' x y. (gotten_once z z' (x ∙ sym y), refl);
  number_below_learnt = λ κs a z z' ws ws' x y. (gotten_once z z' (x ∙ sym y), refl);
}

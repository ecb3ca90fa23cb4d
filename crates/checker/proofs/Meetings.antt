-- What a walk answers against what the definition concludes, handed on from a part to the whole.
use Prim.Native.Nat.{ℕ, ◌+◌, ◌≤◌}
use mathlib.Core.Path.{◌≡◌, refl, sym, ap, ◌∙◌}
use mathlib.Core.List.{List, ◌++◌, append_assoc}
use native.Mathlib.Omega.{arith}
use native.Mathlib.Nat.{le_refl}
use lib.ListN.{set, take}
use lib.Seq.{take-set-le, take-take}
use Rattle.language.specs.Form.{Form}
use Rattle.language.specs.Numbers.{Got, got, no, then}
use Rattle.std.specs.Prelude.{Result, Ok, Err}
use Rattle.language.specs.declared.refusal.Refusal.{Refusal}
use Rattle.checker.specs.Walk.{Setting, Derived, Meets, Reached}

-- less room on the stack
pub setting_less : (t base names : List ℕ) (n b deep less : ℕ) (fs ps : List Form) → less ≤ deep → Setting t base names n b deep fs ps → Setting t base names n b less fs ps
setting_less t base names n b deep less fs ps h S =
    let w = S.stack in
    record { table = S.table; named = S.named; based = S.based; stack = omega arith }

-- what the definition concludes where the walk does
pub record After (t : List ℕ) (fs : List Form) (n used nodes next : ℕ) (w : Reached) (g : Got Form) : Type 0 where
  pub q : Form
  pub at : ℕ
  pub is : g ≡ got q at
  pub place : w.next ≡ next
  pub derived : Derived t fs n used nodes w.conclusion w.size q

pub after_walk : (t : List ℕ) (fs : List Form) (n used nodes next : ℕ) (w : Reached) (g : Got Form) → Meets t fs n used nodes next (Ok w) g → After t fs n used nodes next w g
after_walk t fs n used nodes next w (got q at) M = record { q = q; at = at; is = refl; place = M.0; derived = M.1 }
after_walk t fs n used nodes next w (no why place) M = absurd M

pub then_is : (g : Got Form) (f : Form → ℕ → Got Form) (q : Form) (at : ℕ) → g ≡ got q at → then g f ≡ f q at
unfolding then
then_is g f q at e = rw e

-- a refusal is the definition's, whatever follows it
pub refused_then : (t : List ℕ) (fs : List Form) (n used nodes next used' nodes' next' : ℕ) (r : Refusal) (g : Got Form) (f : Form → ℕ → Got Form) → Meets t fs n used nodes next (Err r) g → Meets t fs n used' nodes' next' (Err r) (then g f)
unfolding then
refused_then t fs n used nodes next used' nodes' next' r (got q at) f M = absurd M
refused_then t fs n used nodes next used' nodes' next' r (no why place) f M = M

-- below a number that was pushed, a stack that is kept is kept
pub kept_below : (base₁ base₂ : List ℕ) (b p : ℕ) → take (b + 1) base₂ ≡ take (b + 1) (set base₁ b p) → take b base₂ ≡ take b base₁
kept_below base₁ base₂ b p e =
    sym (take-take b (b + 1) base₂ (omega arith)) ∙ ap (take b) e ∙ take-take b (b + 1) (set base₁ b p) (omega arith) ∙ take-set-le b base₁ b p (le_refl b)

-- what is derived over more trees is derived over the old ones
pub meets_more : (t : List ℕ) (fs gs : List Form) (n k used one nodes next : ℕ) (r : Result Reached Refusal) (g : Got Form) → k + used ≤ n + one → Meets t (fs ++ gs) k one nodes next r g → Meets t fs n used nodes next r g
meets_more t fs gs n k used one nodes next (Ok w) (got q at) h M =
    let D = M.1 in
    let a = append_assoc fs gs D.more in
    let paid = D.paid in
    (M.0, record { more = gs ++ D.more; table = rw (← a) D.table; low = D.low; is = rw (← a) D.is; paid = omega arith })
meets_more t fs gs n k used one nodes next (Ok w) (no why place) h M = M
meets_more t fs gs n k used one nodes next (Err r) (got q at) h M = M
meets_more t fs gs n k used one nodes next (Err r) (no why place) h M = M

-- A node walked by its kind: it was read as a rule, a sequence or an assumption.
use Prim.Native.Nat.{ℕ, ◌+◌, ◌-◌, ◌≤◌, ◌<◌}
use mathlib.Core.Path.{◌≡◌}
use mathlib.Core.List.{List}
use native.Mathlib.Omega.{arith}
use Rattle.language.specs.Form.{Form}
use Rattle.language.specs.Numbers.{got}
use Rattle.language.specs.Check.{Counted}
use Rattle.std.specs.Prelude.{Result}
use Rattle.language.specs.declared.refusal.Refusal.{Refusal}
use Rattle.checker.specs.Places.{value_at, next_at}
use Rattle.checker.specs.Walk.{Reading, node_at, rule_at, two_at, under_at, Awaits, Walks, Reached}
use Rattle.checker.proofs.Nodes.{node_rule, node_two, node_under, node_deep}
use Rattle.checker.proofs.Meetings.{setting_less}

-- what was read one way was read another way
module _ (read other : Reading) (t base names : List ℕ) (n b deep less : ℕ) (h : less ≤ deep) (also : (ps : List Form) (used : ℕ) (c : Counted) (next : ℕ) → read ps used ≡ got c next → other ps used ≡ got c next) where
  awaits_as : Awaits read t base names n b deep → Awaits other t base names n b less
  awaits_as A =
      record {
        trees = A.trees;
        listing = A.listing;
        setting = setting_less t base names n b deep less A.trees A.listing h A.setting;
        used = A.used;
        counted = A.counted;
        next = A.next;
        was_read = also A.listing A.used A.counted A.next A.was_read;
        room = A.room;
      }

  walks_as : (u base₁ : List ℕ) (r : Result Reached Refusal) → Walks other t base names n b less u base₁ r → Walks read t base names n b deep u base₁ r
  walks_as u base₁ r W =
      record {
        kept = W.kept;
        meets = λ fs ps S used c next e room.
            W.meets fs ps (setting_less t base names n b deep less fs ps h S) used c next (also ps used c next e) room;
      }

-- a node, by its kind v, which ends before a
module _ (t base names s : List ℕ) (n b d at v a : ℕ) (ev : (v ≡ value_at s at) × (a ≡ next_at s at)) where
  pub deep_enough : Awaits (node_at d s at) t base names n b d → 0 < d
  deep_enough A = node_deep s A.listing A.used at A.counted A.next d v a ev A.was_read

  module _ (f : v ≡ 0) where
    pub walk_rule : Awaits (node_at d s at) t base names n b d → Awaits (rule_at s at a) t base names n b 0
    walk_rule = awaits_as (node_at d s at) (rule_at s at a) t base names n b d 0 (omega arith) (λ ps used c next e. node_rule s ps used at c next d v a ev e f)

    pub rule_walked : (u base₁ : List ℕ) (r : Result Reached Refusal) → Walks (rule_at s at a) t base names n b 0 u base₁ r → Walks (node_at d s at) t base names n b d u base₁ r
    rule_walked = walks_as (node_at d s at) (rule_at s at a) t base names n b d 0 (omega arith) (λ ps used c next e. node_rule s ps used at c next d v a ev e f)

  module _ (deep : 0 < d) where
    one_less : d - 1 + 1 ≤ d
    one_less = omega arith

    module _ (f : v ≡ 1) where
      pub walk_two : Awaits (node_at d s at) t base names n b d → Awaits (two_at (d - 1) s a) t base names n b (d - 1 + 1)
      walk_two = awaits_as (node_at d s at) (two_at (d - 1) s a) t base names n b d (d - 1 + 1) one_less (λ ps used c next e. node_two s ps used at c next d v a ev e f)

      pub two_walked : (u base₁ : List ℕ) (r : Result Reached Refusal) → Walks (two_at (d - 1) s a) t base names n b (d - 1 + 1) u base₁ r → Walks (node_at d s at) t base names n b d u base₁ r
      two_walked = walks_as (node_at d s at) (two_at (d - 1) s a) t base names n b d (d - 1 + 1) one_less (λ ps used c next e. node_two s ps used at c next d v a ev e f)

    module _ (f : v ≡ 0 → ⊥) (g : v ≡ 1 → ⊥) where
      pub walk_under : Awaits (node_at d s at) t base names n b d → Awaits (under_at (d - 1) s a) t base names n b (d - 1 + 1)
      walk_under = awaits_as (node_at d s at) (under_at (d - 1) s a) t base names n b d (d - 1 + 1) one_less (λ ps used c next e. node_under s ps used at c next d v a ev e f g)

      pub under_walked : (u base₁ : List ℕ) (r : Result Reached Refusal) → Walks (under_at (d - 1) s a) t base names n b (d - 1 + 1) u base₁ r → Walks (node_at d s at) t base names n b d u base₁ r
      under_walked = walks_as (node_at d s at) (under_at (d - 1) s a) t base names n b d (d - 1 + 1) one_less (λ ps used c next e. node_under s ps used at c next d v a ev e f g)

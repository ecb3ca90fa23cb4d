-- A proof under a hypothesis, and the conditional that is formed after it.
use Prim.Native.Nat.{ℕ, ◌+◌, ◌≤◌, ◌<◌}
use mathlib.Core.Path.{◌≡◌, refl, sym, ap, ap₂, subst, ◌∙◌}
use mathlib.Core.List.{List, ◌∷◌, ◌++◌, append_assoc}
use native.Mathlib.Omega.{arith}
use native.Mathlib.Nat.{le_refl}
use lib.ListN.{length, set, take}
use lib.Seq.{length-take-le}
use Rattle.language.specs.Form.{Form, cond, bin}
use Rattle.language.specs.Numbers.{Got, got, then}
use Rattle.language.specs.Check.{Counted, concluded}
use Rattle.forms.specs.declared.Formed.{Formed}
use Rattle.forms.specs.Word.{bin_r, code, Below}
use Rattle.forms.specs.Interned.{Interned}
use Rattle.forms.specs.Table.{tree, formed}
use Rattle.forms.proofs.Interning.{sized}
use Rattle.forms.proofs.Growth.{after}
use Rattle.rules.specs.Base.{base_of}
use Rattle.std.specs.Prelude.{Result, Ok, Err}
use Rattle.language.specs.declared.refusal.Refusal.{Refusal}
use Rattle.checker.specs.Places.{next_at, name_at}
use Rattle.checker.specs.Walk.{node_at, under_at, Setting, Room, Awaits, Derived, Meets, Walks, Reached}
use Rattle.checker.proofs.Nodes.{Under, under_read, node_counts}
use Rattle.checker.proofs.RuleNodes.{Argued, reference_got}
use Rattle.checker.proofs.Stacks.{pushed, pushed_base, more_words, old_trees}
use Rattle.checker.proofs.Meetings.{After, after_walk, kept_below, refused_then, then_is}

-- a hypothesis p, and a proof under it from h on
module _ (t base names s : List ℕ) (n b d a p h : ℕ) (ep : (p ≡ name_at names s a) × (h ≡ next_at s a)) where
  module _ (fs ps : List Form) (S : Setting t base names n b (d + 1) fs ps) (used : ℕ) (c : Counted) (next : ℕ) (e : under_at d s a ps used ≡ got c next) (room : Room t n used c.nodes) where
    abbrev said : Under d s ps used a c next
    said = under_read d s ps used a c next e

    argued : Argued fs n names s a said.hypothesis said.place
    argued = reference_got s ps names fs n S.named a said.hypothesis said.place said.named

    hypothesis_low : p < n
    hypothesis_low = rw ep.0 argued.low

    hypothesis_is : tree fs p ≡ said.hypothesis
    hypothesis_is = rw ep.0 argued.is

    inside_counts : (c.nodes ≡ said.inside.nodes) × (used + 1 < said.inside.nodes)
    inside_counts = (ap (λ (u : Counted). u.nodes) said.is, node_counts d s ps (used + 1) said.place said.inside next said.read)

    inside_setting : Setting t (set base b p) names n (b + 1) d fs ps
    inside_setting = pushed t base names n b d fs ps S t base n p fs S.table (le_refl n) (λ i g. refl) hypothesis_low refl refl

    inside_base : base_of fs (set base b p) (b + 1) ≡ said.hypothesis ∷ base_of fs base b
    inside_base = pushed_base t base names n b d fs ps S t base n p fs S.table (le_refl n) (λ i g. refl) hypothesis_low refl refl said.hypothesis hypothesis_is

    inside_room : Room t n (used + 1) said.inside.nodes
    inside_room =
        let z = inside_counts in
        let l = room.long in
        let m = room.small in
        record { long = omega arith; small = omega arith }

    inside_read : node_at d s h ps (used + 1) ≡ got said.inside next
    inside_read = rw (ep.1, argued.next) said.read

    module _ (u base₂ : List ℕ) (r : Result Reached Refusal) (W : Walks (node_at d s h) t (set base b p) names n (b + 1) d u base₂ r) where
      inside_meets : Meets u fs n (used + 1) said.inside.nodes next r (concluded (said.hypothesis ∷ base_of fs base b) said.inside.node)
      inside_meets =
          subst (λ (β : List Form). Meets u fs n (used + 1) said.inside.nodes next r (concluded β said.inside.node)) inside_base
          (W.meets fs ps inside_setting (used + 1) said.inside next inside_read inside_room)

    -- after the proof under it
    module _ (u base₂ : List ℕ) (w : Reached) (W : Walks (node_at d s h) t (set base b p) names n (b + 1) d u base₂ (Ok w)) (lu : length u ≡ length t) where
      after_inside : After u fs n (used + 1) said.inside.nodes next w (concluded (said.hypothesis ∷ base_of fs base b) said.inside.node)
      after_inside =
          after_walk u fs n (used + 1) said.inside.nodes next w (concluded (said.hypothesis ∷ base_of fs base b) said.inside.node)
          (inside_meets u base₂ (Ok w) W)

      inside_fits : (n ≤ length t) × (w.size < length u) × (w.size < 16384)
      inside_fits =
          let z = inside_counts in
          let paid = after_inside.derived.paid in
          let l = room.long in
          let g = room.small in
          (omega arith, omega arith, omega arith)

      inside_more : n ≤ w.size
      inside_more =
          let f = inside_fits in
          more_words t u n w.size fs after_inside.derived.more S.table after_inside.derived.table f.0 (omega arith)

      conditional_parts : Below (length (take w.size u)) (bin_r cond p w.conclusion)
      unfolding Below
      conditional_parts =
          let f = inside_fits in
          let l = length-take-le w.size u (omega arith) in
          let o = inside_more in
          let x = hypothesis_low in
          let y = after_inside.derived.low in
          (omega arith, omega arith)

      conditional_is : formed (fs ++ after_inside.derived.more) (bin_r cond p w.conclusion) ≡ bin cond said.hypothesis after_inside.q
      unfolding formed
      conditional_is =
          let f = inside_fits in
          let x = old_trees t u n w.size fs after_inside.derived.more S.table after_inside.derived.table f.0 (omega arith) p hypothesis_low in
          ap₂ (bin cond) (x ∙ hypothesis_is) after_inside.derived.is

      conditional_derived : (u₂ : List ℕ) (f : Formed) → Interned (code (bin_r cond p w.conclusion)) w.size u u₂ f → Derived u₂ fs n used c.nodes f.at f.size (bin cond said.hypothesis after_inside.q)
      conditional_derived u₂ f i =
          let g = inside_fits in
          let gs = after_inside.derived.more in
          let l = length-take-le w.size u (omega arith) in
          let z = sized (code (bin_r cond p w.conclusion)) w.size u u₂ f (omega arith) i in
          let G = after w.size u u₂ f (fs ++ gs) (bin_r cond p w.conclusion) after_inside.derived.table conditional_parts (omega arith) i in
          let v = append_assoc fs gs G.more in
          let counted = inside_counts in
          let paid = after_inside.derived.paid in
          let most = z.most in
          record { more = gs ++ G.more; table = rw (← v) G.table; low = z.within; is = rw (← v) (G.is ∙ conditional_is); paid = omega arith }

      under_meets : (u₂ : List ℕ) (f : Formed) → Interned (code (bin_r cond p w.conclusion)) w.size u u₂ f → Meets u₂ fs n used c.nodes next (Ok (record { conclusion = f.at; next = w.next; size = f.size })) (concluded (base_of fs base b) c.node)
      unfolding concluded
      under_meets u₂ f i =
          let D = conditional_derived u₂ f i in
          let β = said.hypothesis ∷ base_of fs base b in
          let g : then (concluded (said.hypothesis ∷ base_of fs base b) said.inside.node) (λ q at. got (bin cond said.hypothesis q) at) ≡ got (bin cond said.hypothesis after_inside.q) after_inside.at =
          then_is (concluded (said.hypothesis ∷ base_of fs base b) said.inside.node) (λ q at. got (bin cond said.hypothesis q) at) after_inside.q after_inside.at after_inside.is in
          let M : Meets u₂ fs n used c.nodes next (Ok (record { conclusion = f.at; next = w.next; size = f.size })) (got (bin cond said.hypothesis after_inside.q) after_inside.at) = (after_inside.place, D) in
          let M₁ = subst (λ (x : Got Form). Meets u₂ fs n used c.nodes next (Ok (record { conclusion = f.at; next = w.next; size = f.size })) x) (sym g) M in
          subst (λ (x : Counted). Meets u₂ fs n used c.nodes next (Ok (record { conclusion = f.at; next = w.next; size = f.size })) (concluded (base_of fs base b) x.node)) (sym said.is) M₁

  pub hypothesis_fits : Awaits (under_at d s a) t base names n b (d + 1) → (p < 16384) × (b < length base)
  hypothesis_fits A =
      let low = hypothesis_low A.trees A.listing A.setting A.used A.counted A.next A.was_read A.room in
      let z = inside_counts A.trees A.listing A.setting A.used A.counted A.next A.was_read A.room in
      let m = A.room.small in
      let k = A.setting.stack in
      (omega arith, omega arith)

  pub walk_inside : Awaits (under_at d s a) t base names n b (d + 1) → (base₁ : List ℕ) → base₁ ≡ set base b p → Awaits (node_at d s h) t base₁ names n (b + 1) d
  walk_inside A base₁ e =
      let r = under_read d s A.listing A.used a A.counted A.next A.was_read in
      rw e
      (record {
        trees = A.trees;
        listing = A.listing;
        setting = inside_setting A.trees A.listing A.setting A.used A.counted A.next A.was_read A.room;
        used = A.used + 1;
        counted = r.inside;
        next = A.next;
        was_read = inside_read A.trees A.listing A.setting A.used A.counted A.next A.was_read A.room;
        room = inside_room A.trees A.listing A.setting A.used A.counted A.next A.was_read A.room;
      })

  pub under_refused : (base₁ u base₂ : List ℕ) (x : Refusal) → base₁ ≡ set base b p → Walks (node_at d s h) t base₁ names n (b + 1) d u base₂ (Err x) → Walks (under_at d s a) t base names n b (d + 1) u base₂ (Err x)
  unfolding concluded
  under_refused base₁ u base₂ x f W₁ =
      let W = rw f at W₁ in
      record {
        kept = kept_below base base₂ b p W.kept;
        meets = λ fs ps S used c next e room.
            let r = under_read d s ps used a c next e in
            rw r.is
            (refused_then u fs n (used + 1) r.inside.nodes next used r.inside.nodes next x (concluded (r.hypothesis ∷ base_of fs base b) r.inside.node)
            (λ q at. got (bin cond r.hypothesis q) at) (inside_meets fs ps S used c next e room u base₂ (Err x) W));
      }

  module _ (base₁ u base₂ : List ℕ) (w : Reached) (f : base₁ ≡ set base b p) (W₁ : Walks (node_at d s h) t base₁ names n (b + 1) d u base₂ (Ok w)) (lu : length u ≡ length t) where
    W : Walks (node_at d s h) t (set base b p) names n (b + 1) d u base₂ (Ok w)
    W = rw f at W₁

    pub conditional_fits : Awaits (under_at d s a) t base names n b (d + 1) → (w.size < length u) × (p < 16384) × (w.conclusion < 16384)
    conditional_fits A =
        let g = inside_fits A.trees A.listing A.setting A.used A.counted A.next A.was_read A.room u base₂ w W lu in
        let D = after_inside A.trees A.listing A.setting A.used A.counted A.next A.was_read A.room u base₂ w W lu in
        let low = D.derived.low in
        let x = hypothesis_fits A in
        (omega arith, omega arith, omega arith)

    pub under_concluded : (u₂ : List ℕ) (r : Formed) → Interned (code (bin_r cond p w.conclusion)) w.size u u₂ r → Walks (under_at d s a) t base names n b (d + 1) u₂ base₂ (Ok (record { conclusion = r.at; next = w.next; size = r.size }))
    under_concluded u₂ r i =
        record {
          kept = kept_below base base₂ b p W.kept;
          meets = λ fs ps S used c next e room. under_meets fs ps S used c next e room u base₂ w W lu u₂ r i;
        }

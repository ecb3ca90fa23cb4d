-- One proof, then another that sees its conclusion.
use Prim.Native.Nat.{ℕ, ◌+◌, ◌≤◌, ◌<◌}
use mathlib.Core.Path.{◌≡◌, ap, subst, ◌∙◌}
use mathlib.Core.List.{List, ◌∷◌, ◌++◌}
use native.Mathlib.Omega.{arith}
use lib.ListN.{length, set}
use Rattle.language.specs.Form.{Form}
use Rattle.language.specs.Numbers.{got, then}
use Rattle.language.specs.Check.{Counted, concluded}
use Rattle.rules.specs.Base.{base_of}
use Rattle.std.specs.Prelude.{Result, Ok, Err}
use Rattle.language.specs.declared.refusal.Refusal.{Refusal}
use Rattle.checker.specs.Walk.{node_at, two_at, Setting, Room, Awaits, Meets, Walks, Reached}
use Rattle.checker.proofs.Nodes.{Two, two_read, node_counts}
use Rattle.checker.proofs.Stacks.{pushed, pushed_base, more_words, old_trees}
use Rattle.checker.proofs.Meetings.{After, after_walk, kept_below, meets_more, refused_then, setting_less, then_is}

-- one proof, then another
module _ (t base names s : List ℕ) (n b d a : ℕ) where
  module _ (fs ps : List Form) (S : Setting t base names n b (d + 1) fs ps) (used : ℕ) (c : Counted) (next : ℕ) (e : two_at d s a ps used ≡ got c next) (room : Room t n used c.nodes) where
    abbrev read : Two d s ps used a c next
    read = two_read d s ps used a c next e

    counts : c.nodes ≡ read.other.nodes
    counts = ap (λ (u : Counted). u.nodes) read.is

    first_setting : Setting t base names n b d fs ps
    first_setting = setting_less t base names n b (d + 1) d fs ps (omega arith) S

    first_room : Room t n (used + 1) read.one.nodes
    first_room =
        let z = counts in
        let y = node_counts d s ps read.one.nodes read.place read.other next read.second in
        let l = room.long in
        let m = room.small in
        record { long = omega arith; small = omega arith }

    -- after the first
    module _ (u base₁ : List ℕ) (w : Reached) (W : Walks (node_at d s a) t base names n b d u base₁ (Ok w)) (lu : length u ≡ length t) (lb : length base₁ ≡ length base) where
      after_first : After u fs n (used + 1) read.one.nodes read.place w (concluded (base_of fs base b) read.one.node)
      after_first =
          after_walk u fs n (used + 1) read.one.nodes read.place w (concluded (base_of fs base b) read.one.node)
          (W.meets fs ps first_setting (used + 1) read.one read.place read.first first_room)

      fits : (n ≤ length t) × (w.size ≤ length u) × (w.size ≤ 16384)
      fits =
          let z = counts in
          let x = node_counts d s ps (used + 1) a read.one read.place read.first in
          let y = node_counts d s ps read.one.nodes read.place read.other next read.second in
          let paid = after_first.derived.paid in
          let l = room.long in
          let h = room.small in
          (omega arith, omega arith, omega arith)

      more : n ≤ w.size
      more = let f = fits in more_words t u n w.size fs after_first.derived.more S.table after_first.derived.table f.0 f.1

      second_setting : Setting u (set base₁ b w.conclusion) names w.size (b + 1) d (fs ++ after_first.derived.more) ps
      second_setting =
          let f = fits in
          pushed t base names n b d fs ps S u base₁ w.size w.conclusion (fs ++ after_first.derived.more) after_first.derived.table more
          (old_trees t u n w.size fs after_first.derived.more S.table after_first.derived.table f.0 f.1) after_first.derived.low W.kept lb

      second_base : base_of (fs ++ after_first.derived.more) (set base₁ b w.conclusion) (b + 1) ≡ after_first.q ∷ base_of fs base b
      second_base =
          let f = fits in
          pushed_base t base names n b d fs ps S u base₁ w.size w.conclusion (fs ++ after_first.derived.more) after_first.derived.table more
          (old_trees t u n w.size fs after_first.derived.more S.table after_first.derived.table f.0 f.1) after_first.derived.low W.kept lb after_first.q after_first.derived.is

      second_room : Room u w.size read.one.nodes read.other.nodes
      second_room =
          let z = counts in
          let paid = after_first.derived.paid in
          let l = room.long in
          let h = room.small in
          record { long = omega arith; small = omega arith }

      second_read : node_at d s w.next ps read.one.nodes ≡ got read.other next
      second_read = rw after_first.place read.second

      two_meets : (u₂ base₂ : List ℕ) (r : Result Reached Refusal) → Walks (node_at d s w.next) u (set base₁ b w.conclusion) names w.size (b + 1) d u₂ base₂ r → Meets u₂ fs n used c.nodes next r (concluded (base_of fs base b) c.node)
      unfolding concluded then
      two_meets u₂ base₂ r W₂ =
          let M = W₂.meets (fs ++ after_first.derived.more) ps second_setting read.one.nodes read.other next second_read second_room in
          let M₁ = subst (λ (β : List Form). Meets u₂ (fs ++ after_first.derived.more) w.size read.one.nodes read.other.nodes next r (concluded β read.other.node)) second_base M in
          let paid = after_first.derived.paid in
          let M₂ = meets_more u₂ fs after_first.derived.more n w.size used read.one.nodes read.other.nodes next r (concluded (after_first.q ∷ base_of fs base b) read.other.node) (omega arith) M₁ in
          let g : then (concluded (base_of fs base b) read.one.node) (λ q at. concluded (q ∷ base_of fs base b) read.other.node) ≡ concluded (after_first.q ∷ base_of fs base b) read.other.node =
          then_is (concluded (base_of fs base b) read.one.node) (λ q at. concluded (q ∷ base_of fs base b) read.other.node) after_first.q after_first.at after_first.is in
          rw (read.is, g) M₂

  -- the first may be walked
  pub walk_first : Awaits (two_at d s a) t base names n b (d + 1) → Awaits (node_at d s a) t base names n b d
  walk_first A =
      let r = two_read d s A.listing A.used a A.counted A.next A.was_read in
      record {
        trees = A.trees;
        listing = A.listing;
        setting = first_setting A.trees A.listing A.setting A.used A.counted A.next A.was_read A.room;
        used = A.used + 1;
        counted = r.one;
        next = r.place;
        was_read = r.first;
        room = first_room A.trees A.listing A.setting A.used A.counted A.next A.was_read A.room;
      }

  -- where the first is refused, so are both
  pub two_refused : (u base₁ : List ℕ) (x : Refusal) → Walks (node_at d s a) t base names n b d u base₁ (Err x) → Walks (two_at d s a) t base names n b (d + 1) u base₁ (Err x)
  unfolding concluded
  two_refused u base₁ x W =
      record {
        kept = W.kept;
        meets = λ fs ps S used c next e room.
            let r = two_read d s ps used a c next e in
            let M = W.meets fs ps (first_setting fs ps S used c next e room) (used + 1) r.one r.place r.first (first_room fs ps S used c next e room) in
            rw r.is
            (refused_then u fs n (used + 1) r.one.nodes r.place used r.other.nodes next x (concluded (base_of fs base b) r.one.node)
            (λ q at. concluded (q ∷ base_of fs base b) r.other.node) M);
      }

  -- after the first, its conclusion is pushed and the second may be walked
  module _ (u base₁ : List ℕ) (w : Reached) (W : Walks (node_at d s a) t base names n b d u base₁ (Ok w)) (lu : length u ≡ length t) (lb : length base₁ ≡ length base) where
    pub push_fits : Awaits (two_at d s a) t base names n b (d + 1) → w.conclusion < 16384
    push_fits A =
        let f = fits A.trees A.listing A.setting A.used A.counted A.next A.was_read A.room u base₁ w W lu lb in
        let D = after_first A.trees A.listing A.setting A.used A.counted A.next A.was_read A.room u base₁ w W lu lb in
        let low = D.derived.low in
        omega arith

    pub walk_second : Awaits (two_at d s a) t base names n b (d + 1) → (base₂ : List ℕ) → base₂ ≡ set base₁ b w.conclusion → Awaits (node_at d s w.next) u base₂ names w.size (b + 1) d
    walk_second A base₂ e =
        let r = two_read d s A.listing A.used a A.counted A.next A.was_read in
        let D = after_first A.trees A.listing A.setting A.used A.counted A.next A.was_read A.room u base₁ w W lu lb in
        rw e
        (record {
          trees = A.trees ++ D.derived.more;
          listing = A.listing;
          setting = second_setting A.trees A.listing A.setting A.used A.counted A.next A.was_read A.room u base₁ w W lu lb;
          used = r.one.nodes;
          counted = r.other;
          next = A.next;
          was_read = second_read A.trees A.listing A.setting A.used A.counted A.next A.was_read A.room u base₁ w W lu lb;
          room = second_room A.trees A.listing A.setting A.used A.counted A.next A.was_read A.room u base₁ w W lu lb;
        })

    pub two_concluded : (base₂ u₂ base₃ : List ℕ) (r : Result Reached Refusal) → base₂ ≡ set base₁ b w.conclusion → Walks (node_at d s w.next) u base₂ names w.size (b + 1) d u₂ base₃ r → Walks (two_at d s a) t base names n b (d + 1) u₂ base₃ r
    two_concluded base₂ u₂ base₃ r e W₂ =
        let W₃ = rw e at W₂ in
        record {
          kept = kept_below base₁ base₃ b w.conclusion W₃.kept ∙ W.kept;
          meets = λ fs ps S used c next f room. two_meets fs ps S used c next f room u base₁ w W lu lb u₂ base₃ r W₃;
        }

-- A node that was read: its kind, what stands after it, and that it counts.
use Prim.Native.Nat.{ℕ, zero, suc, ◌+◌, ◌-◌, ◌≤◌, ◌<◌}
use mathlib.Core.Path.{◌≡◌, sym, ap, ◌∙◌}
use mathlib.Core.List.{List, []}
use native.Mathlib.Omega.{arith}
use native.Mathlib.Numerals.{sub-one}
use lib.ListN.{get_or}
use lib.Dec.{ltb}
use borrow.Author.Tests.{ltb-true}
use Rattle.language.specs.Refusals.{certificate_over}
use Rattle.language.specs.Form.{Form}
use Rattle.language.specs.Rules.{arity}
use Rattle.language.specs.Numbers.{got, no, check, from, times}
use Rattle.language.specs.Read.{reference}
use Rattle.language.specs.Check.{rule_n, seq_n, under_n, Counted, ReadNode, rule_node, inner, node}
use Rattle.numbers.proofs.Bounds.{then_got, not_got, check_got, from_got}
use Rattle.checker.specs.Places.{value_at, next_at}
use Rattle.checker.specs.Walk.{rest_by, rule_at, two_at, under_at}
use Rattle.checker.proofs.Readings.{got_both, number_got}

-- a node that was read has nesting left, a kind, and a rest
pub record Opened (d : ℕ) (s : List ℕ) (ps : List Form) (used at : ℕ) (c : Counted) (next : ℕ) : Type 0 where
  pub deep : 0 < d
  pub limit : used < 7168
  pub kind : value_at s at ≤ 2
  pub rest : rest_by (node (d - 1) s ps) s ps used at (value_at s at) (next_at s at) ≡ got c next

module _ (s : List ℕ) (ps : List Form) (used at : ℕ) (c : Counted) (next : ℕ) where
  pub opened : (d : ℕ) → node d s ps used at ≡ got c next → Opened d s ps used at c next
  unfolding node
  opened zero e =
      let h = then_got (from 0 2 s at) (λ kind a. no certificate_over at) c next e in
      not_got certificate_over at c next h.rest
  opened (suc d) e =
      let h = then_got (from 0 2 s at) (λ kind a. check (ltb used 7168) certificate_over at (rest_by (node d s ps) s ps used at kind a)) c next e in
      let r = from_got s at h.value h.place 0 2 h.first in
      let v = number_got s at h.value h.place r.read in
      let top = r.to_top in
      let w = check_got (ltb used 7168) certificate_over at (rest_by (node d s ps) s ps used at h.value h.place) c next h.rest in
      record { deep = omega arith; limit = ltb-true used 7168 w.held; kind = omega (arith, v.0); rest = rw (sub-one, v.0, v.1) w.read }

  -- the rest by its kind
  module _ (d v a : ℕ) (ev : (v ≡ value_at s at) × (a ≡ next_at s at)) (e : node d s ps used at ≡ got c next) where
    rest_as : (k : ℕ) → v ≡ k → rest_by (node (d - 1) s ps) s ps used at k a ≡ got c next
    rest_as k f = rw (← f, ev.0, ev.1) (opened d e).rest

    pub node_rule : v ≡ 0 → rule_at s at a ps used ≡ got c next
    unfolding inner
    node_rule f = rest_as 0 f

    pub node_two : v ≡ 1 → two_at (d - 1) s a ps used ≡ got c next
    unfolding inner two_at
    node_two f = rest_as 1 f

    pub node_under : (v ≡ 0 → ⊥) → (v ≡ 1 → ⊥) → under_at (d - 1) s a ps used ≡ got c next
    unfolding inner under_at
    node_under f g =
        let k = (opened d e).kind in
        let z : v ≡ 2 = omega (arith, ev.0) in
        rest_as 2 z

    pub node_deep : 0 < d
    node_deep = (opened d e).deep

-- a rule node: its rule, its arguments, and one node
pub record Ruled (s : List ℕ) (ps : List Form) (used at a : ℕ) (c : Counted) (next : ℕ) : Type 0 where
  pub rule : ℕ
  pub place : ℕ
  pub arguments : List Form
  pub named : (value_at s a ≡ rule) × (next_at s a ≡ place)
  pub read : times (get_or arity rule 0) (λ acc. reference s ps) [] place ≡ got arguments next
  pub is : c ≡ record { node = rule_n at rule arguments; nodes = used + 1 }

pub rule_read : (s : List ℕ) (ps : List Form) (used at a : ℕ) (c : Counted) (next : ℕ) → rule_at s at a ps used ≡ got c next → Ruled s ps used at a c next
unfolding rule_node
rule_read s ps used at a c next e =
    let f = then_got (from 0 15 s a) _ c next e in
    let r = f.value in
    let g = then_got (times (get_or arity r 0) (λ acc. reference s ps) [] f.place) _ c next f.rest in
    let h = got_both _ c g.place next g.rest in
    record {
      rule = r;
      place = f.place;
      arguments = g.value;
      named = number_got s a r f.place (from_got s a r f.place 0 15 f.first).read;
      read = g.first ∙ ap (got g.value) h.1;
      is = sym h.0;
    }

-- two nodes, one after the other
pub record Two (d : ℕ) (s : List ℕ) (ps : List Form) (used a : ℕ) (c : Counted) (next : ℕ) : Type 0 where
  pub one : Counted
  pub place : ℕ
  pub other : Counted
  pub first : node d s ps (used + 1) a ≡ got one place
  pub second : node d s ps one.nodes place ≡ got other next
  pub is : c ≡ record { node = seq_n one.node other.node; nodes = other.nodes }

pub two_read : (d : ℕ) (s : List ℕ) (ps : List Form) (used a : ℕ) (c : Counted) (next : ℕ) → two_at d s a ps used ≡ got c next → Two d s ps used a c next
unfolding two_at
two_read d s ps used a c next e =
    let f = then_got (node d s ps (used + 1) a) _ c next e in
    let g = then_got (node d s ps f.value.nodes f.place) _ c next f.rest in
    let h = got_both _ c g.place next g.rest in
    record { one = f.value; place = f.place; other = g.value; first = f.first; second = g.first ∙ ap (got g.value) h.1; is = sym h.0 }

-- a hypothesis and a node
pub record Under (d : ℕ) (s : List ℕ) (ps : List Form) (used a : ℕ) (c : Counted) (next : ℕ) : Type 0 where
  pub hypothesis : Form
  pub place : ℕ
  pub inside : Counted
  pub named : reference s ps a ≡ got hypothesis place
  pub read : node d s ps (used + 1) place ≡ got inside next
  pub is : c ≡ record { node = under_n hypothesis inside.node; nodes = inside.nodes }

pub under_read : (d : ℕ) (s : List ℕ) (ps : List Form) (used a : ℕ) (c : Counted) (next : ℕ) → under_at d s a ps used ≡ got c next → Under d s ps used a c next
unfolding under_at
under_read d s ps used a c next e =
    let f = then_got (reference s ps a) _ c next e in
    let g = then_got (node d s ps (used + 1) f.place) _ c next f.rest in
    let h = got_both _ c g.place next g.rest in
    record { hypothesis = f.value; place = f.place; inside = g.value; named = f.first; read = g.first ∙ ap (got g.value) h.1; is = sym h.0 }

-- a node that was read is counted
abbrev pub Counts : ReadNode → Type 0
Counts R = (used at : ℕ) (c : Counted) (next : ℕ) → R used at ≡ got c next → used < c.nodes

rest_counts : (d : ℕ) (s : List ℕ) (ps : List Form) → Counts (node d s ps) → (used at : ℕ) (c : Counted) (next k a : ℕ) → k ≤ 2 → rest_by (node d s ps) s ps used at k a ≡ got c next → used < c.nodes
unfolding inner two_at under_at
rest_counts d s ps counts used at c next zero a h f =
    let r = rule_read s ps used at a c next f in
    let z = ap (λ (u : Counted). u.nodes) r.is in
    omega arith
rest_counts d s ps counts used at c next (suc zero) a h f =
    let r = two_read d s ps used a c next f in
    let x = counts (used + 1) a r.one r.place r.first in
    let y = counts r.one.nodes r.place r.other next r.second in
    let z = ap (λ (u : Counted). u.nodes) r.is in
    omega arith
rest_counts d s ps counts used at c next (suc (suc zero)) a h f =
    let r = under_read d s ps used a c next f in
    let x = counts (used + 1) r.place r.inside next r.read in
    let z = ap (λ (u : Counted). u.nodes) r.is in
    omega arith
rest_counts d s ps counts used at c next (suc (suc (suc k))) a h f = absurd (omega arith)

pub node_counts : (d : ℕ) (s : List ℕ) (ps : List Form) → Counts (node d s ps)
node_counts zero s ps used at c next e = absurd (let h = (opened s ps used at c next 0 e).deep in omega arith)
node_counts (suc d) s ps used at c next e =
    let o = opened s ps used at c next (suc d) e in
    rest_counts d s ps (node_counts d s ps) used at c next (value_at s at) (next_at s at) o.kind (rw sub-one at o.rest)

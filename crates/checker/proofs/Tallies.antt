-- The first reading of a proof against the definition's: each return is the case that the tests and readings on the way leave.
use Prim.Native.Nat.{ℕ, zero, suc, ◌+◌, ◌-◌, ◌≤◌, ◌<◌}
use mathlib.Core.Path.{◌≡◌, refl, ap, ◌∙◌}
use mathlib.Core.List.{List, [], ◌∷◌, ◌++◌}
use native.Mathlib.Omega.{arith}
use Rattle.std.specs.Prelude.{Result, Ok, Err}
use lib.ListN.{length, get_or, replicate, length-replicate}
use borrow.Author.Tests.{lt-ltb, le-ltb}
use Rattle.language.specs.Refusals.{certificate_over}
use Rattle.language.specs.Form.{Form, verum}
use Rattle.language.specs.Rules.{arity}
use Rattle.language.specs.Numbers.{Got, got, no, then, check, from, below, times}
use Rattle.language.specs.Read.{reference}
use Rattle.language.specs.Plain.{inferences}
use Rattle.language.specs.Check.{plain, Counted, under_n, ReadNode, rule_node, inner, node}
use Rattle.records.specs.Answers.{closed}
use Rattle.checker.specs.declared.reading.NodesRead.{NodesRead}
use Rattle.checker.specs.Places.{value_at, next_at}
use Rattle.checker.specs.Walk.{rest_by, two_at, under_at}
use Rattle.checker.specs.Tally.{inferred, tallied}
use Rattle.checker.proofs.Nodes.{rule_read, two_read, under_read, opened}

-- no refusal is a reading
never : {A : Type 0} → ◌≡◌ {A = ℕ} 0 1 → A
never e = absurd (omega arith)

-- what a tally tells of the reading behind it
pub record Tally (g : Got Counted) (r : NodesRead) : Type 0 where
  pub counted : Counted
  pub is : g ≡ got counted r.next
  pub nodes : counted.nodes ≡ r.nodes
  pub inferred : inferences (plain counted.node) ≡ r.rules.0

pub tally_read : (g : Got Counted) (r : NodesRead) → Ok r ≡ tallied g → Tally g r
unfolding tallied
tally_read (got c m) r e =
    let z : ◌≡◌ {A = NodesRead} (record { nodes = c.nodes; rules = inferred c.node; next = m }) r = cc in
    record {
      counted = c;
      is = ap (λ (x : NodesRead). got c x.next) z;
      nodes = ap (λ (x : NodesRead). x.nodes) z;
      inferred = ap (λ (x : NodesRead). x.rules.0) z;
    }
tally_read (no w p) r e = never cc

-- one refusal
pub err_both : {A : Type 0} (w p w' p' : ℕ) → ◌≡◌ {A = Result A (ℕ × ℕ)} (Err (w, p)) (Err (w', p')) → (w ≡ w') × (p ≡ p')
err_both w p w' p' e =
    let f : (w, p) ≡ (w', p') = cc in
    (ap (λ (x : ℕ × ℕ). x.0) f, ap (λ (x : ℕ × ℕ). x.1) f)

pub tally_refused : (g : Got Counted) (w p : ℕ) → Err (w, p) ≡ tallied g → g ≡ no w p
unfolding tallied
tally_refused (got c m) w p e = never cc
tally_refused (no w' p') w p e = let h = err_both w p w' p' e in rw (h.0, h.1)

-- the same of references
referred_read : (g : Got (List Form)) (next : ℕ) → got tt next ≡ closed g → (xs : List Form) × (g ≡ got xs next)
unfolding closed
referred_read (got xs m) next e = let z : m ≡ next = cc in (xs, ap (got xs) z)
referred_read (no w p) next e = never cc

referred_refused : (g : Got (List Form)) (w p : ℕ) → no w p ≡ closed g → g ≡ no w p
unfolding closed
referred_refused (got xs m) w p e = never cc
referred_refused (no w' p') w p e = let a : w' ≡ w = cc in let b : p' ≡ p = cc in rw (a, b)

-- references in a row: what is left after i of them, from `next` on
module _ (s : List ℕ) (count k at : ℕ) where
  abbrev refs : List Form → List Form → ℕ → Got Form
  refs ps acc = reference s ps

  pub record Referring (i next : ℕ) : Type 0 where
    pub within : i ≤ k
    pub same : (ps : List Form) → length ps ≡ count → (acc : List Form) × (times k (refs ps) [] at ≡ times (k - i) (refs ps) acc next)

  pub referring_none : Referring 0 at
  referring_none = record { within = omega arith; same = λ ps e. ([], let z : k - 0 ≡ k = omega arith in rw z) }

  module _ (i next : ℕ) (R : Referring i next) where
    module _ (h : i < k) where
      step : (ps acc : List Form) → times (k - i) (refs ps) acc next ≡ then (reference s ps next) (λ a m. times (k - (i + 1)) (refs ps) (acc ++ (a ∷ [])) m)
      unfolding times
      step ps acc = let z : k - i ≡ suc (k - (i + 1)) = omega arith in rw z

      pub referring_more : (v end : ℕ) → below count s next ≡ got v end → Referring (i + 1) end
      unfolding reference then
      referring_more v end e =
          record {
            within = omega arith;
            same = λ ps l.
                let w = R.same ps l in
                let f : below (length ps) s next ≡ got v end = rw l e in
                (w.0 ++ (get_or ps v verum ∷ []), w.1 ∙ step ps w.0 ∙ rw f);
          }

      pub referring_refused : (w p : ℕ) → below count s next ≡ no w p → (ps : List Form) → length ps ≡ count → no w p ≡ closed (times k (refs ps) [] at)
      unfolding reference then closed
      referring_refused w p e ps l =
          let x = R.same ps l in
          let f : below (length ps) s next ≡ no w p = rw l e in
          let g : times k (refs ps) [] at ≡ no w p = x.1 ∙ step ps x.0 ∙ rw f in
          rw g

    pub referring_all : k ≤ i → (ps : List Form) → length ps ≡ count → got tt next ≡ closed (times k (refs ps) [] at)
    unfolding times closed
    referring_all h ps l =
        let x = R.same ps l in
        let z : k - i ≡ 0 = omega arith in
        let g : times k (refs ps) [] at ≡ got x.0 next = x.1 ∙ rw z in
        rw g

-- a rule and its arguments
module _ (s : List ℕ) (used a : ℕ) where
  pub rule_refused : (w p : ℕ) → from 0 15 s a ≡ no w p → (ps : List Form) (at : ℕ) → Err (w, p) ≡ tallied (rule_node s ps used at a)
  unfolding rule_node then tallied
  rule_refused w p e ps at = rw e

  module _ (rule next : ℕ) (e : from 0 15 s a ≡ got rule next) (k : ℕ) (ek : k ≡ get_or arity rule 0) (ps : List Form) (at : ℕ) where
    pub arguments_refused : (w p : ℕ) → no w p ≡ closed (times k (λ acc. reference s ps) [] next) → Err (w, p) ≡ tallied (rule_node s ps used at a)
    unfolding rule_node then tallied
    arguments_refused w p f =
        let g = referred_refused (times k (λ acc. reference s ps) [] next) w p f in
        let h = rw ek at g in
        rw (e, h)

    pub rule_tallied : (end : ℕ) → got tt end ≡ closed (times k (λ acc. reference s ps) [] next) → Ok (record { nodes = used + 1; rules = record { 0 = 1 }; next = end }) ≡ tallied (rule_node s ps used at a)
    unfolding rule_node then tallied inferences plain
    rule_tallied end f =
        let g = referred_read (times k (λ acc. reference s ps) [] next) end f in
        let h : times (get_or arity rule 0) (λ acc. reference s ps) [] next ≡ got g.0 end = rw (← ek) g.1 in
        rw (e, h)

-- a node: its kind, its limits, its rest
module _ (s : List ℕ) (ps : List Form) (used at : ℕ) where
  pub kind_refused : (d w p : ℕ) → from 0 2 s at ≡ no w p → Err (w, p) ≡ tallied (node d s ps used at)
  unfolding node then tallied
  kind_refused zero w p e = rw e
  kind_refused (suc d) w p e = rw e

  module _ (kind a : ℕ) (e : from 0 2 s at ≡ got kind a) where
    pub rest_tallied : (d : ℕ) (r : Result NodesRead (ℕ × ℕ)) → 0 < d → used < 7168 → r ≡ tallied (rest_by (node (d - 1) s ps) s ps used at kind a) → r ≡ tallied (node d s ps used at)
    unfolding node then check
    rest_tallied zero r h g f = absurd (omega arith)
    rest_tallied (suc d) r h g f =
        let z : suc d - 1 ≡ d = omega arith in
        let x : r ≡ tallied (rest_by (node d s ps) s ps used at kind a) = f ∙ ap (λ (m : ℕ). tallied (rest_by (node m s ps) s ps used at kind a)) z in
        rw (e, lt-ltb used 7168 g) x

    pub no_nesting : (d : ℕ) → d ≤ 0 → Err (certificate_over, at) ≡ tallied (node d s ps used at)
    unfolding node then tallied
    no_nesting zero h = rw e
    no_nesting (suc d) h = absurd (omega arith)

    pub no_nodes : (d : ℕ) → 7168 ≤ used → Err (certificate_over, at) ≡ tallied (node d s ps used at)
    unfolding node then check tallied
    no_nodes zero h = rw e
    no_nodes (suc d) h = rw (e, le-ltb used 7168 h)

-- the rest by its kind
module _ (R : ReadNode) (s : List ℕ) (ps : List Form) (used at kind a : ℕ) (r : Result NodesRead (ℕ × ℕ)) where
  pub rest_rule : kind ≡ 0 → r ≡ tallied (rule_node s ps used at a) → r ≡ tallied (rest_by R s ps used at kind a)
  unfolding inner
  rest_rule e f = rw e f

module _ (d : ℕ) (s : List ℕ) (ps : List Form) (used at kind a : ℕ) (r : Result NodesRead (ℕ × ℕ)) where
  pub rest_two : kind ≡ 1 → r ≡ tallied (two_at d s a ps used) → r ≡ tallied (rest_by (node d s ps) s ps used at kind a)
  unfolding inner two_at
  rest_two e f = rw e f

  pub rest_under : kind ≡ 2 → r ≡ tallied (under_at d s a ps used) → r ≡ tallied (rest_by (node d s ps) s ps used at kind a)
  unfolding inner under_at
  rest_under e f = rw e f

-- two nodes
module _ (d : ℕ) (s : List ℕ) (ps : List Form) (used a : ℕ) where
  pub first_refused : (w p : ℕ) → Err (w, p) ≡ tallied (node d s ps (used + 1) a) → Err (w, p) ≡ tallied (two_at d s a ps used)
  unfolding two_at then tallied
  first_refused w p f = rw (tally_refused (node d s ps (used + 1) a) w p f)

  module _ (one : NodesRead) (f : Ok one ≡ tallied (node d s ps (used + 1) a)) where
    pub second_refused : (w p : ℕ) → Err (w, p) ≡ tallied (node d s ps one.nodes one.next) → Err (w, p) ≡ tallied (two_at d s a ps used)
    unfolding two_at then tallied
    second_refused w p g =
        let x = tally_read (node d s ps (used + 1) a) one f in
        let y = tally_refused (node d s ps one.nodes one.next) w p g in
        rw (x.is, x.nodes, y)

    pub two_tallied : (two : NodesRead) → Ok two ≡ tallied (node d s ps one.nodes one.next) →
        Ok (record { nodes = two.nodes; rules = record { 0 = one.rules.0 + two.rules.0 }; next = two.next }) ≡ tallied (two_at d s a ps used)
    unfolding two_at then tallied inferences plain
    two_tallied two g =
        let x = tally_read (node d s ps (used + 1) a) one f in
        let y = tally_read (node d s ps one.nodes one.next) two g in
        rw (x.is, x.nodes, y.is, x.inferred, y.nodes, y.inferred)

-- a hypothesis and a node
module _ (d : ℕ) (s : List ℕ) (used a : ℕ) (ps : List Form) (count : ℕ) (l : length ps ≡ count) where
  pub hypothesis_refused : (w p : ℕ) → below count s a ≡ no w p → Err (w, p) ≡ tallied (under_at d s a ps used)
  unfolding under_at reference then tallied
  hypothesis_refused w p e =
      let f : below (length ps) s a ≡ no w p = rw l e in
      rw f

  pub under_tallied : (v next : ℕ) (r : Result NodesRead (ℕ × ℕ)) → below count s a ≡ got v next → r ≡ tallied (node d s ps (used + 1) next) → r ≡ tallied (under_at d s a ps used)
  unfolding under_at reference then tallied inferences plain
  under_tallied v next r e g =
      let f : below (length ps) s a ≡ got v next = rw l e in
      rw f (g ∙ same (node d s ps (used + 1) next))
    where
      same : (g : Got Counted) → tallied g ≡ tallied (then g (λ x. got (record { node = under_n (get_or ps v verum) x.node; nodes = x.nodes })))
      same (got c m) = refl
      same (no w p) = refl

-- a proof's rules are among its nodes, which are within their limit
pub record Within (used : ℕ) (c : Counted) : Type 0 where
  pub rules : used + inferences (plain c.node) ≤ c.nodes
  pub limit : c.nodes ≤ 7168

abbrev Limited : ReadNode → Type 0
Limited R = (used at : ℕ) (c : Counted) (next : ℕ) → R used at ≡ got c next → Within used c

rest_within : (d : ℕ) (s : List ℕ) (ps : List Form) → Limited (node d s ps) → (used at : ℕ) (c : Counted) (next k a : ℕ) → used < 7168 → k ≤ 2 → rest_by (node d s ps) s ps used at k a ≡ got c next → Within used c
unfolding inner two_at under_at inferences plain
rest_within d s ps limited used at c next zero a u h f =
    let r = rule_read s ps used at a c next f in
    rw r.is (record { rules = omega arith; limit = omega arith })
rest_within d s ps limited used at c next (suc zero) a u h f =
    let r = two_read d s ps used a c next f in
    let x = limited (used + 1) a r.one r.place r.first in
    let y = limited r.one.nodes r.place r.other next r.second in
    let x₁ = x.rules in
    let y₁ = y.rules in
    rw r.is (record { rules = omega arith; limit = y.limit })
rest_within d s ps limited used at c next (suc (suc zero)) a u h f =
    let r = under_read d s ps used a c next f in
    let x = limited (used + 1) r.place r.inside next r.read in
    let x₁ = x.rules in
    rw r.is (record { rules = omega arith; limit = x.limit })
rest_within d s ps limited used at c next (suc (suc (suc k))) a u h f = absurd (omega arith)

pub node_within : (d : ℕ) (s : List ℕ) (ps : List Form) → Limited (node d s ps)
node_within zero s ps used at c next e = absurd (let h = (opened s ps used at c next 0 e).deep in omega arith)
node_within (suc d) s ps used at c next e =
    let o = opened s ps used at c next (suc d) e in
    let z : suc d - 1 ≡ d = omega arith in
    let f : rest_by (node d s ps) s ps used at (value_at s at) (next_at s at) ≡ got c next = rw z at o.rest in
    rest_within d s ps (node_within d s ps) used at c next (value_at s at) (next_at s at) o.limit o.kind f

-- a tally over every listing of a length is one of some listing
pub rules_few : (d : ℕ) (s : List ℕ) (length_is used at : ℕ) (r : NodesRead) → ((ps : List Form) → length ps ≡ length_is → Ok r ≡ tallied (node d s ps used at)) → r.rules.0 ≤ 7168
rules_few d s n used at r h =
    let ps : List Form = replicate n verum in
    let x = tally_read (node d s ps used at) r (h ps (length-replicate n verum)) in
    let w = node_within d s ps used at x.counted r.next x.is in
    let a = w.rules in
    let b = w.limit in
    let e = x.inferred in
    omega arith

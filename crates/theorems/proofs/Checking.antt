-- The checker says that a certificate stands exactly when its bytes read and the plain rules prove what it states.
use Prim.Native.Nat.{ℕ, ◌+◌, ◌≤◌, ◌<◌}
use native.Mathlib.Omega.{arith}
use mathlib.Core.Path.{◌≡◌, refl, ap, ◌∙◌}
use mathlib.Core.List.{List, [], ◌∷◌}
use mathlib.Core.Bool.{Bool, true, false}
use lib.ListN.{length, get_or}
use lib.Dec.{ltb, eqb}
use borrow.Author.Tests.{eqb-true}
use Rattle.language.specs.Refusals.{out_of_range, bytes_after, premise_missing, certificate_over, stated_differs}
use Rattle.language.specs.Form.{Form, verum, falsum, same, members}
use Rattle.language.specs.Rules.{arity, Ruled, gives, misshapen, ruled}
use Rattle.language.specs.Numbers.{Got, got, no, pick, from, times}
use Rattle.language.specs.Read.{proposition, reference}
use Rattle.language.specs.Plain.{Plain, infer, seq, under, Proves, by_rule, in_turn, assuming, inferences}
use Rattle.language.specs.Check.{Node, rule_n, seq_n, under_n, plain, Counted, rule_node, ReadNode, inner, node, Certificate, certificate_at}
use Rattle.language.specs.Check.{own, ruled_in, concluded, stands, falls, stated, checked, against, verdict}
use Rattle.theorems.specs.Demands.{ChecksExactly, StandsTrue}
use Rattle.theorems.proofs.Lists.{clash, get_d_within}
use Rattle.theorems.proofs.Members.{same_is, same_self}
use Rattle.theorems.proofs.Soundness.{proves_sound}
use Rattle.theorems.proofs.Reading.{Ensures, given, refused, ensured, ensure, ensures_map, ensures_check, ensures_then, whatever, ensures_from, ensures_below, ensures_times, got_then, got_check}

-- each rule is one of the sixteen, and has its number of arguments
abbrev pub Regular : Plain → Type 0
Regular (infer r ps) = (r ≤ 15) × (length ps ≡ get_or arity r 0)
Regular (seq a b) = Regular a × Regular b
Regular (under p a) = Regular a

-- a proof that is read is regular
abbrev RegularNode : Counted → ℕ → Type 0
RegularNode x end = Regular (plain x.node)

module _ (s : List ℕ) (ps : List Form) where
  inner_regular : (R : ReadNode) → ((u a : ℕ) → Ensures RegularNode (R u a)) →
      (used at kind u a : ℕ) → Ensures RegularNode (get_or (inner R s ps used at) kind (λ u b. no out_of_range at) u a)
  unfolding inner rule_node plain
  inner_regular R reg used at ℕ.zero u a =
      ensures_then (ensures_from 0 15 s a) λ r b h.
      ensures_then (ensures_times (λ xs. Unit {0}) (λ acc. reference s ps) (λ acc c k. ensure (reference s ps c) (λ p d e. tt)) (get_or arity r 0) [] b tt)
      λ xs c l. given (h.1, omega (arith, l.1))
  inner_regular R reg used at (ℕ.suc ℕ.zero) u a =
      ensures_then (reg (used + 1) a) λ x b l. ensures_then (reg x.nodes b) λ y c r. given (l, r)
  inner_regular R reg used at (ℕ.suc (ℕ.suc ℕ.zero)) u a =
      whatever (reference s ps a) λ p b. ensures_then (reg (used + 1) b) λ x c l. given l
  inner_regular R reg used at (ℕ.suc (ℕ.suc (ℕ.suc k))) u a = refused

  node_regular : (n used at : ℕ) → Ensures RegularNode (node n s ps used at)
  unfolding node
  node_regular ℕ.zero used at = whatever (from 0 2 s at) λ kind a. refused
  node_regular (ℕ.suc n) used at =
      whatever (from 0 2 s at) λ kind a. ensures_check (ltb used 7168) certificate_over at λ t.
      inner_regular (node n s ps) (node_regular n) used at kind used a

-- a certificate that is read ends with its bytes, its proof is regular, and its conclusion is listed
pub certificate_read : (bytes : List ℕ) → Ensures (λ c end. (end ≡ length bytes) × Regular (plain c.proof) × (c.conclusion < length c.forms)) (certificate_at bytes)
unfolding certificate_at
certificate_read bytes =
    whatever (from 0 4608 bytes 0) λ n a.
    whatever (times n (proposition bytes) [] a) λ ps b.
    ensures_then (node_regular bytes ps 512 0 b) λ x c reg.
    ensures_then (ensures_below (length ps) bytes c) λ k end low.
    ensures_check (eqb end (length bytes)) bytes_after end λ t.
    given (eqb-true end (length bytes) t, reg, low)

-- what is concluded is proved
pub concluded_proves : (β : List Form) (N : Node) → Regular (plain N) → Ensures (λ q at. Proves β (plain N) q) (concluded β N)
unfolding concluded plain
concluded_proves β (rule_n at r ps) reg = by_shape (ruled r ps) refl
  where
    by_shape : (x : Ruled) → ruled r ps ≡ x → Ensures (λ q at. Proves β (infer r ps) q) (ruled_in x β at)
    by_shape misshapen w = refused
    by_shape (gives premises q) w = ensures_check (members premises β) premise_missing at λ t. given (by_rule reg.1 w t)
concluded_proves β (seq_n a b) reg =
    ensures_then (concluded_proves β a reg.0) λ p at x.
    ensures_map (concluded_proves (p ∷ β) b reg.1) λ q end y. in_turn x y
concluded_proves β (under_n p a) reg = ensures_then (concluded_proves (p ∷ β) a reg) λ q at x. given (assuming x)

-- what is proved is concluded
pub proves_concluded : (β : List Form) (N : Node) {q : Form} → Proves β (plain N) q → (at : ℕ) × (concluded β N ≡ got q at)
unfolding concluded plain
proves_concluded β (rule_n at r ps) (by_rule l w m) = (at, rw w (got_check premise_missing at _ m))
proves_concluded β (seq_n a b) (in_turn {p = p} x y) =
    let l = proves_concluded β a x in
    let r = proves_concluded (p ∷ β) b y in
    (r.0, got_then _ l.1 ∙ r.1)
proves_concluded β (under_n p a) (assuming x) =
    let l = proves_concluded (p ∷ β) a x in
    (l.0, got_then _ l.1)

-- what the checker says of a certificate that is read
abbrev pub Says : List Form → Certificate → ℕ → ℕ → Type 0
Says β c k i = (c.conclusion ≡ k) × Proves β (plain c.proof) (get_or c.forms k falsum) × (i ≡ inferences (plain c.proof))

pub stands_says : (β : List Form) (c : Certificate) (k i : ℕ) → Regular (plain c.proof) → c.conclusion < length c.forms →
    stated c (concluded β c.proof) ≡ stands k i → Says β c k i
unfolding stated
stands_says β c k i reg low e = by_conclusion (concluded β c.proof) refl e
  where
    by_equality : (q : Form) (at : ℕ) → concluded β c.proof ≡ got q at → (t : Bool) → same q (get_or c.forms c.conclusion verum) ≡ t →
        pick t (stands c.conclusion (inferences (plain c.proof))) (falls stated_differs c.place) ≡ stands k i → Says β c k i
    by_equality q at w true t e =
        let k-is : c.conclusion ≡ k = cc in
        let q-is : q ≡ get_or c.forms k falsum = rw (← k-is) (same_is t ∙ get_d_within c.forms c.conclusion verum falsum low) in
        (k-is, rw (← q-is) (ensured (concluded_proves β c.proof reg) w), cc)
    by_equality q at w false t e = absurd (clash (cc))

    by_conclusion : (g : Got Form) → concluded β c.proof ≡ g → stated c g ≡ stands k i → Says β c k i
    by_conclusion (got q at) w e = by_equality q at w (same q (get_or c.forms c.conclusion verum)) refl e
    by_conclusion (no n p) w e = absurd (clash (cc))

pub says_stands : (β : List Form) (c : Certificate) (k i : ℕ) → c.conclusion < length c.forms → Says β c k i → stated c (concluded β c.proof) ≡ stands k i
unfolding stated pick
says_stands β c k i low (k-is, proved, i-is) =
    let q-is = get_d_within c.forms c.conclusion verum falsum low in
    rw ((proves_concluded β c.proof proved).1, q-is, k-is, same_self, i-is)

pub checks_exactly : ChecksExactly
unfolding ChecksExactly verdict against checked own
checks_exactly s bytes S end k i e =
    rw e (λ v. forth (certificate_at bytes) refl v, λ x. rw x.1 (says_stands S.base x.0 k i (ensured (certificate_read bytes) x.1).2 (x.2, x.3, x.4)))
  where
    forth : (g : Got Certificate) → certificate_at bytes ≡ g → checked S (own g) ≡ stands k i →
        (c : Certificate) × (certificate_at bytes ≡ got c (length bytes)) × (c.conclusion ≡ k)
        × Proves S.base (plain c.proof) (get_or c.forms k falsum) × (i ≡ inferences (plain c.proof))
    forth (no n p) w v = absurd (clash (cc))
    forth (got c f) w v =
        let r = ensured (certificate_read bytes) w in
        let x = stands_says S.base c k i r.1 r.2 v in
        (c, w ∙ ap (got c) r.0, x.0, x.1, x.2)

pub stands_true : StandsTrue
unfolding StandsTrue ChecksExactly
stands_true s bytes S end k i e v =
    let (c, read, is, proved, count) = (checks_exactly s bytes S end k i e).0 v in
    (c, read, λ σ. proves_sound σ proved)

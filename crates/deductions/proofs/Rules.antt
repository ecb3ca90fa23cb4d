-- A rule applied: its arguments read off their chain are the values, and what it answers is what the language infers.
use Rattle.std.specs.Prelude.{Option, Some, None, Result, Ok}
use mathlib.Core.Path.{◌≡◌, refl, sym, ap, subst, ◌∙◌}
use mathlib.Core.Bool.{Bool, true, false}
use mathlib.Core.List.{List, [], ◌∷◌, ◌++◌}
use Prim.Native.Nat.{ℕ, zero, suc, ◌+◌, ◌*◌, ◌-◌, ◌≤◌, ◌<◌}
use native.Mathlib.Omega.{arith}
use lib.ListN.{length, get_or, take, drop, take-append-drop}
use lib.Seq.{sets, length-sets, length-take-le}
use borrow.Author.Tests.{eq-eqb, ne_eqb}
use Rattle.language.specs.Refusals.{wrong_kind, wrong_count, premise_missing}
use Rattle.language.specs.declared.refusal.Refusal.{Refusal}
use Rattle.language.specs.declared.refusal.Why.{Why}
use Rattle.language.specs.Form.{Form, verum, members}
use Rattle.language.specs.Rules.{arity, Ruled, gives, misshapen, ruled}
use Rattle.language.specs.Plain.{infer}
use Rattle.language.specs.Syntax.{function, method}
use Rattle.language.specs.Values.{Val, form, con_v, rule_v, closure, Env, empty, ◌▸◌, Out, out, stop, must, as_form, as_forms, with_all, scope}
use Rattle.language.specs.Run.{Derived, derived, Deduce, inferred, applied, deduce}
use Rattle.words.proofs.Fronts.{take_front, length_front}
use Rattle.forms.specs.declared.Formed.{Formed}
use Rattle.forms.specs.Table.{tree, Table}
use Rattle.forms.proofs.Trees.{truth_at}
use Rattle.bindings.specs.declared.Value.{Value}
use Rattle.bindings.specs.declared.Value.TheVariants.{Prop, Rule}
use Rattle.bindings.specs.Numbers.{value_at, next_at}
use Rattle.bindings.specs.Stands.{Is, Stands, Chain}
use Rattle.bindings.proofs.Tags.{tag, held}
use Rattle.tokens.specs.Tells.{Names, Tells}
use Rattle.tokens.proofs.Growth.{names_more}
use Rattle.rules.specs.Base.{base_of}
use Rattle.rules.specs.Applied.{Ready as RuleReady, whether, outcome, Comes}
use Rattle.expressions.specs.Machine.{counters, Shared}
use Rattle.expressions.specs.Asked.{Text}
use Rattle.deductions.specs.Machine.{Progress, M, mk, progress, remaining, bound, refused, out_of, taken_by, taken_at, Long, inferred_of, Inferred}
use Rattle.rules.specs.Base.{Alike}
use Rattle.deductions.specs.Asked.{Setting, Applicable}
use Rattle.deductions.specs.Meets.{Meets, Applying}
use Rattle.deductions.proofs.Tokens.{take_run}
use Rattle.theorems.proofs.Arguments.{three, ruled_at}
use Rattle.rules.proofs.Sets.{members_alike}
use Rattle.deductions.proofs.Growth.{used}

-- a chain of so many values

Has : Env → ℕ → Type 0
Has e zero = Unit {0}
Has empty (suc n) = ⊥
Has (e ▸ v) (suc n) = Has e n

has_more : (vs : List Val) (e : Env) (k : ℕ) → Has e k → Has (with_all e vs) (length vs + k)
unfolding Has with_all
has_more [] e k h = let z : k ≡ 0 + k = omega arith in subst (Has e) z h
has_more (v ∷ vs) e k h = let z : suc (length vs) + k ≡ length vs + suc k = omega arith in rw z (has_more vs (e ▸ v) (suc k) h)

has_long : (rows : List (List ℕ)) (fs : List Form) (t : List ℕ) (n : ℕ) → 4 * n ≤ length t → (e : Env) (y k : ℕ) → Chain rows fs t n e y → Has e k → Long t y k
unfolding Has Stands Long
has_long rows fs t n r e y zero c h = tt
has_long rows fs t n r empty y (suc k) c h = absurd h
has_long rows fs t n r (e ▸ v) y (suc k) c h =
    let l = c.1 in
    let z : y - 1 ≡ c.0 = let g = c.2 in omega arith in
    let g = c.2 in
    (omega arith, rw z (omega arith), rw z (has_long rows fs t n r e (next_at t c.0) k c.4 h))

pub args_long : (s : Shared) (m : M) (v : Value) (y b n : ℕ) → Applicable s m v y b n → Long m.binds y n
unfolding Has
args_long s m v y b n a =
    let r = a.ready in
    let rb = r.room.inner.binds in
    let z : length a.values + 0 ≡ n = let c = a.count in omega arith in
    has_long r.text.rows r.formed m.binds (bound m) (omega arith) r.bindings y n r.setting.chain
    (rw (a.spread, ← z) (has_more a.values (scope a.operator) 0 tt))

-- the values as arguments

data Reads (fs : List Form) : Val → Value → Type 0 where
  prop_read : (p : ℕ) (P : Form) → Is fs p P → Reads fs (form P) (Prop p)
  other_read : {X : Val} {v : Value} → ((f : ℕ → Option (ℕ × ℕ × ℕ)) → taken_by v f ≡ None) → ((k : ℕ) (f : Form → Out Derived) → as_form X k f ≡ stop wrong_kind k) → Reads fs X v

reads : (rows : List (List ℕ)) (fs : List Form) (t : List ℕ) (n : ℕ) (X : Val) (v : Value) → Stands rows fs t n X v → Reads fs X v
unfolding Stands taken_by as_form
reads rows fs t n (form P) v x = subst (Reads fs (form P)) (sym x.1) (prop_read x.0 P x.2)
reads rows fs t n (con_v c) v x = other_read {v = v} (λ f. rw x.0) (λ k f. refl)
reads rows fs t n (rule_v r) v x = other_read {v = v} (λ f. rw x.0) (λ k f. refl)
reads rows fs t n (closure function false m b e) v x = other_read {v = v} (λ f. rw x.1) (λ k f. refl)
reads rows fs t n (closure method false m b e) v x = other_read {v = v} (λ f. rw x.1) (λ k f. refl)
reads rows fs t n (closure function true m b e) v x = other_read {v = v} (λ f. rw x.2) (λ k f. refl)
reads rows fs t n (closure method true m b e) v x = other_read {v = v} (λ f. rw x.2) (λ k f. refl)

-- the numbers read off are the arguments' propositions, true where there is none; or one is no proposition
Takes : List Form → List Val → Option (ℕ × ℕ × ℕ) → Type 0
Takes fs vs (Some (x, y, z)) =
    (ps : List Form) × ((k : ℕ) (f : List Form → Out Derived) → as_forms vs k f ≡ f ps) × Names fs (take (length vs) (x ∷ (y ∷ (z ∷ [])))) ps
    × ((x < length fs) × (y < length fs) × (z < length fs)) × ((r : ℕ) → ruled r (tree fs x ∷ (tree fs y ∷ (tree fs z ∷ []))) ≡ ruled r ps)
Takes fs vs None = (k : ℕ) (f : List Form → Out Derived) → as_forms vs k f ≡ stop wrong_kind k

module _ (fs : List Form) (truth : tree fs 0 ≡ verum) (some : 0 < length fs) where
  takes_none : Takes fs [] (Some (0, 0, 0))
  unfolding Takes as_forms Names
  takes_none = ([], λ k f. refl, tt, (some, some, some), λ r. ruled_at r (tree fs 0) (tree fs 0) (tree fs 0) [] truth truth truth)

  takes_one : {A : Val} {a : Value} → Reads fs A a → Takes fs (A ∷ []) (taken_by a (λ p. Some (p, 0, 0)))
  unfolding Takes as_forms as_form taken_by Names
  takes_one (prop_read p P i) = (P ∷ [], λ k f. refl, (i, tt), (i.low, some, some), λ r. ruled_at r (tree fs p) (tree fs 0) (tree fs 0) (P ∷ []) i.tree truth truth)
  takes_one {A} (other_read t g) = subst (Takes fs (A ∷ [])) (sym (t (λ p. Some (p, 0, 0)))) (λ k f. g k _)

  takes_two : {A B : Val} {a b : Value} → Reads fs A a → Reads fs B b → Takes fs (A ∷ (B ∷ [])) (taken_by b (λ q. taken_by a (λ p. Some (p, q, 0))))
  unfolding Takes as_forms as_form taken_by Names
  takes_two (prop_read p P i) (prop_read q Q j) =
      (P ∷ (Q ∷ []), λ k f. refl, (i, (j, tt)), (i.low, j.low, some), λ r. ruled_at r (tree fs p) (tree fs q) (tree fs 0) (P ∷ (Q ∷ [])) i.tree j.tree truth)
  takes_two {A} {B} (prop_read p P i) (other_read t g) = subst (Takes fs (form P ∷ (B ∷ []))) (sym (t (λ q. Some (p, q, 0)))) (λ k f. g k _)
  takes_two {A} {B} (other_read t g) (prop_read q Q j) = subst (Takes fs (A ∷ (form Q ∷ []))) (sym (t (λ p. Some (p, q, 0)))) (λ k f. g k _)
  takes_two {A} {B} {a} (other_read t g) (other_read u h) = subst (Takes fs (A ∷ (B ∷ []))) (sym (u (λ q. taken_by a (λ p. Some (p, q, 0))))) (λ k f. g k _)

  takes_three : {A B C : Val} {a b c : Value} → Reads fs A a → Reads fs B b → Reads fs C c → Takes fs (A ∷ (B ∷ (C ∷ []))) (taken_by c (λ r. taken_by b (λ q. taken_by a (λ p. Some (p, q, r)))))
  unfolding Takes as_forms as_form taken_by Names
  takes_three (prop_read p P i) (prop_read q Q j) (prop_read r R l) =
      (P ∷ (Q ∷ (R ∷ [])), λ k f. refl, (i, (j, (l, tt))), (i.low, j.low, l.low), λ n. ruled_at n (tree fs p) (tree fs q) (tree fs r) (P ∷ (Q ∷ (R ∷ []))) i.tree j.tree l.tree)
  takes_three {C = C} (prop_read p P i) (prop_read q Q j) (other_read t g) =
      subst (Takes fs (form P ∷ (form Q ∷ (C ∷ [])))) (sym (t (λ r. Some (p, q, r)))) (λ k f. g k _)
  takes_three {B = B} (prop_read p P i) (other_read t g) (prop_read r R l) =
      subst (Takes fs (form P ∷ (B ∷ (form R ∷ [])))) (sym (t (λ q. Some (p, q, r)))) (λ k f. g k _)
  takes_three {B = B} {C = C} {b = b} (prop_read p P i) (other_read t g) (other_read u h) =
      subst (Takes fs (form P ∷ (B ∷ (C ∷ [])))) (sym (u (λ r. taken_by b (λ q. Some (p, q, r))))) (λ k f. g k _)
  takes_three {A = A} (other_read t g) (prop_read q Q j) (prop_read r R l) =
      subst (Takes fs (A ∷ (form Q ∷ (form R ∷ [])))) (sym (t (λ p. Some (p, q, r)))) (λ k f. g k _)
  takes_three {A = A} {C = C} {a = a} (other_read t g) (prop_read q Q j) (other_read u h) =
      subst (Takes fs (A ∷ (form Q ∷ (C ∷ [])))) (sym (u (λ r. taken_by a (λ p. Some (p, q, r))))) (λ k f. g k _)
  takes_three {A = A} {B = B} {a = a} (other_read t g) (other_read u h) (prop_read r R l) =
      subst (Takes fs (A ∷ (B ∷ (form R ∷ [])))) (sym (u (λ q. taken_by a (λ p. Some (p, q, r))))) (λ k f. g k _)
  takes_three {A = A} {B = B} {C = C} {a = a} {b = b} (other_read t g) (other_read u h) (other_read w l) =
      subst (Takes fs (A ∷ (B ∷ (C ∷ [])))) (sym (w (λ r. taken_by b (λ q. taken_by a (λ p. Some (p, q, r)))))) (λ k f. g k _)

  takes : (rows : List (List ℕ)) (t : List ℕ) (n : ℕ) (vs : List Val) (y : ℕ) → length vs ≤ 3 → Chain rows fs t n (with_all empty vs) y → Takes fs vs (taken_at t y (length vs) 0 0 0)
  unfolding Stands with_all taken_at
  takes rows t n [] y h c = takes_none
  takes rows t n (A ∷ []) y h c =
      let z : y - 1 ≡ c.0 = let g = c.2 in omega arith in
      rw z (takes_one (reads rows fs t n A (value_at t c.0) c.3))
  takes rows t n (A ∷ (B ∷ [])) y h c =
      let z : y - 1 ≡ c.0 = let g = c.2 in omega arith in
      let d = c.4 in
      let w : next_at t c.0 - 1 ≡ d.0 = let g = d.2 in omega arith in
      rw (z, w) (takes_two (reads rows fs t n A (value_at t d.0) d.3) (reads rows fs t n B (value_at t c.0) c.3))
  takes rows t n (A ∷ (B ∷ (C ∷ []))) y h c =
      let z : y - 1 ≡ c.0 = let g = c.2 in omega arith in
      let d = c.4 in
      let w : next_at t c.0 - 1 ≡ d.0 = let g = d.2 in omega arith in
      let e = d.4 in
      let u : next_at t d.0 - 1 ≡ e.0 = let g = e.2 in omega arith in
      rw (z, w, u) (takes_three (reads rows fs t n A (value_at t e.0) e.3) (reads rows fs t n B (value_at t d.0) d.3) (reads rows fs t n C (value_at t c.0) c.3))
  takes rows t n (A ∷ (B ∷ (C ∷ (D ∷ vs)))) y h c = absurd (omega arith)

-- the operator is the rule

rule_is : (rows : List (List ℕ)) (fs : List Form) (t : List ℕ) (n : ℕ) (X : Val) (r : ℕ) → Stands rows fs t n X (Rule r) → (X ≡ rule_v r) × (r ≤ 15)
unfolding Stands
rule_is rows fs t n (form P) r x = absurd (let z = ap tag x.1 in omega arith)
rule_is rows fs t n (con_v c) r x = absurd (let z = ap tag x.0 in omega arith)
rule_is rows fs t n (rule_v q) r x = let z : r ≡ q = ap held x.0 in let l = x.1 in (ap rule_v (sym z), omega arith)
rule_is rows fs t n (closure function false m b i) r x = absurd (let z = ap tag x.1 in omega arith)
rule_is rows fs t n (closure method false m b i) r x = absurd (let z = ap tag x.1 in omega arith)
rule_is rows fs t n (closure function true m b i) r x = absurd (let z = ap tag x.2 in omega arith)
rule_is rows fs t n (closure method true m b i) r x = absurd (let z = ap tag x.2 in omega arith)

module _ (s : Shared) (m : M) (y b n r : ℕ) where
  -- what the chain says of the rule's arguments, in any setting
  taken_so : (x : Text) (fs : List Form) (X : Val) (vs : List Val) (β : List Form) → Setting x fs (with_all (scope X) vs) β s m y b → Stands x.rows fs m.binds (bound m) X (Rule r) → length vs ≡ n → n ≡ get_or arity r 0
      → Takes fs vs (taken_at m.binds y n 0 0 0)
  unfolding scope
  taken_so x fs X vs β S st l e =
      let T = S.world.legible.table in
      let c = T.count in
      let two = T.enough in
      let few = three r in
      let C : Chain x.rows fs m.binds (bound m) (with_all empty vs) y = rw (rule_is x.rows fs m.binds (bound m) X r st).0 at S.chain in
      rw (← l) (takes fs (truth_at (used m) fs T) (omega arith) x.rows m.binds (bound m) vs y (omega arith) C)

  pub conclude_asks : Applicable s m (Rule r) y b n → n ≡ get_or arity r 0 → (p q z : ℕ) → Some (p, q, z) ≡ taken_at m.binds y n 0 0 0
      → RuleReady m.forms m.at.state.props m.base b p q z × (m.at.tokens + 5 ≤ length m.tokens) × (length m.tokens ≤ 16384) × (n ≤ 3) × (r ≤ 15)
  unfolding Takes
  conclude_asks a e p q z i =
      let g = a.ready in
      let S = subst (λ (v : Env). Setting g.text g.formed v g.basis s m y b) a.spread g.setting in
      let k : Takes g.formed a.values (Some (p, q, z)) = subst (Takes g.formed a.values) (sym i) (taken_so g.text g.formed a.operator a.values g.basis S a.stands a.count e) in
      let T = g.setting.world.legible.table in
      let rf = g.room.inner.forms in let rs = g.room.inner.small in let rt = g.room.tokens in
      let props = m.at.state.props in
      let c : length g.formed ≡ props = T.count ∙ length-take-le props m.forms (omega arith) in
      let low = k.3 in
      let low₀ = low.0 in let low₁ = low.1 in let low₂ = low.2 in (
        record {
          formed = record { trees = g.formed; table = T };
          room = (omega arith, omega arith);
          arguments = (omega arith, omega arith, omega arith);
          based = λ j h. let w = g.setting.based.low j h in omega arith;
        },
        omega arith,
        g.room.short,
        (let few = three r in omega arith),
        (rule_is g.text.rows g.formed m.binds (bound m) a.operator r a.stands).1,
      )

  module _ (d k : ℕ) where
    pub rule_miscounted : (c : ℕ) → c ≡ get_or arity r 0 → (n ≡ c → ⊥) → Applying s d (Rule r) y b n k m (refused wrong_count k)
    unfolding applied must Meets
    rule_miscounted c e h = record {
      meets = λ x fs X vs β S st l.
          rw ((rule_is x.rows fs m.binds (bound m) X r st).0, ne_eqb (length vs) (get_or arity r 0) (λ z. h (sym l ∙ z ∙ sym e))) (refl, refl);
    }

    applied_is : (D : Deduce) (β : List Form) (vs : List Val) (w : ℕ) → length vs ≡ n → n ≡ get_or arity r 0 → applied D (rule_v r) β vs k w ≡ as_forms vs k (λ ps. inferred (ruled r ps) r ps β k w)
    unfolding applied must
    applied_is D β vs w l e = rw (eq-eqb (length vs) (get_or arity r 0) (l ∙ e))

    pub rule_other : (c : ℕ) → c ≡ get_or arity r 0 → n ≡ c → None ≡ taken_at m.binds y n 0 0 0 → Applying s d (Rule r) y b n k m (refused wrong_kind k)
    unfolding Meets Takes
    rule_other c e h i = record {
      meets = λ x fs X vs β S st l.
          let t : Takes fs vs None = subst (Takes fs vs) (sym i) (taken_so x fs X vs β S st l (h ∙ e)) in
          rw ((rule_is x.rows fs m.binds (bound m) X r st).0, applied_is (deduce x.phrases d) β vs (remaining m) l (h ∙ e), t k _) (refl, refl);
    }

    -- the rule's answer

    module _ (p q z : ℕ) (t u : List ℕ) (at' : Progress) (fs : List Form) (ps : List Form) (T : Table (used m) fs) (names : Names fs (take n (p ∷ (q ∷ (z ∷ [])))) ps) (arity-is : n ≡ get_or arity r 0) (rule : r ≤ 15)
        (room : m.at.state.props + 1 ≤ length m.forms) (space : m.at.tokens + 5 ≤ length m.tokens) where
      given_meets : (v : Bool) (g : Form) (a : Result Formed Why) → Comes (whether v g (used m)) m.at.state.props fs m.forms t a → ((f : Formed) → a ≡ Ok f → at' ≡ progress (counters f.size m.at.state.bindings m.at.state.remaining.0) (m.at.tokens + 2 + n)) → ((f : Formed) → a ≡ Ok f → u ≡ sets m.tokens m.at.tokens (0 ∷ r ∷ p ∷ q ∷ z ∷ []))
          → Meets 1 0 6 b m fs (out_of (mk t m.binds m.base u at') (inferred_of k a)) (must v premise_missing k (out (derived g (infer r ps)) (remaining m)))
      unfolding whether must inferred_of Meets Tells
      given_meets true g a C now told =
          let us = (whether true g (used m)).words in
          let w : take (length us) t ≡ us = ap (take (length us)) C.words ∙ take_front us m.forms in
          let i = C.is _ refl in
          let low = i.0 in
          let paid = C.paid in
          let long : length t ≡ length m.forms = ap (λ (x : List ℕ). length x) C.words ∙ length_front us m.forms (omega arith) in
          let W = told _ C.answer in
          let few = three r in
          let count : length (fs ++ C.more) ≡ length us = C.table.count in
          let ns : List ℕ = take n (p ∷ (q ∷ (z ∷ []))) in
          let l : length ns ≡ n = length-take-le n (p ∷ (q ∷ (z ∷ []))) (omega arith) in
          let parts : 0 ∷ (r ∷ (p ∷ (q ∷ (z ∷ [])))) ≡ (0 ∷ (r ∷ ns)) ++ drop n (p ∷ (q ∷ (z ∷ []))) = ap (λ (x : List ℕ). 0 ∷ (r ∷ x)) (sym (take-append-drop n (p ∷ (q ∷ (z ∷ []))))) in
          let there : take (m.at.tokens + 2 + n) u ≡ take m.at.tokens m.tokens ++ (0 ∷ (r ∷ ns)) =
          ap (take (m.at.tokens + 2 + n)) (W ∙ ap (sets m.tokens m.at.tokens) parts) ∙ take_run (0 ∷ (r ∷ ns)) (drop n (p ∷ (q ∷ (z ∷ [])))) m.tokens m.at.tokens (m.at.tokens + 2 + n) (omega arith) (omega arith) in
          rw (C.answer, now _ C.answer) (
            C.more,
            0 ∷ (r ∷ ns),
            record {
              inner = record { table = rw w C.table; kept = λ j h. refl; more = omega arith; props = omega arith; bindings = omega arith; forms_long = long; binds_long = refl };
              base = λ j h. refl;
              tokens = there;
              many = omega arith;
              paid = omega arith;
              base_long = refl;
              tokens_long = ap (λ (x : List ℕ). length x) W ∙ length-sets m.tokens m.at.tokens (0 ∷ r ∷ p ∷ q ∷ z ∷ []);
            },
            record { low = omega arith; tree = i.1 },
            (ns, refl, names_more fs C.more ns ps names, l ∙ arity-is, omega arith),
            refl,
          )
      given_meets false g a C now told = rw C.answer (refl, refl)

      ruled_meets : (R : Ruled) (β : List Form) (a : Result Formed Why) → Alike β (base_of fs m.base b) → Comes (outcome R (base_of fs m.base b) (used m)) m.at.state.props fs m.forms t a
          → ((f : Formed) → a ≡ Ok f → at' ≡ progress (counters f.size m.at.state.bindings m.at.state.remaining.0) (m.at.tokens + 2 + n)) → ((f : Formed) → a ≡ Ok f → u ≡ sets m.tokens m.at.tokens (0 ∷ r ∷ p ∷ q ∷ z ∷ [])) → Meets 1 0 6 b m fs (out_of (mk t m.binds m.base u at') (inferred_of k a)) (inferred R r ps β k (remaining m))
      unfolding outcome inferred inferred_of Meets
      ruled_meets misshapen β a h C now told = rw C.answer (refl, refl)
      ruled_meets (gives premises g) β a h C now told =
          rw (members_alike β (base_of fs m.base b) h premises) (given_meets (members premises (base_of fs m.base b)) g a C now told)

    pub rule_applied : (c p q z : ℕ) (t u : List ℕ) (at' : Progress) (o : Result ℕ Refusal) → Applicable s m (Rule r) y b n → c ≡ get_or arity r 0 → n ≡ c → Some (p, q, z) ≡ taken_at m.binds y n 0 0 0
        → Inferred m.at at' b r n p q z k m.forms t m.base m.tokens u o → Applying s d (Rule r) y b n k m (out_of (mk t m.binds m.base u at') o)
    unfolding Takes
    rule_applied c p q z t u at' o a e h i I = record {
      meets = λ x fs X vs β S st l.
          let K : Takes fs vs (Some (p, q, z)) = subst (Takes fs vs) (sym i) (taken_so x fs X vs β S st l (h ∙ e)) in
          let T = S.world.legible.table in
          let rf = a.ready.room.inner.forms in let rt = a.ready.room.tokens in
          let is = rule_is x.rows fs m.binds (bound m) X r st in
          let C = I.ruling.rules fs T in
          let C₁ = subst (λ (Q : Ruled). Comes (outcome Q (base_of fs m.base b) (used m)) m.at.state.props fs m.forms t I.answer) (K.4 r) C in
          let names = subst (λ (j : ℕ). Names fs (take j (p ∷ (q ∷ (z ∷ [])))) K.0) l K.2 in
          rw (is.0, applied_is (deduce x.phrases d) β vs (remaining m) l (h ∙ e), K.1 k _, I.outcome)
          (ruled_meets p q z t u at' fs K.0 T names (h ∙ e) is.1 (omega arith) (omega arith) (ruled r K.0) β I.answer S.based.alike C₁ I.now I.told);
    }

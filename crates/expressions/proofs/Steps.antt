-- Entering, expressions that run no other, and let: one law for each return. What the callees ensure and the tests say gives the language's answer.
use Rattle.std.specs.Prelude.{Option, Some, None, Result}
use mathlib.Core.Path.{◌≡◌, refl, sym, ap, subst, ◌∙◌}
use mathlib.Core.Bool.{true, false}
use mathlib.Core.List.{List, ◌++◌}
use Prim.Native.Nat.{ℕ, zero, suc, ◌+◌, ◌*◌, ◌-◌, ◌≤◌, ◌<◌}
use native.Mathlib.Omega.{arith}
use native.Mathlib.Numerals.{sub-one}
use lib.ListN.{length}
use lib.Seq.{sets}
use Rattle.language.specs.Refusals.{budget_spent, too_deep as too_deep_number}
use Rattle.language.specs.declared.refusal.Refusal.{Refusal}
use Rattle.language.specs.Form.{Form}
use Rattle.language.specs.Syntax.{Sort, function, method, Phrase, Expression, expr, phrase_at}
use Rattle.language.specs.Values.{Val, form, con_v, rule_v, closure, Env, ◌▸◌, Out, out, stop, next, lookup}
use Rattle.language.specs.Run.{Evaluate, on_expr, entering, evaluated, evaluate_step, evaluate}
use Rattle.forms.specs.Table.{tree, Table}
use Rattle.records.specs.Rows.{cell, sort_of, sort_by}
use Rattle.bindings.specs.declared.Value.{Value}
use Rattle.bindings.specs.declared.Value.TheVariants.{Prop, Constructor, Rule}
use Rattle.bindings.specs.Numbers.{closure_of, numbers_of, Small, found}
use Rattle.bindings.specs.Stands.{kind_of_sort, closed, Written, Stands, Chain, Looks, Linked}
use Rattle.bindings.proofs.Chains.{looked, chain_low, stands_small, pushed, fixed}
use Rattle.expressions.specs.declared.State.{State}
use Rattle.expressions.specs.Machine.{Shared, M, MOut, done, refused, out_of, counters, spent, kind, one, two, selfed, variable_of, mk}
use Rattle.expressions.specs.Asked.{Text, Row, World, Ready}
use Rattle.expressions.specs.Meets.{Meets, Evaluated, Stepped}
use Rattle.expressions.proofs.Operands.{kind_at, row_inside, says_prop, says_var, says_con, says_rule, says_closure, says_let, says_fix, kind_low, prop_low, con_low, rule_low, first_row, second_row, fix_row}
use Rattle.expressions.proofs.Growth.{used, world_grew, chain_grew, room_grew, after, given, passed, push, world_push, room_push, after_push, unspend}

-- entering

module _ (s : Shared) (env k : ℕ) (m : M) where
  pub spent_out : (d : ℕ) → m.st.remaining.0 ≡ 0 → Evaluated s d env k m (refused budget_spent k)
  unfolding evaluate entering Meets
  spent_out zero h = record { meets = λ x fs e w r c. rw h (refl, refl) }
  spent_out (suc d) h = record { meets = λ x fs e w r c. rw h (refl, refl) }

  pub too_deep : (d : ℕ) → (m.st.remaining.0 ≡ 0 → ⊥) → d ≡ 0 → Evaluated s d env k m (refused too_deep_number k)
  unfolding evaluate entering Meets
  too_deep d h z = rw z (record { meets = λ x fs e w r c. go x e fs m.st.remaining.0 h })
    where
      go : (x : Text) (e : Env) (fs : List Form) (n : ℕ) → (n ≡ 0 → ⊥) → Meets 0 0 x.rows m fs (refused too_deep_number k) (evaluate x.phrases 0 e k n)
      go x e fs zero h = absurd (h refl)
      go x e fs (suc n) h = (refl, refl)

  enter : (ps : List Phrase) (d : ℕ) (e : Env) (n : ℕ) → (n ≡ 0 → ⊥) → (d ≡ 0 → ⊥) → evaluate ps d e k n ≡ evaluate_step ps (evaluate ps (d - 1)) e k (n - 1)
  unfolding evaluate entering
  enter ps zero e n h z = absurd (z refl)
  enter ps (suc d) e zero h z = absurd (h refl)
  enter ps (suc d) e (suc n) h z = rw (sub-one, sub-one)

  pub entered : (d : ℕ) (o : MOut) → (m.st.remaining.0 ≡ 0 → ⊥) → (d ≡ 0 → ⊥) → Stepped s (d - 1) env k (spent m) o → Evaluated s d env k m o
  entered d o h z S = record {
    meets = λ x fs e w r c. rw (enter x.phrases d e m.st.remaining.0 h z)
        (unspend x.rows m fs o (evaluate_step x.phrases (evaluate x.phrases (d - 1)) e k (m.st.remaining.0 - 1)) h
        (S.meets x fs e (record { legible = w.legible; says = w.says; holds = w.holds; short = w.short }) r c));
  }

-- the step of a phrase that is the expression y
pub step_is : (ps : List Phrase) (E : Evaluate) (e : Env) (k w : ℕ) (y : Expression) → phrase_at ps k ≡ expr y → evaluate_step ps E e k w ≡ evaluated E y e k w
unfolding evaluate_step on_expr
step_is ps E e k w y h = rw h

-- expressions that run no other

module _ (s : Shared) (d env k : ℕ) (m : M) where
  pub proposition : (c a : ℕ) → c ≡ kind s.phrases k → a ≡ one s.phrases k → c ≡ 0 → Stepped s d env k m (done (Prop a) m)
  unfolding evaluated Stands
  proposition c a g i z = record {
    meets = λ x fs e w r ch. given 4 4 x.rows m fs (form (tree fs (one s.phrases k))) (Prop a) _ w.legible.table
        (one s.phrases k, ap Prop i, record { low = prop_low x fs s m w k r (sym g ∙ z); tree = refl })
        (step_is x.phrases (evaluate x.phrases d) e k m.st.remaining.0 _ (says_prop x fs s m w k r.0 (sym g ∙ z)));
  }

  pub constructor : (c a : ℕ) → c ≡ kind s.phrases k → a ≡ one s.phrases k → c ≡ 2 → Stepped s d env k m (done (Constructor a) m)
  unfolding evaluated Stands
  constructor c a g i z = record {
    meets = λ x fs e w r ch. given 4 4 x.rows m fs (con_v (one s.phrases k)) (Constructor a) _ w.legible.table
        (ap Constructor i, con_low x fs s m w k r (sym g ∙ z))
        (step_is x.phrases (evaluate x.phrases d) e k m.st.remaining.0 _ (says_con x fs s m w k r.0 (sym g ∙ z)));
  }

  pub ruled : (c a : ℕ) → c ≡ kind s.phrases k → a ≡ one s.phrases k → c ≡ 3 → Stepped s d env k m (done (Rule a) m)
  unfolding evaluated Stands
  ruled c a g i z = record {
    meets = λ x fs e w r ch. given 4 4 x.rows m fs (rule_v (one s.phrases k)) (Rule a) _ w.legible.table
        (ap Rule i, rule_low x fs s m w k r (sym g ∙ z))
        (step_is x.phrases (evaluate x.phrases d) e k m.st.remaining.0 _ (says_rule x fs s m w k r.0 (sym g ∙ z)));
  }

  variable_by : (rows : List (List ℕ)) (fs : List Form) (w : ℕ) → m.st.remaining.0 ≡ w → Table (used m) fs → (r : Option Value) (q : Out Val) → Looks rows fs m.binds m.st.bindings r q k w → Meets 4 4 rows m fs (out_of m (variable_of k r)) q
  unfolding Looks Meets
  variable_by rows fs w g t (Some v) (out X w') z = given 4 4 rows m fs X v (out X w') t z.0 (ap (out X) (z.1 ∙ sym g))
  variable_by rows fs w g t (Some v) (stop n y) z = z
  variable_by rows fs w g t None (out X w') z = z
  variable_by rows fs w g t None (stop n y) z = (sym z.0, sym z.1)

  pub variable_is : (c a : ℕ) (o : Result Value Refusal) → c ≡ kind s.phrases k → a ≡ one s.phrases k → c ≡ 1 → o ≡ variable_of k (found m.binds env a) → Stepped s d env k m (out_of m o)
  unfolding evaluated
  variable_is c a o g i z j = record {
    meets = λ x fs e w r ch.
        let v : ℕ = one s.phrases k in
        rw (j, i, step_is x.phrases (evaluate x.phrases d) e k m.st.remaining.0 _ (says_var x fs s m w k r.0 (sym g ∙ z)))
        (variable_by x.rows fs m.st.remaining.0 refl w.legible.table (found m.binds env v) (lookup e v k m.st.remaining.0) (looked x.rows fs m.binds m.st.bindings v e env k m.st.remaining.0 ch));
  }

  sort_back : (S : Sort) (c : ℕ) → c ≡ kind_of_sort S → sort_of c ≡ S
  unfolding sort_by
  sort_back function c e = rw e
  sort_back method c e = rw e

  -- a function or a method: what is left once every other kind is ruled out
  which : (c : ℕ) → c ≤ 9 → (c ≡ 0 → ⊥) → (c ≡ 1 → ⊥) → (c ≡ 2 → ⊥) → (c ≡ 3 → ⊥) → (c ≡ 8 → ⊥) → (c ≡ 6 → ⊥) → (c ≡ 7 → ⊥) → (c ≡ 9 → ⊥) → (S : Sort) × (c ≡ kind_of_sort S)
  which zero h a₀ a₁ a₂ a₃ a₈ a₆ a₇ a₉ = absurd (a₀ refl)
  which (suc zero) h a₀ a₁ a₂ a₃ a₈ a₆ a₇ a₉ = absurd (a₁ refl)
  which (suc (suc zero)) h a₀ a₁ a₂ a₃ a₈ a₆ a₇ a₉ = absurd (a₂ refl)
  which (suc (suc (suc zero))) h a₀ a₁ a₂ a₃ a₈ a₆ a₇ a₉ = absurd (a₃ refl)
  which (suc (suc (suc (suc zero)))) h a₀ a₁ a₂ a₃ a₈ a₆ a₇ a₉ = (function, refl)
  which (suc (suc (suc (suc (suc zero))))) h a₀ a₁ a₂ a₃ a₈ a₆ a₇ a₉ = (method, refl)
  which (suc (suc (suc (suc (suc (suc zero)))))) h a₀ a₁ a₂ a₃ a₈ a₆ a₇ a₉ = absurd (a₆ refl)
  which (suc (suc (suc (suc (suc (suc (suc zero))))))) h a₀ a₁ a₂ a₃ a₈ a₆ a₇ a₉ = absurd (a₇ refl)
  which (suc (suc (suc (suc (suc (suc (suc (suc zero)))))))) h a₀ a₁ a₂ a₃ a₈ a₆ a₇ a₉ = absurd (a₈ refl)
  which (suc (suc (suc (suc (suc (suc (suc (suc (suc zero))))))))) h a₀ a₁ a₂ a₃ a₈ a₆ a₇ a₉ = absurd (a₉ refl)
  which (suc (suc (suc (suc (suc (suc (suc (suc (suc (suc c)))))))))) h a₀ a₁ a₂ a₃ a₈ a₆ a₇ a₉ = absurd (omega arith)

  closure_stands : (x : Text) (fs : List Form) (e : Env) (S : Sort) → k < length x.rows → cell x.rows k 0 ≡ kind_of_sort S → Chain x.rows fs m.binds m.st.bindings e env →
      Stands x.rows fs m.binds m.st.bindings (closure S false (cell x.rows k 1) (cell x.rows k 2) e) (closed S (closure_of k env))
  unfolding Stands
  closure_stands x fs e S l q c = (closure_of k env, refl, record { low = l; kind = q; parameters = refl; body = refl }, c)

  pub closure_is : (c : ℕ) (v : Value) → c ≡ kind s.phrases k → (c ≡ 0 → ⊥) → (c ≡ 1 → ⊥) → (c ≡ 2 → ⊥) → (c ≡ 3 → ⊥) → (c ≡ 8 → ⊥) → (kind s.phrases k ≡ 6 → ⊥) → (kind s.phrases k ≡ 7 → ⊥) → (kind s.phrases k ≡ 9 → ⊥)
      → v ≡ closed (sort_of c) (closure_of k env) → Stepped s d env k m (done v m)
  unfolding evaluated
  closure_is c v g a₀ a₁ a₂ a₃ a₈ a₆ a₇ a₉ j = record {
    meets = λ x fs e w r ch.
        let (S, q) = which c (rw g (kind_low x fs s m w k r)) a₀ a₁ a₂ a₃ a₈ (λ z. a₆ (sym g ∙ z)) (λ z. a₇ (sym g ∙ z)) (λ z. a₉ (sym g ∙ z)) in
        let t : v ≡ closed S (closure_of k env) = j ∙ rw (sort_back S c q) in
        rw t (given 4 4 x.rows m fs (closure S false (cell x.rows k 1) (cell x.rows k 2) e) (closed S (closure_of k env)) _ w.legible.table
        (closure_stands x fs e S r.0 (sym (kind_at x fs s m w k r.0) ∙ sym g ∙ q) ch)
        (step_is x.phrases (evaluate x.phrases d) e k m.st.remaining.0 _ (says_closure x fs s m w k r.0 S (sym g ∙ q))));
  }

  pub fix_is : (c a : ℕ) (v : Value) (st : State) (b : List ℕ) → c ≡ kind s.phrases k → a ≡ one s.phrases k → c ≡ 8 → 4 * m.st.bindings + 4 ≤ length m.binds
      → v ≡ selfed s.phrases a m.st.bindings → st ≡ counters m.st.props (m.st.bindings + 1) m.st.remaining.0
      → b ≡ sets m.binds (4 * m.st.bindings) (numbers_of (selfed s.phrases a m.st.bindings) env) → Stepped s d env k m (done v (mk m.forms b st))
  unfolding evaluated
  fix_is c a v₀ st b g i z room j j₁ l = record {
    meets = λ x fs e w r ch.
        let q : ℕ = one s.phrases k in
        let f = fix_row x fs s m w k r (sym g ∙ z) in
        let same : kind s.phrases q ≡ cell x.rows q 0 = kind_at x fs s m w q f.0 in
        let S : Sort = sort_of (cell x.rows q 0) in
        let v = selfed s.phrases q m.st.bindings in
        let wr : Written x.rows q S (cell x.rows q 1) (cell x.rows q 2) = record { low = f.0; kind = f.1.1 ∙ ap kind_of_sort (sym (sort_back f.1.0 (cell x.rows q 0) f.1.1)); parameters = refl; body = refl } in
        rw (j, j₁, l, i, same)
        (after_push m fs (closed S (closure_of q (m.st.bindings + 1))) env 4 3 x.rows (done (closed S (closure_of q (m.st.bindings + 1))) (push m (closed S (closure_of q (m.st.bindings + 1))) env)) (evaluate_step x.phrases (evaluate x.phrases d) e k m.st.remaining.0) w.legible.table
        (given 4 3 x.rows (push m (closed S (closure_of q (m.st.bindings + 1))) env) fs (closure S true (cell x.rows q 1) (cell x.rows q 2) e) (closed S (closure_of q (m.st.bindings + 1))) (evaluate_step x.phrases (evaluate x.phrases d) e k m.st.remaining.0) w.legible.table
        (fixed x.rows fs m.binds m.st.bindings env room e S q (cell x.rows q 1) (cell x.rows q 2) ch wr)
        (step_is x.phrases (evaluate x.phrases d) e k m.st.remaining.0 _ (says_fix x fs s m w k r.0 (sym g ∙ z)))));
  }

-- what a value that was got leaves

pub record Got (s : Shared) (m : M) (v : Value) (env k a b : ℕ) : Type 0 where
  pub ready : Ready s m env k a b
  pub value : Val
  pub stands : Stands ready.text.rows ready.formed m.binds m.st.bindings value v

pub got : (s : Shared) (d env k j a b : ℕ) (m m₁ : M) (v : Value) (r : Ready s m env k a b) → Row r.text j → Evaluated s d env j m (done v m₁) → Got s m₁ v env k a b
unfolding Meets
got s d env k j a b m m₁ v r h A = go (evaluate r.text.phrases d r.bound j m.st.remaining.0) (A.meets r.text r.formed r.bound r.world h r.chain)
  where
    go : (q : Out Val) → Meets 0 0 r.text.rows m r.formed (done v m₁) q → Got s m₁ v env k a b
    go (out X w) z = record {
      ready = record {
        text = r.text;
        formed = r.formed ++ z.0;
        bound = r.bound;
        world = world_grew 0 0 m m₁ r.formed z.0 z.1 r.text s r.world;
        row = r.row;
        chain = chain_grew 0 0 m m₁ r.formed z.0 z.1 r.text.rows r.bound env r.chain;
        room = room_grew 0 0 m m₁ r.formed z.0 z.1 a b a b r.room (omega arith) (omega arith);
      };
      value = X;
      stands = z.2;
    }
    go (stop n y) z = absurd z

-- another expression in the same state, with less room
pub ready_at : (s : Shared) (m : M) (env k j a b a' b' : ℕ) (r : Ready s m env k a b) → Row r.text j → a' ≤ a → b' ≤ b → Ready s m env j a' b'
ready_at s m env k j a b a' b' r q h i =
    let rf = r.room.forms in let rb = r.room.binds in
    record {
      text = r.text;
      formed = r.formed;
      bound = r.bound;
      world = r.world;
      row = q;
      chain = r.chain;
      room = record { forms = omega arith; binds = omega arith; small = r.room.small; short = r.room.short };
    }

pub ready_spent : (s : Shared) (m : M) (env k : ℕ) → (m.st.remaining.0 ≡ 0 → ⊥) → Ready s m env k 0 0 → Ready s (spent m) env k 4 4
ready_spent s m env k h r =
    let rf = r.room.forms in let rb = r.room.binds in let z : 0 < m.st.remaining.0 = omega arith in
    record {
      text = r.text;
      formed = r.formed;
      bound = r.bound;
      world = record { legible = r.world.legible; says = r.world.says; holds = r.world.holds; short = r.world.short };
      row = r.row;
      chain = r.chain;
      room = record { forms = omega arith; binds = omega arith; small = r.room.small; short = r.room.short };
    }

pub ready_small : (s : Shared) (m : M) (env k a b : ℕ) → Ready s m env k a b → 12 * k + 12 ≤ 16384
ready_small s m env k a b r = let i = row_inside r.text r.formed s m r.world k r.row.0 in let l = r.world.short in omega arith

pub linked : (s : Shared) (m : M) (env k a b : ℕ) → Ready s m env k a b → Linked m.binds env
linked s m env k a b r = let rb = r.room.binds in record { rows = r.text.rows; forms = r.formed; count = m.st.bindings; env = r.bound; chain = r.chain; room = omega arith }

pub env_low : (s : Shared) (m : M) (env k a b : ℕ) → Ready s m env k a b → env ≤ m.st.bindings
env_low s m env k a b r = chain_low r.text.rows r.formed m.binds m.st.bindings r.bound env r.chain

pub rows_few : (x : Text) (fs : List Form) (s : Shared) (m : M) → World x fs s m → length x.rows ≤ 16384
rows_few x fs s m w = let i = w.holds.inside in let h = w.short in omega arith

pub fix_asks : (s : Shared) (m : M) (env k c a : ℕ) → Ready s m env k 4 4 → c ≡ kind s.phrases k → a ≡ one s.phrases k → c ≡ 8
    → (4 * m.st.bindings + 4 ≤ length m.binds) × (length m.binds ≤ 16384) × (env ≤ m.st.bindings) × (a < 16384)
fix_asks s m env k c a r g i z =
    let f = (fix_row r.text r.formed s m r.world k r.row (sym g ∙ z)).0 in
    let few = rows_few r.text r.formed s m r.world in
    let low = env_low s m env k 4 4 r in
    let rb = r.room.binds in
    let rs = r.room.short in
    (omega arith, rs, low, omega (arith, f, few, i))

-- the trees of a table in use are few
pub trees_few : (m : M) (fs : List Form) → Table (used m) fs → length fs ≤ 16384
trees_few m fs t = let c = t.count in let l = t.small in omega arith

-- the value may be pushed, and what the state then stands for
pub push_fits : (s : Shared) (m : M) (v : Value) (env k a b : ℕ) → Got s m v env k a (b + 1) → (4 * m.st.bindings + 4 ≤ length m.binds) × (length m.binds ≤ 16384) × Small (record { value = v; next = env })
push_fits s m v env k a b g =
    let r = g.ready in
    let rb = r.room.binds in let rs = r.room.short in
    let few = rows_few r.text r.formed s m r.world in
    let trees = trees_few m r.formed r.world.legible.table in
    let l = env_low s m env k a (b + 1) r in
    (omega arith, rs, record { value = stands_small r.text.rows r.formed m.binds m.st.bindings few trees (omega arith) g.value v g.stands; next = omega arith })

pub ready_push : (s : Shared) (m : M) (v : Value) (env k j a b : ℕ) (g : Got s m v env k a (b + 1)) → Row g.ready.text j → Ready s (push m v env) (m.st.bindings + 1) j a b
ready_push s m v env k j a b g h =
    let r = g.ready in
    let f = push_fits s m v env k a b g in
    record {
      text = r.text;
      formed = r.formed;
      bound = r.bound ▸ g.value;
      world = world_push m r.formed v env r.text s r.world;
      row = h;
      chain = pushed r.text.rows r.formed m.binds m.st.bindings env f.0 r.bound g.value v r.chain g.stands;
      room = room_push m r.formed v env a b r.room;
    }

-- let

pub let_first : (s : Shared) (m : M) (env k a b c : ℕ) → kind s.phrases k ≡ 7 → a ≡ one s.phrases k → (r : Ready s m env k b c) → Row r.text a
let_first s m env k a b c is i r = rw i (first_row r.text r.formed s m r.world k r.row is)

pub let_second : (s : Shared) (m : M) (env k a b c : ℕ) → kind s.phrases k ≡ 7 → a ≡ two s.phrases k → (r : Ready s m env k b c) → Row r.text a
let_second s m env k a b c is i r = rw i (second_row r.text r.formed s m r.world k r.row is)

module _ (s : Shared) (d env k : ℕ) (m : M) (is : kind s.phrases k ≡ 7) (a : ℕ) (i : a ≡ one s.phrases k) where
  let_step : (x : Text) (fs : List Form) (W : World x fs s m) (h : Row x k) (e : Env) (w : ℕ) (b : ℕ) → b ≡ two s.phrases k →
      evaluate_step x.phrases (evaluate x.phrases d) e k w ≡ next (evaluate x.phrases d e a w) (λ v. evaluate x.phrases d (e ▸ v) b)
  unfolding evaluated
  let_step x fs W h e w b j = step_is x.phrases (evaluate x.phrases d) e k w _ (says_let x fs s m W k h.0 is) ∙ rw (i, j)

  pub let_refused : (n y : ℕ) → Evaluated s d env a m (refused n y) → Stepped s d env k m (refused n y)
  let_refused n y A = record {
    meets = λ x fs e w h c. subst (Meets 4 4 x.rows m fs (refused n y)) (sym (let_step x fs w h e m.st.remaining.0 (two s.phrases k) refl))
        (passed 0 0 4 4 x.rows m m fs fs n y (evaluate x.phrases d e a m.st.remaining.0) (λ v. evaluate x.phrases d (e ▸ v) (two s.phrases k))
        (A.meets x fs e w (rw i (first_row x fs s m w k h is)) c));
  }

  then : (x : Text) (fs : List Form) (e : Env) (v : Value) (m₁ : M) (b : ℕ) (o : MOut) → World x fs s m → Row x b → Chain x.rows fs m.binds m.st.bindings e env
      → 4 * m₁.st.bindings + 4 ≤ length m₁.binds → Evaluated s d (m₁.st.bindings + 1) b (push m₁ v env) o
      → (q : Out Val) → Meets 0 0 x.rows m fs (done v m₁) q → Meets 4 4 x.rows m fs o (next q (λ u. evaluate x.phrases d (e ▸ u) b))
  unfolding Meets next
  then x fs e v m₁ b o w h c room B (out X n) z =
      let gs = z.0 in
      let g = z.1 in
      let w₁ = world_grew 0 0 m m₁ fs gs g x s w in
      let c₁ = chain_grew 0 0 m m₁ fs gs g x.rows e env c in
      let y = B.meets x (fs ++ gs) (e ▸ X) (world_push m₁ (fs ++ gs) v env x s w₁) h (pushed x.rows (fs ++ gs) m₁.binds m₁.st.bindings env room e X v c₁ z.2) in
      subst (λ (n : ℕ). Meets 4 4 x.rows m fs o (evaluate x.phrases d (e ▸ X) b n)) z.3
      (after 0 0 0 1 4 4 x.rows m m₁ fs gs o (evaluate x.phrases d (e ▸ X) b m₁.st.remaining.0) g
      (after_push m₁ (fs ++ gs) v env 0 0 x.rows o (evaluate x.phrases d (e ▸ X) b m₁.st.remaining.0) w₁.legible.table y) (omega arith) (omega arith))
  then x fs e v m₁ b o w h c room B (stop n y) z = absurd z

  pub let_is : (b : ℕ) (v : Value) (m₁ : M) (o : MOut) → b ≡ two s.phrases k → Ready s m env k 4 4 → Evaluated s d env a m (done v m₁) → Evaluated s d (m₁.st.bindings + 1) b (push m₁ v env) o → Stepped s d env k m o
  let_is b v m₁ o j r A B =
      let f = push_fits s m₁ v env k 4 3 (got s d env k a 4 4 m m₁ v r (let_first s m env k a 4 4 is i r) A) in
      record {
        meets = λ x fs e w h c. subst (Meets 4 4 x.rows m fs o) (sym (let_step x fs w h e m.st.remaining.0 b j))
            (then x fs e v m₁ b o w (rw j (second_row x fs s m w k h is)) c f.0 B (evaluate x.phrases d e a m.st.remaining.0)
            (A.meets x fs e w (rw i (first_row x fs s m w k h is)) c));
      }

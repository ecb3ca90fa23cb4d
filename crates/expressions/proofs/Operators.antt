-- Applying an operator: one law for each return.
use mathlib.Core.Path.{◌≡◌, refl, sym, ap, ◌∙◌}
use mathlib.Core.Bool.{true, false}
use mathlib.Core.Logic.{◌⊎◌, inl, inr}
use mathlib.Core.List.{List}
use Prim.Native.Nat.{ℕ, ◌+◌, ◌*◌, ◌≤◌, ◌<◌}
use native.Mathlib.Omega.{arith}
use lib.Dec.{eqb}
use lib.ListN.{length}
use borrow.Author.Tests.{eq-eqb, ne_eqb}
use Rattle.language.specs.Refusals.{wrong_kind, wrong_count}
use Rattle.language.specs.Form.{Form}
use Rattle.language.specs.Syntax.{function, method}
use Rattle.language.specs.Values.{Val, form, con_v, rule_v, closure, stop, must, entered, with_all, scope}
use Rattle.language.specs.Run.{called, evaluate, Evaluate}
use Rattle.records.specs.Rows.{cell}
use Rattle.bindings.specs.declared.Closure.{Closure}
use Rattle.bindings.specs.declared.Value.{Value}
use Rattle.bindings.specs.declared.Value.TheVariants.{Prop, Rule, Function, Method}
use Rattle.bindings.specs.Stands.{Stands}
use Rattle.bindings.proofs.Tags.{tag, held, kind_of, same_kind}
use Rattle.expressions.specs.Machine.{Shared, M, MOut, refused, one, two}
use Rattle.expressions.specs.Asked.{Ready, Applicable}
use Rattle.expressions.specs.Meets.{Meets, Evaluated, Called}
use Rattle.expressions.proofs.Operands.{cell_at, row_inside, body_row}
use Rattle.expressions.proofs.Growth.{within}

-- values that cannot be called

wrong : (E : Evaluate) (X : Val) (vs : List Val) (k w : ℕ) → (kind_of X ≡ 1 → ⊥) → (kind_of X ≡ 3 → ⊥) → called E X vs k w ≡ stop wrong_kind k
unfolding called kind_of
wrong E (form P) vs k w h g = refl
wrong E (con_v c) vs k w h g = absurd (h refl)
wrong E (rule_v r) vs k w h g = refl
wrong E (closure function self m b e) vs k w h g = absurd (g refl)
wrong E (closure method self m b e) vs k w h g = refl

pub not_called : (s : Shared) (d : ℕ) (v : Value) (y n k : ℕ) (m : M) → (tag v ≡ 1 → ⊥) → (tag v ≡ 3 → ⊥) → Called s d v y n k m (refused wrong_kind k)
unfolding Meets
not_called s d v y n k m h g = record {
  meets = λ x fs X vs w st c l.
      let t = same_kind x.rows fs m.binds m.st.bindings X v st in
      rw (wrong (evaluate x.phrases d) X vs k m.st.remaining.0 (λ z. h (sym t ∙ z)) (λ z. g (sym t ∙ z))) (refl, refl);
}

pub other_called : (s : Shared) (d : ℕ) (v : Value) (y n k : ℕ) (m : M) →
    (((p : ℕ) × (v ≡ Prop p)) ⊎ ((r : ℕ) × (v ≡ Rule r)) ⊎ ((f : Closure) × (v ≡ Method f))) → Called s d v y n k m (refused wrong_kind k)
other_called s d v y n k m (inl (p, e)) = not_called s d v y n k m (λ z. let t = ap tag e in omega arith) (λ z. let t = ap tag e in omega arith)
other_called s d v y n k m (inr (inl (r, e))) = not_called s d v y n k m (λ z. let t = ap tag e in omega arith) (λ z. let t = ap tag e in omega arith)
other_called s d v y n k m (inr (inr (f, e))) = not_called s d v y n k m (λ z. let t = ap tag e in omega arith) (λ z. let t = ap tag e in omega arith)

-- functions

-- what a function's row says, and what calling it runs
record Runs (rows : List (List ℕ)) (a : ℕ) (X : Val) : Type 0 where
  pub low : a < length rows
  pub kind : cell rows a 0 ≡ 4
  pub runs : (E : Evaluate) (vs : List Val) (k w : ℕ) → called E X vs k w ≡ must (eqb (length vs) (cell rows a 1)) wrong_count k (E (with_all (scope X) vs) (cell rows a 2) w)

runs : (rows : List (List ℕ)) (fs : List Form) (t : List ℕ) (n : ℕ) (X : Val) (v : Value) (f : Closure) → v ≡ Function f → Stands rows fs t n X v → Runs rows f.phrase X
unfolding Stands called entered
runs rows fs t n (form P) v f e x = absurd (let y = ap tag (sym e ∙ x.1) in omega arith)
runs rows fs t n (con_v c) v f e x = absurd (let y = ap tag (sym e ∙ x.0) in omega arith)
runs rows fs t n (rule_v r) v f e x = absurd (let y = ap tag (sym e ∙ x.0) in omega arith)
runs rows fs t n (closure method false m b i) v f e x = absurd (let y = ap tag (sym e ∙ x.1) in omega arith)
runs rows fs t n (closure method true m b i) v f e x = absurd (let y = ap tag (sym e ∙ x.2) in omega arith)
runs rows fs t n (closure function false m b i) v f e x =
    let y : f.phrase ≡ x.0.phrase = ap held (sym e ∙ x.1) in
    let w = x.2 in
    rw y (record { low = w.low; kind = w.kind; runs = λ E vs k u. rw (w.parameters, w.body) })
runs rows fs t n (closure function true m b i) v f e x =
    let y : f.phrase ≡ x.0.phrase = ap held (sym e ∙ x.2) in
    let w = x.3 in
    rw y (record { low = w.low; kind = w.kind; runs = λ E vs k u. rw (w.parameters, w.body) })

pub function_small : (s : Shared) (m : M) (v : Value) (y n : ℕ) (f : Closure) → Applicable s m v y n → v ≡ Function f → 12 * f.phrase + 12 ≤ 16384
function_small s m v y n f a e =
    let r = runs a.text.rows a.formed m.binds m.st.bindings a.operator v f e a.stands in
    let i = row_inside a.text a.formed s m a.world f.phrase r.low in
    let l = a.world.short in
    omega arith

pub function_ready : (s : Shared) (m : M) (v : Value) (y n b : ℕ) (f : Closure) → Applicable s m v y n → v ≡ Function f → b ≡ two s.phrases f.phrase → Ready s m y b 0 0
function_ready s m v y n b f a e i =
    let r = runs a.text.rows a.formed m.binds m.st.bindings a.operator v f e a.stands in
    let rf = a.room.forms in
    record {
      text = a.text;
      formed = a.formed;
      bound = with_all (scope a.operator) a.values;
      world = a.world;
      row = body_row a.text a.formed s m a.world f.phrase b r.low r.kind (i ∙ cell_at a.text a.formed s m a.world f.phrase r.low 2 (omega arith));
      chain = a.chain;
      room = record { forms = omega arith; binds = a.room.binds; small = a.room.small; short = a.room.short };
    }

pub function_called : (s : Shared) (d : ℕ) (v : Value) (y n k a b : ℕ) (f : Closure) (m : M) (o : MOut) → v ≡ Function f → a ≡ one s.phrases f.phrase → a ≡ n → b ≡ two s.phrases f.phrase → Evaluated s d y b m o → Called s d v y n k m o
unfolding must
function_called s d v y n k a b f m o e i j l A = record {
  meets = λ x fs X vs w st c q.
      let r = runs x.rows fs m.binds m.st.bindings X v f e st in
      let p : cell x.rows f.phrase 1 ≡ n = sym (cell_at x fs s m w f.phrase r.low 1 (omega arith)) ∙ sym i ∙ j in
      let z : b ≡ cell x.rows f.phrase 2 = l ∙ cell_at x fs s m w f.phrase r.low 2 (omega arith) in
      rw (r.runs (evaluate x.phrases d) vs k m.st.remaining.0, eq-eqb (length vs) (cell x.rows f.phrase 1) (q ∙ sym p), ← z)
      (within 0 0 1 0 x.rows m fs o (evaluate x.phrases d (with_all (scope X) vs) b m.st.remaining.0) w.legible.table
      (A.meets x fs (with_all (scope X) vs) w (body_row x fs s m w f.phrase b r.low r.kind z) c) (omega arith) (omega arith));
}

pub function_miscounted : (s : Shared) (d : ℕ) (v : Value) (y n k a : ℕ) (f : Closure) (m : M) → v ≡ Function f → a ≡ one s.phrases f.phrase → (a ≡ n → ⊥) → Called s d v y n k m (refused wrong_count k)
unfolding must Meets
function_miscounted s d v y n k a f m e i j = record {
  meets = λ x fs X vs w st c q.
      let r = runs x.rows fs m.binds m.st.bindings X v f e st in
      let p : a ≡ cell x.rows f.phrase 1 = i ∙ cell_at x fs s m w f.phrase r.low 1 (omega arith) in
      rw (r.runs (evaluate x.phrases d) vs k m.st.remaining.0, ne_eqb (length vs) (cell x.rows f.phrase 1) (λ z. j (p ∙ sym z ∙ q))) (refl, refl);
}

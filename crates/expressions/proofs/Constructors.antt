-- Constructors: one law for each return. The arguments stand on the empty chain, the last one first.
use Rattle.std.specs.Prelude.{Option, Some, None}
use mathlib.Core.Path.{◌≡◌, refl, sym, ap, subst, ◌∙◌}
use mathlib.Core.Bool.{true, false}
use mathlib.Core.List.{List, [], ◌∷◌}
use Prim.Native.Nat.{ℕ, zero, suc, ◌+◌, ◌*◌, ◌-◌, ◌≤◌, ◌<◌}
use native.Mathlib.Omega.{arith}
use native.Mathlib.Decide.{ℕ_discrete as dec_eq}
use lib.ListN.{length, get_or}
use lib.Seq.{length-take-le}
use borrow.Author.Tests.{ne_eqb}
use Rattle.language.specs.Refusals.{wrong_kind, wrong_count}
use Rattle.language.specs.Form.{Conn, conj, disj, cond, bicond, Form, neg, bin}
use Rattle.language.specs.Syntax.{function, method}
use Rattle.language.specs.Values.{Val, form, con_v, rule_v, closure, empty, Out, out, stop, must, as_form, as_forms, with_all, scope}
use Rattle.language.specs.Run.{constructed, takes, called, evaluate, Evaluate}
use Rattle.words.proofs.Fronts.{length_front}
use Rattle.forms.specs.Word.{word, Rec, neg_r, bin_r, code, Below}
use Rattle.forms.specs.Interned.{Interned, having}
use Rattle.forms.specs.Table.{formed, Table}
use Rattle.forms.proofs.Positions.{having_paid}
use Rattle.forms.proofs.Interning.{sized}
use Rattle.forms.proofs.Growth.{after}
use Rattle.bindings.specs.declared.Value.{Value}
use Rattle.bindings.specs.declared.Value.TheVariants.{Constructor}
use Rattle.bindings.specs.declared.Binding.{Binding}
use Rattle.bindings.specs.Numbers.{value_at, next_at, binding_at}
use Rattle.bindings.specs.Stands.{Is, Stands, Chain}
use Rattle.bindings.proofs.Tags.{tag, held}
use Rattle.bindings.proofs.Chains.{chain_low}
use Rattle.expressions.specs.declared.State.{State}
use Rattle.expressions.specs.Machine.{Shared, M, mk, done, refused, part_of, Made}
use Rattle.expressions.specs.Asked.{Text, Applicable}
use Rattle.expressions.specs.Meets.{Meets, Called}
use Rattle.expressions.proofs.Growth.{used}
use Rattle.expressions.proofs.Steps.{trees_few}

-- pieces

abbrev number : Option ℕ → ℕ
number (Some p) = suc p
number None = 0

module _ (rows : List (List ℕ)) (fs : List Form) (t : List ℕ) (n : ℕ) where
  pub formed_piece : (X : Val) (v : Value) (p : ℕ) → Stands rows fs t n X v → part_of v ≡ Some p → (P : Form) × (X ≡ form P) × Is fs p P
  unfolding Stands
  formed_piece (form P) v p x e =
      let y : x.0 ≡ p = let z = ap number (ap part_of (sym x.1) ∙ e) in omega arith in
      (P, refl, subst (λ (q : ℕ). Is fs q P) y x.2)
  formed_piece (con_v c) v p x e = absurd (let z = ap number (ap part_of (sym x.0) ∙ e) in omega arith)
  formed_piece (rule_v r) v p x e = absurd (let z = ap number (ap part_of (sym x.0) ∙ e) in omega arith)
  formed_piece (closure function false m b i) v p x e = absurd (let z = ap number (ap part_of (sym x.1) ∙ e) in omega arith)
  formed_piece (closure method false m b i) v p x e = absurd (let z = ap number (ap part_of (sym x.1) ∙ e) in omega arith)
  formed_piece (closure function true m b i) v p x e = absurd (let z = ap number (ap part_of (sym x.2) ∙ e) in omega arith)
  formed_piece (closure method true m b i) v p x e = absurd (let z = ap number (ap part_of (sym x.2) ∙ e) in omega arith)

  pub other_piece : (X : Val) (v : Value) (k : ℕ) (f : Form → Out Val) → Stands rows fs t n X v → part_of v ≡ None → as_form X k f ≡ stop wrong_kind k
  unfolding Stands as_form
  other_piece (form P) v k f x e = absurd (let z = ap number (ap part_of (sym x.1) ∙ e) in omega arith)
  other_piece (con_v c) v k f x e = refl
  other_piece (rule_v r) v k f x e = refl
  other_piece (closure s self m b i) v k f x e = refl

  con_is : (X : Val) (c : ℕ) → Stands rows fs t n X (Constructor c) → (X ≡ con_v c) × (c ≤ 4)
  unfolding Stands
  con_is (form P) c x = absurd (let z = ap tag x.1 in omega arith)
  con_is (con_v d) c x = let z : c ≡ d = ap held x.0 in let l = x.1 in (ap con_v (sym z), omega arith)
  con_is (rule_v r) c x = absurd (let z = ap tag x.0 in omega arith)
  con_is (closure function false m b i) c x = absurd (let z = ap tag x.1 in omega arith)
  con_is (closure method false m b i) c x = absurd (let z = ap tag x.1 in omega arith)
  con_is (closure function true m b i) c x = absurd (let z = ap tag x.2 in omega arith)
  con_is (closure method true m b i) c x = absurd (let z = ap tag x.2 in omega arith)

  -- one argument, two arguments
  record One (vs : List Val) (y : ℕ) : Type 0 where
    pub last : Val
    pub all : vs ≡ last ∷ []
    pub some : 0 < y
    pub stands : Stands rows fs t n last (value_at t (y - 1))

  record Two (vs : List Val) (y : ℕ) : Type 0 where
    pub first : Val
    pub last : Val
    pub all : vs ≡ first ∷ (last ∷ [])
    pub some : 0 < y
    pub stands : Stands rows fs t n last (value_at t (y - 1))
    pub more : 0 < next_at t (y - 1)
    pub low : next_at t (y - 1) ≤ n
    pub before : Stands rows fs t n first (value_at t (next_at t (y - 1) - 1))

  one_of : (vs : List Val) (y : ℕ) → length vs ≡ 1 → Chain rows fs t n (with_all empty vs) y → One vs y
  unfolding Stands with_all
  one_of [] y l c = absurd (omega arith)
  one_of (v ∷ []) y l c =
      let g = c.2 in
      let z : y - 1 ≡ c.0 = omega arith in
      record { last = v; all = refl; some = omega arith; stands = rw z c.3 }
  one_of (v ∷ (u ∷ vs)) y l c = absurd (omega arith)

  two_of : (vs : List Val) (y : ℕ) → length vs ≡ 2 → Chain rows fs t n (with_all empty vs) y → Two vs y
  unfolding Stands with_all
  two_of [] y l c = absurd (omega arith)
  two_of (v ∷ []) y l c = absurd (omega arith)
  two_of (v ∷ (u ∷ [])) y l c =
      let g = c.2 in
      let z : y - 1 ≡ c.0 = omega arith in
      let d = c.4 in
      let i = d.1 in
      let h = d.2 in
      let q : next_at t c.0 - 1 ≡ d.0 = omega arith in
      record { first = v; last = u; all = refl; some = omega arith; stands = rw z c.3; more = rw z (omega (arith, h)); low = rw z (omega (arith, h, i)); before = rw (z, q) d.3 }
  two_of (v ∷ (u ∷ (w ∷ vs))) y l c = absurd (omega arith)

  one_here : (X : Val) (vs : List Val) (c y k : ℕ) → Stands rows fs t n X (Constructor c) → Chain rows fs t n (with_all (scope X) vs) y → length vs ≡ k → k ≡ takes c → c ≡ 0 → One vs y
  unfolding scope takes
  one_here X vs c y k s ch l e z = one_of vs y (l ∙ e ∙ rw z) (rw (con_is X c s).0 at ch)

  two_here : (X : Val) (vs : List Val) (c y k : ℕ) → Stands rows fs t n X (Constructor c) → Chain rows fs t n (with_all (scope X) vs) y → length vs ≡ k → k ≡ takes c → (c ≡ 0 → ⊥) → Two vs y
  unfolding scope takes
  two_here X vs zero y k s ch l e z = absurd (z refl)
  two_here X vs (suc c) y k s ch l e z = two_of vs y (l ∙ e) (rw (con_is X (suc c) s).0 at ch)

-- a proposition formed: its record, and what the language constructs

formed_meets : (rows : List (List ℕ)) (m : M) (fs : List Form) (c p q : ℕ) (y : Rec) (F : Form) (t : List ℕ) (o : Value × State) → Table (used m) fs → m.st.props < length m.forms → length m.forms ≤ 16384
    → code y ≡ word (3 + c) p q → Below (length (used m)) y → formed fs y ≡ F → Made c p q m.st m.forms t o → Meets 1 0 rows m fs (done o.0 (mk t m.binds o.1)) (out (form F) m.st.remaining.0)
unfolding Meets Stands
formed_meets rows m fs c p q y F t o T room small e below f made =
    let n = m.st.props in
    let r = made.formed in
    let i : Interned (code y) n m.forms t r = rw e made.interned in
    let l = length-take-le n m.forms (omega arith) in
    let A = after n m.forms t r fs y T below (omega arith) i in
    let S = sized (code y) n m.forms t r (omega arith) i in
    let most = S.most in
    let paid = having_paid (code y) (used m) in
    let long : length t ≡ length m.forms = ap length i.words ∙ length_front (having (code y) (used m)) m.forms (omega arith) in
    let count = A.table.count in
    let low = A.low in
    rw made.outcome (
      A.more,
      record {
        table = A.table;
        kept = λ j h. refl;
        more = omega arith;
        props = omega arith;
        bindings = omega arith;
        forms_long = long;
        binds_long = refl;
      },
      (r.at, refl, record { low = omega (arith, count, low); tree = A.is ∙ f }),
      refl,
    )

not_meets : (rows : List (List ℕ)) (m : M) (fs : List Form) (c p : ℕ) (P : Form) (t : List ℕ) (o : Value × State) → Table (used m) fs → m.st.props < length m.forms → length m.forms ≤ 16384 → c ≡ 0 → Is fs p P → Made c p 0 m.st m.forms t o → Meets 1 0 rows m fs (done o.0 (mk t m.binds o.1)) (out (form (neg P)) m.st.remaining.0)
unfolding Below formed
not_meets rows m fs c p P t o T room small z x made =
    let count = T.count in
    let low = x.low in
    formed_meets rows m fs c p 0 (neg_r p) (neg P) t o T room small (rw z) (omega arith) (ap neg x.tree) made

conn_of : ℕ → Conn
conn_of c = get_or (conj ∷ (disj ∷ (cond ∷ (bicond ∷ [])))) c conj

join_code : (c p q : ℕ) → c < 4 → code (bin_r (conn_of c) p q) ≡ word (3 + suc c) p q
unfolding conn_of
join_code zero p q h = refl
join_code (suc zero) p q h = refl
join_code (suc (suc zero)) p q h = refl
join_code (suc (suc (suc zero))) p q h = refl
join_code (suc (suc (suc (suc c)))) p q h = absurd (omega arith)

join_meets : (rows : List (List ℕ)) (m : M) (fs : List Form) (c p q : ℕ) (P Q : Form) (t : List ℕ) (o : Value × State) → Table (used m) fs → m.st.props < length m.forms → length m.forms ≤ 16384 → (c ≡ 0 → ⊥) → c ≤ 4 → Is fs p P → Is fs q Q → Made c p q m.st m.forms t o → Meets 1 0 rows m fs (done o.0 (mk t m.binds o.1)) (out (form (constructed c (P ∷ (Q ∷ [])))) m.st.remaining.0)
unfolding Below formed constructed conn_of
join_meets rows m fs zero p q P Q t o T room small z h x y made = absurd (z refl)
join_meets rows m fs (suc c) p q P Q t o T room small z h x y made =
    let count = T.count in
    let lx = x.low in
    let ly = y.low in
    formed_meets rows m fs (suc c) p q (bin_r (conn_of c) p q) (bin (conn_of c) P Q) t o T room small (join_code c p q (omega arith)) (omega arith, omega arith) (rw (x.tree, y.tree)) made

-- what a call of a constructor gives

module _ (E : Evaluate) (k w : ℕ) where
  called_one : (c : ℕ) (P : Form) → c ≡ 0 → called E (con_v c) (form P ∷ []) k w ≡ out (form (neg P)) w
  unfolding called must as_forms as_form takes constructed
  called_one c P z = rw z

  called_two : (c : ℕ) (P Q : Form) → (c ≡ 0 → ⊥) → called E (con_v c) (form P ∷ (form Q ∷ [])) k w ≡ out (form (constructed c (P ∷ (Q ∷ [])))) w
  unfolding called must as_forms as_form takes
  called_two zero P Q z = absurd (z refl)
  called_two (suc c) P Q z = refl

  one_other : (c : ℕ) (X : Val) → c ≡ 0 → ((f : Form → Out Val) → as_form X k f ≡ stop wrong_kind k) → called E (con_v c) (X ∷ []) k w ≡ stop wrong_kind k
  unfolding called must as_forms takes
  one_other c X z h = rw z (h _)

  last_other : (c : ℕ) (X Y : Val) → (c ≡ 0 → ⊥) → ((f : Form → Out Val) → as_form Y k f ≡ stop wrong_kind k) → called E (con_v c) (X ∷ (Y ∷ [])) k w ≡ stop wrong_kind k
  unfolding called must as_forms as_form takes
  last_other zero X Y z h = absurd (z refl)
  last_other (suc c) (form P) Y z h = h _
  last_other (suc c) (con_v d) Y z h = refl
  last_other (suc c) (rule_v r) Y z h = refl
  last_other (suc c) (closure s self m b e) Y z h = refl

  first_other : (c : ℕ) (X Y : Val) → (c ≡ 0 → ⊥) → ((f : Form → Out Val) → as_form X k f ≡ stop wrong_kind k) → called E (con_v c) (X ∷ (Y ∷ [])) k w ≡ stop wrong_kind k
  unfolding called must as_forms takes
  first_other zero X Y z h = absurd (z refl)
  first_other (suc c) X Y z h = h _

-- the returns

module _ (s : Shared) (d c y n k : ℕ) (m : M) where
  pub con_miscounted : (a : ℕ) → a ≡ takes c → (n ≡ a → ⊥) → Called s d (Constructor c) y n k m (refused wrong_count k)
  unfolding called must Meets
  con_miscounted a i h = record {
    meets = λ x fs X vs w st ch l. rw ((con_is x.rows fs m.binds m.st.bindings X c st).0, ne_eqb (length vs) (takes c) (λ z. h (sym l ∙ z ∙ sym i))) (refl, refl);
  }

  module _ (a : ℕ) (i : a ≡ takes c) (j : n ≡ a) (b : Binding) (g : b ≡ binding_at m.binds (y - 1)) where
    abbrev last_value : Value
    last_value = value_at m.binds (y - 1)

    abbrev first_value : Value
    first_value = value_at m.binds (next_at m.binds (y - 1) - 1)

    value_is : (r : Option ℕ) → part_of b.value ≡ r → part_of last_value ≡ r
    value_is r e = ap (λ (u : Binding). part_of u.value) (sym g) ∙ e

    first_is : (u : Binding) → u ≡ binding_at m.binds (b.next - 1) → (r : Option ℕ) → part_of u.value ≡ r → part_of first_value ≡ r
    first_is u v r e = ap (λ (z : Binding). part_of (value_at m.binds (z.next - 1))) (sym g) ∙ ap (λ (z : Binding). part_of z.value) (sym v) ∙ e

    pub con_one : (q : ℕ) (t : List ℕ) (o : Value × State) → m.st.props < length m.forms → length m.forms ≤ 16384 → c ≡ 0 → part_of b.value ≡ Some q → Made c q 0 m.st m.forms t o → Called s d (Constructor c) y n k m (done o.0 (mk t m.binds o.1))
    con_one q t o room small z e f = record {
      meets = λ x fs X vs w st ch l.
          let E = evaluate x.phrases d in
          let is = con_is x.rows fs m.binds m.st.bindings X c st in
          let u = one_here x.rows fs m.binds m.st.bindings X vs c y n st ch l (j ∙ i) z in
          let P = formed_piece x.rows fs m.binds m.st.bindings u.last last_value q u.stands (value_is (Some q) e) in
          let p : called E X vs k m.st.remaining.0 ≡ out (form (neg P.0)) m.st.remaining.0 =
          ap (λ (Y : Val). called E Y vs k m.st.remaining.0) is.0 ∙ ap (λ (l : List Val). called E (con_v c) l k m.st.remaining.0) (u.all ∙ ap (λ (Y : Val). Y ∷ []) P.1) ∙ called_one E k m.st.remaining.0 c P.0 z in
          subst (Meets 1 0 x.rows m fs (done o.0 (mk t m.binds o.1))) (sym p) (not_meets x.rows m fs c q P.0 t o w.legible.table room small z P.2 f);
    }

    pub con_two : (p q : ℕ) (v : Binding) (t : List ℕ) (o : Value × State) → m.st.props < length m.forms → length m.forms ≤ 16384 → (c ≡ 0 → ⊥) → part_of b.value ≡ Some q → v ≡ binding_at m.binds (b.next - 1) → part_of v.value ≡ Some p → Made c p q m.st m.forms t o → Called s d (Constructor c) y n k m (done o.0 (mk t m.binds o.1))
    con_two p q v t o room small z e h f r = record {
      meets = λ x fs X vs w st ch l.
          let E = evaluate x.phrases d in
          let is = con_is x.rows fs m.binds m.st.bindings X c st in
          let u = two_here x.rows fs m.binds m.st.bindings X vs c y n st ch l (j ∙ i) z in
          let Q = formed_piece x.rows fs m.binds m.st.bindings u.last last_value q u.stands (value_is (Some q) e) in
          let P = formed_piece x.rows fs m.binds m.st.bindings u.first first_value p u.before (first_is v h (Some p) f) in
          let T : called E X vs k m.st.remaining.0 ≡ out (form (constructed c (P.0 ∷ (Q.0 ∷ [])))) m.st.remaining.0 =
          ap (λ (Y : Val). called E Y vs k m.st.remaining.0) is.0
          ∙ ap (λ (l : List Val). called E (con_v c) l k m.st.remaining.0) (u.all ∙ ap (λ (Y : Val). Y ∷ (u.last ∷ [])) P.1 ∙ ap (λ (Y : Val). form P.0 ∷ (Y ∷ [])) Q.1)
          ∙ called_two E k m.st.remaining.0 c P.0 Q.0 z in
          subst (Meets 1 0 x.rows m fs (done o.0 (mk t m.binds o.1))) (sym T) (join_meets x.rows m fs c p q P.0 Q.0 t o w.legible.table room small z is.1 P.2 Q.2 r);
    }

    pub con_first_other : (v : Binding) → (c ≡ 0 → ⊥) → v ≡ binding_at m.binds (b.next - 1) → part_of v.value ≡ None → Called s d (Constructor c) y n k m (refused wrong_kind k)
    unfolding Meets
    con_first_other v z h e = record {
      meets = λ x fs X vs w st ch l.
          let E = evaluate x.phrases d in
          let u = two_here x.rows fs m.binds m.st.bindings X vs c y n st ch l (j ∙ i) z in
          let T : called E X vs k m.st.remaining.0 ≡ stop wrong_kind k =
          ap (λ (Y : Val). called E Y vs k m.st.remaining.0) (con_is x.rows fs m.binds m.st.bindings X c st).0 ∙ ap (λ (l : List Val). called E (con_v c) l k m.st.remaining.0) u.all
          ∙ first_other E k m.st.remaining.0 c u.first u.last z (λ f. other_piece x.rows fs m.binds m.st.bindings u.first first_value k f u.before (first_is v h None e)) in
          subst (Meets 1 0 x.rows m fs (refused wrong_kind k)) (sym T) (refl, refl);
    }

    pub con_last_other : part_of b.value ≡ None → Called s d (Constructor c) y n k m (refused wrong_kind k)
    unfolding Meets
    con_last_other e = record { meets = λ x fs X vs w st ch l. go x fs X vs st ch l (dec_eq c 0) }
      where
        go : (x : Text) (fs : List Form) (X : Val) (vs : List Val) → Stands x.rows fs m.binds m.st.bindings X (Constructor c) → Chain x.rows fs m.binds m.st.bindings (with_all (scope X) vs) y → length vs ≡ n → Dec (c ≡ 0) → Meets 1 0 x.rows m fs (refused wrong_kind k) (called (evaluate x.phrases d) X vs k m.st.remaining.0)
        go x fs X vs st ch l (yes z) =
            let E = evaluate x.phrases d in
            let u = one_here x.rows fs m.binds m.st.bindings X vs c y n st ch l (j ∙ i) z in
            let T : called E X vs k m.st.remaining.0 ≡ stop wrong_kind k =
            ap (λ (Y : Val). called E Y vs k m.st.remaining.0) (con_is x.rows fs m.binds m.st.bindings X c st).0 ∙ ap (λ (l : List Val). called E (con_v c) l k m.st.remaining.0) u.all
            ∙ one_other E k m.st.remaining.0 c u.last z (λ f. other_piece x.rows fs m.binds m.st.bindings u.last last_value k f u.stands (value_is None e)) in
            subst (Meets 1 0 x.rows m fs (refused wrong_kind k)) (sym T) (refl, refl)
        go x fs X vs st ch l (no z) =
            let E = evaluate x.phrases d in
            let u = two_here x.rows fs m.binds m.st.bindings X vs c y n st ch l (j ∙ i) z in
            let T : called E X vs k m.st.remaining.0 ≡ stop wrong_kind k =
            ap (λ (Y : Val). called E Y vs k m.st.remaining.0) (con_is x.rows fs m.binds m.st.bindings X c st).0 ∙ ap (λ (l : List Val). called E (con_v c) l k m.st.remaining.0) u.all
            ∙ last_other E k m.st.remaining.0 c u.first u.last z (λ f. other_piece x.rows fs m.binds m.st.bindings u.last last_value k f u.stands (value_is None e)) in
            subst (Meets 1 0 x.rows m fs (refused wrong_kind k)) (sym T) (refl, refl)

-- what the reads ask

module _ (s : Shared) (c y n : ℕ) (m : M) (A : Applicable s m (Constructor c) y n) (a : ℕ) (i : a ≡ takes c) (j : n ≡ a) where
  one_argument : c ≡ 0 → One A.text.rows A.formed m.binds m.st.bindings A.values y
  one_argument z = one_here A.text.rows A.formed m.binds m.st.bindings A.operator A.values c y n A.stands A.chain A.count (j ∙ i) z

  two_arguments : (c ≡ 0 → ⊥) → Two A.text.rows A.formed m.binds m.st.bindings A.values y
  two_arguments z = two_here A.text.rows A.formed m.binds m.st.bindings A.operator A.values c y n A.stands A.chain A.count (j ∙ i) z

  bounds : (0 < y) → (0 < y) × (4 * (y - 1) + 4 ≤ length m.binds)
  bounds h =
      let l = chain_low A.text.rows A.formed m.binds m.st.bindings (with_all (scope A.operator) A.values) y A.chain in
      let r = A.room.binds in
      (h, omega arith)

  pub last_bounds : (0 < y) × (4 * (y - 1) + 4 ≤ length m.binds)
  last_bounds = go (dec_eq c 0)
    where
      go : Dec (c ≡ 0) → (0 < y) × (4 * (y - 1) + 4 ≤ length m.binds)
      go (yes z) = bounds (one_argument z).some
      go (no z) = bounds (two_arguments z).some

  pub form_room : (m.st.props < length m.forms) × (length m.forms ≤ 16384) × (c ≤ 4)
  form_room = let r = A.room.forms in let t = A.room.small in (omega arith, t, (con_is A.text.rows A.formed m.binds m.st.bindings A.operator c A.stands).1)

  pub first_bounds : (b : Binding) → b ≡ binding_at m.binds (y - 1) → (c ≡ 0 → ⊥) → (0 < b.next) × (4 * (b.next - 1) + 4 ≤ length m.binds)
  first_bounds b g z =
      let u = two_arguments z in
      let h = u.more in
      let l = u.low in
      let r = A.room.binds in
      rw g (h, omega arith)

  piece_low : (X : Val) (v : Value) (q : ℕ) → Stands A.text.rows A.formed m.binds m.st.bindings X v → part_of v ≡ Some q → q < 16384
  piece_low X v q st e =
      let P = formed_piece A.text.rows A.formed m.binds m.st.bindings X v q st e in
      let l = P.2.low in
      let f = trees_few m A.formed A.world.legible.table in
      omega arith

  pub last_low : (b : Binding) (q : ℕ) → b ≡ binding_at m.binds (y - 1) → part_of b.value ≡ Some q → q < 16384
  last_low b q g e = go (dec_eq c 0)
    where
      is : part_of (value_at m.binds (y - 1)) ≡ Some q
      is = ap (λ (u : Binding). part_of u.value) (sym g) ∙ e

      go : Dec (c ≡ 0) → q < 16384
      go (yes z) = let u = one_argument z in piece_low u.last (value_at m.binds (y - 1)) q u.stands is
      go (no z) = let u = two_arguments z in piece_low u.last (value_at m.binds (y - 1)) q u.stands is

  pub first_low : (b v : Binding) (p : ℕ) → b ≡ binding_at m.binds (y - 1) → (c ≡ 0 → ⊥) → v ≡ binding_at m.binds (b.next - 1) → part_of v.value ≡ Some p → p < 16384
  first_low b v p g z h e =
      let u = two_arguments z in
      piece_low u.first (value_at m.binds (next_at m.binds (y - 1) - 1)) p u.before
      (ap (λ (z : Binding). part_of (value_at m.binds (z.next - 1))) (sym g) ∙ ap (λ (z : Binding). part_of z.value) (sym h) ∙ e)

-- Matches: one law for each return of the functions that evaluate the first phrase and run the clause that fits.
use Rattle.std.specs.Prelude.{Some, None}
use mathlib.Core.Path.{◌≡◌, refl, sym, ap, subst, ◌∙◌}
use mathlib.Core.List.{List, [], ◌++◌, map, append-nil}
use Prim.Native.Nat.{ℕ, ◌+◌, ◌*◌, ◌≤◌, ◌<◌}
use native.Mathlib.Omega.{arith}
use lib.ListN.{length, drop}
use Rattle.language.specs.Refusals.{wrong_kind, no_clause}
use Rattle.language.specs.Form.{Form}
use Rattle.language.specs.Values.{Val, form, Env, Out, out, stop, next, as_form, with_forms}
use Rattle.language.specs.Patterns.{Choice as ChosenClause, chosen, unfit, choose, on_choice}
use Rattle.language.specs.Run.{evaluated, evaluate_step, evaluate}
use Rattle.forms.specs.Table.{tree, Table}
use Rattle.records.specs.Rows.{clauses_of}
use Rattle.theorems.proofs.Lists.{all_map}
use Rattle.bindings.specs.declared.Value.{Value}
use Rattle.bindings.specs.declared.Value.TheVariants.{Prop, Constructor, Rule, Function, Method}
use Rattle.bindings.specs.Stands.{Chain}
use Rattle.bindings.proofs.Chains.{chain_low}
use Rattle.patterns.specs.declared.Parts.{Parts}
use Rattle.patterns.specs.Parts.{numbers}
use Rattle.patterns.specs.Fitting.{Offered, Picked, ChosenSo}
use Rattle.patterns.proofs.Clauses.{OnBody, body_of, Binds, binds_of}
use Rattle.expressions.specs.Machine.{Shared, M, mk, counters, MOut, done, refused, kind, one, two, part_of, chained, outermost}
use Rattle.expressions.specs.Asked.{Text, Row, World, Ready, Matching, Bindable}
use Rattle.expressions.specs.Meets.{Grew, Meets, Evaluated, Stepped, Selected}
use Rattle.expressions.proofs.Operands.{row_inside, says_match, subject_row, few_clauses, clause_rows}
use Rattle.expressions.proofs.Growth.{used, world_grew, chain_grew, after, passed}
use Rattle.expressions.proofs.Steps.{step_is, Got, trees_few}
use Rattle.expressions.proofs.Constructors.{formed_piece, other_piece}
use Rattle.expressions.proofs.Parts.{chained_kept, chained_long, chained_stands}

-- the clauses of a match may be tried

abbrev offered : (x : Text) (fs : List Form) (s : Shared) (m : M) (k n p : ℕ) → World x fs s m → Row x k → kind s.phrases k ≡ 9 → n ≡ two s.phrases k → p < length fs → Offered m.forms s.patterns s.phrases (12 * k + 3) n p
offered x fs s m k n p W h is i low =
    let few = few_clauses x fs s m W k h is in
    let inside = row_inside x fs s m W k h.0 in
    record {
      words = m.st.props;
      trees = fs;
      qs = x.patterns;
      rows = x.pattern_rows;
      legible = W.legible;
      proposition = low;
      named = λ j l. (clause_rows x fs s m W k h is j (omega arith)).0;
      inside = omega arith;
      short = W.short;
    }

module _ (s : Shared) (env k p : ℕ) (m : M) (n : ℕ) (i : n ≡ two s.phrases k) where
  pub clauses_offered : Matching s m env k p → Offered m.forms s.patterns s.phrases (12 * k + 3) n p
  clauses_offered M = offered M.ready.text M.ready.formed s m k n p M.ready.world M.ready.row M.kind i M.low

  abbrev clauses : Text → Form → ChosenClause
  clauses x P = choose (clauses_of x.patterns n (drop (12 * k + 3) s.phrases)) P

  body_at : (x : Text) (fs : List Form) (P : Form) → World x fs s m → Row x k → kind s.phrases k ≡ 9 → OnBody (Row x) (clauses x P)
  body_at x fs P W h is = body_of (Row x) x.patterns P n (12 * k + 3) s.phrases (λ j l. (clause_rows x fs s m W k h is j (omega arith)).1)

  -- no clause fits
  pub none_fits : (d : ℕ) → ChosenSo m.forms s.patterns s.phrases (12 * k + 3) n p None → Selected s d env k p m (refused no_clause k)
  unfolding Meets on_choice Picked
  none_fits d C = record { meets = λ x fs e W h is low c. rw (← i) (go x fs e (clauses x (tree fs p)) (C.meets (offered x fs s m k n p W h is i low))) }
    where
      go : (x : Text) (fs : List Form) (e : Env) (q : ChosenClause) → Picked fs None q → Meets 0 4 x.rows m fs (refused no_clause k) (on_choice q k (λ b ps. evaluate x.phrases d (with_forms e ps) b m.st.remaining.0))
      go x fs e (chosen b ps) z = absurd z
      go x fs e unfit z = (refl, refl)

  module _ (body : ℕ) (parts : Parts) (C : ChosenSo m.forms s.patterns s.phrases (12 * k + 3) n p (Some (body, parts))) where
    pub parts_bindable : Matching s m env k p → Bindable m.binds m.st.bindings env parts
    unfolding Picked
    parts_bindable M = go (clauses r.text (tree r.formed p)) (C.meets (clauses_offered'))
      where
        r : Ready s m env k 4 4
        r = M.ready

        clauses_offered' : Offered m.forms s.patterns s.phrases (12 * k + 3) n p
        clauses_offered' = offered r.text r.formed s m k n p r.world r.row M.kind i M.low

        go : (q : ChosenClause) → Picked r.formed (Some (body, parts)) q → Bindable m.binds m.st.bindings env parts
        go (chosen b ps) z =
            let B = binds_of r.formed ps parts z.1.0 z.1.1 z.1.2 z.1.3 in
            let few = B.few in
            let rb = r.room.binds in
            let trees = trees_few m r.formed r.world.legible.table in
            record {
              few = few;
              low = all_map (λ q. q < length r.formed) (λ q. q < 16384) (λ q h. omega arith) (numbers parts) B.low;
              from = chain_low r.text.rows r.formed m.binds m.st.bindings r.bound env r.chain;
              room = omega arith;
              short = r.room.short;
            }
        go unfit z = absurd z

    module _ (t : List ℕ) (y : ℕ) (B : (y ≡ outermost m.st.bindings env (numbers parts)) × (t ≡ chained m.binds m.st.bindings env (numbers parts))) where
      abbrev bound : M
      bound = mk m.forms t (counters m.st.props (m.st.bindings + parts.count) m.st.remaining.0)

      bound_long : length t ≡ length m.binds
      bound_long = ap length B.1 ∙ chained_long (numbers parts) m.binds m.st.bindings env

      bound_world : (x : Text) (fs : List Form) → World x fs s m → World x fs s bound
      bound_world x fs W = record { legible = W.legible; says = W.says; holds = W.holds; short = W.short }

      bound_chain : (x : Text) (fs ps : List Form) (e : Env) → 4 * (m.st.bindings + parts.count) ≤ length m.binds → Chain x.rows fs m.binds m.st.bindings e env → Binds fs parts ps → Chain x.rows fs t (m.st.bindings + parts.count) (with_forms e ps) y
      bound_chain x fs ps e room c b =
          let n = b.count in
          let ns = numbers parts in
          let C = chained_stands ns x.rows fs m.binds m.st.bindings env e (omega arith) c b.low in
          rw (B.0, B.1, ← b.trees)
          (subst (λ (j : ℕ). Chain x.rows fs (chained m.binds m.st.bindings env ns) (m.st.bindings + j) (with_forms e (map (tree fs) ns)) (outermost m.st.bindings env ns)) n C)

      bound_grew : (fs : List Form) → Table (used m) fs → parts.count ≤ 4 → Grew 0 4 m bound fs []
      bound_grew fs T few = record {
        table = rw append-nil T;
        kept = rw B.1 (chained_kept (numbers parts) m.binds m.st.bindings env);
        more = omega arith;
        props = omega arith;
        bindings = omega arith;
        forms_long = refl;
        binds_long = bound_long;
      }

      -- the clause may be run
      pub clause_ready : Matching s m env k p → Ready s bound y body 0 0
      unfolding Picked OnBody
      clause_ready M = go (clauses r.text (tree r.formed p)) (C.meets (offered r.text r.formed s m k n p r.world r.row M.kind i M.low)) (body_at r.text r.formed (tree r.formed p) r.world r.row M.kind)
        where
          r : Ready s m env k 4 4
          r = M.ready

          go : (q : ChosenClause) → Picked r.formed (Some (body, parts)) q → OnBody (Row r.text) q → Ready s bound y body 0 0
          go (chosen b ps) z h =
              let D = binds_of r.formed ps parts z.1.0 z.1.1 z.1.2 z.1.3 in
              let few = D.few in
              let rf = r.room.forms in let rb = r.room.binds in let rs = r.room.short in
              let l = bound_long in
              record {
                text = r.text;
                formed = r.formed;
                bound = with_forms r.bound ps;
                world = bound_world r.text r.formed r.world;
                row = rw z.0 h;
                chain = bound_chain r.text r.formed ps r.bound (omega arith) r.chain D;
                room = record { forms = omega arith; binds = omega arith; small = r.room.small; short = omega arith };
              }
          go unfit z h = absurd z

      pub clause_runs : (d : ℕ) (o : MOut) → 4 * (m.st.bindings + parts.count) ≤ length m.binds → Evaluated s d y body bound o → Selected s d env k p m o
      unfolding on_choice Picked OnBody
      clause_runs d o room E = record {
        meets = λ x fs e W h is low c. rw (← i) (go x fs e W c (clauses x (tree fs p)) (C.meets (offered x fs s m k n p W h is i low)) (body_at x fs (tree fs p) W h is));
      }
        where
          go : (x : Text) (fs : List Form) (e : Env) → World x fs s m → Chain x.rows fs m.binds m.st.bindings e env → (q : ChosenClause) → Picked fs (Some (body, parts)) q → OnBody (Row x) q
              → Meets 0 4 x.rows m fs o (on_choice q k (λ b ps. evaluate x.phrases d (with_forms e ps) b m.st.remaining.0))
          go x fs e W c (chosen b ps) z h =
              let D = binds_of fs ps parts z.1.0 z.1.1 z.1.2 z.1.3 in
              let T = W.legible.table in
              rw (← z.0)
              (after 0 4 0 0 0 4 x.rows m bound fs [] o (evaluate x.phrases d (with_forms e ps) body m.st.remaining.0) (bound_grew fs T D.few)
              (subst (λ (l : List Form). Meets 0 0 x.rows bound l o (evaluate x.phrases d (with_forms e ps) body m.st.remaining.0)) (sym (append-nil fs))
              (E.meets x fs (with_forms e ps) (bound_world x fs W) (rw z.0 h) (bound_chain x fs ps e room c D))) (omega arith) (omega arith))
          go x fs e W c unfit z h = absurd z

-- the first phrase

-- a value that is none of the first kind is no proposition
pub other_kind : (v : Value) → ((p : ℕ) → v ≡ Prop p → ⊥) → part_of v ≡ None
other_kind (Prop p) h = absurd (h p refl)
other_kind (Constructor c) h = refl
other_kind (Rule r) h = refl
other_kind (Function f) h = refl
other_kind (Method f) h = refl

pub subject_is : (s : Shared) (m : M) (env k a b c : ℕ) → kind s.phrases k ≡ 9 → a ≡ one s.phrases k → (r : Ready s m env k b c) → Row r.text a
subject_is s m env k a b c is i r = rw i (subject_row r.text r.formed s m r.world k r.row is)

-- a value that is a proposition
pub matching : (s : Shared) (env k : ℕ) (m : M) (v : Value) (p : ℕ) → kind s.phrases k ≡ 9 → v ≡ Prop p → Got s m v env k 4 4 → Matching s m env k p
matching s env k m v p is e g =
    let r = g.ready in
    let P = formed_piece r.text.rows r.formed m.binds m.st.bindings g.value v p g.stands (ap part_of e) in
    record { ready = r; kind = is; low = P.2.low }

module _ (s : Shared) (d env k : ℕ) (m : M) (is : kind s.phrases k ≡ 9) (a : ℕ) (i : a ≡ one s.phrases k) where
  abbrev then : Text → Env → Val → ℕ → Out Val
  then x e X w = as_form X k (λ P. on_choice (choose (clauses_of x.patterns (two s.phrases k) (drop (12 * k + 3) s.phrases)) P) k (λ b ps. evaluate x.phrases d (with_forms e ps) b w))

  match_step : (x : Text) (fs : List Form) (W : World x fs s m) (h : Row x k) (e : Env) (w : ℕ) → evaluate_step x.phrases (evaluate x.phrases d) e k w ≡ next (evaluate x.phrases d e a w) (then x e)
  unfolding evaluated
  match_step x fs W h e w = step_is x.phrases (evaluate x.phrases d) e k w _ (says_match x fs s m W k h.0 is) ∙ rw i

  row_a : (x : Text) (fs : List Form) → World x fs s m → Row x k → Row x a
  row_a x fs W h = rw i (subject_row x fs s m W k h is)

  pub subject_refused : (n y : ℕ) → Evaluated s d env a m (refused n y) → Stepped s d env k m (refused n y)
  subject_refused n y A = record {
    meets = λ x fs e w h c. subst (Meets 4 4 x.rows m fs (refused n y)) (sym (match_step x fs w h e m.st.remaining.0))
        (passed 0 0 4 4 x.rows m m fs fs n y (evaluate x.phrases d e a m.st.remaining.0) (then x e) (A.meets x fs e w (row_a x fs w h) c));
  }

  -- a value of another kind
  pub subject_other : (v : Value) (m₁ : M) → part_of v ≡ None → Evaluated s d env a m (done v m₁) → Stepped s d env k m (refused wrong_kind k)
  unfolding Meets next
  subject_other v m₁ q A = record {
    meets = λ x fs e w h c. subst (Meets 4 4 x.rows m fs (refused wrong_kind k)) (sym (match_step x fs w h e m.st.remaining.0))
        (go x fs e (evaluate x.phrases d e a m.st.remaining.0) (A.meets x fs e w (row_a x fs w h) c));
  }
    where
      go : (x : Text) (fs : List Form) (e : Env) (r : Out Val) → Meets 0 0 x.rows m fs (done v m₁) r → Meets 4 4 x.rows m fs (refused wrong_kind k) (next r (then x e))
      go x fs e (out X n) z = subst (Meets 4 4 x.rows m fs (refused wrong_kind k)) (sym (other_piece x.rows (fs ++ z.0) m₁.binds m₁.st.bindings X v k _ z.2 q)) (refl, refl)
      go x fs e (stop n y) z = absurd z

  -- a proposition
  pub match_is : (v : Value) (p : ℕ) (m₁ : M) (o : MOut) → v ≡ Prop p → Evaluated s d env a m (done v m₁) → Selected s d env k p m₁ o → Stepped s d env k m o
  unfolding Meets next as_form
  match_is v p m₁ o q A S = record {
    meets = λ x fs e w h c. subst (Meets 4 4 x.rows m fs o) (sym (match_step x fs w h e m.st.remaining.0))
        (go x fs e w h c (evaluate x.phrases d e a m.st.remaining.0) (A.meets x fs e w (row_a x fs w h) c));
  }
    where
      go : (x : Text) (fs : List Form) (e : Env) → World x fs s m → Row x k → Chain x.rows fs m.binds m.st.bindings e env → (r : Out Val) → Meets 0 0 x.rows m fs (done v m₁) r → Meets 4 4 x.rows m fs o (next r (then x e))
      go x fs e w h c (out X n) z =
          let gs = z.0 in let g = z.1 in
          let P = formed_piece x.rows (fs ++ gs) m₁.binds m₁.st.bindings X v p z.2 (ap part_of q) in
          let w₁ = world_grew 0 0 m m₁ fs gs g x s w in
          let c₁ = chain_grew 0 0 m m₁ fs gs g x.rows e env c in
          rw (P.1, ← z.3, ← P.2.tree)
          (after 0 0 0 4 4 4 x.rows m m₁ fs gs o (then x e (form (tree (fs ++ gs) p)) m₁.st.remaining.0) g (S.meets x (fs ++ gs) e w₁ h is P.2.low c₁) (omega arith) (omega arith))
      go x fs e w h c (stop n y) z = absurd z

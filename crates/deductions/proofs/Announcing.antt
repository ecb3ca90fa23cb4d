-- By: the deduction, then the announced proposition. One law for each return.
use Rattle.std.specs.Prelude.{Result}
use mathlib.Core.Path.{◌≡◌, refl, sym, ap, subst, ◌∙◌}
use mathlib.Core.Bool.{Bool, true, false}
use mathlib.Core.List.{List, [], ◌++◌, append_assoc, append-nil}
use Prim.Native.Nat.{ℕ, ◌≤◌, ◌<◌}
use native.Mathlib.Omega.{arith}
use native.Mathlib.Nat.{le_refl}
use lib.Dec.{eqb}
use Rattle.language.specs.Refusals.{wrong_kind, announced_differs}
use Rattle.language.specs.declared.refusal.Refusal.{Refusal}
use Rattle.language.specs.Form.{Form, same}
use Rattle.language.specs.Values.{Val, Env, Out, out, next, must, as_form}
use Rattle.language.specs.Run.{evaluate, Derived, deduced, deduce_step, deduce}
use Rattle.forms.specs.Table.{tree}
use Rattle.forms.proofs.Trees.{same_at}
use Rattle.bindings.specs.declared.Value.{Value}
use Rattle.bindings.specs.declared.Value.TheVariants.{Prop, Constructor, Rule, Function, Method}
use Rattle.bindings.specs.Stands.{Is, Stands}
use Rattle.bindings.proofs.Chains.{is_more}
use Rattle.tokens.specs.Tells.{Tells}
use Rattle.tokens.proofs.Growth.{tells_more}
use Rattle.expressions.specs.declared.State.{State}
use Rattle.expressions.specs.Machine.{Shared, mk as mkE, done, refused as refusedE, kind, one, two}
use Rattle.expressions.specs.Asked.{Text, Row, Ready as ReadyE}
use Rattle.expressions.specs.Meets.{Evaluated}
use Rattle.deductions.specs.Machine.{M, inner, remaining, moved, concluded, refused, out_of, compared_by, compared_of}
use Rattle.deductions.specs.Asked.{In, Setting, Ready}
use Rattle.deductions.specs.Meets.{Grew, Meets, Deduced, Stepped}
use Rattle.deductions.proofs.Sorts.{proposition, no_proposition}
use Rattle.deductions.proofs.Growth.{used, setting_grew, room_grew, less, grew_then}
use Rattle.deductions.proofs.Rows.{step_is, says_by, by_rows, expression_row}
use Rattle.deductions.proofs.Got.{ran, ran_refused, Proved, proved, refusal}
use Rattle.deductions.proofs.Lets.{ready_less}
use Rattle.deductions.proofs.Supposing.{concluded_by}

-- an expression may be evaluated where a run may go on
pub ready_expression : (G : Text → Type 0) (s : Shared) (m : M) (env b j A C T U : ℕ) (r : Ready G s m env b A C T U) → Row r.text j → ReadyE s (inner m) env j 0 0
ready_expression G s m env b j A C T U r row =
    let e = r.room.inner in
    let rf = e.forms in let rb = e.binds in
    record {
      text = r.text;
      formed = r.formed;
      bound = r.bindings;
      world = r.setting.world;
      row = row;
      chain = r.setting.chain;
      room = record { forms = omega arith; binds = omega arith; small = e.small; short = e.short };
    }

pub either_expression : (s : Shared) (m : M) (env b k c A C T U : ℕ) → Ready (In k) s m env b A C T U → c ≡ kind s.phrases k → c < 16 → ReadyE s (inner m) env k 0 0
either_expression s m env b k c A C T U r i h =
    ready_expression (In k) s m env b k A C T U r (expression_row r.text r.formed s (inner m) r.setting.world k r.row (rw (← i) h))

-- a deduction has run
pub ready_proved : (G : Text → Type 0) (s : Shared) (d env b j p A C T U : ℕ) (m m₁ : M) (r : Ready G s m env b A C T U) → In j r.text → Deduced s d env b j m (concluded p m₁)
    → (q : Ready G s m₁ env b A C T U) × (q.text ≡ r.text)
ready_proved G s d env b j p A C T U m m₁ r row D =
    let x = r.text in let fs = r.formed in let e = r.bindings in let β = r.basis in
    let P = proved 0 0 0 b m m₁ fs p (deduce x.phrases d e β j (remaining m)) (D.meets x fs e β r.setting row) in
    let g = P.grew in
    let w = less 0 0 0 b m m₁ fs P.more P.told g (omega arith) in (
      record {
        text = x;
        formed = fs ++ P.more;
        bindings = e;
        basis = β;
        setting = setting_grew 0 0 0 b m m₁ fs P.more P.told g x e β s env b (le_refl b) r.setting;
        row = r.row;
        room = room_grew 0 0 0 b m m₁ fs P.more P.told g b b A C T U A C T U (omega arith) r.room (omega arith) (omega arith) (omega arith) (omega arith);
      },
      refl,
    )

module _ (s : Shared) (d env b k f j : ℕ) (m : M) (is : kind s.phrases k ≡ 20) (fi : f ≡ one s.phrases k) (ji : j ≡ two s.phrases k) where
  abbrev then : Text → Env → Derived → ℕ → Out Derived
  then x e y w₁ = next (evaluate x.phrases d e f w₁) (λ v w₂. as_form v k (λ P. must (same P y.conclusion) announced_differs k (out y w₂)))

  by_step : (x : Text) (fs : List Form) (e : Env) (β : List Form) → Setting x fs e β s m env b → In k x →
      deduce_step x.phrases (evaluate x.phrases d) (deduce x.phrases d) e β k (remaining m) ≡ next (deduce x.phrases d e β j (remaining m)) (then x e)
  unfolding deduced
  by_step x fs e β S l = step_is x.phrases (evaluate x.phrases d) (deduce x.phrases d) e β k (remaining m) _ (says_by x fs s (inner m) S.world k l is) ∙ rw (fi, ji)

  row_f : (x : Text) (fs : List Form) (e : Env) (β : List Form) → Setting x fs e β s m env b → In k x → Row x f
  row_f x fs e β S l = rw fi (by_rows x fs s (inner m) S.world k l is).0

  row_j : (x : Text) (fs : List Form) (e : Env) (β : List Form) → Setting x fs e β s m env b → In k x → In j x × (16 ≤ kind s.phrases j)
  row_j x fs e β S l = rw ji (by_rows x fs s (inner m) S.world k l is).1

  pub by_ready : Ready (In k) s m env b 4 4 11 1 → Ready (In j) s m env b 0 0 0 0 × (16 ≤ kind s.phrases j)
  by_ready r =
      let q = row_j r.text r.formed r.bindings r.basis r.setting r.row in
      (ready_less (In k) (In j) s m env b 4 4 11 1 0 0 0 0 r q.0 (omega arith) (omega arith) (omega arith) (omega arith), q.1)

  pub by_expression : (p : ℕ) (m₁ : M) → Ready (In k) s m env b 4 4 11 1 → Deduced s d env b j m (concluded p m₁) → ReadyE s (inner m₁) env f 0 0
  by_expression p m₁ r D =
      let q = (row_j r.text r.formed r.bindings r.basis r.setting r.row).0 in
      let R = ready_proved (In k) s d env b j p 4 4 11 1 m m₁ r q D in
      ready_expression (In k) s m₁ env b f 4 4 11 1 R.0 (subst (λ (x : Text). Row x f) (sym R.1) (row_f r.text r.formed r.bindings r.basis r.setting r.row))

  pub by_fails : (n y : ℕ) → Deduced s d env b j m (refused n y) → Stepped s d env b k m (refused n y)
  unfolding Meets next
  by_fails n y D = record {
    meets = λ x fs e β S l. rw (by_step x fs e β S l, refusal 0 0 0 b m fs n y (deduce x.phrases d e β j (remaining m)) (D.meets x fs e β S (row_j x fs e β S l).0)) (refl, refl);
  }

  module _ (q : ℕ) (m₁ : M) (D : Deduced s d env b j m (concluded q m₁)) where
    P : (x : Text) (fs : List Form) (e : Env) (β : List Form) → Setting x fs e β s m env b → In k x → Proved 0 0 0 b m m₁ fs q (deduce x.phrases d e β j (remaining m))
    P x fs e β S l = proved 0 0 0 b m m₁ fs q (deduce x.phrases d e β j (remaining m)) (D.meets x fs e β S (row_j x fs e β S l).0)

    S₁ : (x : Text) (fs : List Form) (e : Env) (β : List Form) (S : Setting x fs e β s m env b) (l : In k x) → Setting x (fs ++ (P x fs e β S l).more) e β s m₁ env b
    S₁ x fs e β S l = let z = P x fs e β S l in setting_grew 0 0 0 b m m₁ fs z.more z.told z.grew x e β s env b (le_refl b) S

    pub by_refused : (n y : ℕ) → Evaluated s d env f (inner m₁) (refusedE n y) → Stepped s d env b k m (refused n y)
    unfolding Meets next
    by_refused n y A = record {
      meets = λ x fs e β S l. rw (by_step x fs e β S l, (P x fs e β S l).is, ran_refused s d env b f m₁ x (fs ++ (P x fs e β S l).more) e β (S₁ x fs e β S l) (row_f x fs e β S l) n y A) (refl, refl);
    }

    module _ (t u : List ℕ) (st : State) where
      -- the announced proposition against the conclusion
      compared : (fs more more₂ : List Form) (told : List ℕ) (y : Derived) (X : Val) (v : Value) (rows : List (List ℕ)) → Grew 0 0 0 b m m₁ fs more told → Is (fs ++ more) q y.conclusion → Tells (fs ++ more) y.proof told
          → Grew 0 0 1 b m₁ (moved m₁ t u st) (fs ++ more) more₂ [] → Stands rows ((fs ++ more) ++ more₂) u st.bindings X v
          → Meets 4 4 11 b m fs (out_of (moved m₁ t u st) (compared_of v q k)) (as_form X k (λ F. must (same F y.conclusion) announced_differs k (out y st.remaining.0)))
      unfolding compared_of Meets must as_form
      compared fs more more₂ told y X (Prop p) rows g c T g₂ s₂ =
          let Q = proposition rows ((fs ++ more) ++ more₂) u st.bindings X (Prop p) p s₂ refl in
          let table = g₂.inner.table in
          let n = table.count in
          let c₂ = is_more (fs ++ more) more₂ q y.conclusion c in
          let lp = Q.2.low in let lq = c₂.low in
          let test : same Q.0 y.conclusion ≡ eqb p q =
          ap (λ (F : Form). same F y.conclusion) (sym Q.2.tree) ∙ ap (same (tree ((fs ++ more) ++ more₂) p)) (sym c₂.tree) ∙ same_at (used (moved m₁ t u st)) ((fs ++ more) ++ more₂) table p q (omega arith) (omega arith) in
          let whole = append-nil told in
          let G = subst (Grew 4 4 11 b m (moved m₁ t u st) fs (more ++ more₂)) whole (grew_then 0 0 0 b 0 0 1 b 4 4 11 m m₁ (moved m₁ t u st) fs more more₂ told [] g g₂ (omega arith) (omega arith) (omega arith) (le_refl b)) in
          subst (λ (Y : Val). Meets 4 4 11 b m fs (out_of (moved m₁ t u st) (compared_by (eqb p q) q k)) (as_form Y k (λ F. must (same F y.conclusion) announced_differs k (out y st.remaining.0)))) (sym Q.1)
          (subst (λ (w : Bool). Meets 4 4 11 b m fs (out_of (moved m₁ t u st) (compared_by (eqb p q) q k)) (must w announced_differs k (out y st.remaining.0))) (sym test)
          (by_test (eqb p q) fs more more₂ told y G c₂ (tells_more (fs ++ more) more₂ y.proof told T)))
        where
          by_test : (w : Bool) (fs more more₂ : List Form) (told : List ℕ) (y : Derived) → Grew 4 4 11 b m (moved m₁ t u st) fs (more ++ more₂) told → Is ((fs ++ more) ++ more₂) q y.conclusion → Tells ((fs ++ more) ++ more₂) y.proof told
              → Meets 4 4 11 b m fs (out_of (moved m₁ t u st) (compared_by w q k)) (must w announced_differs k (out y st.remaining.0))
          by_test true fs more more₂ told y G c T = concluded_by 4 4 11 b m (moved m₁ t u st) fs (more ++ more₂) ((fs ++ more) ++ more₂) told q y.conclusion y.proof (append_assoc fs more more₂) G c T
          by_test false fs more more₂ told y G c T = (refl, refl)
      compared fs more more₂ told y X (Constructor o) rows g c T g₂ s₂ =
          subst (Meets 4 4 11 b m fs (refused wrong_kind k)) (sym (no_proposition rows ((fs ++ more) ++ more₂) u st.bindings X (Constructor o) k _ s₂ (λ z. omega arith))) (refl, refl)
      compared fs more more₂ told y X (Rule o) rows g c T g₂ s₂ =
          subst (Meets 4 4 11 b m fs (refused wrong_kind k)) (sym (no_proposition rows ((fs ++ more) ++ more₂) u st.bindings X (Rule o) k _ s₂ (λ z. omega arith))) (refl, refl)
      compared fs more more₂ told y X (Function o) rows g c T g₂ s₂ =
          subst (Meets 4 4 11 b m fs (refused wrong_kind k)) (sym (no_proposition rows ((fs ++ more) ++ more₂) u st.bindings X (Function o) k _ s₂ (λ z. omega arith))) (refl, refl)
      compared fs more more₂ told y X (Method o) rows g c T g₂ s₂ =
          subst (Meets 4 4 11 b m fs (refused wrong_kind k)) (sym (no_proposition rows ((fs ++ more) ++ more₂) u st.bindings X (Method o) k _ s₂ (λ z. omega arith))) (refl, refl)

      pub by_is : (v : Value) (c : Result ℕ Refusal) → Evaluated s d env f (inner m₁) (done v (mkE t u st)) → c ≡ compared_of v q k → Stepped s d env b k m (out_of (moved m₁ t u st) c)
      unfolding next
      by_is v c A i = record {
        meets = λ x fs e β S l.
            let z = P x fs e β S l in
            let R = ran s d env b f m₁ x (fs ++ z.more) e β (S₁ x fs e β S l) (row_f x fs e β S l) t u st v A in
            rw (by_step x fs e β S l, z.is, R.is, i) (compared fs z.more R.more z.told z.derived R.value v x.rows z.grew z.concludes z.tells R.grew R.stands);
      }

-- A deduction under a hypothesis, assume and suppose-absurd: one law for each return.
use Rattle.std.specs.Prelude.{Some, Result, Err}
use mathlib.Core.Path.{◌≡◌, refl, sym, ap, subst, ◌∙◌}
use mathlib.Core.List.{List, [], ◌∷◌, ◌++◌, append_assoc, append-nil}
use Prim.Native.Nat.{ℕ, ◌+◌, ◌≤◌, ◌<◌}
use native.Mathlib.Omega.{arith}
use native.Mathlib.Nat.{le_refl}
use native.Mathlib.Decide.{ℕ_discrete as dec_eq}
use lib.ListN.{length, take}
use lib.Seq.{length-take-le}
use lib.Dec.{eqb}
use borrow.Author.Tests.{eq-eqb, ne_eqb}
use Rattle.language.specs.Refusals.{wrong_kind, not_false}
use Rattle.language.specs.Form.{Form, cond, falsum, neg, bin, same}
use Rattle.language.specs.Plain.{Plain, infer, seq, under}
use Rattle.language.specs.Values.{Val, form, con_v, rule_v, closure, Env, Out, out, stop, next, must, as_form}
use Rattle.language.specs.Run.{evaluate, Derived, derived, refuted, deduced, deduce_step, deduce}
use Rattle.words.proofs.Fronts.{length_front}
use Rattle.forms.specs.declared.Formed.{Formed}
use Rattle.forms.specs.Word.{Rec, neg_r, bin_r, code, Below}
use Rattle.forms.specs.Interned.{Interned, having}
use Rattle.forms.specs.Table.{tree, formed, Table}
use Rattle.forms.proofs.Positions.{having_paid}
use Rattle.forms.proofs.Interning.{sized}
use Rattle.forms.proofs.Growth.{after as interned_after}
use Rattle.forms.proofs.Trees.{same_at, falsity_at}
use Rattle.bindings.specs.declared.Value.{Value}
use Rattle.bindings.specs.declared.Value.TheVariants.{Prop}
use Rattle.bindings.specs.Stands.{Is}
use Rattle.bindings.proofs.Chains.{is_more}
use Rattle.tokens.specs.Tells.{Names, Tells}
use Rattle.tokens.proofs.Growth.{tells_more}
use Rattle.expressions.specs.declared.State.{State}
use Rattle.expressions.specs.Machine.{Shared, counters, mk as mkE, done, refused as refusedE, kind, one, two}
use Rattle.expressions.specs.Asked.{Text, Row}
use Rattle.expressions.specs.Meets.{Evaluated}
use Rattle.expressions.proofs.Growth.{grew_none as grew_e_none}
use Rattle.expressions.proofs.Steps.{trees_few}
use Rattle.language.specs.declared.refusal.Refusal.{Refusal}
use Rattle.language.specs.declared.refusal.Why.TheVariants.{NotFalse}
use Rattle.deductions.specs.Machine.{M, mk, progress, inner, remaining, bound, moved, MOut, concluded, refused, out_of, Progress, tollens, Refutation, Refuted}
use Rattle.deductions.specs.Asked.{In, Setting, Ready, Hypothetical}
use Rattle.deductions.specs.Meets.{Grew, Meets, Deduced, Stepped, Supposing}
use Rattle.deductions.proofs.Sorts.{Otherwise, proposition, no_proposition}
use Rattle.deductions.proofs.Bases.{based_push}
use Rattle.deductions.proofs.Growth.{used, setting_grew, setting_same, room_grew, less, grew_then, grew_on, joined_on, grew_joined, told_on, grew_told, grew_none}
use Rattle.deductions.proofs.Rows.{step_is, says_assume, says_suppose, assumed_rows, supposed_rows}
use Rattle.deductions.proofs.Got.{Ran, ran, ran_refused, proved, refusal}

-- a conclusion, its trees written in another order
pub concluded_by : (a c t b : ℕ) (m m' : M) (fs gs l : List Form) (ts : List ℕ) (p : ℕ) (F : Form) (D : Plain) → l ≡ fs ++ gs → Grew a c t b m m' fs gs ts → Is l p F → Tells l D ts → Meets a c t b m fs (concluded p m') (out (derived F D) (remaining m'))
unfolding Meets
concluded_by a c t b m m' fs gs l ts p F D e g i d = (gs, ts, g, subst (λ (u : List Form). Is u p F) e i, subst (λ (u : List Form). Tells u D ts) e d, refl)

-- under a hypothesis

abbrev pub hyp_on : M → ℕ → ℕ → M
hyp_on m b p = told_on (joined_on m b (Some p)) (2 ∷ p ∷ []) (m.at.tokens + 2)

module _ (s : Shared) (d env b p k : ℕ) (m : M) where
  grew_hyp : (fs : List Form) → m.at.tokens + 2 ≤ length m.tokens → Table (used m) fs → Grew 0 0 3 b m (hyp_on m b p) fs [] (2 ∷ p ∷ [])
  grew_hyp fs h T =
      grew_on 0 0 1 b 0 0 3 b 0 0 3 m (joined_on m b (Some p)) (hyp_on m b p) fs [] [] (2 ∷ p ∷ []) (grew_joined b b m fs (Some p) (le_refl b) T)
      (grew_told 3 b (m.at.tokens + 2) (joined_on m b (Some p)) fs (2 ∷ p ∷ []) refl h (omega arith) T) (omega arith) (omega arith) (omega arith) (le_refl b)

  setting_hyp : (x : Text) (fs : List Form) (e : Env) (β : List Form) → Setting x fs e β s m env b → b < length m.base → p < length fs → Setting x fs e (tree fs p ∷ β) s (hyp_on m b p) env (b + 1)
  setting_hyp x fs e β S h l =
      let w = S.world in
      record {
        world = record { legible = w.legible; says = w.says; holds = w.holds; short = w.short };
        chain = S.chain;
        based = based_push fs m.base b p β h l S.based;
      }

  pub under_ready : Hypothetical s m env b p k → Ready (In k) s (hyp_on m b p) env (b + 1) 0 0 0 0
  under_ready a =
      let r = a.ready in
      let rt = r.room.tokens in let rs = r.room.base in
      let T = r.setting.world.legible.table in
      record {
        text = r.text;
        formed = r.formed;
        bindings = r.bindings;
        basis = tree r.formed p ∷ r.basis;
        setting = setting_hyp r.text r.formed r.bindings r.basis r.setting (omega arith) a.low;
        row = r.row;
        room = room_grew 0 0 3 b m (hyp_on m b p) r.formed [] (2 ∷ p ∷ []) (grew_hyp r.formed (omega arith) T) b (b + 1) 0 0 2 1 0 0 0 0 (omega arith) r.room (omega arith) (omega arith) (omega arith) (omega arith);
      }

  pub under_fits : Hypothetical s m env b p k → (m.at.tokens + 2 ≤ length m.tokens) × (p < 16384) × (b + 1 ≤ 16384)
  under_fits a =
      let r = a.ready in
      let rt = r.room.tokens in let rs = r.room.base in let rm = r.room.small in
      let few = trees_few (inner m) r.formed r.setting.world.legible.table in
      let l = a.low in
      (omega arith, omega arith, omega arith)

  pub under_is : (o : MOut) → Hypothetical s m env b p k → Deduced s d env (b + 1) k (hyp_on m b p) o → Supposing s d env b p k m o
  unfolding Meets next Tells
  under_is o a A = record {
    meets = λ x fs e β S l low.
        let rt = a.ready.room.tokens in let rs = a.ready.room.base in
        let g = grew_hyp fs (omega arith) S.world.legible.table in
        go fs low g o (deduce x.phrases d e (tree fs p ∷ β) k (remaining m)) (A.meets x fs e (tree fs p ∷ β) (setting_hyp x fs e β S (omega arith) low) l);
  }
    where
      go : (fs : List Form) → p < length fs → Grew 0 0 3 b m (hyp_on m b p) fs [] (2 ∷ p ∷ []) → (o : MOut) (r : Out Derived) → Meets 0 0 0 (b + 1) (hyp_on m b p) fs o r
          → Meets 0 0 2 b m fs o (next r (λ y. out (derived y.conclusion (under (tree fs p) y.proof))))
      go fs low g (concluded q m') (out z w) y = (
        y.0,
        (2 ∷ p ∷ []) ++ y.1,
        grew_on 0 0 3 b 0 0 0 (b + 1) 0 0 2 m (hyp_on m b p) m' fs y.0 (2 ∷ p ∷ []) y.1 g y.2 (omega arith) (omega arith) (omega arith) (omega arith),
        y.3,
        (p, y.1, refl, is_more fs y.0 p (tree fs p) (record { low = low; tree = refl }), y.4),
        y.5,
      )
      go fs low g (concluded q m') (stop n k') y = y
      go fs low g (refused n' k'') (out z w) y = y
      go fs low g (refused n' k'') (stop n k') y = y

-- assume and suppose-absurd, by what they make of the deduction under their hypothesis

abbrev wrapped : ℕ → Text → Env → List Form → Form → ℕ → ℕ → Out Derived
wrapped d x e β P j w = next (deduce x.phrases d e (P ∷ β) j w) (λ y. out (derived y.conclusion (under P y.proof)))

abbrev hyp_run : ℕ → (Form → Derived → ℕ → Out Derived) → Text → Env → List Form → ℕ → ℕ → ℕ → ℕ → Out Derived
hyp_run d C x e β f j k w = next (evaluate x.phrases d e f w) (λ v w₁. as_form v k (λ P. next (wrapped d x e β P j w₁) (C P)))

pub record Runs (s : Shared) (d env b k f j : ℕ) (m : M) (C : Form → Derived → ℕ → Out Derived) : Type 0 where
  pub first : (x : Text) (fs : List Form) (e : Env) (β : List Form) → Setting x fs e β s m env b → In k x → Row x f
  pub second : (x : Text) (fs : List Form) (e : Env) (β : List Form) → Setting x fs e β s m env b → In k x → In j x × (16 ≤ kind s.phrases j)
  pub is : (x : Text) (fs : List Form) (e : Env) (β : List Form) → Setting x fs e β s m env b → In k x →
      deduce_step x.phrases (evaluate x.phrases d) (deduce x.phrases d) e β k (remaining m) ≡ hyp_run d C x e β f j k (remaining m)

abbrev implied : Form → Derived → ℕ → Out Derived
implied P y w = out (derived (bin cond P y.conclusion) y.proof) w

abbrev refuting : ℕ → Form → Derived → ℕ → Out Derived
refuting k P y w =
    must (same y.conclusion falsum) not_false k (out (derived (neg P) (seq y.proof (seq (infer 15 []) (infer 2 (bin cond P falsum ∷ (neg falsum ∷ [])))))) w)

module _ (d : ℕ) (x : Text) (e : Env) (β : List Form) (j k : ℕ) where
  -- the proof is wrapped first
  turn_assume : (q : Out Val) → next q (λ v w₁. as_form v k (λ P. next (deduce x.phrases d e (P ∷ β) j w₁) (λ y. out (derived (bin cond P y.conclusion) (under P y.proof)))))
      ≡ next q (λ v w₁. as_form v k (λ P. next (wrapped d x e β P j w₁) (implied P)))
  unfolding next as_form
  turn_assume (out (form P) w) = go (deduce x.phrases d e (P ∷ β) j w)
    where
      go : (r : Out Derived) → next r (λ y. out (derived (bin cond P y.conclusion) (under P y.proof))) ≡ next (next r (λ y. out (derived y.conclusion (under P y.proof)))) (implied P)
      go (out y w) = refl
      go (stop n z) = refl
  turn_assume (out (con_v c) w) = refl
  turn_assume (out (rule_v c) w) = refl
  turn_assume (out (closure t self n b i) w) = refl
  turn_assume (stop n y) = refl

  turn_suppose : (q : Out Val) → next q (λ v w₁. as_form v k (λ P. next (deduce x.phrases d e (P ∷ β) j w₁) (λ y w₂. must (same y.conclusion falsum) not_false k (out (derived (neg P) (refuted P y.proof)) w₂))))
      ≡ next q (λ v w₁. as_form v k (λ P. next (wrapped d x e β P j w₁) (refuting k P)))
  unfolding next as_form refuted
  turn_suppose (out (form P) w) = go (deduce x.phrases d e (P ∷ β) j w)
    where
      go : (r : Out Derived) → next r (λ y w₂. must (same y.conclusion falsum) not_false k (out (derived (neg P) (refuted P y.proof)) w₂)) ≡ next (next r (λ y. out (derived y.conclusion (under P y.proof)))) (refuting k P)
      go (out y w) = refl
      go (stop n z) = refl
  turn_suppose (out (con_v c) w) = refl
  turn_suppose (out (rule_v c) w) = refl
  turn_suppose (out (closure t self n b i) w) = refl
  turn_suppose (stop n y) = refl

pub assume_runs : (s : Shared) (d env b k f j : ℕ) (m : M) → kind s.phrases k ≡ 17 → f ≡ one s.phrases k → j ≡ two s.phrases k → Runs s d env b k f j m implied
unfolding deduced
assume_runs s d env b k f j m is fi ji = record {
  first = λ x fs e β S l. rw fi (assumed_rows x fs s (inner m) S.world k l is).0;
  second = λ x fs e β S l. rw ji (assumed_rows x fs s (inner m) S.world k l is).1;
  is = λ x fs e β S l. step_is x.phrases (evaluate x.phrases d) (deduce x.phrases d) e β k (remaining m) _ (says_assume x fs s (inner m) S.world k l is)
      ∙ rw (← fi, ← ji) (turn_assume d x e β j k (evaluate x.phrases d e f (remaining m)));
}

pub suppose_runs : (s : Shared) (d env b k f j : ℕ) (m : M) → kind s.phrases k ≡ 18 → f ≡ one s.phrases k → j ≡ two s.phrases k → Runs s d env b k f j m (refuting k)
unfolding deduced
suppose_runs s d env b k f j m is fi ji = record {
  first = λ x fs e β S l. rw fi (supposed_rows x fs s (inner m) S.world k l is).0;
  second = λ x fs e β S l. rw ji (supposed_rows x fs s (inner m) S.world k l is).1;
  is = λ x fs e β S l. step_is x.phrases (evaluate x.phrases d) (deduce x.phrases d) e β k (remaining m) _ (says_suppose x fs s (inner m) S.world k l is)
      ∙ rw (← fi, ← ji) (turn_suppose d x e β j k (evaluate x.phrases d e f (remaining m)));
}

module _ (s : Shared) (d env b k f j : ℕ) (m : M) (C : Form → Derived → ℕ → Out Derived) (H : Runs s d env b k f j m C) where
  pub hyp_row : (A E T U : ℕ) (r : Ready (In k) s m env b A E T U) → Row r.text f
  hyp_row A E T U r = H.first r.text r.formed r.bindings r.basis r.setting r.row

  pub hyp_refused : (n y : ℕ) → Evaluated s d env f (inner m) (refusedE n y) → Stepped s d env b k m (refused n y)
  unfolding Meets next
  hyp_refused n y A = record { meets = λ x fs e β S l. rw (H.is x fs e β S l, ran_refused s d env b f m x fs e β S (H.first x fs e β S l) n y A) (refl, refl) }

  module _ (t u : List ℕ) (st : State) (v : Value) (A : Evaluated s d env f (inner m) (done v (mkE t u st))) where
    abbrev m₁ : M
    m₁ = moved m t u st

    R : (x : Text) (fs : List Form) (e : Env) (β : List Form) → Setting x fs e β s m env b → In k x → Ran s d env b f m m₁ x fs e β v
    R x fs e β S l = ran s d env b f m x fs e β S (H.first x fs e β S l) t u st v A

    pub hyp_other : Otherwise v → Stepped s d env b k m (refused wrong_kind k)
    unfolding Meets next
    hyp_other h = record {
      meets = λ x fs e β S l.
          let q = R x fs e β S l in
          subst (Meets 4 4 11 b m fs (refused wrong_kind k))
          (sym (H.is x fs e β S l ∙ ap (λ (o : Out Val). next o (λ v w₁. as_form v k (λ P. next (wrapped d x e β P j w₁) (C P)))) q.is
          ∙ no_proposition x.rows (fs ++ q.more) m₁.binds (bound m₁) q.value v k (λ P. next (wrapped d x e β P j (remaining m₁)) (C P)) q.stands h)) (refl, refl);
    }

    module _ (p : ℕ) (vp : v ≡ Prop p) where
      -- the run from the hypothesis on
      from_hyp : (x : Text) (fs : List Form) (e : Env) (β : List Form) (S : Setting x fs e β s m env b) (l : In k x) →
          (p < length (fs ++ (R x fs e β S l).more))
          × (deduce_step x.phrases (evaluate x.phrases d) (deduce x.phrases d) e β k (remaining m)
          ≡ next (wrapped d x e β (tree (fs ++ (R x fs e β S l).more) p) j (remaining m₁)) (C (tree (fs ++ (R x fs e β S l).more) p)))
      unfolding next as_form
      from_hyp x fs e β S l =
          let q = R x fs e β S l in
          let P = proposition x.rows (fs ++ q.more) m₁.binds (bound m₁) q.value v p q.stands vp in
          (P.2.low, H.is x fs e β S l ∙ rw (q.is, P.1, P.2.tree))

      pub hyp_ready : (us : List ℕ) (m₂ : M) → ((fs : List Form) → Table (used m₁) fs → Grew 0 0 2 b m₁ m₂ fs [] us) → (r : Ready (In k) s m env b 4 4 11 1) → Hypothetical s m₂ env b p j
      hyp_ready us m₂ G r =
          let x = r.text in let fs = r.formed in let e = r.bindings in let β = r.basis in
          let q = R x fs e β r.setting r.row in
          let i = from_hyp x fs e β r.setting r.row in
          let w = less 0 0 1 b m m₁ fs q.more [] q.grew (omega arith) in
          let g = G (fs ++ q.more) q.setting.world.legible.table in
          let w₂ = less 0 0 2 b m₁ m₂ (fs ++ q.more) [] us g (omega arith) in
          let room₁ = room_grew 0 0 1 b m m₁ fs q.more [] q.grew b b 4 4 11 1 4 4 11 1 (omega arith) r.room (omega arith) (omega arith) (omega arith) (omega arith) in
          record {
            ready = record {
              text = x;
              formed = fs ++ q.more;
              bindings = e;
              basis = β;
              setting = setting_same 0 0 2 b m₁ m₂ (fs ++ q.more) us g x e β s env b (le_refl b) q.setting;
              row = (H.second x fs e β r.setting r.row).0;
              room = room_grew 0 0 2 b m₁ m₂ (fs ++ q.more) [] us g b b 4 4 11 1 0 0 2 1 (omega arith) room₁ (omega arith) (omega arith) (omega arith) (omega arith);
            };
            low = i.0;
            kind = (H.second x fs e β r.setting r.row).1;
          }

      module _ (us : List ℕ) (m₂ : M) (G : (fs : List Form) → Table (used m₁) fs → Grew 0 0 2 b m₁ m₂ fs [] us) (same-remaining : remaining m₂ ≡ remaining m₁) where
        S₂ : (x : Text) (fs : List Form) (e : Env) (β : List Form) (S : Setting x fs e β s m env b) (l : In k x) → Setting x (fs ++ (R x fs e β S l).more) e β s m₂ env b
        S₂ x fs e β S l =
            let q = R x fs e β S l in
            let g = G (fs ++ q.more) q.setting.world.legible.table in
            setting_same 0 0 2 b m₁ m₂ (fs ++ q.more) us g x e β s env b (le_refl b) q.setting

        pub hyp_fails : (n y : ℕ) → Supposing s d env b p j m₂ (refused n y) → Stepped s d env b k m (refused n y)
        unfolding Meets next
        hyp_fails n y U = record {
          meets = λ x fs e β S l.
              let q = R x fs e β S l in
              let i = from_hyp x fs e β S l in
              let z = refusal 0 0 2 b m₂ (fs ++ q.more) n y (wrapped d x e β (tree (fs ++ q.more) p) j (remaining m₂)) (U.meets x (fs ++ q.more) e β (S₂ x fs e β S l) (H.second x fs e β S l).0 i.0) in
              let P = tree (fs ++ q.more) p in
              subst (Meets 4 4 11 b m fs (refused n y)) (sym (i.1 ∙ ap (λ (w : ℕ). next (wrapped d x e β P j w) (C P)) (sym same-remaining) ∙ ap (λ (o : Out Derived). next o (C P)) z)) (refl, refl);
        }

        -- what is concluded under the hypothesis, and the run from there on
        pub record Under (q : ℕ) (m₃ : M) (x : Text) (fs : List Form) (e : Env) (β : List Form) : Type 0 where
          pub more : List Form
          pub told : List ℕ
          pub hypothesis : Form
          pub derived : Derived
          pub grew : Grew 0 0 3 b m m₃ fs more (us ++ told)
          pub is_hypothesis : Is (fs ++ more) p hypothesis
          pub concludes : Is (fs ++ more) q derived.conclusion
          pub tells : Tells (fs ++ more) derived.proof told
          pub setting : Setting x (fs ++ more) e β s m₃ env b
          pub is : deduce_step x.phrases (evaluate x.phrases d) (deduce x.phrases d) e β k (remaining m) ≡ C hypothesis derived (remaining m₃)

        pub hyp_under : (q : ℕ) (m₃ : M) → Supposing s d env b p j m₂ (concluded q m₃) → (x : Text) (fs : List Form) (e : Env) (β : List Form) → Setting x fs e β s m env b → In k x → Under q m₃ x fs e β
        unfolding next
        hyp_under q m₃ U x fs e β S l =
            let r = R x fs e β S l in
            let i = from_hyp x fs e β S l in
            let P = tree (fs ++ r.more) p in
            let T = r.setting.world.legible.table in
            let z = proved 0 0 2 b m₂ m₃ (fs ++ r.more) q (wrapped d x e β P j (remaining m₂)) (U.meets x (fs ++ r.more) e β (S₂ x fs e β S l) (H.second x fs e β S l).0 i.0) in
            let a = append_assoc fs r.more z.more in
            let g₂ = grew_on 0 0 2 b 0 0 2 b 0 0 3 m₁ m₂ m₃ (fs ++ r.more) z.more us z.told (G (fs ++ r.more) T) z.grew (omega arith) (omega arith) (omega arith) (le_refl b) in
            let g = grew_then 0 0 1 b 0 0 3 b 0 0 3 m m₁ m₃ fs r.more z.more [] (us ++ z.told) r.grew g₂ (omega arith) (omega arith) (omega arith) (le_refl b) in
            record {
              more = r.more ++ z.more;
              told = z.told;
              hypothesis = P;
              derived = z.derived;
              grew = g;
              is_hypothesis = subst (λ (u : List Form). Is u p P) a (is_more (fs ++ r.more) z.more p P (record { low = i.0; tree = refl }));
              concludes = subst (λ (u : List Form). Is u q z.derived.conclusion) a z.concludes;
              tells = subst (λ (u : List Form). Tells u z.derived.proof z.told) a z.tells;
              setting = setting_grew 0 0 3 b m m₃ fs (r.more ++ z.more) (us ++ z.told) g x e β s env b (le_refl b) S;
              is = i.1 ∙ ap (λ (w : ℕ). next (wrapped d x e β P j w) (C P)) (sym same-remaining) ∙ ap (λ (o : Out Derived). next o (C P)) z.is;
            }

-- a proposition formed

abbrev pub formed_on : M → List ℕ → Formed → M
formed_on m t r = mk t m.binds m.base m.tokens (progress (counters r.size (bound m) (remaining m)) m.at.tokens)

pub record Forms (b : ℕ) (m : M) (t : List ℕ) (r : Formed) (fs : List Form) (F : Form) : Type 0 where
  pub more : List Form
  pub grew : Grew 1 0 1 b m (formed_on m t r) fs more []
  pub is : Is (fs ++ more) r.at F
  pub size : r.size ≤ m.at.state.props + 1
  pub long : length t ≡ length m.forms
  pub table : Table (take r.size t) (fs ++ more)

pub forms : (b : ℕ) (m : M) (t : List ℕ) (r : Formed) (fs : List Form) (y : Rec) → Table (used m) fs → Below (length fs) y → m.at.state.props < length m.forms → length m.forms ≤ 16384 → Interned (code y) m.at.state.props m.forms t r → Forms b m t r fs (formed fs y)
forms b m t r fs y T below room small i =
    let n = m.at.state.props in
    let l = length-take-le n m.forms (omega arith) in
    let c = T.count in
    let below' : Below (length (used m)) y = subst (λ (q : ℕ). Below q y) c below in
    let A = interned_after n m.forms t r fs y T below' (omega arith) i in
    let S = sized (code y) n m.forms t r (omega arith) i in
    let most = S.most in
    let paid = having_paid (code y) (used m) in
    let long : length t ≡ length m.forms = ap length i.words ∙ length_front (having (code y) (used m)) m.forms (omega arith) in
    let count = A.table.count in
    let low = A.low in
    record {
      more = A.more;
      grew = record {
        inner = record { table = A.table; kept = λ j h. refl; more = omega arith; props = omega arith; bindings = omega arith; forms_long = long; binds_long = refl };
        base = λ j h. refl;
        tokens = sym (append-nil (take m.at.tokens m.tokens));
        many = omega arith;
        paid = omega arith;
        base_long = refl;
        tokens_long = refl;
      };
      is = record { low = omega (arith, count, low); tree = A.is };
      size = most;
      long = long;
      table = A.table;
    }

-- assume

module _ (s : Shared) (d env b k f j : ℕ) (m : M) (H : Runs s d env b k f j m implied) (t u : List ℕ) (st : State) (v : Value) (A : Evaluated s d env f (inner m) (done v (mkE t u st))) (p : ℕ) (vp : v ≡ Prop p) where
  -- nothing is written before the hypothesis
  pub hyp_still : (fs : List Form) → Table (used (moved m t u st)) fs → Grew 0 0 2 b (moved m t u st) (moved m t u st) fs [] []
  hyp_still fs T = grew_none 0 0 2 b (moved m t u st) fs (omega arith) T

  under_still : (q : ℕ) (m₃ : M) → Supposing s d env b p j (moved m t u st) (concluded q m₃) → (x : Text) (fs : List Form) (e : Env) (β : List Form) → Setting x fs e β s m env b → In k x
      → Under s d env b k f j m implied H t u st v A p vp [] (moved m t u st) hyp_still refl q m₃ x fs e β
  under_still = hyp_under s d env b k f j m implied H t u st v A p vp [] (moved m t u st) hyp_still refl

  pub imply_asks : (q : ℕ) (m₃ : M) → Ready (In k) s m env b 4 4 11 1 → Supposing s d env b p j (moved m t u st) (concluded q m₃) → (m₃.at.state.props < length m₃.forms) × (p < 16384) × (q < 16384)
  imply_asks q m₃ r U =
      let z = under_still q m₃ U r.text r.formed r.bindings r.basis r.setting r.row in
      let g = z.grew in
      let R = room_grew 0 0 3 b m m₃ r.formed z.more z.told g b b 4 4 11 1 4 4 9 1 (omega arith) r.room (omega arith) (omega arith) (omega arith)
      (let w = less 0 0 3 b m m₃ r.formed z.more z.told g (omega arith) in omega arith) in
      let rf = R.inner.forms in
      let few = trees_few (inner m₃) (r.formed ++ z.more) z.setting.world.legible.table in
      let lp = z.is_hypothesis.low in let lq = z.concludes.low in
      (omega arith, omega arith, omega arith)

  pub assume_is : (q : ℕ) (m₃ : M) (w : List ℕ) (c : Formed) → Ready (In k) s m env b 4 4 11 1 → Supposing s d env b p j (moved m t u st) (concluded q m₃) → Interned (code (bin_r cond p q)) m₃.at.state.props m₃.forms w c
      → Stepped s d env b k m (concluded c.at (formed_on m₃ w c))
  unfolding formed Below
  assume_is q m₃ w c r U I = record {
    meets = λ x fs e β S l.
        let z = under_still q m₃ U x fs e β S l in
        let asks = imply_asks q m₃ r U in
        let T = z.setting.world.legible.table in
        let g₀ = (under_still q m₃ U r.text r.formed r.bindings r.basis r.setting r.row).grew.inner.forms_long in
        let small = r.room.inner.small in
        let F = forms b m₃ w c (fs ++ z.more) (bin_r cond p q) T (z.is_hypothesis.low, z.concludes.low) asks.0 (omega arith) I in
        let tree_is : bin cond (tree (fs ++ z.more) p) (tree (fs ++ z.more) q) ≡ bin cond z.hypothesis z.derived.conclusion = rw (z.is_hypothesis.tree, z.concludes.tree) in
        let G = grew_then 0 0 3 b 1 0 1 b 4 4 11 m m₃ (formed_on m₃ w c) fs z.more F.more z.told [] z.grew F.grew (omega arith) (omega arith) (omega arith) (le_refl b) in
        subst (Meets 4 4 11 b m fs (concluded c.at (formed_on m₃ w c))) (sym z.is)
        (concluded_by 4 4 11 b m (formed_on m₃ w c) fs (z.more ++ F.more) ((fs ++ z.more) ++ F.more) (z.told ++ []) c.at (bin cond z.hypothesis z.derived.conclusion) z.derived.proof
        (append_assoc fs z.more F.more) G (subst (Is ((fs ++ z.more) ++ F.more) c.at) tree_is F.is)
        (rw (append-nil z.told) (tells_more (fs ++ z.more) F.more z.derived.proof z.told z.tells)));
  }

-- suppose-absurd

-- tokens that are known to be written
pub grew_written : (t b n : ℕ) (m : M) (fs : List Form) (u ts : List ℕ) → n ≡ m.at.tokens + length ts → take n u ≡ take m.at.tokens m.tokens ++ ts → length u ≡ length m.tokens → length ts + 1 ≤ t → Table (used m) fs
    → Grew 0 0 t b m (mk m.forms m.binds m.base u (progress m.at.state n)) fs [] ts
grew_written t b n m fs u ts e w l h T = record {
  inner = grew_e_none 0 0 (inner m) fs T;
  base = λ j q. refl;
  tokens = w;
  many = e;
  paid = omega arith;
  base_long = refl;
  tokens_long = l;
}

-- what follows the proof under the hypothesis tells the rest
refuting_told : (l : List Form) (P : Form) (D : Plain) (ts : List ℕ) (x y : ℕ) → Tells l D ts → Is l x (bin cond P falsum) → Is l y (neg falsum)
    → Tells l (seq D (seq (infer 15 []) (infer 2 (bin cond P falsum ∷ (neg falsum ∷ []))))) (1 ∷ (ts ++ tollens x y))
unfolding Tells Names
refuting_told l P D ts x y t i j =
    (ts, tollens x y, refl, t, (0 ∷ (15 ∷ []), 0 ∷ (2 ∷ (x ∷ (y ∷ []))), refl, ([], refl, tt, refl, omega arith), (x ∷ (y ∷ []), refl, (i, (j, tt)), refl, omega arith)))

-- three propositions formed one after another
record Three (b : ℕ) (m m' : M) (fs : List Form) (x y z : ℕ) (X Y Z : Form) : Type 0 where
  pub more : List Form
  pub grew : Grew 3 0 1 b m m' fs more []
  pub first : Is (fs ++ more) x X
  pub second : Is (fs ++ more) y Y
  pub third : Is (fs ++ more) z Z

two_formed : (b : ℕ) (m : M) (t u : List ℕ) (r q : Formed) (fs : List Form) (X Y : Form) (F : Forms b m t r fs X) (G : Forms b (formed_on m t r) u q (fs ++ F.more) Y)
    → Grew 2 0 1 b m (formed_on (formed_on m t r) u q) fs (F.more ++ G.more) []
two_formed b m t u r q fs X Y F G =
    grew_then 1 0 1 b 1 0 1 b 2 0 1 m (formed_on m t r) (formed_on (formed_on m t r) u q) fs F.more G.more [] [] F.grew G.grew (omega arith) (omega arith) (omega arith) (le_refl b)

three_formed : (b : ℕ) (m : M) (t u w : List ℕ) (r q v : Formed) (fs : List Form) (X Y Z : Form) (F : Forms b m t r fs X) (G : Forms b (formed_on m t r) u q (fs ++ F.more) Y)
    (H : Forms b (formed_on (formed_on m t r) u q) w v ((fs ++ F.more) ++ G.more) Z) → Three b m (formed_on (formed_on (formed_on m t r) u q) w v) fs r.at q.at v.at X Y Z
three_formed b m t u w r q v fs X Y Z F G H =
    let l : (fs ++ F.more) ++ G.more ≡ fs ++ (F.more ++ G.more) = append_assoc fs F.more G.more in
    let k : ((fs ++ F.more) ++ G.more) ++ H.more ≡ fs ++ ((F.more ++ G.more) ++ H.more) = ap (λ (o : List Form). o ++ H.more) l ∙ append_assoc fs (F.more ++ G.more) H.more in
    let m₂ = formed_on (formed_on m t r) u q in
    record {
      more = (F.more ++ G.more) ++ H.more;
      grew = grew_then 2 0 1 b 1 0 1 b 3 0 1 m m₂ (formed_on m₂ w v) fs (F.more ++ G.more) H.more [] [] (two_formed b m t u r q fs X Y F G)
          (subst (λ (o : List Form). Grew 1 0 1 b m₂ (formed_on m₂ w v) o H.more []) l H.grew) (omega arith) (omega arith) (omega arith) (le_refl b);
      first = subst (λ (o : List Form). Is o r.at X) k (is_more ((fs ++ F.more) ++ G.more) H.more r.at X (is_more (fs ++ F.more) G.more r.at X F.is));
      second = subst (λ (o : List Form). Is o q.at Y) k (is_more ((fs ++ F.more) ++ G.more) H.more q.at Y G.is);
      third = subst (λ (o : List Form). Is o v.at Z) k H.is;
    }

-- what the refutation of P forms
module _ (b : ℕ) (m : M) (fs : List Form) (p : ℕ) (P : Form) (t u w : List ℕ) (r q v : Formed) (T : Table (used m) fs) (i : Is fs p P) (room : m.at.state.props + 3 ≤ length m.forms) (small : length m.forms ≤ 16384) where
  falsity : Is fs 1 falsum
  falsity = let n = T.count in let two = T.enough in record { low = omega arith; tree = falsity_at (used m) fs T }

  implies : Interned (code (bin_r cond p 1)) m.at.state.props m.forms t r → Forms b m t r fs (bin cond P falsum)
  unfolding formed Below
  implies I =
      let F = forms b m t r fs (bin_r cond p 1) T (i.low, falsity.low) (omega arith) small I in
      subst (Forms b m t r fs) (rw (i.tree, falsity.tree)) F

  module _ (F : Forms b m t r fs (bin cond P falsum)) where
    denies_falsity : Interned (code (neg_r 1)) r.size t u q → Forms b (formed_on m t r) u q (fs ++ F.more) (neg falsum)
    unfolding formed Below
    denies_falsity I =
        let l = F.long in let s = F.size in
        let f = is_more fs F.more 1 falsum falsity in
        let G = forms b (formed_on m t r) u q (fs ++ F.more) (neg_r 1) F.table f.low (omega arith) (omega arith) I in
        subst (Forms b (formed_on m t r) u q (fs ++ F.more)) (ap neg f.tree) G

    module _ (G : Forms b (formed_on m t r) u q (fs ++ F.more) (neg falsum)) where
      denies : Interned (code (neg_r p)) q.size u w v → Forms b (formed_on (formed_on m t r) u q) w v ((fs ++ F.more) ++ G.more) (neg P)
      unfolding formed Below
      denies I =
          let l = F.long in let s = F.size in let l₂ = G.long in let s₂ = G.size in
          let f = is_more (fs ++ F.more) G.more p P (is_more fs F.more p P i) in
          let H = forms b (formed_on (formed_on m t r) u q) w v ((fs ++ F.more) ++ G.more) (neg_r p) G.table f.low (omega arith) (omega arith) I in
          subst (Forms b (formed_on (formed_on m t r) u q) w v ((fs ++ F.more) ++ G.more)) (ap neg f.tree) H

three_refute : (b : ℕ) (m : M) (fs : List Form) (p : ℕ) (P : Form) (w u₀ y : List ℕ) (at' : Progress) (c : Result ℕ Refusal) → Table (used m) fs → Is fs p P → m.at.state.props + 3 ≤ length m.forms → length m.forms ≤ 16384 → (I : Refutation p m.at at' m.forms w u₀ y c)
    → Three b m (formed_on (formed_on (formed_on m I.once I.implied) I.twice I.absurd) w I.denied) fs I.implied.at I.absurd.at I.denied.at (bin cond P falsum) (neg falsum) (neg P)
three_refute b m fs p P w u₀ y at' c T i room small I =
    go (implies b m fs p P I.once I.twice w I.implied I.absurd I.denied T i room small I.first)
  where
    go : (F : Forms b m I.once I.implied fs (bin cond P falsum)) → Three b m (formed_on (formed_on (formed_on m I.once I.implied) I.twice I.absurd) w I.denied) fs I.implied.at I.absurd.at I.denied.at (bin cond P falsum) (neg falsum) (neg P)
    go F = on (denies_falsity b m fs p P I.once I.twice w I.implied I.absurd I.denied T i room small F I.second)
      where
        on : (G : Forms b (formed_on m I.once I.implied) I.twice I.absurd (fs ++ F.more) (neg falsum)) → Three b m (formed_on (formed_on (formed_on m I.once I.implied) I.twice I.absurd) w I.denied) fs I.implied.at I.absurd.at I.denied.at (bin cond P falsum) (neg falsum) (neg P)
        on G = three_formed b m I.once I.twice w I.implied I.absurd I.denied fs (bin cond P falsum) (neg falsum) (neg P) F G
            (denies b m fs p P I.once I.twice w I.implied I.absurd I.denied T i room small F G I.third)

-- from a proof under the hypothesis to the refutation: m the state at the start, m₃ the one under the hypothesis
refute_meets : (b : ℕ) (m m₃ m₆ : M) (fs more : List Form) (told : List ℕ) (P : Form) (D : Plain) (x y z n : ℕ) (u : List ℕ) → Grew 0 0 3 b m m₃ fs more ((1 ∷ []) ++ told) → Tells (fs ++ more) D told
    → Three b m₃ m₆ (fs ++ more) x y z (bin cond P falsum) (neg falsum) (neg P) → m₆.at.tokens ≡ m₃.at.tokens → m₆.tokens ≡ m₃.tokens → n ≡ m₃.at.tokens + 7 → take n u ≡ take m₃.at.tokens m₃.tokens ++ tollens x y → length u ≡ length m₃.tokens
    → Meets 4 4 11 b m fs (concluded z (mk m₆.forms m₆.binds m₆.base u (progress m₆.at.state n))) (out (derived (neg P) (seq D (seq (infer 15 []) (infer 2 (bin cond P falsum ∷ (neg falsum ∷ [])))))) (remaining m₆))
refute_meets b m m₃ m₆ fs more told P D x y z n u g d T e e' i w l =
    let m₇ = mk m₆.forms m₆.binds m₆.base u (progress m₆.at.state n) in
    let a : (fs ++ more) ++ T.more ≡ fs ++ (more ++ T.more) = append_assoc fs more T.more in
    let g₁ = grew_then 0 0 3 b 3 0 1 b 3 0 3 m m₃ m₆ fs more T.more ((1 ∷ []) ++ told) [] g T.grew (omega arith) (omega arith) (omega arith) (le_refl b) in
    let table : Table (used m₆) (fs ++ (more ++ T.more)) = g₁.inner.table in
    let W = grew_written 8 b n m₆ (fs ++ (more ++ T.more)) u (tollens x y) (i ∙ rw e) (w ∙ rw (e, e')) (l ∙ rw e') (omega arith) table in
    let g₂ = subst (Grew 3 0 3 b m m₆ fs (more ++ T.more)) (append-nil ((1 ∷ []) ++ told)) g₁ in
    let g₃ = grew_then 3 0 3 b 0 0 8 b 4 4 11 m m₆ m₇ fs (more ++ T.more) [] ((1 ∷ []) ++ told) (tollens x y) g₂ W (omega arith) (omega arith) (omega arith) (le_refl b) in
    let g₄ = subst (λ (q : List Form). Grew 4 4 11 b m m₇ fs q (((1 ∷ []) ++ told) ++ tollens x y)) (append-nil (more ++ T.more)) g₃ in
    concluded_by 4 4 11 b m m₇ fs (more ++ T.more) ((fs ++ more) ++ T.more) (1 ∷ (told ++ tollens x y)) z (neg P) (seq D (seq (infer 15 []) (infer 2 (bin cond P falsum ∷ (neg falsum ∷ []))))) a g₄ T.third
    (refuting_told ((fs ++ more) ++ T.more) P D told x y (tells_more (fs ++ more) T.more D told d) T.first T.second)

module _ (s : Shared) (d env b k f j : ℕ) (m : M) (H : Runs s d env b k f j m (refuting k)) (t u : List ℕ) (st : State) (v : Value) (A : Evaluated s d env f (inner m) (done v (mkE t u st))) (p : ℕ) (vp : v ≡ Prop p)
    (space : m.at.tokens + 1 ≤ length m.tokens) where
  abbrev begun : M
  begun = told_on (moved m t u st) (1 ∷ []) (m.at.tokens + 1)

  pub hyp_one : (fs : List Form) → Table (used (moved m t u st)) fs → Grew 0 0 2 b (moved m t u st) begun fs [] (1 ∷ [])
  hyp_one fs T = grew_told 2 b (m.at.tokens + 1) (moved m t u st) fs (1 ∷ []) refl space (omega arith) T

  under_one : (q : ℕ) (m₃ : M) → Supposing s d env b p j begun (concluded q m₃) → (x : Text) (fs : List Form) (e : Env) (β : List Form) → Setting x fs e β s m env b → In k x
      → Under s d env b k f j m (refuting k) H t u st v A p vp (1 ∷ []) begun hyp_one refl q m₃ x fs e β
  under_one = hyp_under s d env b k f j m (refuting k) H t u st v A p vp (1 ∷ []) begun hyp_one refl

  pub refute_asks : (q : ℕ) (m₃ : M) → Ready (In k) s m env b 4 4 11 1 → Supposing s d env b p j begun (concluded q m₃)
      → (m₃.at.state.props + 3 ≤ length m₃.forms) × (length m₃.forms ≤ 16384) × (m₃.at.tokens + 8 ≤ length m₃.tokens) × (length m₃.tokens ≤ 16384) × (p < 16384)
  refute_asks q m₃ r U =
      let z = under_one q m₃ U r.text r.formed r.bindings r.basis r.setting r.row in
      let g = z.grew in
      let R = room_grew 0 0 3 b m m₃ r.formed z.more ((1 ∷ []) ++ z.told) g b b 4 4 11 1 4 4 9 1 (omega arith) r.room (omega arith) (omega arith) (omega arith)
      (let w = less 0 0 3 b m m₃ r.formed z.more ((1 ∷ []) ++ z.told) g (omega arith) in omega arith) in
      let rf = R.inner.forms in let rt = R.tokens in
      let few = trees_few (inner m₃) (r.formed ++ z.more) z.setting.world.legible.table in
      let lp = z.is_hypothesis.low in
      (omega arith, R.inner.small, omega arith, R.short, omega arith)

  module _ (q : ℕ) (m₃ : M) (w y : List ℕ) (at' : Progress) (c : Result ℕ Refusal) (r : Ready (In k) s m env b 4 4 11 1) (U : Supposing s d env b p j begun (concluded q m₃)) (long : length y ≡ length m₃.tokens) where
    abbrev after_it : MOut
    after_it = out_of (mk w m₃.binds m₃.base y at') c

    module _ (x : Text) (fs : List Form) (e : Env) (β : List Form) (S : Setting x fs e β s m env b) (l : In k x) where
      abbrev Z : Under s d env b k f j m (refuting k) H t u st v A p vp (1 ∷ []) begun hyp_one refl q m₃ x fs e β
      Z = under_one q m₃ U x fs e β S l

      table : Table (used m₃) (fs ++ Z.more)
      table = Z.setting.world.legible.table

      -- the test by number is the test by shape
      tested : same Z.derived.conclusion falsum ≡ eqb q 1
      tested =
          let T = table in
          let n = T.count in let two = T.enough in let lq = Z.concludes.low in
          ap (λ (F : Form). same F falsum) (sym Z.concludes.tree) ∙ ap (same (tree (fs ++ Z.more) q)) (sym (falsity_at (used m₃) (fs ++ Z.more) T))
          ∙ same_at (used m₃) (fs ++ Z.more) T q 1 (omega arith) (omega arith)

      other_meets : (q ≡ 1 → ⊥) → c ≡ Err (record { 0 = NotFalse; 1 = k }) → Meets 4 4 11 b m fs after_it (refuting k Z.hypothesis Z.derived (remaining m₃))
      unfolding must Meets
      other_meets h g = rw (g, tested, ne_eqb q 1 h) (refl, refl)

      false_meets : q ≡ 1 → Refutation p m₃.at at' m₃.forms w m₃.tokens y c → Meets 4 4 11 b m fs after_it (refuting k Z.hypothesis Z.derived (remaining m₃))
      unfolding must
      false_meets h I =
          let asks = refute_asks q m₃ r U in
          rw (I.outcome, I.now, tested, eq-eqb q 1 h)
          (refute_meets b m m₃ (formed_on (formed_on (formed_on m₃ I.once I.implied) I.twice I.absurd) w I.denied) fs Z.more Z.told Z.hypothesis Z.derived.proof I.implied.at I.absurd.at I.denied.at
          (m₃.at.tokens + 7) y Z.grew Z.tells (three_refute b m₃ (fs ++ Z.more) p Z.hypothesis w m₃.tokens y at' c table Z.is_hypothesis asks.0 asks.1 I) refl refl refl I.told long)

      by_test : Dec (q ≡ 1) → Refuted p q k m₃.at at' m₃.forms w m₃.tokens y c → Meets 4 4 11 b m fs after_it (refuting k Z.hypothesis Z.derived (remaining m₃))
      by_test (yes h) I = false_meets h (I.false h)
      by_test (no h) I = other_meets h (I.other h)

    pub suppose_is : Refuted p q k m₃.at at' m₃.forms w m₃.tokens y c → Stepped s d env b k m after_it
    suppose_is I = record {
      meets = λ x fs e β S l. subst (Meets 4 4 11 b m fs after_it) (sym (Z x fs e β S l).is) (by_test x fs e β S l (dec_eq q 1) I);
    }

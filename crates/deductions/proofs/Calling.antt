-- Method calls: one law for each return of the functions that run arguments and apply an operator to them.
use Rattle.std.specs.Prelude.{Option, Some, None}
use mathlib.Core.Logic.{◌⊎◌, inl, inr}
use mathlib.Core.Path.{◌≡◌, refl, sym, ap, subst, ◌∙◌}
use mathlib.Core.Bool.{true, false}
use mathlib.Core.List.{List, [], ◌∷◌, ◌++◌, append_assoc, append-nil}
use Prim.Native.Nat.{ℕ, ◌+◌, ◌*◌, ◌-◌, ◌≤◌, ◌<◌}
use native.Mathlib.Omega.{arith}
use native.Mathlib.Nat.{le_refl}
use lib.ListN.{length, get_or}
use lib.Dec.{eqb}
use borrow.Author.Tests.{eq-eqb, ne_eqb}
use Rattle.language.specs.Refusals.{wrong_kind, wrong_count}
use Rattle.language.specs.Form.{Form}
use Rattle.language.specs.Syntax.{function, method}
use Rattle.language.specs.Values.{Val, form, con_v, rule_v, closure, Env, ◌▸◌, Out, out, stop, next, must, entered, with_all, scope}
use Rattle.language.specs.Run.{evaluate, Derived, Deduce, Argument, argument, arguments, values_of, lemmas, joined, after, applied, deduced, deduce_step, deduce}
use Rattle.forms.specs.Table.{Table}
use Rattle.records.specs.Rows.{cell}
use Rattle.bindings.specs.declared.Closure.{Closure}
use Rattle.bindings.specs.declared.Value.{Value}
use Rattle.bindings.specs.declared.Value.TheVariants.{Prop, Constructor, Function, Method}
use Rattle.bindings.specs.Numbers.{Small}
use Rattle.bindings.specs.Stands.{under, Stands, Chain}
use Rattle.bindings.proofs.Tags.{tag, held, kind_of, same_kind}
use Rattle.bindings.proofs.Chains.{is_more, chain_low, pushed as pushed_on, scope_stands}
use Rattle.tokens.specs.Tells.{TellsLemmas}
use Rattle.tokens.proofs.Growth.{lemmas_more}
use Rattle.tokens.proofs.Lemmas.{lemmas_join}
use Rattle.expressions.specs.declared.State.{State}
use Rattle.expressions.specs.Machine.{Shared, mk as mkE, done, refused as refusedE, kind, one, two, listed}
use Rattle.expressions.specs.Asked.{Text, Row}
use Rattle.expressions.specs.Meets.{Evaluated}
use Rattle.expressions.proofs.Operands.{cell_at, row_inside}
use Rattle.expressions.proofs.Steps.{trees_few}
use Rattle.deductions.specs.Machine.{M, inner, remaining, bound, moved, joining, joined_at, LowLemma, MOut, refused, got, lacking, pushed, stopped}
use Rattle.deductions.specs.Asked.{In, Ins, Based, Setting, Room, Ready, Callable, Arglist, Applicable}
use Rattle.deductions.specs.Meets.{Meets, Deduced, Stepped, Lemmas, Fetched, MeetsArgs, Calling, Listed, Applying}
use Rattle.deductions.proofs.Bases.{based_front, lemma_small}
use Rattle.deductions.proofs.Growth.{used, setting_grew, setting_same, value_grew, bindings_grew, room_grew, less, grew_then, grew_on, grew_last, grew_none, after_lemmas, after_none, after_same, bound_on, grew_bound, joined_on, grew_joined}
use Rattle.deductions.proofs.Rows.{step_is, list_step, says_apply, operator_row, few_arguments, argument_rows, body_row}
use Rattle.deductions.proofs.Got.{ran, ran_refused, Fetch, fetch, unfetched, Args, args, unlisted}
use Rattle.deductions.proofs.Lets.{ready_less, value_fits}

-- the call itself

module _ (s : Shared) (d env b k f n : ℕ) (m : M) (is : kind s.phrases k ≡ 16) (fi : f ≡ one s.phrases k) (ni : n ≡ two s.phrases k) where
  abbrev rest : Text → Env → List Form → Val → ℕ → Out Derived
  rest x e β X w =
      next (arguments x.phrases (evaluate x.phrases d) (deduce x.phrases d) e β (listed s.phrases (12 * k + 3) n) w)
      (λ xs w. after (lemmas xs) (applied (deduce x.phrases d) X (joined (lemmas xs) β) (values_of xs) k w))

  call_step : (x : Text) (fs : List Form) (e : Env) (β : List Form) → Setting x fs e β s m env b → In k x →
      deduce_step x.phrases (evaluate x.phrases d) (deduce x.phrases d) e β k (remaining m) ≡ next (evaluate x.phrases d e f (remaining m)) (rest x e β)
  unfolding deduced
  call_step x fs e β S l = step_is x.phrases (evaluate x.phrases d) (deduce x.phrases d) e β k (remaining m) _ (says_apply x fs s (inner m) S.world k l is) ∙ rw (fi, ni)

  row_f : (x : Text) (fs : List Form) (e : Env) (β : List Form) → Setting x fs e β s m env b → In k x → Row x f
  row_f x fs e β S l = rw fi (operator_row x fs s (inner m) S.world k l is)

  pub call_row : (r : Ready (In k) s m env b 4 4 11 1) → Row r.text f
  call_row r = row_f r.text r.formed r.bindings r.basis r.setting r.row

  pub call_refused : (u y : ℕ) → Evaluated s d env f (inner m) (refusedE u y) → Stepped s d env b k m (refused u y)
  unfolding Meets next
  call_refused u y A = record { meets = λ x fs e β S l. rw (call_step x fs e β S l, ran_refused s d env b f m x fs e β S (row_f x fs e β S l) u y A) (refl, refl) }

  pub callable : (t u : List ℕ) (st : State) (v : Value) → Ready (In k) s m env b 4 4 11 1 → Evaluated s d env f (inner m) (done v (mkE t u st)) → Callable s (moved m t u st) v env b n k
  callable t u st v r A =
      let R = ran s d env b f m r.text r.formed r.bindings r.basis r.setting (call_row r) t u st v A in
      let w = less 0 0 1 b m (moved m t u st) r.formed R.more [] R.grew (omega arith) in
      record {
        ready = record {
          text = r.text;
          formed = r.formed ++ R.more;
          bindings = r.bindings;
          basis = r.basis;
          setting = R.setting;
          row = r.row;
          room = room_grew 0 0 1 b m (moved m t u st) r.formed R.more [] R.grew b b 4 4 11 1 4 4 11 0 (omega arith) r.room (omega arith) (omega arith) (omega arith) (omega arith);
        };
        operator = R.value;
        stands = R.stands;
        kind = is;
        count = ni;
      }

  pub call_is : (t u : List ℕ) (st : State) (v : Value) (o : MOut) → Evaluated s d env f (inner m) (done v (mkE t u st)) → Calling s d env b v n k (moved m t u st) o → Stepped s d env b k m o
  unfolding next
  call_is t u st v o A C = record {
    meets = λ x fs e β S l.
        let R = ran s d env b f m x fs e β S (row_f x fs e β S l) t u st v A in
        rw (call_step x fs e β S l, R.is)
        (after_none 0 0 1 b 4 4 11 b 4 4 11 m (moved m t u st) fs R.more o (rest x e β R.value st.remaining.0) R.grew (C.meets x (fs ++ R.more) e β R.value R.setting l R.stands) (omega arith) (omega arith) (omega arith) (le_refl b));
  }

-- its arguments, and what the operator makes of them

module _ (s : Shared) (d env b n k : ℕ) (m : M) (v : Value) (a : Callable s m v env b n k) where
  few : n ≤ 4
  few = let c = few_arguments a.ready.text a.ready.formed s (inner m) a.ready.setting.world k a.ready.row a.kind in let i = a.count in omega arith

  rows_in : (x : Text) (fs : List Form) (e : Env) (β : List Form) → Setting x fs e β s m env b → In k x → Ins s.phrases (12 * k + 3) n x
  rows_in x fs e β S l = rw a.count (argument_rows x fs s (inner m) S.world k l a.kind)

  pub call_list : Arglist s m env b (under v) (12 * k + 3) n
  call_list =
      let r = a.ready in
      let q = row_inside r.text r.formed s (inner m) r.setting.world k r.row in
      let c = few in
      record {
        ready = record {
          text = r.text;
          formed = r.formed;
          bindings = r.bindings;
          basis = r.basis;
          setting = r.setting;
          row = rows_in r.text r.formed r.bindings r.basis r.setting r.row;
          room = (ready_less (In k) (In k) s m env b 4 4 11 0 0 n 1 0 r r.row (omega arith) (omega arith) (omega arith) (omega arith)).room;
        };
        under = scope a.operator;
        below = scope_stands r.text.rows r.formed m.binds (bound m) a.operator v a.stands;
        few = c;
        inside = omega arith;
      }

  pub called_fails : (u y : ℕ) → Listed s d env b (under v) (12 * k + 3) n m (stopped u y) → Calling s d env b v n k m (refused u y)
  unfolding Meets next
  called_fails u y L = record {
    meets = λ x fs e β X S l st.
        rw (unlisted n b x.rows m fs (scope X) β u y (arguments x.phrases (evaluate x.phrases d) (deduce x.phrases d) e β (listed s.phrases (12 * k + 3) n) (remaining m))
        (L.meets x fs e (scope X) β S (rows_in x fs e β S l) (scope_stands x.rows fs m.binds (bound m) X v st))) (refl, refl);
  }

  module _ (y c : ℕ) (m₁ : M) (L : Listed s d env b (under v) (12 * k + 3) n m (pushed y c m₁)) where
    got_args : (x : Text) (fs : List Form) (e : Env) (β : List Form) (X : Val) → Setting x fs e β s m env b → In k x → Stands x.rows fs m.binds (bound m) X v
        → Args n b x.rows m m₁ fs (scope X) β y c (arguments x.phrases (evaluate x.phrases d) (deduce x.phrases d) e β (listed s.phrases (12 * k + 3) n) (remaining m))
    got_args x fs e β X S l st =
        args n b x.rows m m₁ fs (scope X) β y c _ (L.meets x fs e (scope X) β S (rows_in x fs e β S l) (scope_stands x.rows fs m.binds (bound m) X v st))

    args_setting : (x : Text) (fs : List Form) (e : Env) (β : List Form) (X : Val) (S : Setting x fs e β s m env b) (l : In k x) (st : Stands x.rows fs m.binds (bound m) X v) →
        let z = got_args x fs e β X S l st in Setting x (fs ++ z.more) (with_all (scope X) (values_of z.list)) (joined (lemmas z.list) β) s m₁ y c
    args_setting x fs e β X S l st =
        let z = got_args x fs e β X S l st in
        let S₁ = setting_grew 0 n 1 b m m₁ fs z.more z.told z.grew x e β s env b (le_refl b) S in
        record { world = S₁.world; chain = z.chain; based = z.based }

    pub applicable : Applicable s m₁ v y c n
    applicable =
        let r = a.ready in
        let z = got_args r.text r.formed r.bindings r.basis a.operator r.setting r.row a.stands in
        let g = z.grew in
        let p = z.paid in let q = few in
        record {
          ready = record {
            text = r.text;
            formed = r.formed ++ z.more;
            bindings = with_all (scope a.operator) (values_of z.list);
            basis = joined (lemmas z.list) r.basis;
            setting = args_setting r.text r.formed r.bindings r.basis a.operator r.setting r.row a.stands;
            row = tt;
            room = room_grew 0 n 1 b m m₁ r.formed z.more z.told g b c 4 4 11 0 1 0 6 0 (omega arith) r.room (omega arith) (omega arith) (omega arith) (omega arith);
          };
          operator = a.operator;
          values = values_of z.list;
          stands = value_grew 0 n 1 b m m₁ r.formed z.more z.told g r.text.rows a.operator v a.stands;
          spread = refl;
          count = z.count;
        }

    pub called_is : (o : MOut) → Applying s d v y c n k m₁ o → Calling s d env b v n k m o
    unfolding next
    called_is o A = record {
      meets = λ x fs e β X S l st.
          let z = got_args x fs e β X S l st in
          let q = few in
          rw z.is
          (after_lemmas 0 n 1 b 1 0 6 c 4 4 11 m m₁ fs z.more z.told (lemmas z.list) o (applied (deduce x.phrases d) X (joined (lemmas z.list) β) (values_of z.list) k (remaining m₁)) z.grew z.tells
          (A.meets x (fs ++ z.more) X (values_of z.list) (joined (lemmas z.list) β) (args_setting x fs e β X S l st) (value_grew 0 n 1 b m m₁ fs z.more z.told z.grew x.rows X v st) z.count)
          (omega arith) (omega arith) (omega arith) z.above);
    }

-- the list of arguments

lemma_more : (fs gs : List Form) (l : Option ℕ) (ds : List Derived) → Lemmas fs l ds → Lemmas (fs ++ gs) l ds
unfolding Lemmas
lemma_more fs gs (Some p) ds (d, e, i) = (d, e, is_more fs gs p d.conclusion i)
lemma_more fs gs None ds e = e

module _ (s : Shared) (d env b onto from left : ℕ) (m : M) where
  pub args_none : left ≡ 0 → Listed s d env b onto from left m (pushed onto b m)
  unfolding MeetsArgs arguments listed values_of lemmas joined with_all TellsLemmas
  args_none h = rw h (record {
    meets = λ x fs e f β S r c. (
      [],
      [],
      grew_none 0 0 1 b m fs (omega arith) S.world.legible.table,
      subst (λ (l : List Form). Chain x.rows l m.binds (bound m) f onto) (sym (append-nil fs)) c,
      refl,
      refl,
      subst (λ (l : List Form). Based l m.base b β) (sym (append-nil fs)) S.based,
      le_refl b,
      le_refl (b + remaining m),
      refl,
    );
  })

  module _ (k : ℕ) (ki : k ≡ get_or s.phrases from 0) (some : left ≡ 0 → ⊥) where
    first_in : (x : Text) → Ins s.phrases from left x → In k x
    first_in x r = let z : from + 0 ≡ from = omega arith in rw (ki, ← z) (r 0 (omega arith))

    rest_in : (x : Text) → Ins s.phrases from left x → Ins s.phrases (from + 1) (left - 1) x
    rest_in x r i l = let z : from + 1 + i ≡ from + (i + 1) = omega arith in rw z (r (i + 1) (omega arith))

    pub argument_ready : Arglist s m env b onto from left → Ready (In k) s m env b 0 0 1 0
    argument_ready a = ready_less (Ins s.phrases from left) (In k) s m env b 0 left 1 0 0 0 1 0 a.ready (first_in a.ready.text a.ready.row) (omega arith) (omega arith) (omega arith) (omega arith)

    list_run : (x : Text) (e : Env) (β : List Form) → arguments x.phrases (evaluate x.phrases d) (deduce x.phrases d) e β (listed s.phrases from left) (remaining m)
        ≡ next (argument x.phrases (evaluate x.phrases d) (deduce x.phrases d) e β k (remaining m)) (λ a w. next (arguments x.phrases (evaluate x.phrases d) (deduce x.phrases d) e β (listed s.phrases (from + 1) (left - 1)) w) (λ as'. out (a ∷ as')))
    unfolding arguments
    list_run x e β = rw (list_step s.phrases from left some, ← ki)

    pub argument_fails : (n y : ℕ) → Fetched s d env b k m (lacking n y) → Listed s d env b onto from left m (stopped n y)
    unfolding MeetsArgs next
    argument_fails n y F = record {
      meets = λ x fs e f β S r c.
          rw (list_run x e β, unfetched b x.rows m fs n y (argument x.phrases (evaluate x.phrases d) (deduce x.phrases d) e β k (remaining m)) (F.meets x fs e β S (first_in x r))) (refl, refl);
    }

    module _ (m₁ : M) (v : Value) (l : Option ℕ) (F : Fetched s d env b k m (got v l m₁)) (a : Arglist s m env b onto from left) where
      fetched : (x : Text) (fs : List Form) (e : Env) (β : List Form) → Setting x fs e β s m env b → Ins s.phrases from left x
          → Fetch b x.rows m m₁ fs v l (argument x.phrases (evaluate x.phrases d) (deduce x.phrases d) e β k (remaining m))
      fetched x fs e β S r = fetch b x.rows m m₁ fs v l _ (F.meets x fs e β S (first_in x r))

      abbrev A : Ready (Ins s.phrases from left) s m env b 0 left 1 0
      A = a.ready

      Z : Fetch b A.text.rows m m₁ A.formed v l (argument A.text.phrases (evaluate A.text.phrases d) (deduce A.text.phrases d) A.bindings A.basis k (remaining m))
      Z = fetched A.text A.formed A.bindings A.basis A.setting A.row

      room₁ : Room m₁ b 0 left 1 0
      room₁ =
          let g = Z.grew in
          let w = less 0 0 1 b m m₁ A.formed Z.more Z.told g (omega arith) in
          room_grew 0 0 1 b m m₁ A.formed Z.more Z.told g b b 0 left 1 0 0 left 1 0 (omega arith) A.room (omega arith) (omega arith) (omega arith) (omega arith)

      below₁ : Chain A.text.rows (A.formed ++ Z.more) m₁.binds (bound m₁) a.under onto
      below₁ = bindings_grew 0 0 1 b m m₁ A.formed Z.more Z.told Z.grew A.text.rows a.under onto a.below

      setting₁ : Setting A.text (A.formed ++ Z.more) A.bindings A.basis s m₁ env b
      setting₁ = setting_grew 0 0 1 b m m₁ A.formed Z.more Z.told Z.grew A.text A.bindings A.basis s env b (le_refl b) A.setting

      pub argument_fits : (4 * bound m₁ + 4 ≤ length m₁.binds) × (length m₁.binds ≤ 16384) × Small (record { value = v; next = onto })
      argument_fits =
          let R = room₁ in
          let rb = R.inner.binds in
          value_fits s m₁ A.text (A.formed ++ Z.more) Z.argument.value v onto setting₁.world Z.stands
          (chain_low A.text.rows (A.formed ++ Z.more) m₁.binds (bound m₁) a.under onto below₁) (omega arith) R.inner.short

      pub arguments_ready : Arglist s (bound_on m₁ v onto) env b (bound m₁ + 1) (from + 1) (left - 1)
      arguments_ready =
          let R = room₁ in
          let T = setting₁.world.legible.table in
          let fs₁ = A.formed ++ Z.more in
          let g = grew_bound b m₁ fs₁ v onto T in
          let few = a.few in let inside = a.inside in
          record {
            ready = record {
              text = A.text;
              formed = fs₁;
              bindings = A.bindings;
              basis = A.basis;
              setting = setting_same 0 1 1 b m₁ (bound_on m₁ v onto) fs₁ [] g A.text A.bindings A.basis s env b (le_refl b) setting₁;
              row = rest_in A.text A.row;
              room = room_grew 0 1 1 b m₁ (bound_on m₁ v onto) fs₁ [] [] g b b 0 left 1 0 0 (left - 1) 1 0 (omega arith) R (omega arith) (omega arith) (omega arith) (le_refl (b + remaining m₁ + 0));
            };
            under = a.under ▸ Z.argument.value;
            below = pushed_on A.text.rows fs₁ m₁.binds (bound m₁) onto argument_fits.0 a.under Z.argument.value v below₁ Z.stands;
            few = omega arith;
            inside = omega arith;
          }

      pub arguments_fail : (n y : ℕ) → Listed s d env b (bound m₁ + 1) (from + 1) (left - 1) (bound_on m₁ v onto) (stopped n y) → Listed s d env b onto from left m (stopped n y)
      unfolding MeetsArgs next
      arguments_fail n y L = record {
        meets = λ x fs e f β S r c.
            let z = fetched x fs e β S r in
            let g = z.grew in
            let S₁ = setting_grew 0 0 1 b m m₁ fs z.more z.told g x e β s env b (le_refl b) S in
            let fs₁ = fs ++ z.more in
            let g₂ = grew_bound b m₁ fs₁ v onto S₁.world.legible.table in
            let S₂ = setting_same 0 1 1 b m₁ (bound_on m₁ v onto) fs₁ [] g₂ x e β s env b (le_refl b) S₁ in
            let c₁ = bindings_grew 0 0 1 b m m₁ fs z.more z.told g x.rows f onto c in
            let C = pushed_on x.rows fs₁ m₁.binds (bound m₁) onto argument_fits.0 f z.argument.value v c₁ z.stands in
            rw (
              list_run x e β,
              z.is,
              unlisted (left - 1) b x.rows (bound_on m₁ v onto) fs₁ (f ▸ z.argument.value) β n y (arguments x.phrases (evaluate x.phrases d) (deduce x.phrases d) e β (listed s.phrases (from + 1) (left - 1)) (remaining m₁))
                  (L.meets x fs₁ e (f ▸ z.argument.value) β S₂ (rest_in x r) C),
            ) (refl, refl);
      }

      module _ (y c : ℕ) (m₃ : M) (L : Listed s d env b (bound m₁ + 1) (from + 1) (left - 1) (bound_on m₁ v onto) (pushed y c m₃)) where
        others : (x : Text) (fs : List Form) (e f : Env) (β : List Form) (S : Setting x fs e β s m env b) (r : Ins s.phrases from left x) → Chain x.rows fs m.binds (bound m) f onto →
            let z = fetched x fs e β S r in
            Args (left - 1) b x.rows (bound_on m₁ v onto) m₃ (fs ++ z.more) (f ▸ z.argument.value) β y c (arguments x.phrases (evaluate x.phrases d) (deduce x.phrases d) e β (listed s.phrases (from + 1) (left - 1)) (remaining m₁))
        others x fs e f β S r ch =
            let z = fetched x fs e β S r in
            let g = z.grew in
            let S₁ = setting_grew 0 0 1 b m m₁ fs z.more z.told g x e β s env b (le_refl b) S in
            let fs₁ = fs ++ z.more in
            let g₂ = grew_bound b m₁ fs₁ v onto S₁.world.legible.table in
            let S₂ = setting_same 0 1 1 b m₁ (bound_on m₁ v onto) fs₁ [] g₂ x e β s env b (le_refl b) S₁ in
            let c₁ = bindings_grew 0 0 1 b m m₁ fs z.more z.told g x.rows f onto ch in
            let C = pushed_on x.rows fs₁ m₁.binds (bound m₁) onto argument_fits.0 f z.argument.value v c₁ z.stands in
            args (left - 1) b x.rows (bound_on m₁ v onto) m₃ fs₁ (f ▸ z.argument.value) β y c _ (L.meets x fs₁ e (f ▸ z.argument.value) β S₂ (rest_in x r) C)

        -- the argument before the others, and its lemma joined after them
        before : (rows : List (List ℕ)) (fs : List Form) (f : Env) (β : List Form) (r : Out Argument) (o : Out (List Argument)) (z : Fetch b rows m m₁ fs v l r) → Table (used m₁) (fs ++ z.more)
            → Args (left - 1) b rows (bound_on m₁ v onto) m₃ (fs ++ z.more) (f ▸ z.argument.value) β y c o
            → MeetsArgs left b rows m fs f β (pushed y (c + joining l) (joined_on m₃ c l)) (next o (λ as'. out (z.argument ∷ as')))
        unfolding MeetsArgs next values_of lemmas with_all
        before rows fs f β r o z T q =
            let fs₁ = fs ++ z.more in
            let G₂ = grew_on 0 1 1 b 0 (left - 1) 1 b 0 left 1 m₁ (bound_on m₁ v onto) m₃ fs₁ q.more [] q.told (grew_bound b m₁ fs₁ v onto T) q.grew (omega arith) (omega arith) (omega arith) (le_refl b) in
            let T₃ = q.grew.inner.table in
            let G₃ = grew_last 0 left 1 b 0 0 1 b 0 left 1 m₁ m₃ (joined_on m₃ c l) fs₁ q.more q.told G₂ (grew_joined b c m₃ (fs₁ ++ q.more) l q.above T₃) (omega arith) (omega arith) (omega arith) (le_refl b) in
            let G = grew_then 0 0 1 b 0 left 1 b 0 left 1 m m₁ (joined_on m₃ c l) fs z.more q.more z.told q.told z.grew G₃ (omega arith) (omega arith) (omega arith) (le_refl b) in
            let assoc = append_assoc fs z.more q.more in
            let rs = A.room.base in let bl = z.grew.base_long in let bl₂ = q.grew.base_long in
            let zp = z.paid in let qp = q.paid in let qc = q.count in
            rw q.is (
              z.more ++ q.more,
              z.told ++ q.told,
              G,
              subst (λ (u : List Form). Chain rows u m₃.binds (bound m₃) (with_all (f ▸ z.argument.value) (values_of q.list)) y) assoc q.chain,
              omega arith,
              subst (λ (u : List Form). TellsLemmas u (z.argument.lemma ++ lemmas q.list) (z.told ++ q.told)) assoc
                  (lemmas_join (fs₁ ++ q.more) z.argument.lemma (lemmas q.list) z.told q.told (lemmas_more fs₁ q.more z.argument.lemma z.told z.tells) q.tells),
              subst (λ (u : List Form). Based u (joined_at m₃.base c l) (c + joining l) (joined (z.argument.lemma ++ lemmas q.list) β)) assoc
                  (based_front (fs₁ ++ q.more) m₃.base c β l z.argument.lemma (lemmas q.list) (omega arith) (lemma_more fs₁ q.more l z.argument.lemma z.lemma) q.based),
              (let ab = q.above in omega arith),
              omega arith,
              refl,
            )

        pub argument_then : Listed s d env b onto from left m (pushed y (c + joining l) (joined_on m₃ c l))
        unfolding next
        argument_then = record {
          meets = λ x fs e f β S r ch.
              let z = fetched x fs e β S r in
              let S₁ = setting_grew 0 0 1 b m m₁ fs z.more z.told z.grew x e β s env b (le_refl b) S in
              rw (list_run x e β, z.is) (before x.rows fs f β (argument x.phrases (evaluate x.phrases d) (deduce x.phrases d) e β k (remaining m))
              (arguments x.phrases (evaluate x.phrases d) (deduce x.phrases d) e β (listed s.phrases (from + 1) (left - 1)) (remaining m₁)) z S₁.world.legible.table (others x fs e f β S r ch));
        }

        pub join_after : (c + joining l ≤ 16384) × LowLemma l
        join_after =
            let q = others A.text A.formed A.bindings a.under A.basis A.setting A.row a.below in
            let rs = A.room.base in let rm = A.room.small in
            let zp = Z.paid in let qp = q.paid in
            (omega arith, lemma_small (A.formed ++ Z.more) l Z.argument.lemma (trees_few (inner m₁) (A.formed ++ Z.more) setting₁.world.legible.table) Z.lemma)

-- operators

wrong : (D : Deduce) (X : Val) (β : List Form) (vs : List Val) (k w : ℕ) → (kind_of X ≡ 2 → ⊥) → (kind_of X ≡ 4 → ⊥) → applied D X β vs k w ≡ stop wrong_kind k
unfolding applied kind_of
wrong D (form P) β vs k w h g = refl
wrong D (con_v c) β vs k w h g = refl
wrong D (rule_v r) β vs k w h g = absurd (h refl)
wrong D (closure function self m b e) β vs k w h g = refl
wrong D (closure method self m b e) β vs k w h g = absurd (g refl)

not_applied : (s : Shared) (d : ℕ) (v : Value) (y b n k : ℕ) (m : M) → (tag v ≡ 2 → ⊥) → (tag v ≡ 4 → ⊥) → Applying s d v y b n k m (refused wrong_kind k)
unfolding Meets
not_applied s d v y b n k m h g = record {
  meets = λ x fs X vs β S st l.
      let t = same_kind x.rows fs m.binds (bound m) X v st in
      rw (wrong (deduce x.phrases d) X β vs k (remaining m) (λ z. h (sym t ∙ z)) (λ z. g (sym t ∙ z))) (refl, refl);
}

pub other_applied : (s : Shared) (d : ℕ) (v : Value) (y b n k : ℕ) (m : M) →
    (((p : ℕ) × (v ≡ Prop p)) ⊎ ((c : ℕ) × (v ≡ Constructor c)) ⊎ ((f : Closure) × (v ≡ Function f))) → Applying s d v y b n k m (refused wrong_kind k)
other_applied s d v y b n k m (inl (p, e)) = not_applied s d v y b n k m (λ z. let t = ap tag e in omega arith) (λ z. let t = ap tag e in omega arith)
other_applied s d v y b n k m (inr (inl (c, e))) = not_applied s d v y b n k m (λ z. let t = ap tag e in omega arith) (λ z. let t = ap tag e in omega arith)
other_applied s d v y b n k m (inr (inr (f, e))) = not_applied s d v y b n k m (λ z. let t = ap tag e in omega arith) (λ z. let t = ap tag e in omega arith)

-- a method's row, and what applying it runs
record Runs (rows : List (List ℕ)) (a : ℕ) (X : Val) : Type 0 where
  pub low : a < length rows
  pub kind : cell rows a 0 ≡ 5
  pub runs : (D : Deduce) (β : List Form) (vs : List Val) (k w : ℕ) → applied D X β vs k w ≡ must (eqb (length vs) (cell rows a 1)) wrong_count k (D (with_all (scope X) vs) β (cell rows a 2) w)

runs : (rows : List (List ℕ)) (fs : List Form) (t : List ℕ) (n : ℕ) (X : Val) (v : Value) (f : Closure) → v ≡ Method f → Stands rows fs t n X v → Runs rows f.phrase X
unfolding Stands applied entered
runs rows fs t n (form P) v f e x = absurd (let y = ap tag (sym e ∙ x.1) in omega arith)
runs rows fs t n (con_v c) v f e x = absurd (let y = ap tag (sym e ∙ x.0) in omega arith)
runs rows fs t n (rule_v r) v f e x = absurd (let y = ap tag (sym e ∙ x.0) in omega arith)
runs rows fs t n (closure function false m b i) v f e x = absurd (let y = ap tag (sym e ∙ x.1) in omega arith)
runs rows fs t n (closure function true m b i) v f e x = absurd (let y = ap tag (sym e ∙ x.2) in omega arith)
runs rows fs t n (closure method false m b i) v f e x =
    let y : f.phrase ≡ x.0.phrase = ap held (sym e ∙ x.1) in
    let w = x.2 in
    rw y (record { low = w.low; kind = w.kind; runs = λ D β vs k u. rw (w.parameters, w.body) })
runs rows fs t n (closure method true m b i) v f e x =
    let y : f.phrase ≡ x.0.phrase = ap held (sym e ∙ x.2) in
    let w = x.3 in
    rw y (record { low = w.low; kind = w.kind; runs = λ D β vs k u. rw (w.parameters, w.body) })

module _ (s : Shared) (m : M) (v : Value) (y b n : ℕ) (f : Closure) (e : v ≡ Method f) where
  pub method_small : Applicable s m v y b n → 12 * f.phrase + 12 ≤ 16384
  method_small a =
      let q = a.ready in
      let r = runs q.text.rows q.formed m.binds (bound m) a.operator v f e a.stands in
      let i = row_inside q.text q.formed s (inner m) q.setting.world f.phrase r.low in
      let l = q.setting.world.short in
      omega arith

  pub method_ready : (j : ℕ) → j ≡ two s.phrases f.phrase → Applicable s m v y b n → Ready (In j) s m y b 0 0 0 0 × (16 ≤ kind s.phrases j)
  method_ready j i a =
      let q = a.ready in
      let r = runs q.text.rows q.formed m.binds (bound m) a.operator v f e a.stands in
      let B = body_row q.text q.formed s (inner m) q.setting.world f.phrase j r.low r.kind (i ∙ cell_at q.text q.formed s (inner m) q.setting.world f.phrase r.low 2 (omega arith)) in
      (ready_less (λ x. Unit {0}) (In j) s m y b 1 0 6 0 0 0 0 0 q B.0 (omega arith) (omega arith) (omega arith) (omega arith), B.1)

  module _ (d k : ℕ) where
    pub method_applied : (a j : ℕ) (o : MOut) → a ≡ one s.phrases f.phrase → a ≡ n → j ≡ two s.phrases f.phrase → Deduced s d y b j m o → Applying s d v y b n k m o
    unfolding must
    method_applied a j o i h l D = record {
      meets = λ x fs X vs β S st q.
          let r = runs x.rows fs m.binds (bound m) X v f e st in
          let p : cell x.rows f.phrase 1 ≡ n = sym (cell_at x fs s (inner m) S.world f.phrase r.low 1 (omega arith)) ∙ sym i ∙ h in
          let z : j ≡ cell x.rows f.phrase 2 = l ∙ cell_at x fs s (inner m) S.world f.phrase r.low 2 (omega arith) in
          let B = body_row x fs s (inner m) S.world f.phrase j r.low r.kind z in
          rw (r.runs (deduce x.phrases d) β vs k (remaining m), eq-eqb (length vs) (cell x.rows f.phrase 1) (q ∙ sym p), ← z)
          (after_same 0 0 1 b 0 0 0 b 1 0 6 m m fs o (deduce x.phrases d (with_all (scope X) vs) β j (remaining m)) (grew_none 0 0 1 b m fs (omega arith) S.world.legible.table)
          (D.meets x fs (with_all (scope X) vs) β S B.0) (omega arith) (omega arith) (omega arith) (le_refl b));
    }

    pub method_miscounted : (a : ℕ) → a ≡ one s.phrases f.phrase → (a ≡ n → ⊥) → Applying s d v y b n k m (refused wrong_count k)
    unfolding must Meets
    method_miscounted a i h = record {
      meets = λ x fs X vs β S st q.
          let r = runs x.rows fs m.binds (bound m) X v f e st in
          let p : a ≡ cell x.rows f.phrase 1 = i ∙ cell_at x fs s (inner m) S.world f.phrase r.low 1 (omega arith) in
          rw (r.runs (deduce x.phrases d) β vs k (remaining m), ne_eqb (length vs) (cell x.rows f.phrase 1) (λ z. h (p ∙ sym z ∙ q))) (refl, refl);
    }

-- Calls: one law for each return of the functions that evaluate arguments and apply an operator to them.
use mathlib.Core.Path.{◌≡◌, refl, sym, subst, ◌∙◌}
use mathlib.Core.List.{List, [], ◌∷◌, ◌++◌, append_assoc, append-nil}
use Prim.Native.Nat.{ℕ, zero, suc, ◌+◌, ◌*◌, ◌-◌, ◌≤◌, ◌<◌}
use native.Mathlib.Omega.{arith}
use native.Mathlib.Numerals.{sub-one}
use lib.ListN.{length, get_or}
use lib.Seq.{length-sets}
use Rattle.language.specs.Form.{Form}
use Rattle.language.specs.Values.{Val, Env, ◌▸◌, Out, out, stop, next, with_all, scope}
use Rattle.language.specs.Run.{values, called, evaluated, evaluate_step, evaluate}
use Rattle.bindings.specs.declared.Value.{Value}
use Rattle.bindings.specs.Numbers.{numbers_of, Small}
use Rattle.bindings.specs.Stands.{under, Stands, Chain}
use Rattle.bindings.proofs.Numbers.{kept_stored, kept_then}
use Rattle.bindings.proofs.Chains.{chain_low, stands_small, pushed, scope_stands}
use Rattle.expressions.specs.Machine.{Shared, M, MOut, done, refused, MArgs, stopped, pushed as onto_chain, kind, one, two, listed}
use Rattle.expressions.specs.Asked.{Text, Row, World, Room, Ready, Arglist, Applicable}
use Rattle.expressions.specs.Meets.{Grew, Meets, MeetsArgs, Evaluated, Stepped, Listed, Called}
use Rattle.expressions.proofs.Operands.{row_inside, says_call, operator_row, few_arguments, argument_rows}
use Rattle.expressions.proofs.Growth.{world_grew, chain_grew, stands_grew, room_grew, after, grew_then, grew_none, passed, push, world_push, chain_push, room_push}
use Rattle.expressions.proofs.Steps.{step_is, Got, rows_few, trees_few, ready_at}

-- the list of arguments

module _ (s : Shared) (env onto from left : ℕ) (m : M) where
  -- the first argument's phrase and those of the others
  first_of : (x : Text) (k : ℕ) → (left ≡ 0 → ⊥) → k ≡ get_or s.phrases from 0 → ((i : ℕ) → i < left → Row x (get_or s.phrases (from + i) 0)) → Row x k
  first_of x k h i r = let z : from + 0 ≡ from = omega arith in rw (i, ← z) (r 0 (omega arith))

  rest_of : (x : Text) → (left ≡ 0 → ⊥) → ((i : ℕ) → i < left → Row x (get_or s.phrases (from + i) 0)) → (i : ℕ) → i < left - 1 → Row x (get_or s.phrases (from + 1 + i) 0)
  rest_of x h r i l = let z : from + 1 + i ≡ from + (i + 1) = omega arith in rw z (r (i + 1) (omega arith))

  -- what an argument that was got leaves

  pub record ArgGot (v : Value) : Type 0 where
    pub list : Arglist s m env onto from left
    pub value : Val
    pub stands : Stands list.text.rows list.formed m.binds m.st.bindings value v

  pub argument_ready : (k : ℕ) → (left ≡ 0 → ⊥) → k ≡ get_or s.phrases from 0 → Arglist s m env onto from left → Ready s m env k 0 0
  argument_ready k h i a =
      let rf = a.room.forms in let rb = a.room.binds in
      record {
        text = a.text;
        formed = a.formed;
        bound = a.bound;
        world = a.world;
        row = first_of a.text k h i a.rows;
        chain = a.chain;
        room = record { forms = omega arith; binds = omega arith; small = a.room.small; short = a.room.short };
      }

  pub arg_fits : (v : Value) → ArgGot v → (left ≡ 0 → ⊥) → (4 * m.st.bindings + 4 ≤ length m.binds) × (length m.binds ≤ 16384) × Small (record { value = v; next = onto })
  arg_fits v g h =
      let a = g.list in
      let rb = a.room.binds in let rs = a.room.short in
      let few = rows_few a.text a.formed s m a.world in
      let trees = trees_few m a.formed a.world.legible.table in
      let l = chain_low a.text.rows a.formed m.binds m.st.bindings a.under onto a.below in
      let p : 0 < left = omega arith in
      (omega arith, rs, record { value = stands_small a.text.rows a.formed m.binds m.st.bindings few trees (omega arith) g.value v g.stands; next = omega arith })

  pub arg_push : (v : Value) → ArgGot v → (left ≡ 0 → ⊥) → Arglist s (push m v onto) env (m.st.bindings + 1) (from + 1) (left - 1)
  arg_push v g h =
      let a = g.list in
      let f = arg_fits v g h in
      let p : 0 < left = omega arith in
      let few = a.few in let inside = a.inside in
      let e : left ≡ left - 1 + 1 = omega arith in
      record {
        text = a.text;
        formed = a.formed;
        bound = a.bound;
        under = a.under ▸ g.value;
        world = world_push m a.formed v onto a.text s a.world;
        chain = chain_push m a.formed v onto a.text.rows a.bound env a.chain;
        below = pushed a.text.rows a.formed m.binds m.st.bindings onto f.0 a.under g.value v a.below g.stands;
        room = room_push m a.formed v onto 1 (left - 1) (subst (Room m 1) e a.room);
        few = omega arith;
        inside = omega arith;
        rows = rest_of a.text h a.rows;
      }

module _ (s : Shared) (d env onto from left : ℕ) (m : M) where
  pub none_left : left ≡ 0 → Listed s d env onto from left m (onto_chain onto m)
  unfolding MeetsArgs values listed with_all
  none_left h = rw h (record {
    meets = λ x fs e f w h c u. ([], grew_none 0 0 m fs w.legible.table, subst (λ (l : List Form). Chain x.rows l m.binds m.st.bindings f onto) (sym (append-nil fs)) u, refl, refl);
  })

  list_step : (n : ℕ) → (n ≡ 0 → ⊥) → listed s.phrases from n ≡ get_or s.phrases from 0 ∷ listed s.phrases (from + 1) (n - 1)
  unfolding listed
  list_step zero h = absurd (h refl)
  list_step (suc n) h = rw sub-one

  refused_list : (rows : List (List ℕ)) (fs : List Form) (f : Env) (n k : ℕ) (q : Out Val) (g : Val → ℕ → Out (List Val)) → Meets 0 0 rows m fs (refused n k) q → MeetsArgs left rows m fs f (stopped n k) (next q g)
  unfolding Meets MeetsArgs next
  refused_list rows fs f n k (out X w) g z = absurd z
  refused_list rows fs f n k (stop n' k') g z = z

  pub argument_refused : (k n y : ℕ) → (left ≡ 0 → ⊥) → k ≡ get_or s.phrases from 0 → Evaluated s d env k m (refused n y) → Listed s d env onto from left m (stopped n y)
  unfolding values
  argument_refused k n y h i A = record {
    meets = λ x fs e f w r c u. rw (list_step left h, ← i) (refused_list x.rows fs f n y (evaluate x.phrases d e k m.st.remaining.0) _ (A.meets x fs e w (first_of s env onto from left m x k h i r) c));
  }

  more_by : (rows : List (List ℕ)) (fs gs : List Form) (f : Env) (X : Val) (v : Value) (m₁ : M) → (left ≡ 0 → ⊥) → Grew 0 0 m m₁ fs gs
      → (o : MArgs) (q : Out (List Val)) → MeetsArgs (left - 1) rows (push m₁ v onto) (fs ++ gs) (f ▸ X) o q → MeetsArgs left rows m fs f o (next q (λ vs. out (X ∷ vs)))
  unfolding MeetsArgs next with_all
  more_by rows fs gs f X v m₁ h g (onto_chain y m') (out vs w) z =
      let n : suc (length vs) ≡ left = let l = z.3 in omega arith in (
        gs ++ z.0,
        grew_then 0 0 0 left 0 left m m₁ m' fs gs z.0 g (grew_pushed m₁ m' (fs ++ gs) z.0 v onto z.1 (omega arith)) (omega arith) (omega arith),
        subst (λ (l : List Form). Chain rows l m'.binds m'.st.bindings (with_all (f ▸ X) vs) y) (append_assoc fs gs z.0) z.2,
        n,
        z.4,
      )
    where
      grew_pushed : (m m' : M) (fs gs : List Form) (v : Value) (y : ℕ) → Grew 0 (left - 1) (push m v y) m' fs gs → 0 < left → Grew 0 left m m' fs gs
      grew_pushed m m' fs gs v y z h =
          let p = z.props in let b = z.bindings in let n = z.more in
          record {
            table = z.table;
            kept = kept_then m.binds (push m v y).binds m'.binds m.st.bindings (m.st.bindings + 1) (omega arith) (kept_stored m.binds (numbers_of v y) m.st.bindings) z.kept;
            more = omega arith;
            props = omega arith;
            bindings = omega arith;
            forms_long = z.forms_long;
            binds_long = z.binds_long ∙ length-sets m.binds (4 * m.st.bindings) (numbers_of v y);
          }
  more_by rows fs gs f X v m₁ h g (onto_chain y m') (stop a b) z = absurd z
  more_by rows fs gs f X v m₁ h g (stopped a b) (out vs w) z = absurd z
  more_by rows fs gs f X v m₁ h g (stopped a b) (stop n k) z = z

  argument_then : (x : Text) (fs : List Form) (e f : Env) (v : Value) (m₁ : M) (o : MArgs) → (left ≡ 0 → ⊥) → World x fs s m → ((i : ℕ) → i < left → Row x (get_or s.phrases (from + i) 0))
      → Chain x.rows fs m.binds m.st.bindings e env → Chain x.rows fs m.binds m.st.bindings f onto
      → 4 * m₁.st.bindings + 4 ≤ length m₁.binds → Listed s d env (m₁.st.bindings + 1) (from + 1) (left - 1) (push m₁ v onto) o
      → (q : Out Val) → Meets 0 0 x.rows m fs (done v m₁) q → MeetsArgs left x.rows m fs f o (next q (λ X w. next (values (evaluate x.phrases d) e (listed s.phrases (from + 1) (left - 1)) w) (λ vs. out (X ∷ vs))))
  unfolding Meets next
  argument_then x fs e f v m₁ o h w r c u room B (out X n) z =
      let gs = z.0 in
      let g = z.1 in
      let w₁ = world_grew 0 0 m m₁ fs gs g x s w in
      let c₁ = chain_grew 0 0 m m₁ fs gs g x.rows e env c in
      let u₁ = chain_grew 0 0 m m₁ fs gs g x.rows f onto u in
      let y = B.meets x (fs ++ gs) e (f ▸ X) (world_push m₁ (fs ++ gs) v onto x s w₁) (rest_of s env onto from left m x h r) (chain_push m₁ (fs ++ gs) v onto x.rows e env c₁) (pushed x.rows (fs ++ gs) m₁.binds m₁.st.bindings onto room f X v u₁ z.2) in
      subst (λ (n : ℕ). MeetsArgs left x.rows m fs f o (next (values (evaluate x.phrases d) e (listed s.phrases (from + 1) (left - 1)) n) (λ vs. out (X ∷ vs)))) z.3
      (more_by x.rows fs gs f X v m₁ h g o (values (evaluate x.phrases d) e (listed s.phrases (from + 1) (left - 1)) m₁.st.remaining.0) y)
  argument_then x fs e f v m₁ o h w r c u room B (stop n y) z = absurd z

  pub argument_more : (k : ℕ) (v : Value) (m₁ : M) (o : MArgs) → (left ≡ 0 → ⊥) → k ≡ get_or s.phrases from 0 → 4 * m₁.st.bindings + 4 ≤ length m₁.binds → Evaluated s d env k m (done v m₁)
      → Listed s d env (m₁.st.bindings + 1) (from + 1) (left - 1) (push m₁ v onto) o → Listed s d env onto from left m o
  unfolding values
  argument_more k v m₁ o h i room A B = record {
    meets = λ x fs e f w r c u. rw (list_step left h, ← i) (argument_then x fs e f v m₁ o h w r c u room B (evaluate x.phrases d e k m.st.remaining.0) (A.meets x fs e w (first_of s env onto from left m x k h i r) c));
  }

pub arg_got : (s : Shared) (d env onto from left k : ℕ) (m m₁ : M) (v : Value) → (left ≡ 0 → ⊥) → k ≡ get_or s.phrases from 0 → Arglist s m env onto from left → Evaluated s d env k m (done v m₁) → ArgGot s env onto from left m₁ v
unfolding Meets
arg_got s d env onto from left k m m₁ v h i a A =
    go (evaluate a.text.phrases d a.bound k m.st.remaining.0) (A.meets a.text a.formed a.bound a.world (first_of s env onto from left m a.text k h i a.rows) a.chain)
  where
    go : (q : Out Val) → Meets 0 0 a.text.rows m a.formed (done v m₁) q → ArgGot s env onto from left m₁ v
    go (out X w) z = record {
      list = record {
        text = a.text;
        formed = a.formed ++ z.0;
        bound = a.bound;
        under = a.under;
        world = world_grew 0 0 m m₁ a.formed z.0 z.1 a.text s a.world;
        chain = chain_grew 0 0 m m₁ a.formed z.0 z.1 a.text.rows a.bound env a.chain;
        below = chain_grew 0 0 m m₁ a.formed z.0 z.1 a.text.rows a.under onto a.below;
        room = room_grew 0 0 m m₁ a.formed z.0 z.1 1 left 1 left a.room (omega arith) (omega arith);
        few = a.few;
        inside = a.inside;
        rows = a.rows;
      };
      value = X;
      stands = z.2;
    }
    go (stop n y) z = absurd z

-- a call

module _ (s : Shared) (env k : ℕ) (m : M) (is : kind s.phrases k ≡ 6) where
  pub operator_is : (a b c : ℕ) → a ≡ one s.phrases k → (r : Ready s m env k b c) → Row r.text a
  operator_is a b c i r = rw i (operator_row r.text r.formed s m r.world k r.row is)

  pub call_list : (v : Value) (n : ℕ) → n ≡ two s.phrases k → Got s m v env k 4 4 → Arglist s m env (under v) (12 * k + 3) n
  call_list v n i g =
      let r = g.ready in
      let c = few_arguments r.text r.formed s m r.world k r.row is in
      let q = row_inside r.text r.formed s m r.world k r.row.0 in
      record {
        text = r.text;
        formed = r.formed;
        bound = r.bound;
        under = scope g.value;
        world = r.world;
        chain = r.chain;
        below = scope_stands r.text.rows r.formed m.binds m.st.bindings g.value v g.stands;
        room = (ready_at s m env k k 4 4 1 n r r.row (omega arith) (omega arith)).room;
        few = omega arith;
        inside = omega arith;
        rows = λ j l. argument_rows r.text r.formed s m r.world k r.row is j (omega arith);
      }

module _ (s : Shared) (d env k : ℕ) (m : M) (is : kind s.phrases k ≡ 6) where
  pub call_apply : (n : ℕ) (m₁ : M) (v : Value) (y : ℕ) → n ≡ two s.phrases k → Got s m v env k 4 4 → Listed s d env (under v) (12 * k + 3) n m (onto_chain y m₁) → Applicable s m₁ v y n
  unfolding MeetsArgs
  call_apply n m₁ v y i g L =
      go (values (evaluate r.text.phrases d) r.bound (listed s.phrases (12 * k + 3) n) m.st.remaining.0)
      (L.meets r.text r.formed r.bound (scope g.value) r.world (λ q l. argument_rows r.text r.formed s m r.world k r.row is q (omega arith)) r.chain
      (scope_stands r.text.rows r.formed m.binds m.st.bindings g.value v g.stands))
    where
      r : Ready s m env k 4 4
      r = g.ready

      few : n ≤ 4
      few = let f = few_arguments r.text r.formed s m r.world k r.row is in omega arith

      go : (q : Out (List Val)) → MeetsArgs n r.text.rows m r.formed (scope g.value) (onto_chain y m₁) q → Applicable s m₁ v y n
      go (out vs w) z = record {
        text = r.text;
        formed = r.formed ++ z.0;
        operator = g.value;
        values = vs;
        world = world_grew 0 n m m₁ r.formed z.0 z.1 r.text s r.world;
        stands = stands_grew 0 n m m₁ r.formed z.0 z.1 r.text.rows g.value v g.stands;
        chain = z.2;
        count = z.3;
        room = room_grew 0 n m m₁ r.formed z.0 z.1 4 4 1 0 r.room (omega arith) (let f = few in omega arith);
      }
      go (stop a b) z = absurd z

  module _ (a n : ℕ) (i : a ≡ one s.phrases k) (j : n ≡ two s.phrases k) where
    abbrev rest : Text → Env → Val → ℕ → Out Val
    rest x e X w = next (values (evaluate x.phrases d) e (listed s.phrases (12 * k + 3) n) w) (λ vs. called (evaluate x.phrases d) X vs k)

    call_step : (x : Text) (fs : List Form) (W : World x fs s m) (h : Row x k) (e : Env) (w : ℕ) → evaluate_step x.phrases (evaluate x.phrases d) e k w ≡ next (evaluate x.phrases d e a w) (rest x e)
    unfolding evaluated
    call_step x fs W h e w = step_is x.phrases (evaluate x.phrases d) e k w _ (says_call x fs s m W k h.0 is) ∙ rw (i, j)

    row_a : (x : Text) (fs : List Form) → World x fs s m → Row x k → Row x a
    row_a x fs W h = rw i (operator_row x fs s m W k h is)

    rows_n : (x : Text) (fs : List Form) → World x fs s m → Row x k → (q : ℕ) → q < n → Row x (get_or s.phrases (12 * k + 3 + q) 0)
    rows_n x fs W h q l = argument_rows x fs s m W k h is q (omega arith)

    pub operator_refused : (u y : ℕ) → Evaluated s d env a m (refused u y) → Stepped s d env k m (refused u y)
    operator_refused u y A = record {
      meets = λ x fs e w h c. subst (Meets 4 4 x.rows m fs (refused u y)) (sym (call_step x fs w h e m.st.remaining.0))
          (passed 0 0 4 4 x.rows m m fs fs u y (evaluate x.phrases d e a m.st.remaining.0) (rest x e) (A.meets x fs e w (row_a x fs w h) c));
    }

    refused_args : (x : Text) (fs : List Form) (e : Env) (v : Value) (m₁ : M) (u y : ℕ) → World x fs s m → Row x k → Chain x.rows fs m.binds m.st.bindings e env
        → Listed s d env (under v) (12 * k + 3) n m₁ (stopped u y) → (q : Out Val) → Meets 0 0 x.rows m fs (done v m₁) q
        → Meets 4 4 x.rows m fs (refused u y) (next q (rest x e))
    unfolding Meets MeetsArgs next
    refused_args x fs e v m₁ u y w h c L (out X l) z =
        let gs = z.0 in let g = z.1 in
        let w₁ = world_grew 0 0 m m₁ fs gs g x s w in
        let st = scope_stands x.rows (fs ++ gs) m₁.binds m₁.st.bindings X v z.2 in
        subst (λ (l : ℕ). Meets 4 4 x.rows m fs (refused u y) (rest x e X l)) z.3
        (go X (values (evaluate x.phrases d) e (listed s.phrases (12 * k + 3) n) m₁.st.remaining.0)
        (L.meets x (fs ++ gs) e (scope X) w₁ (rows_n x fs w h) (chain_grew 0 0 m m₁ fs gs g x.rows e env c) st))
      where
        go : (X : Val) (r : Out (List Val)) → MeetsArgs n x.rows m₁ (fs ++ z.0) (scope X) (stopped u y) r → Meets 4 4 x.rows m fs (refused u y) (next r (λ vs. called (evaluate x.phrases d) X vs k))
        go X (out vs w) t = absurd t
        go X (stop a' b') t = t
    refused_args x fs e v m₁ u y w h c L (stop a' b') z = absurd z

    pub arguments_refused : (u y : ℕ) (v : Value) (m₁ : M) → Evaluated s d env a m (done v m₁) → Listed s d env (under v) (12 * k + 3) n m₁ (stopped u y) → Stepped s d env k m (refused u y)
    arguments_refused u y v m₁ A L = record {
      meets = λ x fs e w h c. subst (Meets 4 4 x.rows m fs (refused u y)) (sym (call_step x fs w h e m.st.remaining.0))
          (refused_args x fs e v m₁ u y w h c L (evaluate x.phrases d e a m.st.remaining.0) (A.meets x fs e w (row_a x fs w h) c));
    }

    apply_by : (x : Text) (fs gs : List Form) (X : Val) (v : Value) (m₁ m₂ : M) (y : ℕ) (o : MOut) → n ≤ 4 → World x (fs ++ gs) s m₁ → Grew 0 0 m m₁ fs gs → Stands x.rows (fs ++ gs) m₁.binds m₁.st.bindings X v → Called s d v y n k m₂ o
        → (r : Out (List Val)) → MeetsArgs n x.rows m₁ (fs ++ gs) (scope X) (onto_chain y m₂) r → Meets 4 4 x.rows m fs o (next r (λ vs. called (evaluate x.phrases d) X vs k))
    unfolding MeetsArgs next
    apply_by x fs gs X v m₁ m₂ y o few w₁ g st C (out vs l) z =
        let hs = z.0 in
        let w₂ = world_grew 0 n m₁ m₂ (fs ++ gs) hs z.1 x s w₁ in
        let s₂ = stands_grew 0 n m₁ m₂ (fs ++ gs) hs z.1 x.rows X v st in
        subst (λ (l : ℕ). Meets 4 4 x.rows m fs o (called (evaluate x.phrases d) X vs k l)) z.4
        (after 0 0 1 4 4 4 x.rows m m₁ fs gs o (called (evaluate x.phrases d) X vs k m₂.st.remaining.0) g
        (after 0 n 1 0 1 4 x.rows m₁ m₂ (fs ++ gs) hs o (called (evaluate x.phrases d) X vs k m₂.st.remaining.0) z.1
        (C.meets x ((fs ++ gs) ++ hs) X vs w₂ s₂ z.2 z.3) (omega arith) (omega arith)) (omega arith) (omega arith))
    apply_by x fs gs X v m₁ m₂ y o few w₁ g st C (stop a' b') z = absurd z

    apply_then : (x : Text) (fs : List Form) (e : Env) (v : Value) (m₁ m₂ : M) (y : ℕ) (o : MOut) → World x fs s m → Row x k → Chain x.rows fs m.binds m.st.bindings e env
        → Listed s d env (under v) (12 * k + 3) n m₁ (onto_chain y m₂) → Called s d v y n k m₂ o → (q : Out Val) → Meets 0 0 x.rows m fs (done v m₁) q
        → Meets 4 4 x.rows m fs o (next q (rest x e))
    unfolding Meets next
    apply_then x fs e v m₁ m₂ y o w h c L C (out X l) z =
        let gs = z.0 in let g = z.1 in
        let w₁ = world_grew 0 0 m m₁ fs gs g x s w in
        let few = few_arguments x fs s m w k h is in
        subst (λ (l : ℕ). Meets 4 4 x.rows m fs o (rest x e X l)) z.3
        (apply_by x fs gs X v m₁ m₂ y o (omega arith) w₁ g z.2 C (values (evaluate x.phrases d) e (listed s.phrases (12 * k + 3) n) m₁.st.remaining.0)
        (L.meets x (fs ++ gs) e (scope X) w₁ (rows_n x fs w h) (chain_grew 0 0 m m₁ fs gs g x.rows e env c) (scope_stands x.rows (fs ++ gs) m₁.binds m₁.st.bindings X v z.2)))
    apply_then x fs e v m₁ m₂ y o w h c L C (stop a' b') z = absurd z

    pub call_is : (y : ℕ) (v : Value) (m₁ m₂ : M) (o : MOut) → Evaluated s d env a m (done v m₁) → Listed s d env (under v) (12 * k + 3) n m₁ (onto_chain y m₂) → Called s d v y n k m₂ o → Stepped s d env k m o
    call_is y v m₁ m₂ o A L C = record {
      meets = λ x fs e w h c. subst (Meets 4 4 x.rows m fs o) (sym (call_step x fs w h e m.st.remaining.0))
          (apply_then x fs e v m₁ m₂ y o w h c L C (evaluate x.phrases d e a m.st.remaining.0) (A.meets x fs e w (row_a x fs w h) c));
    }

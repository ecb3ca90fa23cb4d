-- Phrases of either class, dlet and the steps of a block: one law for each return.
use Rattle.std.specs.Prelude.{Option, Some, None}
use mathlib.Core.Path.{◌≡◌, refl, sym, ap, ◌∙◌}
use mathlib.Core.List.{List, [], ◌∷◌, ◌++◌, append-nil}
use Prim.Native.Nat.{ℕ, ◌+◌, ◌*◌, ◌-◌, ◌≤◌, ◌<◌}
use native.Mathlib.Omega.{arith}
use native.Mathlib.Nat.{le_refl}
use lib.ListN.{length, get_or}
use Rattle.language.specs.Form.{Form}
use Rattle.language.specs.Values.{Val, Env, ◌▸◌, Out, out, stop, next}
use Rattle.language.specs.Run.{evaluate, Derived, Argument, as_lemma, argument, joined, after, steps, deduced, deduce_step, deduce}
use Rattle.forms.specs.Table.{Table}
use Rattle.bindings.specs.declared.Value.{Value}
use Rattle.bindings.specs.declared.Value.TheVariants.{Prop}
use Rattle.bindings.specs.Numbers.{Small}
use Rattle.bindings.specs.Stands.{Stands}
use Rattle.bindings.proofs.Chains.{chain_low, stands_small, pushed}
use Rattle.tokens.specs.Tells.{TellsLemmas}
use Rattle.expressions.specs.declared.State.{State}
use Rattle.expressions.specs.Machine.{Shared, mk as mkE, done, refused as refusedE, kind, one, two, listed}
use Rattle.expressions.specs.Asked.{Text, World}
use Rattle.expressions.specs.Meets.{Evaluated}
use Rattle.expressions.proofs.Steps.{rows_few, trees_few}
use Rattle.expressions.proofs.Operands.{row_inside}
use Rattle.deductions.specs.Machine.{M, inner, remaining, bound, moved, joining, LowLemma, MOut, concluded, refused, got, lacking}
use Rattle.deductions.specs.Asked.{In, Ins, Setting, Ready, Steplist}
use Rattle.deductions.specs.Meets.{Grew, Meets, Deduced, Stepped, Lemmas, MeetsOperand, Fetched, Stepping}
use Rattle.deductions.proofs.Bases.{based_lemma, lemma_small}
use Rattle.deductions.proofs.Growth.{used, setting_grew, setting_same, room_grew, less, grew_on, grew_last, after_lemmas, after_same, bound_on, grew_bound, joined_on, grew_joined, told_on, grew_told, grew_none}
use Rattle.deductions.proofs.Rows.{step_is, list_step, says_dlet, says_block, let_rows, block_count, step_rows, expression_row, argument_expression, argument_deduction}
use Rattle.deductions.proofs.Got.{ran, ran_refused, proved, refusal, fetch, unfetched}

-- another phrase in the same state, with less room
pub ready_less : (G H : Text → Type 0) (s : Shared) (m : M) (env b A C T U a c t u : ℕ) (r : Ready G s m env b A C T U) → H r.text → a ≤ A → c ≤ C → t ≤ T → u ≤ U → Ready H s m env b a c t u
ready_less G H s m env b A C T U a c t u r row h i j k =
    let e = r.room.inner in
    let rf = e.forms in let rb = e.binds in let rt = r.room.tokens in let rs = r.room.base in
    record {
      text = r.text;
      formed = r.formed;
      bindings = r.bindings;
      basis = r.basis;
      setting = r.setting;
      row = row;
      room = record {
        inner = record { forms = omega arith; binds = omega arith; small = e.small; short = e.short };
        tokens = omega arith;
        base = omega arith;
        short = r.room.short;
        small = r.room.small;
      };
    }

-- either class

module _ (s : Shared) (d env b k : ℕ) (m : M) where
  pub either_value : (c : ℕ) (f u : List ℕ) (st : State) (v : Value) → c ≡ kind s.phrases k → c < 16 → Evaluated s d env k (inner m) (done v (mkE f u st)) → Fetched s d env b k m (got v None (moved m f u st))
  unfolding MeetsOperand Lemmas TellsLemmas next
  either_value c f u st v i h A = record {
    meets = λ x fs e β S l.
        let low : kind s.phrases k < 16 = rw (← i) h in
        let R = ran s d env b k m x fs e β S (expression_row x fs s (inner m) S.world k l low) f u st v A in
        let w = less 0 0 1 b m (moved m f u st) fs R.more [] R.grew (omega arith) in
        rw (argument_expression x fs s (inner m) S.world k l (evaluate x.phrases d) (deduce x.phrases d) e β (remaining m) low, R.is)
        (R.more, [], R.grew, R.stands, refl, refl, omega arith, refl);
  }

  pub either_refused : (c n y : ℕ) → c ≡ kind s.phrases k → c < 16 → Evaluated s d env k (inner m) (refusedE n y) → Fetched s d env b k m (lacking n y)
  unfolding MeetsOperand next
  either_refused c n y i h A = record {
    meets = λ x fs e β S l.
        let low : kind s.phrases k < 16 = rw (← i) h in
        rw (
          argument_expression x fs s (inner m) S.world k l (evaluate x.phrases d) (deduce x.phrases d) e β (remaining m) low,
          ran_refused s d env b k m x fs e β S (expression_row x fs s (inner m) S.world k l low) n y A,
        ) (refl, refl);
  }

  abbrev told_one : M
  told_one = told_on m (1 ∷ []) (m.at.tokens + 1)

  grew_one : (fs : List Form) → m.at.tokens + 1 ≤ length m.tokens → Table (used m) fs → Grew 0 0 2 b m told_one fs [] (1 ∷ [])
  grew_one fs h T = grew_told 2 b (m.at.tokens + 1) m fs (1 ∷ []) refl h (omega arith) T

  pub either_lemma : (c p : ℕ) (m₂ : M) → m.at.tokens + 1 ≤ length m.tokens → c ≡ kind s.phrases k → 16 ≤ c → Deduced s d env b k told_one (concluded p m₂) → Fetched s d env b k m (got (Prop p) (Some p) m₂)
  unfolding MeetsOperand Lemmas TellsLemmas Stands next
  either_lemma c p m₂ room i h A = record {
    meets = λ x fs e β S l.
        let g = grew_one fs room S.world.legible.table in
        let S₁ = setting_same 0 0 2 b m told_one fs (1 ∷ []) g x e β s env b (le_refl b) S in
        let P = proved 0 0 0 b told_one m₂ fs p (deduce x.phrases d e β k (remaining m)) (A.meets x fs e β S₁ l) in
        let gp = P.grew.paid in let gn = P.grew.many in
        rw (argument_deduction x fs s (inner m) S.world k l (evaluate x.phrases d) (deduce x.phrases d) e β (remaining m) (rw (← i) h), P.is) (
          P.more,
          (1 ∷ []) ++ P.told,
          grew_on 0 0 2 b 0 0 0 b 0 0 1 m told_one m₂ fs P.more (1 ∷ []) P.told g P.grew (omega arith) (omega arith) (omega arith) (le_refl b),
          (p, refl, P.concludes),
          (P.derived, refl, P.concludes),
          (P.told, [], ap (λ (l : List ℕ). 1 ∷ l) (sym (append-nil P.told)), P.tells, refl),
          omega arith,
          refl,
        );
  }

  pub either_fails : (c n y : ℕ) → m.at.tokens + 1 ≤ length m.tokens → c ≡ kind s.phrases k → 16 ≤ c → Deduced s d env b k told_one (refused n y) → Fetched s d env b k m (lacking n y)
  unfolding MeetsOperand next
  either_fails c n y room i h A = record {
    meets = λ x fs e β S l.
        let g = grew_one fs room S.world.legible.table in
        let S₁ = setting_same 0 0 2 b m told_one fs (1 ∷ []) g x e β s env b (le_refl b) S in
        rw (
          argument_deduction x fs s (inner m) S.world k l (evaluate x.phrases d) (deduce x.phrases d) e β (remaining m) (rw (← i) h),
          refusal 0 0 0 b told_one fs n y (deduce x.phrases d e β k (remaining m)) (A.meets x fs e β S₁ l),
        ) (refl, refl);
  }

  pub ready_one : Ready (In k) s m env b 0 0 1 0 → Ready (In k) s told_one env b 0 0 0 0
  ready_one r =
      let rt = r.room.tokens in
      let g = grew_one r.formed (omega arith) r.setting.world.legible.table in
      record {
        text = r.text;
        formed = r.formed;
        bindings = r.bindings;
        basis = r.basis;
        setting = setting_same 0 0 2 b m told_one r.formed (1 ∷ []) g r.text r.bindings r.basis s env b (le_refl b) r.setting;
        row = r.row;
        room = room_grew 0 0 2 b m told_one r.formed [] (1 ∷ []) g b b 0 0 1 0 0 0 0 0 (omega arith) r.room (omega arith) (omega arith) (omega arith) (le_refl (b + remaining m + 0));
      }

  pub sequel_fits : (A C T U : ℕ) → 1 ≤ T → Ready (In k) s m env b A C T U → m.at.tokens + 1 ≤ length m.tokens
  sequel_fits A C T U h r = let rt = r.room.tokens in omega arith

-- what a phrase of either class leaves

pub record Held (G : Text → Type 0) (s : Shared) (m m₁ : M) (env b A C T U : ℕ) (v : Value) (l : Option ℕ) : Type 0 where
  pub ready : Ready G s m₁ env b A C T U
  pub value : Val
  pub stands : Stands ready.text.rows ready.formed m₁.binds (bound m₁) value v
  pub argument : Argument
  pub same : argument.value ≡ value
  pub lemma : Lemmas ready.formed l argument.lemma
  pub paid : joining l + remaining m₁ ≤ remaining m
  pub long : length m₁.base ≡ length m.base

pub held : (G : Text → Type 0) (s : Shared) (d env b k A C T U : ℕ) (m m₁ : M) (v : Value) (l : Option ℕ) (r : Ready G s m env b A C T U) → In k r.text → Fetched s d env b k m (got v l m₁) → Held G s m m₁ env b A C T U v l
held G s d env b k A C T U m m₁ v l r row F =
    let x = r.text in let fs = r.formed in let e = r.bindings in let β = r.basis in
    let P = fetch b x.rows m m₁ fs v l (argument x.phrases (evaluate x.phrases d) (deduce x.phrases d) e β k (remaining m)) (F.meets x fs e β r.setting row) in
    let g = P.grew in
    let w = less 0 0 1 b m m₁ fs P.more P.told g (omega arith) in
    record {
      ready = record {
        text = x;
        formed = fs ++ P.more;
        bindings = e;
        basis = β;
        setting = setting_grew 0 0 1 b m m₁ fs P.more P.told g x e β s env b (le_refl b) r.setting;
        row = r.row;
        room = room_grew 0 0 1 b m m₁ fs P.more P.told g b b A C T U A C T U (omega arith) r.room (omega arith) (omega arith) (omega arith) (omega arith);
      };
      value = P.argument.value;
      stands = P.stands;
      argument = P.argument;
      same = refl;
      lemma = P.lemma;
      paid = P.paid;
      long = g.base_long;
    }

pub join_fits : (G : Text → Type 0) (s : Shared) (m m₁ : M) (env b A C T U : ℕ) (v : Value) (l : Option ℕ) → b + remaining m ≤ length m.base → Held G s m m₁ env b A C T U v l → (b + joining l ≤ 16384) × LowLemma l
join_fits G s m m₁ env b A C T U v l h H =
    let r = H.ready in
    let rs = r.room.small in let p = H.paid in let q = H.long in
    (omega arith, lemma_small r.formed l H.argument.lemma (trees_few (inner m₁) r.formed r.setting.world.legible.table) H.lemma)

-- a value may be bound on a chain
pub value_fits : (s : Shared) (m : M) (x : Text) (fs : List Form) (X : Val) (v : Value) (y : ℕ) → World x fs s (inner m) → Stands x.rows fs m.binds (bound m) X v → y ≤ bound m → 4 * (bound m + 1) ≤ length m.binds → length m.binds ≤ 16384
    → (4 * bound m + 4 ≤ length m.binds) × (length m.binds ≤ 16384) × Small (record { value = v; next = y })
value_fits s m x fs X v y W S low room short =
    let few = rows_few x fs s (inner m) W in
    let trees = trees_few (inner m) fs W.legible.table in
    (omega arith, short, record { value = stands_small x.rows fs m.binds (bound m) few trees (omega arith) X v S; next = omega arith })

-- dlet

module _ (s : Shared) (d env b k : ℕ) (m : M) (is : kind s.phrases k ≡ 19) (f j : ℕ) (fi : f ≡ one s.phrases k) (ji : j ≡ two s.phrases k) where
  let_step : (x : Text) (fs : List Form) (e : Env) (β : List Form) → Setting x fs e β s m env b → In k x →
      deduce_step x.phrases (evaluate x.phrases d) (deduce x.phrases d) e β k (remaining m)
      ≡ next (argument x.phrases (evaluate x.phrases d) (deduce x.phrases d) e β f (remaining m)) (λ a w. after a.lemma (deduce x.phrases d (e ▸ a.value) (joined a.lemma β) j w))
  unfolding deduced
  let_step x fs e β S l = step_is x.phrases (evaluate x.phrases d) (deduce x.phrases d) e β k (remaining m) _ (says_dlet x fs s (inner m) S.world k l is) ∙ rw (fi, ji)

  pub let_first : (A C T U : ℕ) (r : Ready (In k) s m env b A C T U) → In f r.text
  let_first A C T U r = rw fi (let_rows r.text r.formed s (inner m) r.setting.world k r.row is).0

  first_in : (x : Text) (fs : List Form) (e : Env) (β : List Form) → Setting x fs e β s m env b → In k x → In f x
  first_in x fs e β S l = rw fi (let_rows x fs s (inner m) S.world k l is).0

  second_in : (x : Text) (fs : List Form) (e : Env) (β : List Form) → Setting x fs e β s m env b → In k x → In j x
  second_in x fs e β S l = rw ji (let_rows x fs s (inner m) S.world k l is).1.0

  pub let_refused : (n y : ℕ) → Fetched s d env b f m (lacking n y) → Stepped s d env b k m (refused n y)
  unfolding Meets next
  let_refused n y F = record {
    meets = λ x fs e β S l.
        rw (let_step x fs e β S l, unfetched b x.rows m fs n y (argument x.phrases (evaluate x.phrases d) (deduce x.phrases d) e β f (remaining m)) (F.meets x fs e β S (first_in x fs e β S l))) (refl, refl);
  }

  -- the lemma joined and the value bound
  abbrev let_state : M → Value → Option ℕ → M
  let_state m₁ v l = bound_on (joined_on m₁ b l) v env

  pub let_setting : (x : Text) (fs : List Form) (e : Env) (β : List Form) (m₁ : M) (v : Value) (l : Option ℕ) (X : Val) (ds : List Derived) → Setting x fs e β s m₁ env b → Stands x.rows fs m₁.binds (bound m₁) X v → Lemmas fs l ds
      → b + joining l ≤ length m₁.base → 4 * bound m₁ + 4 ≤ length m₁.binds → Setting x fs (e ▸ X) (joined ds β) s (let_state m₁ v l) (bound m₁ + 1) (b + joining l)
  let_setting x fs e β m₁ v l X ds S st L room space =
      let w = S.world in
      record {
        world = record { legible = w.legible; says = w.says; holds = w.holds; short = w.short };
        chain = pushed x.rows fs m₁.binds (bound m₁) env space e X v S.chain st;
        based = based_lemma fs m₁.base b β l ds room L S.based;
      }

  let_grew : (m₁ : M) (v : Value) (l : Option ℕ) (fs : List Form) → Table (used m₁) fs → Grew 0 1 1 b m₁ (let_state m₁ v l) fs [] []
  let_grew m₁ v l fs T =
      grew_on 0 0 1 b 0 1 1 b 0 1 1 m₁ (joined_on m₁ b l) (let_state m₁ v l) fs [] [] [] (grew_joined b b m₁ fs l (le_refl b) T) (grew_bound b (joined_on m₁ b l) fs v env T)
      (omega arith) (omega arith) (omega arith) (le_refl b)

  pub let_is : (m₁ : M) (v : Value) (l : Option ℕ) (o : MOut) → Ready (In k) s m env b 4 4 11 1 → Fetched s d env b f m (got v l m₁) → Deduced s d (bound m₁ + 1) (b + joining l) j (let_state m₁ v l) o → Stepped s d env b k m o
  unfolding next
  let_is m₁ v l o r F D = record {
    meets = λ x fs e β S i.
        let P = fetch b x.rows m m₁ fs v l (argument x.phrases (evaluate x.phrases d) (deduce x.phrases d) e β f (remaining m)) (F.meets x fs e β S (first_in x fs e β S i)) in
        let g = P.grew in
        let S₁ = setting_grew 0 0 1 b m m₁ fs P.more P.told g x e β s env b (le_refl b) S in
        let R = room_grew 0 0 1 b m m₁ fs P.more P.told g b b 4 4 11 1 4 4 11 1 (omega arith) r.room (omega arith) (omega arith) (omega arith)
        (let w = less 0 0 1 b m m₁ fs P.more P.told g (omega arith) in omega arith) in
        let rb = R.inner.binds in let rs = r.room.base in let bl = g.base_long in let p = P.paid in
        let T = S₁.world.legible.table in
        let S₂ = let_setting x (fs ++ P.more) e β m₁ v l P.argument.value P.argument.lemma S₁ P.stands P.lemma (omega arith) (omega arith) in
        let G = grew_last 0 0 1 b 0 1 1 b 0 1 1 m m₁ (let_state m₁ v l) fs P.more P.told g (let_grew m₁ v l (fs ++ P.more) T) (omega arith) (omega arith) (omega arith) (le_refl b) in
        rw (let_step x fs e β S i, P.is)
        (after_lemmas 0 1 1 b 0 0 0 (b + joining l) 4 4 11 m (let_state m₁ v l) fs P.more P.told P.argument.lemma o _ G P.tells
        (D.meets x (fs ++ P.more) (e ▸ P.argument.value) (joined P.argument.lemma β) S₂ (second_in x fs e β S i)) (omega arith) (omega arith) (omega arith) (omega arith));
  }

  pub let_ready : (m₁ : M) (v : Value) (l : Option ℕ) (r : Ready (In k) s m env b 4 4 11 1) → Held (In k) s m m₁ env b 4 4 11 1 v l → Ready (In j) s (let_state m₁ v l) (bound m₁ + 1) (b + joining l) 0 0 0 0 × (16 ≤ kind s.phrases j)
  let_ready m₁ v l r H =
      let q = H.ready in
      let rows = let_rows q.text q.formed s (inner m₁) q.setting.world k q.row is in
      let rb = q.room.inner.binds in let rs = q.room.base in let p = H.paid in let bl = H.long in let r₀ = r.room.base in
      let T = q.setting.world.legible.table in
      let rt = q.room.tokens in (
        record {
          text = q.text;
          formed = q.formed;
          bindings = q.bindings ▸ H.value;
          basis = joined H.argument.lemma q.basis;
          setting = let_setting q.text q.formed q.bindings q.basis m₁ v l H.value H.argument.lemma q.setting H.stands H.lemma (omega arith) (omega arith);
          row = rw ji rows.1.0;
          room = room_grew 0 1 1 b m₁ (let_state m₁ v l) q.formed [] [] (let_grew m₁ v l q.formed T) (b + joining l) (b + joining l) 4 4 11 0 0 0 0 0 (omega arith)
              (record { inner = q.room.inner; tokens = rt; base = omega arith; short = q.room.short; small = q.room.small })
              (omega arith) (omega arith) (omega arith) (le_refl (b + joining l + remaining m₁ + 0));
        },
        rw ji rows.1.1,
      )

pub let_value_fits : (s : Shared) (m m₁ : M) (env b k : ℕ) (v : Value) (l : Option ℕ) → Held (In k) s m m₁ env b 4 4 11 1 v l → (4 * bound m₁ + 4 ≤ length m₁.binds) × (length m₁.binds ≤ 16384) × Small (record { value = v; next = env })
let_value_fits s m m₁ env b k v l H =
    let r = H.ready in
    let rb = r.room.inner.binds in
    value_fits s m₁ r.text r.formed H.value v env r.setting.world H.stands (chain_low r.text.rows r.formed m₁.binds (bound m₁) r.bindings env r.setting.chain) (omega arith) r.room.inner.short

-- a block

pub block_is : (s : Shared) (d env b k n : ℕ) (m : M) (o : MOut) → kind s.phrases k ≡ 21 → n ≡ one s.phrases k → Stepping s d env b (12 * k + 2) n m o → Stepped s d env b k m o
unfolding deduced
block_is s d env b k n m o is i A = record {
  meets = λ x fs e β S l.
      rw (step_is x.phrases (evaluate x.phrases d) (deduce x.phrases d) e β k (remaining m) _ (says_block x fs s (inner m) S.world k l is), ← i)
      (after_same 0 0 1 b 0 0 0 b 4 4 11 m m fs o _ (grew_none 0 0 1 b m fs (omega arith) S.world.legible.table) (A.meets x fs e β S (λ q h. (step_rows x fs s (inner m) S.world k l is q (omega arith)).0)) (omega arith) (omega arith) (omega arith) (le_refl b));
}

pub block_ready : (s : Shared) (m : M) (env b k n : ℕ) → kind s.phrases k ≡ 21 → n ≡ one s.phrases k → Ready (In k) s m env b 4 4 11 1 → Steplist s m env b (12 * k + 2) n
block_ready s m env b k n is i r =
    let W = r.setting.world in
    let c = block_count r.text r.formed s (inner m) W k r.row is in
    let q = row_inside r.text r.formed s (inner m) W k r.row in
    let c₀ = c.0 in let c₁ = c.1 in
    record {
      ready = ready_less (In k) (Ins s.phrases (12 * k + 2) n) s m env b 4 4 11 1 0 0 1 0 r (λ j h. (step_rows r.text r.formed s (inner m) W k r.row is j (omega arith)).0) (omega arith) (omega arith) (omega arith) (omega arith);
      some = omega arith;
      few = omega arith;
      inside = omega arith;
      kinds = λ j h. (step_rows r.text r.formed s (inner m) W k r.row is j (omega arith)).1;
    }

-- steps

module _ (s : Shared) (env b from left k : ℕ) (m : M) (ki : k ≡ get_or s.phrases from 0) where
  first_step : (x : Text) → 1 ≤ left → Ins s.phrases from left x → In k x
  first_step x h r = let z : from + 0 ≡ from = omega arith in rw (ki, ← z) (r 0 (omega arith))

  later_steps : (x : Text) → (left ≡ 1 → ⊥) → Ins s.phrases from left x → Ins s.phrases (from + 1) (left - 1) x
  later_steps x h r i l = let z : from + 1 + i ≡ from + (i + 1) = omega arith in rw z (r (i + 1) (omega arith))

  pub step_in : (a : Steplist s m env b from left) → In k a.ready.text
  step_in a = first_step a.ready.text a.some a.ready.row

  pub step_ready : Steplist s m env b from left → Ready (In k) s m env b 0 0 1 0
  step_ready a = ready_less (Ins s.phrases from left) (In k) s m env b 0 0 1 0 0 0 1 0 a.ready (first_step a.ready.text a.some a.ready.row) (omega arith) (omega arith) (omega arith) (omega arith)

  pub step_kind : Steplist s m env b from left → 16 ≤ kind s.phrases k
  step_kind a = let z : from + 0 ≡ from = omega arith in let h = a.some in rw (ki, ← z) (a.kinds 0 (omega arith))

  pub last_ready : Steplist s m env b from left → Ready (In k) s m env b 0 0 0 0
  last_ready a = ready_less (In k) (In k) s m env b 0 0 1 0 0 0 0 0 (step_ready a) (step_ready a).row (omega arith) (omega arith) (omega arith) (omega arith)

  module _ (d : ℕ) where
    pub last_step : (o : MOut) → left ≡ 1 → Deduced s d env b k m o → Stepping s d env b from left m o
    unfolding steps listed
    last_step o h A = record {
      meets = λ x fs e β S r.
          let z : left - 1 ≡ 0 = omega arith in
          rw (z, ← ki) (A.meets x fs e β S (first_step x (omega arith) r));
    }

    -- a step is a phrase of either class that is a deduction
    as_argument : (β : List Form) (R : List Form → ℕ → Out Derived) (o : Out Derived) → next o (λ q w. after (q ∷ []) (R (q.conclusion ∷ β) w)) ≡ next (next o (λ q. out (as_lemma q))) (λ a w. after a.lemma (R (joined a.lemma β) w))
    unfolding next joined
    as_argument β R (out q w) = refl
    as_argument β R (stop n y) = refl

    abbrev others : Text → Env → List Form → ℕ → Out Derived
    others x e γ w = steps (deduce x.phrases d) e γ (get_or s.phrases (from + 1) 0) (listed s.phrases (from + 1 + 1) (left - 1 - 1)) w

    more_steps : (x : Text) (fs : List Form) (e : Env) (β : List Form) → Steplist s m env b from left → Setting x fs e β s m env b → Ins s.phrases from left x → (left ≡ 1 → ⊥) →
        steps (deduce x.phrases d) e β (get_or s.phrases from 0) (listed s.phrases (from + 1) (left - 1)) (remaining m)
        ≡ next (argument x.phrases (evaluate x.phrases d) (deduce x.phrases d) e β k (remaining m)) (λ a w. after a.lemma (others x e (joined a.lemma β) w))
    unfolding steps
    more_steps x fs e β a S r z =
        let h = a.some in
        rw (list_step s.phrases (from + 1) (left - 1) (λ q. z (omega arith)), ← ki, argument_deduction x fs s (inner m) S.world k (first_step x h r) (evaluate x.phrases d) (deduce x.phrases d) e β (remaining m) (step_kind a))
        (as_argument β (others x e) (deduce x.phrases d e β k (remaining m)))

    pub step_fails : (n y : ℕ) → Steplist s m env b from left → (left ≡ 1 → ⊥) → Fetched s d env b k m (lacking n y) → Stepping s d env b from left m (refused n y)
    unfolding Meets next
    step_fails n y a h F = record {
      meets = λ x fs e β S r.
          rw (more_steps x fs e β a S r h, unfetched b x.rows m fs n y (argument x.phrases (evaluate x.phrases d) (deduce x.phrases d) e β k (remaining m)) (F.meets x fs e β S (first_step x a.some r))) (refl, refl);
    }

    joined_setting : (x : Text) (fs : List Form) (e : Env) (β : List Form) (m₁ : M) (l : Option ℕ) (ds : List Derived) → Setting x fs e β s m₁ env b → Lemmas fs l ds → b + joining l ≤ length m₁.base
        → Setting x fs e (joined ds β) s (joined_on m₁ b l) env (b + joining l)
    joined_setting x fs e β m₁ l ds S L room =
        let w = S.world in
        record {
          world = record { legible = w.legible; says = w.says; holds = w.holds; short = w.short };
          chain = S.chain;
          based = based_lemma fs m₁.base b β l ds room L S.based;
        }

    pub step_then : (m₁ : M) (v : Value) (l : Option ℕ) (o : MOut) → Steplist s m env b from left → (left ≡ 1 → ⊥) → Fetched s d env b k m (got v l m₁) → Stepping s d env (b + joining l) (from + 1) (left - 1) (joined_on m₁ b l) o
        → Stepping s d env b from left m o
    unfolding next
    step_then m₁ v l o a h F D = record {
      meets = λ x fs e β S r.
          let P = fetch b x.rows m m₁ fs v l (argument x.phrases (evaluate x.phrases d) (deduce x.phrases d) e β k (remaining m)) (F.meets x fs e β S (first_step x a.some r)) in
          let g = P.grew in
          let S₁ = setting_grew 0 0 1 b m m₁ fs P.more P.told g x e β s env b (le_refl b) S in
          let rs = a.ready.room.base in let bl = g.base_long in let p = P.paid in
          let T = S₁.world.legible.table in
          let S₂ = joined_setting x (fs ++ P.more) e β m₁ l P.argument.lemma S₁ P.lemma (omega arith) in
          let G = grew_last 0 0 1 b 0 0 1 b 0 0 1 m m₁ (joined_on m₁ b l) fs P.more P.told g (grew_joined b b m₁ (fs ++ P.more) l (le_refl b) T) (omega arith) (omega arith) (omega arith) (le_refl b) in
          rw (more_steps x fs e β a S r h, P.is)
          (after_lemmas 0 0 1 b 0 0 0 (b + joining l) 0 0 0 m (joined_on m₁ b l) fs P.more P.told P.argument.lemma o _ G P.tells
          (D.meets x (fs ++ P.more) e (joined P.argument.lemma β) S₂ (later_steps x h r)) (omega arith) (omega arith) (omega arith) (omega arith));
    }

    pub steps_ready : (m₁ : M) (v : Value) (l : Option ℕ) (a : Steplist s m env b from left) → (left ≡ 1 → ⊥) → Fetched s d env b k m (got v l m₁) → Steplist s (joined_on m₁ b l) env (b + joining l) (from + 1) (left - 1)
    steps_ready m₁ v l a h F =
        let H = held (Ins s.phrases from left) s d env b k 0 0 1 0 m m₁ v l a.ready (first_step a.ready.text a.some a.ready.row) F in
        let q = H.ready in
        let T = q.setting.world.legible.table in
        let p = H.paid in let bl = H.long in let r₀ = a.ready.room.base in
        let some = a.some in let few = a.few in let inside = a.inside in
        record {
          ready = record {
            text = q.text;
            formed = q.formed;
            bindings = q.bindings;
            basis = joined H.argument.lemma q.basis;
            setting = joined_setting q.text q.formed q.bindings q.basis m₁ l H.argument.lemma q.setting H.lemma (omega arith);
            row = later_steps q.text h q.row;
            room = room_grew 0 0 1 b m₁ (joined_on m₁ b l) q.formed [] [] (grew_joined b b m₁ q.formed l (le_refl b) T) (b + joining l) (b + joining l) 0 0 1 0 0 0 1 0 (omega arith)
                (record { inner = q.room.inner; tokens = q.room.tokens; base = omega arith; short = q.room.short; small = q.room.small })
                (omega arith) (omega arith) (omega arith) (le_refl (b + joining l + remaining m₁ + 0));
          };
          some = omega arith;
          few = omega arith;
          inside = omega arith;
          kinds = λ i g. let z : from + 1 + i ≡ from + (i + 1) = omega arith in rw z (a.kinds (i + 1) (omega arith));
        }

-- Dmatch: one law for each return of the functions that run the first phrase and the clause that fits.
use Rattle.std.specs.Prelude.{Option, Some, None}
use mathlib.Core.Path.{◌≡◌, refl, sym, ap, subst, ◌∙◌}
use mathlib.Core.List.{List, [], ◌++◌, map, append-nil}
use Prim.Native.Nat.{ℕ, ◌+◌, ◌*◌, ◌≤◌, ◌<◌}
use native.Mathlib.Omega.{arith}
use native.Mathlib.Nat.{le_refl}
use lib.ListN.{length, take, drop}
use lib.Seq.{take-take, take_at, length-take-le}
use Rattle.language.specs.Refusals.{wrong_kind, no_clause}
use Rattle.language.specs.Form.{Form}
use Rattle.language.specs.Values.{Env, Out, next, as_form, with_forms}
use Rattle.language.specs.Patterns.{Choice as ChosenClause, chosen, unfit, choose, on_choice}
use Rattle.language.specs.Run.{evaluate, Derived, Argument, argument, deduced, deduce_step, deduce}
use Rattle.forms.specs.Table.{tree, Table}
use Rattle.records.specs.Rows.{clauses_of}
use Rattle.theorems.proofs.Lists.{all_map}
use Rattle.bindings.specs.declared.Value.{Value}
use Rattle.bindings.specs.declared.Value.TheVariants.{Prop}
use Rattle.bindings.specs.Stands.{Chain}
use Rattle.bindings.proofs.Chains.{chain_low}
use Rattle.patterns.specs.declared.Parts.{Parts}
use Rattle.patterns.specs.Parts.{numbers}
use Rattle.patterns.specs.Fitting.{Offered, Picked, ChosenSo}
use Rattle.patterns.proofs.Clauses.{OnBody, body_of, Binds, binds_of}
use Rattle.expressions.specs.Machine.{Shared, counters, kind, one, two, chained, outermost}
use Rattle.expressions.specs.Asked.{Text, World, Bindable}
use Rattle.expressions.proofs.Operands.{row_inside}
use Rattle.expressions.proofs.Steps.{trees_few}
use Rattle.expressions.proofs.Parts.{chained_kept, chained_long, chained_stands}
use Rattle.deductions.specs.Machine.{M, mk, progress, inner, remaining, bound, MOut, refused, got, lacking}
use Rattle.deductions.specs.Asked.{In, Setting, Ready, Matching}
use Rattle.deductions.specs.Meets.{Grew, Meets, Deduced, Stepped, Fetched, Selected}
use Rattle.deductions.proofs.Sorts.{Otherwise, proposition, no_proposition}
use Rattle.deductions.proofs.Growth.{used, setting_grew, room_grew, less, after_none, after_same}
use Rattle.deductions.proofs.Rows.{step_is, says_dmatch, subject_row, few_clauses, clause_rows}
use Rattle.deductions.proofs.Got.{Fetch, fetch, unfetched}

-- a body is a deduction of the text
abbrev Body : Text → Shared → ℕ → Type 0
Body x s j = In j x × (16 ≤ kind s.phrases j)

module _ (s : Shared) (env b k p : ℕ) (m : M) (n : ℕ) (i : n ≡ two s.phrases k) (is : kind s.phrases k ≡ 22) where
  -- the clauses may be tried
  abbrev offered : (x : Text) (fs : List Form) → World x fs s (inner m) → In k x → p < length fs → Offered m.forms s.patterns s.phrases (12 * k + 3) n p
  offered x fs W l low =
      let few = few_clauses x fs s (inner m) W k l is in
      let inside = row_inside x fs s (inner m) W k l in
      record {
        words = m.at.state.props;
        trees = fs;
        qs = x.patterns;
        rows = x.pattern_rows;
        legible = W.legible;
        proposition = low;
        named = λ j h. (clause_rows x fs s (inner m) W k l is j (omega arith)).0;
        inside = omega arith;
        short = W.short;
      }

  pub clauses_offered : Matching s m env b k p → Offered m.forms s.patterns s.phrases (12 * k + 3) n p
  clauses_offered a = offered a.ready.text a.ready.formed a.ready.setting.world a.ready.row a.low

  abbrev clauses : Text → Form → ChosenClause
  clauses x P = choose (clauses_of x.patterns n (drop (12 * k + 3) s.phrases)) P

  body_at : (x : Text) (fs : List Form) (P : Form) → World x fs s (inner m) → In k x → OnBody (Body x s) (clauses x P)
  body_at x fs P W l = body_of (Body x s) x.patterns P n (12 * k + 3) s.phrases (λ j h. (clause_rows x fs s (inner m) W k l is j (omega arith)).1)

  -- no clause fits
  pub none_fits : (d : ℕ) → ChosenSo m.forms s.patterns s.phrases (12 * k + 3) n p None → Selected s d env b k p m (refused no_clause k)
  unfolding Meets on_choice Picked
  none_fits d C = record { meets = λ x fs e β S l low. rw (← i) (go x fs e β (clauses x (tree fs p)) (C.meets (offered x fs S.world l low))) }
    where
      go : (x : Text) (fs : List Form) (e : Env) (β : List Form) (q : ChosenClause) → Picked fs None q → Meets 0 4 0 b m fs (refused no_clause k) (on_choice q k (λ j ps. deduce x.phrases d (with_forms e ps) β j (remaining m)))
      go x fs e β (chosen j ps) z = absurd z
      go x fs e β unfit z = (refl, refl)

  module _ (body : ℕ) (parts : Parts) (C : ChosenSo m.forms s.patterns s.phrases (12 * k + 3) n p (Some (body, parts))) where
    pub parts_bindable : Matching s m env b k p → Bindable m.binds (bound m) env parts
    unfolding Picked
    parts_bindable a = go (clauses r.text (tree r.formed p)) (C.meets (offered r.text r.formed r.setting.world r.row a.low))
      where
        r : Ready (In k) s m env b 0 4 0 0
        r = a.ready

        go : (q : ChosenClause) → Picked r.formed (Some (body, parts)) q → Bindable m.binds (bound m) env parts
        go (chosen j ps) z =
            let B = binds_of r.formed ps parts z.1.0 z.1.1 z.1.2 z.1.3 in
            let few = B.few in
            let rb = r.room.inner.binds in
            let trees = trees_few (inner m) r.formed r.setting.world.legible.table in
            record {
              few = few;
              low = all_map (λ q. q < length r.formed) (λ q. q < 16384) (λ q h. omega arith) (numbers parts) B.low;
              from = chain_low r.text.rows r.formed m.binds (bound m) r.bindings env r.setting.chain;
              room = omega arith;
              short = r.room.inner.short;
            }
        go unfit z = absurd z

    pub parts_fit : Matching s m env b k p → bound m + parts.count ≤ 16384
    parts_fit a = let B = parts_bindable a in let rm = B.room in let rs = B.short in omega arith

    module _ (t : List ℕ) (y : ℕ) (B : (y ≡ outermost (bound m) env (numbers parts)) × (t ≡ chained m.binds (bound m) env (numbers parts))) where
      abbrev pub parts_on : M
      parts_on = mk m.forms t m.base m.tokens (progress (counters m.at.state.props (bound m + parts.count) (remaining m)) m.at.tokens)

      parts_long : length t ≡ length m.binds
      parts_long = ap length B.1 ∙ chained_long (numbers parts) m.binds (bound m) env

      parts_chain : (x : Text) (fs ps : List Form) (e : Env) → 4 * (bound m + parts.count) ≤ length m.binds → Chain x.rows fs m.binds (bound m) e env → Binds fs parts ps → Chain x.rows fs t (bound m + parts.count) (with_forms e ps) y
      parts_chain x fs ps e room c q =
          let l = q.count in
          let ns = numbers parts in
          let K = chained_stands ns x.rows fs m.binds (bound m) env e (omega arith) c q.low in
          rw (B.0, B.1, ← q.trees)
          (subst (λ (j : ℕ). Chain x.rows fs (chained m.binds (bound m) env ns) (bound m + j) (with_forms e (map (tree fs) ns)) (outermost (bound m) env ns)) l K)

      parts_grew : (fs : List Form) → Table (used m) fs → parts.count ≤ 4 → Grew 0 4 1 b m parts_on fs [] []
      parts_grew fs T few = record {
        inner = record {
          table = rw append-nil T;
          kept = rw B.1 (chained_kept (numbers parts) m.binds (bound m) env);
          more = omega arith;
          props = omega arith;
          bindings = omega arith;
          forms_long = refl;
          binds_long = parts_long;
        };
        base = λ j h. refl;
        tokens = sym (append-nil (take m.at.tokens m.tokens));
        many = omega arith;
        paid = omega arith;
        base_long = refl;
        tokens_long = refl;
      }

      parts_setting : (x : Text) (fs ps : List Form) (e : Env) (β : List Form) → Setting x fs e β s m env b → 4 * (bound m + parts.count) ≤ length m.binds → Binds fs parts ps → Setting x fs (with_forms e ps) β s parts_on y b
      parts_setting x fs ps e β S room q =
          let w = S.world in
          record {
            world = record { legible = w.legible; says = w.says; holds = w.holds; short = w.short };
            chain = parts_chain x fs ps e room S.chain q;
            based = S.based;
          }

      -- the clause may be run
      pub clause_ready : Matching s m env b k p → Ready (In body) s parts_on y b 0 0 0 0 × (16 ≤ kind s.phrases body)
      unfolding Picked OnBody
      clause_ready a = go (clauses r.text (tree r.formed p)) (C.meets (offered r.text r.formed r.setting.world r.row a.low)) (body_at r.text r.formed (tree r.formed p) r.setting.world r.row)
        where
          r : Ready (In k) s m env b 0 4 0 0
          r = a.ready

          go : (q : ChosenClause) → Picked r.formed (Some (body, parts)) q → OnBody (Body r.text s) q → Ready (In body) s parts_on y b 0 0 0 0 × (16 ≤ kind s.phrases body)
          go (chosen j ps) z h =
              let D = binds_of r.formed ps parts z.1.0 z.1.1 z.1.2 z.1.3 in
              let rm = (parts_bindable a).room in (
                record {
                  text = r.text;
                  formed = r.formed;
                  bindings = with_forms r.bindings ps;
                  basis = r.basis;
                  setting = parts_setting r.text r.formed ps r.bindings r.basis r.setting rm D;
                  row = rw z.0 h.0;
                  room = room_grew 0 4 1 b m parts_on r.formed [] [] (parts_grew r.formed r.setting.world.legible.table D.few) b b 0 4 0 0 0 0 0 0 (omega arith) r.room (omega arith) (omega arith) (omega arith) (le_refl (b + remaining m + 0));
                },
                rw z.0 h.1,
              )
          go unfit z h = absurd z

      pub clause_runs : (d : ℕ) (o : MOut) → Matching s m env b k p → Deduced s d y b body parts_on o → Selected s d env b k p m o
      unfolding on_choice Picked OnBody
      clause_runs d o a E = record {
        meets = λ x fs e β S l low. rw (← i) (go x fs e β S (clauses x (tree fs p)) (C.meets (offered x fs S.world l low)) (body_at x fs (tree fs p) S.world l));
      }
        where
          go : (x : Text) (fs : List Form) (e : Env) (β : List Form) → Setting x fs e β s m env b → (q : ChosenClause) → Picked fs (Some (body, parts)) q → OnBody (Body x s) q
              → Meets 0 4 0 b m fs o (on_choice q k (λ j ps. deduce x.phrases d (with_forms e ps) β j (remaining m)))
          go x fs e β S (chosen j ps) z h =
              let D = binds_of fs ps parts z.1.0 z.1.1 z.1.2 z.1.3 in
              let T = S.world.legible.table in
              let rm = (parts_bindable a).room in
              rw (← z.0)
              (after_same 0 4 1 b 0 0 0 b 0 4 0 m parts_on fs o (deduce x.phrases d (with_forms e ps) β body (remaining m)) (parts_grew fs T D.few)
              (E.meets x fs (with_forms e ps) β (parts_setting x fs ps e β S rm D) (rw z.0 h.0)) (omega arith) (omega arith) (omega arith) (le_refl b))
          go x fs e β S unfit z h = absurd z

-- the first phrase, whose tokens are dropped

abbrev pub dropped : M → ℕ → M
dropped m n = mk m.forms m.binds m.base m.tokens (progress m.at.state n)

grew_dropped : (b : ℕ) (m m₁ : M) (fs gs : List Form) (ts : List ℕ) → m.at.tokens ≤ length m.tokens → Grew 0 0 1 b m m₁ fs gs ts → Grew 0 0 1 b m (dropped m₁ m.at.tokens) fs gs []
grew_dropped b m m₁ fs gs ts h g =
    let n = m.at.tokens in
    let k = g.many in
    let w = less 0 0 1 b m m₁ fs gs ts g (omega arith) in
    let t : take n m₁.tokens ≡ take n m.tokens =
    sym (take-take n m₁.at.tokens m₁.tokens (omega arith)) ∙ ap (take n) g.tokens ∙ take_at (take n m.tokens) ts n (length-take-le n m.tokens h) in
    record {
      inner = g.inner;
      base = g.base;
      tokens = t ∙ sym (append-nil (take n m.tokens));
      many = omega arith;
      paid = omega arith;
      base_long = g.base_long;
      tokens_long = g.tokens_long;
    }

module _ (s : Shared) (d env b k f : ℕ) (m : M) (is : kind s.phrases k ≡ 22) (fi : f ≡ one s.phrases k) where
  abbrev then : Text → Env → List Form → Argument → ℕ → Out Derived
  then x e β a w = as_form a.value k (λ P. on_choice (choose (clauses_of x.patterns (two s.phrases k) (drop (12 * k + 3) s.phrases)) P) k (λ j ps. deduce x.phrases d (with_forms e ps) β j w))

  match_step : (x : Text) (fs : List Form) (e : Env) (β : List Form) → Setting x fs e β s m env b → In k x →
      deduce_step x.phrases (evaluate x.phrases d) (deduce x.phrases d) e β k (remaining m) ≡ next (argument x.phrases (evaluate x.phrases d) (deduce x.phrases d) e β f (remaining m)) (then x e β)
  unfolding deduced
  match_step x fs e β S l = step_is x.phrases (evaluate x.phrases d) (deduce x.phrases d) e β k (remaining m) _ (says_dmatch x fs s (inner m) S.world k l is) ∙ rw fi

  first_in : (x : Text) (fs : List Form) (e : Env) (β : List Form) → Setting x fs e β s m env b → In k x → In f x
  first_in x fs e β S l = rw fi (subject_row x fs s (inner m) S.world k l is)

  pub match_first : (A C T U : ℕ) (r : Ready (In k) s m env b A C T U) → In f r.text
  match_first A C T U r = first_in r.text r.formed r.bindings r.basis r.setting r.row

  pub match_refused : (n y : ℕ) → Fetched s d env b f m (lacking n y) → Stepped s d env b k m (refused n y)
  unfolding Meets next
  match_refused n y F = record {
    meets = λ x fs e β S l.
        rw (match_step x fs e β S l, unfetched b x.rows m fs n y (argument x.phrases (evaluate x.phrases d) (deduce x.phrases d) e β f (remaining m)) (F.meets x fs e β S (first_in x fs e β S l))) (refl, refl);
  }

  module _ (m₁ : M) (v : Value) (l : Option ℕ) (F : Fetched s d env b f m (got v l m₁)) where
    fetched : (x : Text) (fs : List Form) (e : Env) (β : List Form) → Setting x fs e β s m env b → In k x → Fetch b x.rows m m₁ fs v l (argument x.phrases (evaluate x.phrases d) (deduce x.phrases d) e β f (remaining m))
    fetched x fs e β S i = fetch b x.rows m m₁ fs v l _ (F.meets x fs e β S (first_in x fs e β S i))

    pub match_other : Otherwise v → Stepped s d env b k m (refused wrong_kind k)
    unfolding Meets next
    match_other h = record {
      meets = λ x fs e β S i.
          let z = fetched x fs e β S i in
          subst (Meets 4 4 11 b m fs (refused wrong_kind k))
          (sym (match_step x fs e β S i ∙ ap (λ (o : Out Argument). next o (then x e β)) z.is ∙ no_proposition x.rows (fs ++ z.more) m₁.binds (bound m₁) z.argument.value v k _ z.stands h)) (refl, refl);
    }

    module _ (p : ℕ) (vp : v ≡ Prop p) (r : Ready (In k) s m env b 4 4 11 1) where
      space : m.at.tokens ≤ length m.tokens
      space = let rt = r.room.tokens in omega arith

      abbrev m₂ : M
      m₂ = dropped m₁ m.at.tokens

      pub matching : Matching s m₂ env b k p
      matching =
          let x = r.text in let fs = r.formed in let e = r.bindings in let β = r.basis in
          let z = fetched x fs e β r.setting r.row in
          let g = grew_dropped b m m₁ fs z.more z.told space z.grew in
          let w = less 0 0 1 b m m₂ fs z.more [] g (omega arith) in
          let P = proposition x.rows (fs ++ z.more) m₁.binds (bound m₁) z.argument.value v p z.stands vp in
          record {
            ready = record {
              text = x;
              formed = fs ++ z.more;
              bindings = e;
              basis = β;
              setting = setting_grew 0 0 1 b m m₂ fs z.more [] g x e β s env b (le_refl b) r.setting;
              row = r.row;
              room = room_grew 0 0 1 b m m₂ fs z.more [] g b b 4 4 11 1 0 4 0 0 (omega arith) r.room (omega arith) (omega arith) (omega arith) (omega arith);
            };
            kind = is;
            low = P.2.low;
          }

      pub match_is : (o : MOut) → Selected s d env b k p m₂ o → Stepped s d env b k m o
      unfolding next as_form
      match_is o A = record {
        meets = λ x fs e β S i.
            let z = fetched x fs e β S i in
            let g = grew_dropped b m m₁ fs z.more z.told space z.grew in
            let S₂ = setting_grew 0 0 1 b m m₂ fs z.more [] g x e β s env b (le_refl b) S in
            let P = proposition x.rows (fs ++ z.more) m₁.binds (bound m₁) z.argument.value v p z.stands vp in
            rw (match_step x fs e β S i, z.is, P.1, ← P.2.tree)
            (after_none 0 0 1 b 0 4 0 b 4 4 11 m m₂ fs z.more o _ g (A.meets x (fs ++ z.more) e β S₂ i P.2.low) (omega arith) (omega arith) (omega arith) (le_refl b));
      }

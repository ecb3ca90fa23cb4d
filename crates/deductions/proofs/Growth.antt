-- Steps one after another: what a state stands for survives growth, and the credits add up.
use Rattle.std.specs.Prelude.{Option, Some, None}
use mathlib.Core.Path.{◌≡◌, refl, sym, ap, subst, ◌∙◌}
use mathlib.Core.List.{List, [], ◌++◌, append_assoc, append-nil}
use Prim.Native.Nat.{ℕ, ◌+◌, ◌*◌, ◌≤◌, ◌<◌}
use native.Mathlib.Omega.{arith}
use lib.ListN.{length, take, length-append, length-set}
use lib.Seq.{sets, length-sets}
use Rattle.language.specs.Form.{Form}
use Rattle.language.specs.Values.{Val, Env, Out, out, stop, next}
use Rattle.language.specs.Run.{Derived, chained, after}
use Rattle.bindings.specs.declared.Value.{Value}
use Rattle.bindings.specs.Numbers.{numbers_of}
use Rattle.bindings.specs.Stands.{Is, Stands, Chain}
use Rattle.forms.specs.Table.{Table}
use Rattle.tokens.specs.Tells.{Tells, TellsLemmas}
use Rattle.tokens.proofs.Growth.{lemmas_more}
use Rattle.tokens.proofs.Lemmas.{lemmas_then}
use Rattle.expressions.specs.declared.State.{State}
use Rattle.expressions.specs.Machine.{Shared, counters, mk as mkE}
use Rattle.expressions.specs.Asked.{Text}
use Rattle.expressions.specs.Meets.{Grew as GrewE}
use Rattle.expressions.proofs.Growth.{world_grew, chain_grew, stands_grew, room_grew as room_e_grew, grew_then as grew_e_then, grew_none as grew_e_none, grew_push as grew_e_push}
use Rattle.deductions.specs.Machine.{M, mk, progress, inner, remaining, bound, spent, moved, joined_at, MOut, concluded, refused}
use Rattle.deductions.specs.Asked.{Setting, Room}
use Rattle.deductions.specs.Meets.{Grew, Meets}
use Rattle.deductions.proofs.Tokens.{take_sets}
use Rattle.deductions.proofs.Bases.{based_grew, joined_below}

-- the words in use
abbrev pub used : M → List ℕ
used m = take m.at.state.props m.forms

module _ (a c t b : ℕ) (m m' : M) (fs gs : List Form) (ts : List ℕ) (g : Grew a c t b m m' fs gs ts) where
  pub setting_grew : (x : Text) (e : Env) (β : List Form) (s : Shared) (env k : ℕ) → k ≤ b → Setting x fs e β s m env k → Setting x (fs ++ gs) e β s m' env k
  setting_grew x e β s env k h S = record {
    world = world_grew a c (inner m) (inner m') fs gs g.inner x s S.world;
    chain = chain_grew a c (inner m) (inner m') fs gs g.inner x.rows e env S.chain;
    based = based_grew fs gs m.base m'.base k β (λ j l. g.base j (omega arith)) S.based;
  }

  pub value_grew : (rows : List (List ℕ)) (X : Val) (v : Value) → Stands rows fs m.binds (bound m) X v → Stands rows (fs ++ gs) m'.binds (bound m') X v
  value_grew rows X v s = stands_grew a c (inner m) (inner m') fs gs g.inner rows X v s

  pub bindings_grew : (rows : List (List ℕ)) (e : Env) (y : ℕ) → Chain rows fs m.binds (bound m) e y → Chain rows (fs ++ gs) m'.binds (bound m') e y
  bindings_grew rows e y k = chain_grew a c (inner m) (inner m') fs gs g.inner rows e y k

  pub less : t ≤ 11 → remaining m' ≤ remaining m
  less h = let p = g.paid in let n = g.many in omega arith

  pub room_grew : (k k' A C T U a' c' t' u' : ℕ) → t ≤ 11 → Room m k A C T U → a' + a ≤ A → c' + c ≤ C → t' + t ≤ T + 1 → k' + remaining m' + u' ≤ k + remaining m + U → Room m' k' a' c' t' u'
  room_grew k k' A C T U a' c' t' u' h R p q r w =
      let d = g.paid in let n = g.many in let l = less h in
      let rt = R.tokens in let rb = R.base in let rs = R.short in let rm = R.small in
      let bl = g.base_long in let tl = g.tokens_long in
      record {
        inner = room_e_grew a c (inner m) (inner m') fs gs g.inner A C a' c' R.inner p q;
        tokens = omega arith;
        base = omega arith;
        short = omega arith;
        small = omega arith;
      }

-- one step after another

pub grew_then : (a c t b a' c' t' b' A C T : ℕ) (m m₁ m₂ : M) (fs gs hs : List Form) (us vs : List ℕ) → Grew a c t b m m₁ fs gs us → Grew a' c' t' b' m₁ m₂ (fs ++ gs) hs vs
    → a + a' ≤ A → c + c' ≤ C → t + t' ≤ T + 1 → b ≤ b' → Grew A C T b m m₂ fs (gs ++ hs) (us ++ vs)
grew_then a c t b a' c' t' b' A C T m m₁ m₂ fs gs hs us vs x y h i j k =
    let xp = x.paid in let yp = y.paid in let xn = x.many in let yn = y.many in let l = length-append us vs in
    record {
      inner = grew_e_then a c a' c' A C (inner m) (inner m₁) (inner m₂) fs gs hs x.inner y.inner h i;
      base = λ q r. y.base q (omega arith) ∙ x.base q r;
      tokens = y.tokens ∙ ap (λ (w : List ℕ). w ++ vs) x.tokens ∙ append_assoc (take m.at.tokens m.tokens) us vs;
      many = omega arith;
      paid = omega arith;
      base_long = y.base_long ∙ x.base_long;
      tokens_long = y.tokens_long ∙ x.tokens_long;
    }

module _ (a c t b a' c' t' b' A C T : ℕ) (m m₁ : M) (fs gs : List Form) where
  -- lemmas' tokens, and then what follows them
  pub after_lemmas : (us : List ℕ) (ds : List Derived) (o : MOut) (r : Out Derived) → Grew a c t b m m₁ fs gs us → TellsLemmas (fs ++ gs) ds us → Meets a' c' t' b' m₁ (fs ++ gs) o r
      → a + a' ≤ A → c + c' ≤ C → t + t' ≤ T + 1 → b ≤ b' → Meets A C T b m fs o (after ds r)
  unfolding Meets after next
  after_lemmas us ds (concluded p m') (out d w) g l y h i j k =
      let assoc = append_assoc fs gs y.0 in (
        gs ++ y.0,
        us ++ y.1,
        grew_then a c t b a' c' t' b' A C T m m₁ m' fs gs y.0 us y.1 g y.2 h i j k,
        subst (λ (u : List Form). Is u p d.conclusion) assoc y.3,
        subst (λ (u : List Form). Tells u (chained ds d.proof) (us ++ y.1)) assoc
            (lemmas_then ((fs ++ gs) ++ y.0) ds d.proof us y.1 (lemmas_more (fs ++ gs) y.0 ds us l) y.4),
        y.5,
      )
  after_lemmas us ds (concluded p m') (stop n k) g l y h i j q = y
  after_lemmas us ds (refused n' k') (out d w) g l y h i j q = y
  after_lemmas us ds (refused n' k') (stop n k) g l y h i j q = y

  -- no tokens, and then what follows
  pub after_none : (o : MOut) (r : Out Derived) → Grew a c t b m m₁ fs gs [] → Meets a' c' t' b' m₁ (fs ++ gs) o r
      → a + a' ≤ A → c + c' ≤ C → t + t' ≤ T + 1 → b ≤ b' → Meets A C T b m fs o r
  unfolding Meets
  after_none (concluded p m') (out d w) g y h i j k =
      let assoc = append_assoc fs gs y.0 in (
        gs ++ y.0,
        y.1,
        grew_then a c t b a' c' t' b' A C T m m₁ m' fs gs y.0 [] y.1 g y.2 h i j k,
        subst (λ (u : List Form). Is u p d.conclusion) assoc y.3,
        subst (λ (u : List Form). Tells u d.proof y.1) assoc y.4,
        y.5,
      )
  after_none (concluded p m') (stop n k) g y h i j q = y
  after_none (refused n' k') (out d w) g y h i j q = y
  after_none (refused n' k') (stop n k) g y h i j q = y

-- a first step, or a last one, that forms nothing

pub grew_on : (a c t b a' c' t' b' A C T : ℕ) (m m₁ m₂ : M) (fs gs : List Form) (us vs : List ℕ) → Grew a c t b m m₁ fs [] us → Grew a' c' t' b' m₁ m₂ fs gs vs
    → a + a' ≤ A → c + c' ≤ C → t + t' ≤ T + 1 → b ≤ b' → Grew A C T b m m₂ fs gs (us ++ vs)
grew_on a c t b a' c' t' b' A C T m m₁ m₂ fs gs us vs x y h i j k =
    grew_then a c t b a' c' t' b' A C T m m₁ m₂ fs [] gs us vs x (subst (λ (l : List Form). Grew a' c' t' b' m₁ m₂ l gs vs) (sym (append-nil fs)) y) h i j k

pub grew_last : (a c t b a' c' t' b' A C T : ℕ) (m m₁ m₂ : M) (fs gs : List Form) (us : List ℕ) → Grew a c t b m m₁ fs gs us → Grew a' c' t' b' m₁ m₂ (fs ++ gs) [] []
    → a + a' ≤ A → c + c' ≤ C → t + t' ≤ T + 1 → b ≤ b' → Grew A C T b m m₂ fs gs us
grew_last a c t b a' c' t' b' A C T m m₁ m₂ fs gs us x y h i j k =
    subst (λ (l : List Form). Grew A C T b m m₂ fs l us) (append-nil gs)
    (subst (λ (l : List ℕ). Grew A C T b m m₂ fs (gs ++ []) l) (append-nil us) (grew_then a c t b a' c' t' b' A C T m m₁ m₂ fs gs [] us [] x y h i j k))

pub setting_same : (a c t b : ℕ) (m m' : M) (fs : List Form) (ts : List ℕ) → Grew a c t b m m' fs [] ts → (x : Text) (e : Env) (β : List Form) (s : Shared) (env k : ℕ) → k ≤ b
    → Setting x fs e β s m env k → Setting x fs e β s m' env k
setting_same a c t b m m' fs ts g x e β s env k h S =
    subst (λ (l : List Form). Setting x l e β s m' env k) (append-nil fs) (setting_grew a c t b m m' fs [] ts g x e β s env k h S)

pub after_same : (a c t b a' c' t' b' A C T : ℕ) (m m₁ : M) (fs : List Form) (o : MOut) (r : Out Derived) → Grew a c t b m m₁ fs [] [] → Meets a' c' t' b' m₁ fs o r
    → a + a' ≤ A → c + c' ≤ C → t + t' ≤ T + 1 → b ≤ b' → Meets A C T b m fs o r
after_same a c t b a' c' t' b' A C T m m₁ fs o r g y h i j k =
    after_none a c t b a' c' t' b' A C T m m₁ fs [] o r g (subst (λ (l : List Form). Meets a' c' t' b' m₁ l o r) (sym (append-nil fs)) y) h i j k

pub grew_none : (a c t b : ℕ) (m : M) (fs : List Form) → 1 ≤ t → Table (used m) fs → Grew a c t b m m fs [] []
grew_none a c t b m fs h T = record {
  inner = grew_e_none a c (inner m) fs T;
  base = λ j l. refl;
  tokens = sym (append-nil (take m.at.tokens m.tokens));
  many = omega arith;
  paid = omega arith;
  base_long = refl;
  tokens_long = refl;
}

-- the moves

-- an expression has run
pub grew_moved : (a b : ℕ) (m : M) (f u : List ℕ) (st : State) (fs gs : List Form) → GrewE a 0 (inner m) (mkE f u st) fs gs → Grew a 0 1 b m (moved m f u st) fs gs []
grew_moved a b m f u st fs gs g =
    let p = g.bindings in let q = g.more in
    record {
      inner = g;
      base = λ j l. refl;
      tokens = sym (append-nil (take m.at.tokens m.tokens));
      many = omega arith;
      paid = omega arith;
      base_long = refl;
      tokens_long = refl;
    }

-- a value is bound
abbrev pub bound_on : M → Value → ℕ → M
bound_on m v y = mk m.forms (sets m.binds (4 * bound m) (numbers_of v y)) m.base m.tokens (progress (counters m.at.state.props (bound m + 1) (remaining m)) m.at.tokens)

pub grew_bound : (b : ℕ) (m : M) (fs : List Form) (v : Value) (y : ℕ) → Table (used m) fs → Grew 0 1 1 b m (bound_on m v y) fs [] []
grew_bound b m fs v y T = record {
  inner = grew_e_push (inner m) fs v y T;
  base = λ j l. refl;
  tokens = sym (append-nil (take m.at.tokens m.tokens));
  many = omega arith;
  paid = omega arith;
  base_long = refl;
  tokens_long = refl;
}

-- a lemma joins the base
abbrev pub joined_on : M → ℕ → Option ℕ → M
joined_on m b l = mk m.forms m.binds (joined_at m.base b l) m.tokens m.at

joined_long : (s : List ℕ) (b : ℕ) (l : Option ℕ) → length (joined_at s b l) ≡ length s
joined_long s b (Some p) = length-set s b p
joined_long s b None = refl

pub grew_joined : (b k : ℕ) (m : M) (fs : List Form) (l : Option ℕ) → b ≤ k → Table (used m) fs → Grew 0 0 1 b m (joined_on m k l) fs [] []
grew_joined b k m fs l h T = record {
  inner = grew_e_none 0 0 (inner m) fs T;
  base = λ j q. joined_below m.base k l j (omega arith);
  tokens = sym (append-nil (take m.at.tokens m.tokens));
  many = omega arith;
  paid = omega arith;
  base_long = joined_long m.base k l;
  tokens_long = refl;
}

-- tokens are written
abbrev pub told_on : M → List ℕ → ℕ → M
told_on m ts n = mk m.forms m.binds m.base (sets m.tokens m.at.tokens ts) (progress m.at.state n)

pub grew_told : (t b n : ℕ) (m : M) (fs : List Form) (ts : List ℕ) → n ≡ m.at.tokens + length ts → n ≤ length m.tokens → length ts + 1 ≤ t → Table (used m) fs → Grew 0 0 t b m (told_on m ts n) fs [] ts
grew_told t b n m fs ts e h k T = record {
  inner = grew_e_none 0 0 (inner m) fs T;
  base = λ j q. refl;
  tokens = rw e (take_sets ts m.tokens m.at.tokens (omega arith));
  many = e;
  paid = omega arith;
  base_long = refl;
  tokens_long = length-sets m.tokens m.at.tokens ts;
}

-- a unit of work

pub unspend : (b : ℕ) (m : M) (fs : List Form) (o : MOut) (r : Out Derived) → (remaining m ≡ 0 → ⊥) → Meets 4 4 11 b (spent m) fs o r → Meets 0 0 0 b m fs o r
unfolding Meets
unspend b m fs (concluded p m') (out d w) h y = (
  y.0,
  y.1,
  (let g = y.2 in let i = g.inner in let ip = i.props in let iq = i.bindings in let im = i.more in let gp = g.paid in let z : 0 < remaining m = omega arith in record {
    inner = record {
      table = i.table;
      kept = i.kept;
      more = im;
      props = omega arith;
      bindings = omega arith;
      forms_long = i.forms_long;
      binds_long = i.binds_long;
    };
    base = g.base;
    tokens = g.tokens;
    many = g.many;
    paid = omega arith;
    base_long = g.base_long;
    tokens_long = g.tokens_long;
  }),
  y.3,
  y.4,
  y.5,
)
unspend b m fs (concluded p m') (stop n k) h y = y
unspend b m fs (refused n' k') (out d w) h y = y
unspend b m fs (refused n' k') (stop n k) h y = y

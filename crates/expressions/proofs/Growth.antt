-- Steps one after another: what a state stands for survives growth, and the credits add up.
use mathlib.Core.Path.{◌≡◌, refl, sym, subst, ◌∙◌}
use mathlib.Core.List.{List, [], ◌++◌, append_assoc, append-nil}
use Prim.Native.Nat.{ℕ, ◌+◌, ◌*◌, ◌≤◌, ◌<◌}
use native.Mathlib.Omega.{arith}
use lib.ListN.{take}
use lib.Seq.{sets, length-sets}
use Rattle.language.specs.Form.{Form}
use Rattle.language.specs.Values.{Val, Env, Out, out, stop, next}
use Rattle.forms.specs.Table.{Table}
use Rattle.bindings.specs.declared.Value.{Value}
use Rattle.bindings.specs.Numbers.{numbers_of}
use Rattle.bindings.specs.Stands.{Stands, Chain}
use Rattle.bindings.proofs.Numbers.{kept_stored, kept_then}
use Rattle.bindings.proofs.Chains.{stands_more, chain_more}
use Rattle.expressions.specs.Machine.{Shared, M, mk, MOut, done, refused, counters, spent}
use Rattle.expressions.specs.Asked.{Text, World, Room}
use Rattle.expressions.specs.Meets.{Grew, Meets}
use Rattle.expressions.proofs.Operands.{phrases_more, patterns_more}

-- the words in use
abbrev pub used : M → List ℕ
used m = take m.st.props m.forms

module _ (a b : ℕ) (m m' : M) (fs gs : List Form) (g : Grew a b m m' fs gs) where
  pub world_grew : (x : Text) (s : Shared) → World x fs s m → World x (fs ++ gs) s m'
  world_grew x s w = record {
    legible = record { table = g.table; says = patterns_more fs gs w.legible.says; holds = w.legible.holds; short = w.legible.short };
    says = phrases_more fs gs w.says;
    holds = w.holds;
    short = w.short;
  }

  pub chain_grew : (rows : List (List ℕ)) (e : Env) (y : ℕ) → Chain rows fs m.binds m.st.bindings e y → Chain rows (fs ++ gs) m'.binds m'.st.bindings e y
  chain_grew rows e y c = chain_more rows fs gs m.binds m'.binds m.st.bindings m'.st.bindings g.kept g.more e y c

  pub stands_grew : (rows : List (List ℕ)) (X : Val) (v : Value) → Stands rows fs m.binds m.st.bindings X v → Stands rows (fs ++ gs) m'.binds m'.st.bindings X v
  stands_grew rows X v c = stands_more rows fs gs m.binds m'.binds m.st.bindings m'.st.bindings g.kept g.more X v c

  pub room_grew : (c d c' d' : ℕ) → Room m c d → c' + a ≤ c → d' + b ≤ d → Room m' c' d'
  room_grew c d c' d' r h i =
      let p = g.props in let q = g.bindings in let l = g.forms_long in let k = g.binds_long in
      let rf = r.forms in let rb = r.binds in let rs = r.small in let rt = r.short in
      record { forms = omega arith; binds = omega arith; small = omega arith; short = omega arith }

-- one step after another

pub grew_then : (a b c d a' b' : ℕ) (m m₁ m₂ : M) (fs gs hs : List Form) → Grew a b m m₁ fs gs → Grew c d m₁ m₂ (fs ++ gs) hs → a + c ≤ a' → b + d ≤ b' → Grew a' b' m m₂ fs (gs ++ hs)
grew_then a b c d a' b' m m₁ m₂ fs gs hs x y h i =
    let xp = x.props in let xb = x.bindings in let xm = x.more in
    let yp = y.props in let yb = y.bindings in let ym = y.more in
    record {
      table = rw append_assoc at y.table;
      kept = kept_then m.binds m₁.binds m₂.binds m.st.bindings m₁.st.bindings x.more x.kept y.kept;
      more = omega arith;
      props = omega arith;
      bindings = omega arith;
      forms_long = y.forms_long ∙ x.forms_long;
      binds_long = y.binds_long ∙ x.binds_long;
    }

pub after : (a b c d a' b' : ℕ) (rows : List (List ℕ)) (m m₁ : M) (fs gs : List Form) (o : MOut) (r : Out Val) → Grew a b m m₁ fs gs → Meets c d rows m₁ (fs ++ gs) o r → a + c ≤ a' → b + d ≤ b' → Meets a' b' rows m fs o r
unfolding Meets
after a b c d a' b' rows m m₁ fs gs (done v m') (out X w) g y h i =
    let A = append_assoc fs gs y.0 in
    (gs ++ y.0, grew_then a b c d a' b' m m₁ m' fs gs y.0 g y.1 h i, subst (λ (l : List Form). Stands rows l m'.binds m'.st.bindings X v) A y.2, y.3)
after a b c d a' b' rows m m₁ fs gs (done v m') (stop n k) g y h i = y
after a b c d a' b' rows m m₁ fs gs (refused n' k') (out X w) g y h i = y
after a b c d a' b' rows m m₁ fs gs (refused n' k') (stop n k) g y h i = y

pub grew_none : (a b : ℕ) (m : M) (fs : List Form) → Table (used m) fs → Grew a b m m fs []
grew_none a b m fs t = record {
  table = rw append-nil t;
  kept = λ i h. refl;
  more = omega arith;
  props = omega arith;
  bindings = omega arith;
  forms_long = refl;
  binds_long = refl;
}

-- a value given and nothing touched
pub given : (a b : ℕ) (rows : List (List ℕ)) (m : M) (fs : List Form) (X : Val) (v : Value) (r : Out Val) → Table (used m) fs → Stands rows fs m.binds m.st.bindings X v → r ≡ out X m.st.remaining.0 → Meets a b rows m fs (done v m) r
unfolding Meets
given a b rows m fs X v r t s e = subst (Meets a b rows m fs (done v m)) (sym e)
    ([], grew_none a b m fs t, subst (λ (l : List Form). Stands rows l m.binds m.st.bindings X v) (sym (append-nil fs)) s, refl)

-- a refusal passes through
pub passed : (a b a' b' : ℕ) (rows : List (List ℕ)) (m m' : M) (fs gs : List Form) (n k : ℕ) (r : Out Val) (f : Val → ℕ → Out Val) → Meets a b rows m fs (refused n k) r → Meets a' b' rows m' gs (refused n k) (next r f)
unfolding Meets next
passed a b a' b' rows m m' fs gs n k (out X w) f z = absurd z
passed a b a' b' rows m m' fs gs n k (stop n' k') f z = z

-- more credit than is used
pub within : (a b a' b' : ℕ) (rows : List (List ℕ)) (m : M) (fs : List Form) (o : MOut) (r : Out Val) → Table (used m) fs → Meets a b rows m fs o r → a ≤ a' → b ≤ b' → Meets a' b' rows m fs o r
within a b a' b' rows m fs o r t y h i =
    after 0 0 a b a' b' rows m m fs [] o r (grew_none 0 0 m fs t) (subst (λ (l : List Form). Meets a b rows m l o r) (sym (append-nil fs)) y) (omega arith) (omega arith)

-- a push

abbrev pub push : M → Value → ℕ → M
push m v y = mk m.forms (sets m.binds (4 * m.st.bindings) (numbers_of v y)) (counters m.st.props (m.st.bindings + 1) m.st.remaining.0)

pub grew_push : (m : M) (fs : List Form) (v : Value) (y : ℕ) → Table (used m) fs → Grew 0 1 m (push m v y) fs []
grew_push m fs v y t = record {
  table = rw append-nil t;
  kept = kept_stored m.binds (numbers_of v y) m.st.bindings;
  more = omega arith;
  props = omega arith;
  bindings = omega arith;
  forms_long = refl;
  binds_long = length-sets m.binds (4 * m.st.bindings) (numbers_of v y);
}

module _ (m : M) (fs : List Form) (v : Value) (y : ℕ) where
  pub world_push : (x : Text) (s : Shared) → World x fs s m → World x fs s (push m v y)
  world_push x s w = record { legible = w.legible; says = w.says; holds = w.holds; short = w.short }

  pub chain_push : (rows : List (List ℕ)) (e : Env) (z : ℕ) → Chain rows fs m.binds m.st.bindings e z → Chain rows fs (push m v y).binds (m.st.bindings + 1) e z
  chain_push rows e z c = rw append-nil at (chain_more rows fs [] m.binds (push m v y).binds m.st.bindings (m.st.bindings + 1) (kept_stored m.binds (numbers_of v y) m.st.bindings) (omega arith) e z c)

  pub room_push : (a b : ℕ) → Room m a (b + 1) → Room (push m v y) a b
  room_push a b r =
      let l = length-sets m.binds (4 * m.st.bindings) (numbers_of v y) in
      let rf = r.forms in let rb = r.binds in let rs = r.small in let rt = r.short in
      record { forms = omega arith; binds = omega arith; small = omega arith; short = omega arith }

  pub after_push : (a b : ℕ) (rows : List (List ℕ)) (o : MOut) (r : Out Val) → Table (used m) fs → Meets a b rows (push m v y) fs o r → Meets a (b + 1) rows m fs o r
  after_push a b rows o r t z = after 0 1 a b a (b + 1) rows m (push m v y) fs [] o r (grew_push m fs v y t) (subst (λ (l : List Form). Meets a b rows (push m v y) l o r) (sym (append-nil fs)) z) (omega arith) (omega arith)

-- a unit of work

pub unspend : (rows : List (List ℕ)) (m : M) (fs : List Form) (o : MOut) (r : Out Val) → (m.st.remaining.0 ≡ 0 → ⊥) → Meets 4 4 rows (spent m) fs o r → Meets 0 0 rows m fs o r
unfolding Meets
unspend rows m fs (done v m') (out X w) h y = (
  y.0,
  (let g = y.1 in let p = g.props in let q = g.bindings in let n = g.more in let z : 0 < m.st.remaining.0 = omega arith in record {
    table = g.table;
    kept = g.kept;
    more = omega arith;
    props = omega arith;
    bindings = omega arith;
    forms_long = g.forms_long;
    binds_long = g.binds_long;
  }),
  y.2,
  y.3,
)
unspend rows m fs (done v m') (stop n k) h y = y
unspend rows m fs (refused n' k') (out X w) h y = y
unspend rows m fs (refused n' k') (stop n k) h y = y

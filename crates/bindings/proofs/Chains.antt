-- The representation survives growth; a search along a chain is `lookup`; a push is one more binding.
use mathlib.Core.Path.{◌≡◌, refl, sym, subst, ◌∙◌}
use mathlib.Core.List.{List, [], ◌++◌, append-nil}
use mathlib.Core.Bool.{true, false}
use Prim.Native.Nat.{ℕ, zero, suc, ◌+◌, ◌*◌, ◌-◌, ◌≤◌, ◌<◌}
use native.Mathlib.Omega.{arith}
use lib.ListN.{length, length-append}
use lib.Seq.{sets}
use Rattle.language.specs.Form.{Form}
use Rattle.language.specs.Syntax.{Sort, function, method}
use Rattle.language.specs.Values.{Val, form, con_v, rule_v, closure, Env, empty, ◌▸◌, lookup, scope}
use Rattle.forms.proofs.Growth.{tree_more}
use Rattle.bindings.specs.declared.Closure.{Closure}
use Rattle.bindings.specs.declared.Value.{Value}
use Rattle.bindings.specs.Numbers.{numbers_of, SmallValue, value_at, next_at, found, first, beyond, Kept}
use Rattle.bindings.specs.Stands.{Is, closed, Written, Stands, Chain, Linked, under, Looks}
use Rattle.bindings.proofs.Numbers.{stored_value, stored_next, kept_value, kept_next, kept_stored}

-- growth of the table and of the buffer

pub is_more : (fs gs : List Form) (p : ℕ) (P : Form) → Is fs p P → Is (fs ++ gs) p P
is_more fs gs p P x =
    let l = x.low in
    let n = length-append fs gs in
    record { low = omega arith; tree = tree_more fs gs p l ∙ x.tree }

module _ (rows : List (List ℕ)) (fs gs : List Form) (t t' : List ℕ) (n n' : ℕ) (kept : Kept t t' n) (more : n ≤ n') where
  mutual
    unfolding Stands

    pub stands_more : (X : Val) (v : Value) → Stands rows fs t n X v → Stands rows (fs ++ gs) t' n' X v
    stands_more (form P) v x = (x.0, x.1, is_more fs gs x.0 P x.2)
    stands_more (con_v c) v x = x
    stands_more (rule_v r) v x = x
    stands_more (closure s false m b e) v x = (x.0, x.1, x.2, chain_more e x.0.env x.3)
    stands_more (closure s true m b e) v x = (
      x.0,
      x.1,
      x.2,
      x.3,
      (let h = x.4 in omega arith),
      x.5,
      kept_value t t' n kept x.1 x.4 ∙ x.6,
      subst (Chain rows (fs ++ gs) t' n' e) (sym (kept_next t t' n kept x.1 x.4)) (chain_more e (next_at t x.1) x.7),
    )

    pub chain_more : (e : Env) (x : ℕ) → Chain rows fs t n e x → Chain rows (fs ++ gs) t' n' e x
    chain_more empty x c = c
    chain_more (e ▸ X) x c = (
      c.0,
      (let h = c.1 in omega arith),
      c.2,
      subst (Stands rows (fs ++ gs) t' n' X) (sym (kept_value t t' n kept c.0 c.1)) (stands_more X (value_at t c.0) c.3),
      subst (Chain rows (fs ++ gs) t' n' e) (sym (kept_next t t' n kept c.0 c.1)) (chain_more e (next_at t c.0) c.4),
    )

-- a chain ends in what is bound

module _ (rows : List (List ℕ)) (fs : List Form) (t : List ℕ) (n : ℕ) where
  pub chain_low : (e : Env) (x : ℕ) → Chain rows fs t n e x → x ≤ n
  unfolding Stands
  chain_low empty x c = omega (arith, c)
  chain_low (e ▸ v) x c = let h = c.1 in let g = c.2 in omega arith

  closed_small : (s : Sort) (c : Closure) (v : Value) → v ≡ closed s c → c.phrase < 16384 → c.env ≤ 16384 → SmallValue v
  closed_small function c v e h g = subst SmallValue (sym e) (omega arith, omega arith)
  closed_small method c v e h g = subst SmallValue (sym e) (omega arith, omega arith)

  pub stands_small : length rows ≤ 16384 → length fs ≤ 16384 → n ≤ 16384 → (X : Val) (v : Value) → Stands rows fs t n X v → SmallValue v
  unfolding Stands
  stands_small r h g (form P) v x = let l = x.2.low in subst SmallValue (sym x.1) (omega arith)
  stands_small r h g (con_v c) v x = let l = x.1 in subst SmallValue (sym x.0) (omega arith)
  stands_small r h g (rule_v u) v x = let l = x.1 in subst SmallValue (sym x.0) (omega arith)
  stands_small r h g (closure s false m b e) v x =
      let l = chain_low e x.0.env x.3 in let k = x.2.low in closed_small s x.0 v x.1 (omega arith) (omega arith)
  stands_small r h g (closure s true m b e) v x =
      let l = x.4 in let q = x.5 in let k = x.3.low in closed_small s x.0 v x.2 (omega arith) (omega arith)

  -- the bindings that a chain goes on with
  pub further : (e : Env) (x : ℕ) → Chain rows fs t n e x → 0 < x → (e' : Env) × Chain rows fs t n e' (next_at t (x - 1))
  unfolding Stands
  further empty x c h = absurd (omega (arith, c))
  further (e ▸ v) x c h =
      let z : x - 1 ≡ c.0 = let g = c.2 in omega arith in
      (e, subst (λ (j : ℕ). Chain rows fs t n e (next_at t j)) (sym z) c.4)

  -- ---- `lookup`

  pub looked : (i : ℕ) (e : Env) (x k w : ℕ) → Chain rows fs t n e x → Looks rows fs t n (found t x i) (lookup e i k w) k w
  unfolding Stands Looks found first beyond lookup
  looked zero empty x k w c = rw c (refl, refl)
  looked zero (e ▸ v) x k w c = rw c.2 (c.3, refl)
  looked (suc i) empty x k w c = rw c (refl, refl)
  looked (suc i) (e ▸ v) x k w c = rw c.2 (looked i e (next_at t c.0) k w c.4)

pub linked_low : (t : List ℕ) (x : ℕ) → Linked t x → 0 < x → 4 * (x - 1) + 4 ≤ length t
linked_low t x l h = let c = chain_low l.rows l.forms t l.count l.env x l.chain in let r = l.room in omega arith

pub linked_on : (t : List ℕ) (x : ℕ) → Linked t x → 0 < x → Linked t (next_at t (x - 1))
linked_on t x l h =
    let f = further l.rows l.forms t l.count l.env x l.chain h in
    record { rows = l.rows; forms = l.forms; count = l.count; env = f.0; chain = f.1; room = l.room }

-- a push is one more binding

module _ (rows : List (List ℕ)) (fs : List Form) (t : List ℕ) (n x : ℕ) (room : 4 * n + 4 ≤ length t) where
  pub pushed : (e : Env) (X : Val) (v : Value) → Chain rows fs t n e x → Stands rows fs t n X v → Chain rows fs (sets t (4 * n) (numbers_of v x)) (n + 1) (e ▸ X) (n + 1)
  unfolding Stands
  pushed e X v c s =
      let t' = sets t (4 * n) (numbers_of v x) in
      let k : Kept t t' n = kept_stored t (numbers_of v x) n in (
        n,
        omega arith,
        omega arith,
        subst (Stands rows fs t' (n + 1) X) (sym (stored_value t n x room v)) (rw append-nil at (stands_more rows fs [] t t' n (n + 1) k (omega arith) X v s)),
        subst (Chain rows fs t' (n + 1) e) (sym (stored_next t n x room v)) (rw append-nil at (chain_more rows fs [] t t' n (n + 1) k (omega arith) e x c)),
      )

  -- a closure that binds itself, over the bindings where it was written
  pub fixed : (e : Env) (s : Sort) (a m b : ℕ) → Chain rows fs t n e x → Written rows a s m b → Stands rows fs (sets t (4 * n) (numbers_of (closed s (record { phrase = a; env = n + 1 })) x)) (n + 1) (closure s true m b e) (closed s (record { phrase = a; env = n + 1 }))
  unfolding Stands
  fixed e s a m b c h =
      let v : Value = closed s (record { phrase = a; env = n + 1 }) in
      let t' = sets t (4 * n) (numbers_of v x) in
      let k : Kept t t' n = kept_stored t (numbers_of v x) n in (
        record { phrase = a; env = n + 1 },
        n,
        refl,
        h,
        omega arith,
        omega arith,
        stored_value t n x room v,
        subst (Chain rows fs t' (n + 1) e) (sym (stored_next t n x room v)) (rw append-nil at (chain_more rows fs [] t t' n (n + 1) k (omega arith) e x c)),
      )

-- the chain that a value's arguments are bound on stands for its scope

pub scope_stands : (rows : List (List ℕ)) (fs : List Form) (t : List ℕ) (n : ℕ) (X : Val) (v : Value) → Stands rows fs t n X v → Chain rows fs t n (scope X) (under v)
unfolding Stands scope
scope_stands rows fs t n (form P) v x = rw x.1 refl
scope_stands rows fs t n (con_v c) v x = rw x.0 refl
scope_stands rows fs t n (rule_v r) v x = rw x.0 refl
scope_stands rows fs t n (closure function false m b e) v x = rw x.1 x.3
scope_stands rows fs t n (closure method false m b e) v x = rw x.1 x.3
scope_stands rows fs t n (closure function true m b e) v x =
    rw x.2 (x.1, x.4, x.5, (x.0, x.1, x.6 ∙ x.2, x.3, x.4, x.5, refl, x.7), x.7)
scope_stands rows fs t n (closure method true m b e) v x =
    rw x.2 (x.1, x.4, x.5, (x.0, x.1, x.6 ∙ x.2, x.3, x.4, x.5, refl, x.7), x.7)

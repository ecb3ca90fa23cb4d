-- How numbers stand for values and bindings: over the phrases' rows, the propositions fs that the table's numbers stand for, and the first n bindings of
-- the buffer t. What is said of a closure that binds itself ends, as the closure is the value of the binding that its own bindings start at.
use Rattle.std.specs.Prelude.{◌≡◌, List, true, false, ℕ, suc, ◌*◌, ◌≤◌, ◌<◌, length, Option, Some, None}
use Rattle.language.specs.Refusals.{no_binding}
use Rattle.language.specs.Form.{Form}
use Rattle.language.specs.Syntax.{Sort, function, method}
use Rattle.language.specs.Values.{Val, form, con_v, rule_v, closure, Env, empty, ◌▸◌, Out, out, stop}
use Rattle.forms.specs.Table.{tree}
use Rattle.records.specs.Rows.{cell}
use Rattle.bindings.specs.declared.Closure.{Closure}
use Rattle.bindings.specs.declared.Value.{Value}
use Rattle.bindings.specs.declared.Value.TheVariants.{Prop, Constructor, Rule, Function, Method}
use Rattle.bindings.specs.Numbers.{value_at, next_at}

-- the number p names the proposition P
pub record Is (fs : List Form) (p : ℕ) (P : Form) : Type 0 where
  pub low : p < length fs
  pub tree : tree fs p ≡ P

-- a function's phrase is of kind 4, a method's of kind 5
abbrev pub kind_of_sort : Sort → ℕ
kind_of_sort function = 4
kind_of_sort method = 5

abbrev pub closed : Sort → Closure → Value
closed function c = Function c
closed method c = Method c

-- row k is a function or method of m parameters with body b
pub record Written (rows : List (List ℕ)) (k : ℕ) (s : Sort) (m b : ℕ) : Type 0 where
  pub low : k < length rows
  pub kind : cell rows k 0 ≡ kind_of_sort s
  pub parameters : cell rows k 1 ≡ m
  pub body : cell rows k 2 ≡ b

unfoldable mutual
  -- a value stands for the language's
  pub Stands : List (List ℕ) → List Form → List ℕ → ℕ → Val → Value → Type 0
  Stands rows fs t n (form P) v = (p : ℕ) × (v ≡ Prop p) × Is fs p P
  Stands rows fs t n (con_v c) v = (v ≡ Constructor c) × (c ≤ 4)
  Stands rows fs t n (rule_v r) v = (v ≡ Rule r) × (r ≤ 15)
  Stands rows fs t n (closure s false m b e) v = (c : Closure) × (v ≡ closed s c) × Written rows c.phrase s m b × Chain rows fs t n e c.env
  Stands rows fs t n (closure s true m b e) v =
      (c : Closure) × (j : ℕ) × (v ≡ closed s c) × Written rows c.phrase s m b × (j < n) × (c.env ≡ suc j) × (value_at t j ≡ v)
      × Chain rows fs t n e (next_at t j)

  -- a chain that starts at x stands for the language's bindings
  pub Chain : List (List ℕ) → List Form → List ℕ → ℕ → Env → ℕ → Type 0
  Chain rows fs t n empty x = x ≡ 0
  Chain rows fs t n (e ▸ v) x = (j : ℕ) × (j < n) × (x ≡ suc j) × Stands rows fs t n v (value_at t j) × Chain rows fs t n e (next_at t j)

-- a chain that stands for some bindings
pub record Linked (t : List ℕ) (x : ℕ) : Type 0 where
  pub rows : List (List ℕ)
  pub forms : List Form
  pub count : ℕ
  pub env : Env
  pub chain : Chain rows forms t count env x
  pub room : 4 * count ≤ length t

-- where the arguments of a value are bound
abbrev pub under : Value → ℕ
under (Prop p) = 0
under (Constructor c) = 0
under (Rule r) = 0
under (Function f) = f.env
under (Method f) = f.env

-- what a search along a chain finds is what `lookup` gives, or both refuse
unfoldable pub Looks : List (List ℕ) → List Form → List ℕ → ℕ → Option Value → Out Val → ℕ → ℕ → Type 0
unfolding Stands
Looks rows fs t n (Some v) (out X w') k w = Stands rows fs t n X v × (w' ≡ w)
Looks rows fs t n (Some v) (stop a b) k w = ⊥
Looks rows fs t n None (out X w') k w = ⊥
Looks rows fs t n None (stop a b) k w = (a ≡ no_binding) × (b ≡ k)

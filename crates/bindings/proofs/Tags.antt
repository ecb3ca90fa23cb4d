-- Kinds of values: what is stored has the kind of what it stands for.
use Prim.Native.Nat.{ℕ}
use mathlib.Core.Path.{◌≡◌, sym, ap}
use mathlib.Core.Bool.{true, false}
use mathlib.Core.List.{List}
use Rattle.language.specs.Form.{Form}
use Rattle.language.specs.Syntax.{function, method}
use Rattle.language.specs.Values.{Val, form, con_v, rule_v, closure}
use Rattle.bindings.specs.declared.Value.{Value}
use Rattle.bindings.specs.declared.Value.TheVariants.{Prop, Constructor, Rule, Function, Method}
use Rattle.bindings.specs.Stands.{Stands}

-- a stored value's kind, and the number that it holds
abbrev pub tag : Value → ℕ
tag (Prop p) = 0
tag (Constructor c) = 1
tag (Rule r) = 2
tag (Function f) = 3
tag (Method f) = 4

abbrev pub held : Value → ℕ
held (Prop p) = p
held (Constructor c) = c
held (Rule r) = r
held (Function f) = f.phrase
held (Method f) = f.phrase

-- the kind of a value of the language
unfoldable pub kind_of : Val → ℕ
kind_of (form P) = 0
kind_of (con_v c) = 1
kind_of (rule_v r) = 2
kind_of (closure function self m b e) = 3
kind_of (closure method self m b e) = 4

pub same_kind : (rows : List (List ℕ)) (fs : List Form) (t : List ℕ) (n : ℕ) (X : Val) (v : Value) → Stands rows fs t n X v → kind_of X ≡ tag v
unfolding Stands kind_of
same_kind rows fs t n (form P) v x = ap tag (sym x.1)
same_kind rows fs t n (con_v c) v x = ap tag (sym x.0)
same_kind rows fs t n (rule_v r) v x = ap tag (sym x.0)
same_kind rows fs t n (closure function false m b e) v x = ap tag (sym x.1)
same_kind rows fs t n (closure method false m b e) v x = ap tag (sym x.1)
same_kind rows fs t n (closure function true m b e) v x = ap tag (sym x.2)
same_kind rows fs t n (closure method true m b e) v x = ap tag (sym x.2)

-- How phrases run: an interpreter with a budget of work and a limit on nesting, and the refusal of each thing that can go wrong.
use Rattle.std.specs.Prelude.{ℕ, List, [], ◌∷◌, ◌++◌, length, get_or, eqb}
use Rattle.language.specs.Refusals.{budget_spent, too_deep, wrong_kind, wrong_count, wrong_shapes, premise_missing, announced_differs, not_false}
use Rattle.language.specs.Form.{Form, conj, disj, cond, bicond, verum, falsum, neg, bin, same, members}
use Rattle.language.specs.Rules.{arity, Ruled, gives, misshapen, ruled}
use Rattle.language.specs.Syntax.{function, method, Phrase, expr, dedu, phrase_at}
use Rattle.language.specs.Syntax.{Expression, prop, var, con, rule, abstract, call, bind, match, Deduction, apply, assume, suppose, dlet, by, block, dmatch}
use Rattle.language.specs.Plain.{Plain, infer, seq, under}
use Rattle.language.specs.Values.{Val, form, con_v, rule_v, closure, Env, ◌▸◌, Out, out, stop, next, must, lookup, with_forms, entered, as_form, as_forms}
use Rattle.language.specs.Patterns.{choose, on_choice}

-- how an expression of a given number runs: bindings, its number, the budget
abbrev pub Evaluate : Type 0
Evaluate = Env → ℕ → ℕ → Out Val

-- a conclusion with the plain proof that the certificate holds
pub record Derived : Type 0 where
  pub conclusion : Form
  pub proof : Plain

abbrev pub derived : Form → Plain → Derived
derived p D = record { conclusion = p; proof = D }

-- how a deduction runs: the assumption base too
abbrev pub Deduce : Type 0
Deduce = Env → List Form → ℕ → ℕ → Out Derived

-- a phrase is entered: one unit of the budget, which is checked first
unfoldable pub entering : {A : Type 0} → ℕ → ℕ → (ℕ → Out A) → Out A
entering k ℕ.zero f = stop budget_spent k
entering k (ℕ.suc w) f = f w

-- arguments left to right
unfoldable pub values : Evaluate → Env → List ℕ → ℕ → Out (List Val)
unfolding next
values E e [] w = out [] w
values E e (k ∷ ks) w = next (E e k w) (λ v w₁. next (values E e ks w₁) (λ vs. out (v ∷ vs)))

-- constructors: not takes one argument, the others two
unfoldable pub takes : ℕ → ℕ
takes ℕ.zero = 1
takes (ℕ.suc c) = 2

unfoldable pub constructed : ℕ → List Form → Form
constructed ℕ.zero ps = neg (get_or ps 0 verum)
constructed (ℕ.suc c) ps = bin (get_or (conj ∷ (disj ∷ (cond ∷ (bicond ∷ [])))) c conj) (get_or ps 0 verum) (get_or ps 1 verum)

-- a call, once operator and arguments have their values: 11 on the operator, 12, 11 on arguments
unfoldable pub called : Evaluate → Val → List Val → ℕ → ℕ → Out Val
unfolding must as_forms constructed takes entered
called E (form p) vs k w = stop wrong_kind k
called E (con_v c) vs k w = must (eqb (length vs) (takes c)) wrong_count k (as_forms vs k (λ ps. out (form (constructed c ps)) w))
called E (rule_v r) vs k w = stop wrong_kind k
called E (closure method self n b e) vs k w = stop wrong_kind k
called E (closure function self n b e) vs k w =
    must (eqb (length vs) n) wrong_count k (E (entered (closure function self n b e) vs) b w)

-- an expression that has been entered; k is its number
unfoldable pub evaluated : Evaluate → Expression → Env → ℕ → ℕ → Out Val
unfolding next values called lookup choose on_choice as_form with_forms
evaluated E (prop p) e k w = out (form p) w
evaluated E (var i) e k w = lookup e i k w
evaluated E (con c) e k w = out (con_v c) w
evaluated E (rule r) e k w = out (rule_v r) w
evaluated E (abstract s self n b) e k w = out (closure s self n b e) w
evaluated E (call f xs) e k w = next (E e f w) (λ v w₁. next (values E e xs w₁) (λ vs. called E v vs k))
evaluated E (bind a b) e k w = next (E e a w) (λ v. E (e ▸ v) b)
evaluated E (match f cs) e k w = next (E e f w) (λ v w₁. as_form v k (λ p. on_choice (choose cs p) k (λ b ps. E (with_forms e ps) b w₁)))

-- phrase k, entered as an expression
unfoldable pub on_expr : {A : Type 0} → Phrase → A → (Expression → A) → A
on_expr (expr x) a f = f x
on_expr (dedu d) a f = a

unfoldable pub evaluate_step : List Phrase → Evaluate → Evaluate
unfolding evaluated on_expr
evaluate_step fs E e k w = on_expr (phrase_at fs k) (stop wrong_kind k) (λ x. evaluated E x e k w)

-- evaluation, with so much nesting left
unfoldable pub evaluate : List Phrase → ℕ → Evaluate
unfolding evaluate_step entering
evaluate fs ℕ.zero e k w = entering k w (λ w₁. stop too_deep k)
evaluate fs (ℕ.suc n) e k w = entering k w (evaluate_step fs (evaluate fs n) e k)

-- a phrase of either class: its value, and where it is a deduction the lemma
pub record Argument : Type 0 where
  pub value : Val
  pub lemma : List Derived

abbrev pub plainly : Val → Argument
plainly v = record { value = v; lemma = [] }

abbrev pub as_lemma : Derived → Argument
as_lemma d = record { value = form d.conclusion; lemma = d ∷ [] }

unfoldable pub argument_of : Phrase → Evaluate → Deduce → Env → List Form → ℕ → ℕ → Out Argument
unfolding next
argument_of (expr x) E D e β k w = next (E e k w) (λ v. out (plainly v))
argument_of (dedu x) E D e β k w = next (D e β k w) (λ d. out (as_lemma d))

unfoldable pub argument : List Phrase → Evaluate → Deduce → Env → List Form → ℕ → ℕ → Out Argument
unfolding argument_of
argument fs E D e β k w = argument_of (phrase_at fs k) E D e β k w

-- arguments left to right, each in the caller's base
unfoldable pub arguments : List Phrase → Evaluate → Deduce → Env → List Form → List ℕ → ℕ → Out (List Argument)
unfolding next argument
arguments fs E D e β [] w = out [] w
arguments fs E D e β (k ∷ ks) w =
    next (argument fs E D e β k w) (λ x w₁. next (arguments fs E D e β ks w₁) (λ xs. out (x ∷ xs)))

unfoldable pub values_of : List Argument → List Val
values_of [] = []
values_of (x ∷ xs) = x.value ∷ values_of xs

unfoldable pub lemmas : List Argument → List Derived
lemmas [] = []
lemmas (x ∷ xs) = x.lemma ++ lemmas xs

-- the base joined with the lemmas' conclusions
unfoldable pub joined : List Derived → List Form → List Form
joined [] β = β
joined (d ∷ ds) β = joined ds (d.conclusion ∷ β)

-- the lemmas' proofs, then p, nested to the right
unfoldable pub chained : List Derived → Plain → Plain
chained [] p = p
chained (d ∷ ds) p = seq d.proof (chained ds p)

unfoldable pub after : List Derived → Out Derived → Out Derived
unfolding next chained
after ds o = next o (λ d. out (derived d.conclusion (chained ds d.proof)))

-- a rule at propositions: 13 for all arguments before 14 for any
unfoldable pub inferred : Ruled → ℕ → List Form → List Form → ℕ → ℕ → Out Derived
unfolding must members
inferred misshapen r ps β k w = stop wrong_shapes k
inferred (gives premises q) r ps β k w = must (members premises β) premise_missing k (out (derived q (infer r ps)) w)

-- a method call, once operator and arguments have run: 11 on the operator, 12, 11 on arguments, then the rule or the body
unfoldable pub applied : Deduce → Val → List Form → List Val → ℕ → ℕ → Out Derived
unfolding must as_forms inferred ruled entered
applied D (form p) β vs k w = stop wrong_kind k
applied D (con_v c) β vs k w = stop wrong_kind k
applied D (rule_v r) β vs k w =
    must (eqb (length vs) (get_or arity r 0)) wrong_count k (as_forms vs k (λ ps. inferred (ruled r ps) r ps β k w))
applied D (closure function self n b e) β vs k w = stop wrong_kind k
applied D (closure method self n b e) β vs k w =
    must (eqb (length vs) n) wrong_count k (D (entered (closure method self n b e) vs) β b w)

-- the plain proof of suppose-absurd p in d
unfoldable pub refuted : Form → Plain → Plain
refuted p d = seq (under p d) (seq (infer 15 []) (infer 2 (bin cond p falsum ∷ (neg falsum ∷ []))))

-- a block's steps: each sees the conclusions of earlier ones
unfoldable pub steps : Deduce → Env → List Form → ℕ → List ℕ → ℕ → Out Derived
unfolding next after
steps D e β k [] w = D e β k w
steps D e β k (j ∷ js) w = next (D e β k w) (λ d w₁. after (d ∷ []) (steps D e (d.conclusion ∷ β) j js w₁))

-- a deduction that has been entered; k is its number
unfoldable pub deduced : List Phrase → Evaluate → Deduce → Deduction → Env → List Form → ℕ → ℕ → Out Derived
unfolding next arguments argument after applied as_form steps choose on_choice with_forms refuted must same lemmas values_of joined
deduced fs E D (apply f xs) e β k w =
    next (E e f w) (λ v w₁. next (arguments fs E D e β xs w₁)
    (λ as' w₂. after (lemmas as') (applied D v (joined (lemmas as') β) (values_of as') k w₂)))
deduced fs E D (assume f d) e β k w =
    next (E e f w) (λ v w₁. as_form v k (λ p. next (D e (p ∷ β) d w₁)
    (λ x. out (derived (bin cond p x.conclusion) (under p x.proof)))))
deduced fs E D (suppose f d) e β k w =
    next (E e f w) (λ v w₁. as_form v k (λ p. next (D e (p ∷ β) d w₁)
    (λ x w₂. must (same x.conclusion falsum) not_false k (out (derived (neg p) (refuted p x.proof)) w₂))))
deduced fs E D (dlet f d) e β k w =
    next (argument fs E D e β f w) (λ x w₁. after x.lemma (D (e ▸ x.value) (joined x.lemma β) d w₁))
deduced fs E D (by f d) e β k w =
    next (D e β d w) (λ x w₁. next (E e f w₁)
    (λ v w₂. as_form v k (λ p. must (same p x.conclusion) announced_differs k (out x w₂))))
deduced fs E D (block j js) e β k w = steps D e β j js w
deduced fs E D (dmatch f cs) e β k w =
    next (argument fs E D e β f w) (λ x w₁. as_form x.value k (λ p. on_choice (choose cs p) k (λ b ps. D (with_forms e ps) β b w₁)))

-- phrase k, entered as a deduction
unfoldable pub on_dedu : {A : Type 0} → Phrase → A → (Deduction → A) → A
on_dedu (expr x) a f = a
on_dedu (dedu d) a f = f d

unfoldable pub deduce_step : List Phrase → Evaluate → Deduce → Deduce
unfolding deduced on_dedu
deduce_step fs E D e β k w = on_dedu (phrase_at fs k) (stop wrong_kind k) (λ d. deduced fs E D d e β k w)

-- deduction, with so much nesting left
unfoldable pub deduce : List Phrase → ℕ → Deduce
unfolding deduce_step entering evaluate
deduce fs ℕ.zero e β k w = entering k w (λ w₁. stop too_deep k)
deduce fs (ℕ.suc n) e β k w = entering k w (deduce_step fs (evaluate fs n) (deduce fs n) e β k)

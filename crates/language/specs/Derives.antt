-- The rules of the omega language, one constructor a rule, with the work each takes and the nesting it stands in.
-- `Evaluates fs n e k v w`: with n levels of nesting left and the bindings e, phrase k has the value v after w evaluations.
-- `Derives fs n e β k d w`: in the base β phrase k derives d, its conclusion and its plain proof.
use Rattle.std.specs.Prelude.{ℕ, suc, ◌+◌, List, [], ◌∷◌, Bool, true, ◌≡◌, length, get_or}
use Rattle.std.proofs.Math.Option.{some, none}
use Rattle.language.specs.Form.{Form, cond, falsum, neg, bin, members}
use Rattle.language.specs.Rules.{arity, gives, ruled}
use Rattle.language.specs.Syntax.{Clause, Sort, function, method, Phrase, expr, dedu, phrase_at}
use Rattle.language.specs.Syntax.{Expression, prop, var, con, rule, abstract, call, bind, match, Deduction, apply, assume, suppose, dlet, by, block, dmatch}
use Rattle.language.specs.Plain.{Plain, infer, seq, under}
use Rattle.language.specs.Values.{Val, form, con_v, rule_v, closure, Env, ◌▸◌, with_forms, entered}
use Rattle.language.specs.Patterns.{fits}
use Rattle.language.specs.Run.{Derived, derived, takes, constructed, joined, chained, refuted, Argument, values_of, lemmas, plainly, as_lemma}

-- binding i of e, innermost is 0, has the value v
pub data Bound : Env → ℕ → Val → Type 0 where
  here : {e : Env} {v : Val} → Bound (e ▸ v) 0 v
  there : {e : Env} {u v : Val} {i : ℕ} → Bound e i v → Bound (e ▸ u) (suc i) v

-- the first clause that fits: its body and what its pattern binds
pub data First : List Clause → Form → ℕ → List Form → Type 0 where
  fit : {c : Clause} {cs : List Clause} {p : Form} {ps : List Form} → fits c.pattern p ≡ some ps → First (c ∷ cs) p c.body ps
  pass : {c : Clause} {cs : List Clause} {p : Form} {k : ℕ} {ps : List Form} →
      fits c.pattern p ≡ none → First cs p k ps → First (c ∷ cs) p k ps

-- propositions as values
unfoldable pub all_forms : List Form → List Val
all_forms [] = []
all_forms (p ∷ ps) = form p ∷ all_forms ps

mutual
  pub data Evaluates (fs : List Phrase) : ℕ → Env → ℕ → Val → ℕ → Type 0 where
    -- a proposition, a binding, a constructor, a rule
    is_prop : {n : ℕ} {e : Env} {k : ℕ} {p : Form} → phrase_at fs k ≡ expr (prop p) → Evaluates fs (suc n) e k (form p) 1
    is_bound : {n : ℕ} {e : Env} {k i : ℕ} {v : Val} → phrase_at fs k ≡ expr (var i) → Bound e i v → Evaluates fs (suc n) e k v 1
    is_con : {n : ℕ} {e : Env} {k c : ℕ} → phrase_at fs k ≡ expr (con c) → Evaluates fs (suc n) e k (con_v c) 1
    is_rule : {n : ℕ} {e : Env} {k r : ℕ} → phrase_at fs k ≡ expr (rule r) → Evaluates fs (suc n) e k (rule_v r) 1
    -- a function or method keeps the bindings where it is written; under a fix it binds itself
    is_abstract : {n : ℕ} {e : Env} {k m b : ℕ} {s : Sort} {self : Bool} →
        phrase_at fs k ≡ expr (abstract s self m b) → Evaluates fs (suc n) e k (closure s self m b e) 1
    -- a call: operator, then arguments left to right, then the constructor at propositions or the function's body
    calls_con : {n : ℕ} {e : Env} {k f c w w' : ℕ} {xs : List ℕ} (ps : List Form) →
        phrase_at fs k ≡ expr (call f xs) → Evaluates fs n e f (con_v c) w → EvaluateAll fs n e xs (all_forms ps) w' →
        length ps ≡ takes c → Evaluates fs (suc n) e k (form (constructed c ps)) (1 + (w + w'))
    calls_function : {n : ℕ} {e e' : Env} {k f m b w w' w'' : ℕ} {self : Bool} {xs : List ℕ} {vs : List Val} {v : Val} →
        phrase_at fs k ≡ expr (call f xs) → Evaluates fs n e f (closure function self m b e') w → EvaluateAll fs n e xs vs w' →
        length vs ≡ m → Evaluates fs n (entered (closure function self m b e') vs) b v w'' → Evaluates fs (suc n) e k v (1 + (w + (w' + w'')))
    -- let
    binds : {n : ℕ} {e : Env} {k f g w w' : ℕ} {u v : Val} →
        phrase_at fs k ≡ expr (bind f g) → Evaluates fs n e f u w → Evaluates fs n (e ▸ u) g v w' → Evaluates fs (suc n) e k v (1 + (w + w'))
    -- match: the first clause whose pattern fits is run
    matches : {n : ℕ} {e : Env} {k f b w w' : ℕ} {cs : List Clause} {p : Form} {ps : List Form} {v : Val} →
        phrase_at fs k ≡ expr (match f cs) → Evaluates fs n e f (form p) w → First cs p b ps →
        Evaluates fs n (with_forms e ps) b v w' → Evaluates fs (suc n) e k v (1 + (w + w'))

  -- arguments of a call, left to right
  pub data EvaluateAll (fs : List Phrase) : ℕ → Env → List ℕ → List Val → ℕ → Type 0 where
    none_left : {n : ℕ} {e : Env} → EvaluateAll fs n e [] [] 0
    one_more : {n : ℕ} {e : Env} {k w w' : ℕ} {ks : List ℕ} {v : Val} {vs : List Val} →
        Evaluates fs n e k v w → EvaluateAll fs n e ks vs w' → EvaluateAll fs n e (k ∷ ks) (v ∷ vs) (w + w')

mutual
  pub data Derives (fs : List Phrase) : ℕ → Env → List Form → ℕ → Derived → ℕ → Type 0 where
    -- a method call: operator, then arguments in the caller's base; in that base joined with their conclusions the rule is applied or the body run
    applies_rule : {n : ℕ} {e : Env} {β premises : List Form} {k f r w w' : ℕ} {xs : List ℕ} {as' : List Argument} {q : Form} (ps : List Form) →
        phrase_at fs k ≡ dedu (apply f xs) → Evaluates fs n e f (rule_v r) w → Arguments fs n e β xs as' w' →
        values_of as' ≡ all_forms ps → length ps ≡ get_or arity r 0 → ruled r ps ≡ gives premises q →
        members premises (joined (lemmas as') β) ≡ true →
        Derives fs (suc n) e β k (derived q (chained (lemmas as') (infer r ps))) (1 + (w + w'))
    applies_method : {n : ℕ} {e e' : Env} {β : List Form} {k f m b w w' w'' : ℕ} {self : Bool} {xs : List ℕ} {as' : List Argument} {d : Derived} →
        phrase_at fs k ≡ dedu (apply f xs) → Evaluates fs n e f (closure method self m b e') w → Arguments fs n e β xs as' w' →
        length (values_of as') ≡ m → Derives fs n (entered (closure method self m b e') (values_of as')) (joined (lemmas as') β) b d w'' →
        Derives fs (suc n) e β k (derived d.conclusion (chained (lemmas as') d.proof)) (1 + (w + (w' + w'')))
    -- assume: the deduction in the base with the hypothesis
    assumes : {n : ℕ} {e : Env} {β : List Form} {k f g w w' : ℕ} {p : Form} {d : Derived} →
        phrase_at fs k ≡ dedu (assume f g) → Evaluates fs n e f (form p) w → Derives fs n e (p ∷ β) g d w' →
        Derives fs (suc n) e β k (derived (bin cond p d.conclusion) (under p d.proof)) (1 + (w + w'))
    -- suppose-absurd: the same, the deduction must conclude false
    supposes : {n : ℕ} {e : Env} {β : List Form} {k f g w w' : ℕ} {p : Form} {D : Plain} →
        phrase_at fs k ≡ dedu (suppose f g) → Evaluates fs n e f (form p) w → Derives fs n e (p ∷ β) g (derived falsum D) w' →
        Derives fs (suc n) e β k (derived (neg p) (refuted p D)) (1 + (w + w'))
    -- dlet: a deduction's conclusion joins the base for the body
    lets : {n : ℕ} {e : Env} {β : List Form} {k f g w w' : ℕ} {x : Argument} {d : Derived} →
        phrase_at fs k ≡ dedu (dlet f g) → Argues fs n e β f x w → Derives fs n (e ▸ x.value) (joined x.lemma β) g d w' →
        Derives fs (suc n) e β k (derived d.conclusion (chained x.lemma d.proof)) (1 + (w + w'))
    -- by: the deduction first, then the announced conclusion, which is the derived one
    announces : {n : ℕ} {e : Env} {β : List Form} {k f g w w' : ℕ} {d : Derived} →
        phrase_at fs k ≡ dedu (by f g) → Derives fs n e β g d w → Evaluates fs n e f (form d.conclusion) w' →
        Derives fs (suc n) e β k d (1 + (w + w'))
    -- a block
    in_steps : {n : ℕ} {e : Env} {β : List Form} {k j w : ℕ} {js : List ℕ} {d : Derived} →
        phrase_at fs k ≡ dedu (block j js) → Steps fs n e β j js d w → Derives fs (suc n) e β k d (1 + w)
    -- dmatch: a deduction there gives its value only
    dmatches : {n : ℕ} {e : Env} {β : List Form} {k f b w w' : ℕ} {cs : List Clause} {x : Argument} {p : Form} {ps : List Form} {d : Derived} →
        phrase_at fs k ≡ dedu (dmatch f cs) → Argues fs n e β f x w → x.value ≡ form p → First cs p b ps →
        Derives fs n (with_forms e ps) β b d w' → Derives fs (suc n) e β k d (1 + (w + w'))

  -- a phrase of either class, as an argument: an expression gives its value, a deduction its conclusion as a lemma too
  pub data Argues (fs : List Phrase) : ℕ → Env → List Form → ℕ → Argument → ℕ → Type 0 where
    by_value : {n : ℕ} {e : Env} {β : List Form} {k w : ℕ} {x : Expression} {v : Val} →
        phrase_at fs k ≡ expr x → Evaluates fs n e k v w → Argues fs n e β k (plainly v) w
    by_lemma : {n : ℕ} {e : Env} {β : List Form} {k w : ℕ} {x : Deduction} {d : Derived} →
        phrase_at fs k ≡ dedu x → Derives fs n e β k d w → Argues fs n e β k (as_lemma d) w

  -- arguments of a method call, left to right, each in the caller's base
  pub data Arguments (fs : List Phrase) : ℕ → Env → List Form → List ℕ → List Argument → ℕ → Type 0 where
    no_more : {n : ℕ} {e : Env} {β : List Form} → Arguments fs n e β [] [] 0
    and_then : {n : ℕ} {e : Env} {β : List Form} {k w w' : ℕ} {ks : List ℕ} {x : Argument} {xs : List Argument} →
        Argues fs n e β k x w → Arguments fs n e β ks xs w' → Arguments fs n e β (k ∷ ks) (x ∷ xs) (w + w')

  -- a block's steps: each sees the conclusions of earlier ones
  pub data Steps (fs : List Phrase) : ℕ → Env → List Form → ℕ → List ℕ → Derived → ℕ → Type 0 where
    last : {n : ℕ} {e : Env} {β : List Form} {k w : ℕ} {d : Derived} → Derives fs n e β k d w → Steps fs n e β k [] d w
    step : {n : ℕ} {e : Env} {β : List Form} {k j w w' : ℕ} {js : List ℕ} {d d' : Derived} →
        Derives fs n e β k d w → Steps fs n e (d.conclusion ∷ β) j js d' w' →
        Steps fs n e β k (j ∷ js) (derived d'.conclusion (seq d.proof d'.proof)) (w + w')

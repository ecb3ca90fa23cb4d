-- The interpreter does only what the rules allow: where a run ends with something, the rules give it, by as much work as was spent.
-- By induction on the nesting left; the clause of a phrase kind follows the interpreter's and ends in the rule of that kind.
use Prim.Native.Nat.{ℕ, suc, ◌+◌}
use native.Mathlib.Nat.{add-zero}
use mathlib.Core.Path.{◌≡◌, refl, ◌∙◌, ap, subst}
use mathlib.Core.List.{List, [], ◌∷◌}
use lib.ListN.{length, get_or}
use lib.Dec.{eqb}
use borrow.Author.Tests.{eqb-true}
use Rattle.language.specs.Refusals.{wrong_kind, wrong_count, announced_differs, not_false}
use Rattle.language.specs.Form.{Form, falsum, same}
use Rattle.language.specs.Rules.{arity, ruled}
use Rattle.language.specs.Syntax.{function, method, Phrase, expr, dedu, phrase_at}
use Rattle.language.specs.Syntax.{Expression, prop, var, con, rule, abstract, call, bind, match, Deduction, apply, assume, suppose, dlet, by, block, dmatch}
use Rattle.language.specs.Values.{Val, Env, form, con_v, rule_v, closure, ◌▸◌, with_forms, entered}
use Rattle.language.specs.Run.{Evaluate, Deduce, derived, takes, values, called, evaluated, evaluate_step, evaluate}
use Rattle.language.specs.Run.{Argument, argument_of, argument, arguments, values_of, lemmas, joined, chained, applied, steps, deduced, deduce_step, deduce}
use Rattle.language.specs.Derives.{Evaluates, is_prop, is_bound, is_con, is_rule, is_abstract, calls_con, calls_function, binds, matches, EvaluateAll, none_left, one_more}
use Rattle.language.specs.Derives.{Derives, applies_rule, applies_method, assumes, supposes, lets, announces, in_steps, dmatches, Argues, by_value, by_lemma, Arguments, no_more, and_then, Steps, last, step}
use Rattle.theorems.proofs.Members.{same_is}
use Rattle.theorems.proofs.Ran.{Ran, stopped, done, so, on_next, on_entering, on_must, on_expr_lem, on_dedu_lem, on_form, on_forms, on_choice_lem, on_lookup, on_after, on_ruled, length_forms}

-- expressions
module _ (fs : List Phrase) (n : ℕ) (E : Evaluate) (ih : (e : Env) (k w : ℕ) → Ran (Evaluates fs n e k) w (E e k w)) where
  values_ran : (e : Env) (ks : List ℕ) (w : ℕ) → Ran (EvaluateAll fs n e ks) w (values E e ks w)
  unfolding values
  values_ran e [] w = done none_left
  values_ran e (k ∷ ks) w = on_next (ih e k w) (λ v u w₁ h. on_next (values_ran e ks w₁) (λ vs u' w₂ hs. done (rw add-zero (one_more h hs))))

  module _ (e : Env) (k : ℕ) where
    called_ran : {f u u' : ℕ} {xs : List ℕ} {vs : List Val} (v : Val) (w : ℕ) → phrase_at fs k ≡ expr (call f xs) →
        Evaluates fs n e f v u → EvaluateAll fs n e xs vs u' →
        Ran (λ x u''. Evaluates fs (suc n) e k x (1 + (u + (u' + u'')))) w (called E v vs k w)
    unfolding called
    called_ran (form p) w i h hs = stopped
    called_ran {vs} (con_v c) w i h hs =
        on_must (eqb (length vs) (takes c)) wrong_count k (λ l. on_forms vs k (λ ps q.
        done (rw add-zero (calls_con ps i h (rw q at hs) (cc (length_forms ps, eqb-true (length vs) (takes c) l))))))
    called_ran (rule_v r) w i h hs = stopped
    called_ran (closure method self m b e') w i h hs = stopped
    called_ran {vs} (closure function self m b e') w i h hs =
        on_must (eqb (length vs) m) wrong_count k (λ l.
        so (ih (entered (closure function self m b e') vs) b w) (λ x u'' r. calls_function i h hs (eqb-true (length vs) m l) r))

    evaluated_ran : (x : Expression) (w : ℕ) → phrase_at fs k ≡ expr x → Ran (λ v u. Evaluates fs (suc n) e k v (1 + u)) w (evaluated E x e k w)
    unfolding evaluated
    evaluated_ran (prop p) w i = done (is_prop i)
    evaluated_ran (var j) w i = on_lookup e j k w (λ v b. is_bound i b)
    evaluated_ran (con c) w i = done (is_con i)
    evaluated_ran (rule r) w i = done (is_rule i)
    evaluated_ran (abstract s self m b) w i = done (is_abstract i)
    evaluated_ran (call f xs) w i =
        on_next (ih e f w) (λ v u w₁ h. on_next (values_ran e xs w₁) (λ vs u' w₂ hs. called_ran v w₂ i h hs))
    evaluated_ran (bind f g) w i = on_next (ih e f w) (λ v u w₁ h. so (ih (e ▸ v) g w₁) (λ x u' r. binds i h r))
    evaluated_ran (match f cs) w i =
        on_next (ih e f w) (λ v u w₁ h. on_form v k (λ p q. on_choice_lem cs p k (λ b ps c.
        so (ih (with_forms e ps) b w₁) (λ x u' r. matches i (rw q at h) c r))))

pub evaluate_ran : (fs : List Phrase) (n : ℕ) (e : Env) (k w : ℕ) → Ran (Evaluates fs n e k) w (evaluate fs n e k w)
unfolding evaluate evaluate_step
evaluate_ran fs ℕ.zero e k w = on_entering k w (λ w₁. stopped)
evaluate_ran fs (ℕ.suc n) e k w =
    on_entering k w (λ w₁. on_expr_lem (phrase_at fs k) wrong_kind k (λ x i. evaluated_ran fs n (evaluate fs n) (evaluate_ran fs n) e k x w₁ i))

-- deductions
module _ (fs : List Phrase) (n : ℕ) (E : Evaluate) (D : Deduce) (evaluates : (e : Env) (k w : ℕ) → Ran (Evaluates fs n e k) w (E e k w))
    (derives : (e : Env) (β : List Form) (k w : ℕ) → Ran (Derives fs n e β k) w (D e β k w)) (e : Env) where
  argument_ran : (β : List Form) (k w : ℕ) → Ran (Argues fs n e β k) w (argument fs E D e β k w)
  unfolding argument argument_of
  argument_ran β k w = of (phrase_at fs k) refl
    where
      of : (x : Phrase) → phrase_at fs k ≡ x → Ran (Argues fs n e β k) w (argument_of x E D e β k w)
      of (expr x) i = on_next (evaluates e k w) (λ v u w₁ h. done (rw add-zero (by_value i h)))
      of (dedu x) i = on_next (derives e β k w) (λ d u w₁ h. done (rw add-zero (by_lemma i h)))

  arguments_ran : (β : List Form) (ks : List ℕ) (w : ℕ) → Ran (Arguments fs n e β ks) w (arguments fs E D e β ks w)
  unfolding arguments
  arguments_ran β [] w = done no_more
  arguments_ran β (k ∷ ks) w =
      on_next (argument_ran β k w) (λ x u w₁ h. on_next (arguments_ran β ks w₁) (λ xs u' w₂ hs. done (rw add-zero (and_then h hs))))

  steps_ran : (β : List Form) (j : ℕ) (js : List ℕ) (w : ℕ) → Ran (Steps fs n e β j js) w (steps D e β j js w)
  unfolding steps chained
  steps_ran β j [] w = so (derives e β j w) (λ d u h. last h)
  steps_ran β j (i ∷ js) w =
      on_next (derives e β j w) (λ d u w₁ h. on_after (d ∷ []) (so (steps_ran (d.conclusion ∷ β) i js w₁) (λ d' u' hs. step h hs)))

  module _ (β : List Form) (k : ℕ) where
    applied_ran : {f u u' : ℕ} {xs : List ℕ} (v : Val) (as' : List Argument) (w : ℕ) → phrase_at fs k ≡ dedu (apply f xs) →
        Evaluates fs n e f v u → Arguments fs n e β xs as' u' →
        Ran (λ d u''. Derives fs (suc n) e β k (derived d.conclusion (chained (lemmas as') d.proof)) (1 + (u + (u' + u'')))) w
        (applied D v (joined (lemmas as') β) (values_of as') k w)
    unfolding applied
    applied_ran (form p) as' w i h hs = stopped
    applied_ran (con_v c) as' w i h hs = stopped
    applied_ran (rule_v r) as' w i h hs =
        let vs = values_of as' in
        on_must (eqb (length vs) (get_or arity r 0)) wrong_count k (λ l. on_forms vs k (λ ps q.
        on_ruled (ruled r ps) r ps (joined (lemmas as') β) k w (λ premises c g m.
        rw add-zero (applies_rule ps i h hs q (cc (length_forms ps, eqb-true (length vs) (get_or arity r 0) l)) g m))))
    applied_ran (closure function self m b e') as' w i h hs = stopped
    applied_ran (closure method self m b e') as' w i h hs =
        let vs = values_of as' in
        on_must (eqb (length vs) m) wrong_count k (λ l.
        so (derives (entered (closure method self m b e') vs) (joined (lemmas as') β) b w) (λ d u'' r. applies_method i h hs (eqb-true (length vs) m l) r))

    deduced_ran : (x : Deduction) (w : ℕ) → phrase_at fs k ≡ dedu x → Ran (λ d u. Derives fs (suc n) e β k d (1 + u)) w (deduced fs E D x e β k w)
    unfolding deduced
    deduced_ran (apply f xs) w i =
        on_next (evaluates e f w) (λ v u w₁ h. on_next (arguments_ran β xs w₁) (λ as' u' w₂ hs.
        on_after (lemmas as') (applied_ran v as' w₂ i h hs)))
    deduced_ran (assume f g) w i =
        on_next (evaluates e f w) (λ v u w₁ h. on_form v k (λ p q. on_next (derives e (p ∷ β) g w₁) (λ d u' w₂ r.
        done (rw add-zero (assumes i (rw q at h) r)))))
    deduced_ran (suppose f g) w i =
        on_next (evaluates e f w) (λ v u w₁ h. on_form v k (λ p q. on_next (derives e (p ∷ β) g w₁) (λ d u' w₂ r.
        on_must (same d.conclusion falsum) not_false k (λ c.
        done (rw add-zero (supposes i (rw q at h) (subst (λ x. Derives fs n e (p ∷ β) g (derived x d.proof) u') (same_is c) r)))))))
    deduced_ran (dlet f g) w i =
        on_next (argument_ran β f w) (λ x u w₁ h. on_after x.lemma
        (so (derives (e ▸ x.value) (joined x.lemma β) g w₁) (λ d u' r. lets i h r)))
    deduced_ran (by f g) w i =
        on_next (derives e β g w) (λ d u w₁ r. on_next (evaluates e f w₁) (λ v u' w₂ h. on_form v k (λ p q.
        on_must (same p d.conclusion) announced_differs k (λ c. done (rw add-zero (announces i r (rw (q ∙ ap form (same_is c)) at h)))))))
    deduced_ran (block j js) w i = so (steps_ran β j js w) (λ d u s. in_steps i s)
    deduced_ran (dmatch f cs) w i =
        on_next (argument_ran β f w) (λ x u w₁ h. on_form x.value k (λ p q. on_choice_lem cs p k (λ b ps c.
        so (derives (with_forms e ps) β b w₁) (λ d u' r. dmatches i h q c r))))

pub deduce_ran : (fs : List Phrase) (n : ℕ) (e : Env) (β : List Form) (k w : ℕ) → Ran (Derives fs n e β k) w (deduce fs n e β k w)
unfolding deduce deduce_step
deduce_ran fs ℕ.zero e β k w = on_entering k w (λ w₁. stopped)
deduce_ran fs (ℕ.suc n) e β k w =
    on_entering k w (λ w₁. on_dedu_lem (phrase_at fs k) wrong_kind k (λ x i.
    deduced_ran fs n (evaluate fs n) (deduce fs n) (evaluate_ran fs n) (deduce_ran fs n) e β k x w₁ i))

-- The interpreter does all that the rules allow: what they give by u evaluations, a run gives from any budget that has u, and leaves the rest.
-- By induction on the nesting left; each rule of the language is answered by what the parts of its run cost, added up.
use Prim.Native.Nat.{ℕ, suc, ◌+◌}
use native.Mathlib.Nat.{add-zero, zero-add, add_assoc}
use native.Mathlib.Omega.{arith}
use mathlib.Core.Path.{◌≡◌, ◌∙◌, ap}
use mathlib.Core.List.{List, [], ◌∷◌}
use mathlib.Core.Bool.{Bool, true}
use lib.ListN.{length, get_or}
use borrow.Author.Tests.{eq-eqb}
use Rattle.language.specs.Refusals.{wrong_count, premise_missing, announced_differs}
use Rattle.language.specs.Form.{Form, members}
use Rattle.language.specs.Rules.{arity, gives, ruled}
use Rattle.language.specs.Syntax.{Clause, Phrase, expr, dedu, phrase_at, Expression, Deduction}
use Rattle.language.specs.Plain.{infer}
use Rattle.language.specs.Values.{Val, Env, rule_v, Out, out, next, must, lookup, as_forms}
use Rattle.language.specs.Patterns.{chosen, or_else, choose}
use Rattle.language.specs.Run.{Derived, Deduce, derived, entering, values, called, evaluated, evaluate_step, evaluate}
use Rattle.language.specs.Run.{Argument, argument_of, argument, arguments, lemmas, chained, after, inferred, applied, steps, deduced, deduce_step, deduce}
use Rattle.language.specs.Derives.{Bound, here, there, First, fit, pass, all_forms}
use Rattle.language.specs.Derives.{Evaluates, is_prop, is_bound, is_con, is_rule, is_abstract, calls_con, calls_function, binds, matches, EvaluateAll, none_left, one_more}
use Rattle.language.specs.Derives.{Derives, applies_rule, applies_method, assumes, supposes, lets, announces, in_steps, dmatches, Argues, by_value, by_lemma, Arguments, no_more, and_then, Steps, last, step}
use Rattle.theorems.proofs.Members.{same_self}
use Rattle.theorems.proofs.Ran.{length_forms}

-- `Costs o a u`: from a budget of u and a rest, the run o ends with a and the rest
pub record Costs {A : Type 0} (o : ℕ → Out A) (a : A) (u : ℕ) : Type 0 where
  pub leaves : (rest : ℕ) → o (u + rest) ≡ out a rest

-- for each thing that a run is made of: what it costs
nothing : {A : Type 0} {a : A} → Costs (out a) a 0
nothing {a} = record { leaves = λ r. ap (out a) (zero-add r) }

on_entering : {A : Type 0} {a : A} {u : ℕ} {f : ℕ → Out A} (k : ℕ) → Costs f a u → Costs (λ w. entering k w f) a (1 + u)
unfolding entering
on_entering {u} k c = record { leaves = λ r. let z : (1 + u) + r ≡ suc (u + r) = omega arith in rw z (c.leaves r) }

on_next : {A B : Type 0} {a : A} {b : B} {u v : ℕ} {o : ℕ → Out A} (f : A → ℕ → Out B) →
    Costs o a u → Costs (f a) b v → Costs (λ w. next (o w) f) b (u + v)
unfolding next
on_next {u} {v} f c d = record { leaves = λ r. rw (add_assoc u v r, c.leaves (v + r)) (d.leaves r) }

on_last : {A B : Type 0} {a : A} {b : B} {u : ℕ} {o : ℕ → Out A} (f : A → ℕ → Out B) →
    Costs o a u → Costs (f a) b 0 → Costs (λ w. next (o w) f) b u
on_last {u} f c d = rw (add-zero u) at (on_next f c d)

on_must : {A : Type 0} {a : A} {u : ℕ} {o : ℕ → Out A} {b : Bool} (n k : ℕ) → b ≡ true → Costs o a u → Costs (λ w. must b n k (o w)) a u
unfolding must
on_must n k e c = rw e c

on_forms : {A : Type 0} {a : A} {u : ℕ} (ps : List Form) (k : ℕ) (f : List Form → ℕ → Out A) →
    Costs (f ps) a u → Costs (λ w. as_forms (all_forms ps) k (λ qs. f qs w)) a u
unfolding as_forms all_forms
on_forms [] k f c = c
on_forms (p ∷ ps) k f c = on_forms ps k (λ qs. f (p ∷ qs)) c

first_is : {cs : List Clause} {p : Form} {b : ℕ} {ps : List Form} → First cs p b ps → choose cs p ≡ chosen b ps
unfolding choose or_else
first_is (fit e) = rw e
first_is (pass e f) = rw e (first_is f)

bound_costs : {e : Env} {i : ℕ} {v : Val} (k : ℕ) → Bound e i v → Costs (lookup e i k) v 0
unfolding lookup
bound_costs k here = nothing
bound_costs k (there b) = bound_costs k b

-- expressions
record Evaluated (fs : List Phrase) (n : ℕ) : Type 0 where
  costs : {e : Env} {k u : ℕ} {v : Val} → Evaluates fs n e k v u → Costs (evaluate fs n e k) v u

module _ (fs : List Phrase) (n : ℕ) (ih : Evaluated fs n) where
  values_cost : {e : Env} {ks : List ℕ} {vs : List Val} {u : ℕ} → EvaluateAll fs n e ks vs u → Costs (values (evaluate fs n) e ks) vs u
  unfolding values
  values_cost none_left = nothing
  values_cost (one_more h hs) = on_next _ (ih.costs h) (on_last _ (values_cost hs) nothing)

  module _ (e : Env) (k : ℕ) where
    begins : {u : ℕ} {x : Expression} {v : Val} → phrase_at fs k ≡ expr x →
        Costs (evaluated (evaluate fs n) x e k) v u → Costs (evaluate fs (suc n) e k) v (1 + u)
    unfolding evaluate evaluate_step
    begins i c = on_entering k (rw (evaluate_step, i) c)

    evaluated_costs : {u : ℕ} {v : Val} → Evaluates fs (suc n) e k v u → Costs (evaluate fs (suc n) e k) v u
    unfolding evaluated called
    evaluated_costs (is_prop i) = begins i nothing
    evaluated_costs (is_bound i b) = begins i (bound_costs k b)
    evaluated_costs (is_con i) = begins i nothing
    evaluated_costs (is_rule i) = begins i nothing
    evaluated_costs (is_abstract i) = begins i nothing
    evaluated_costs (calls_con ps i h hs l) =
        begins i (on_next _ (ih.costs h) (on_last _ (values_cost hs)
        (on_must wrong_count k (eq-eqb _ _ (length_forms ps ∙ l)) (on_forms ps k _ nothing))))
    evaluated_costs (calls_function i h hs l b) =
        begins i (on_next _ (ih.costs h) (on_next _ (values_cost hs) (on_must wrong_count k (eq-eqb _ _ l) (ih.costs b))))
    evaluated_costs (binds i h b) = begins i (on_next _ (ih.costs h) (ih.costs b))
    evaluated_costs (matches i h c b) = begins i (on_next _ (ih.costs h) (rw (first_is c) (ih.costs b)))

no_nesting : {fs : List Phrase} {e : Env} {k u : ℕ} {v : Val} → Evaluates fs 0 e k v u → Costs (evaluate fs 0 e k) v u
no_nesting = elim [ ]

evaluates : (fs : List Phrase) (n : ℕ) → Evaluated fs n
evaluates fs ℕ.zero = record { costs = no_nesting }
evaluates fs (ℕ.suc n) = record { costs = evaluated_costs fs n (evaluates fs n) _ _ }

pub evaluate_costs : {fs : List Phrase} {n : ℕ} {e : Env} {k u : ℕ} {v : Val} → Evaluates fs n e k v u → Costs (evaluate fs n e k) v u
evaluate_costs {fs} {n} = (evaluates fs n).costs

-- deductions
on_after : {o : ℕ → Out Derived} {d : Derived} {u : ℕ} (ds : List Derived) →
    Costs o d u → Costs (λ w. after ds (o w)) (derived d.conclusion (chained ds d.proof)) u
unfolding after
on_after ds c = on_last _ c nothing

rule_costs : (D : Deduce) (β : List Form) (k : ℕ) {r : ℕ} {ps premises : List Form} {vs : List Val} {q : Form} →
    vs ≡ all_forms ps → length ps ≡ get_or arity r 0 → ruled r ps ≡ gives premises q → members premises β ≡ true →
    Costs (applied D (rule_v r) β vs k) (derived q (infer r ps)) 0
unfolding applied inferred
rule_costs D β k {ps} v l g m =
    rw v (on_must wrong_count k (eq-eqb _ _ (length_forms ps ∙ l)) (on_forms ps k _ (rw g (on_must premise_missing k m nothing))))

record Deduced (fs : List Phrase) (n : ℕ) : Type 0 where
  costs : {e : Env} {β : List Form} {k u : ℕ} {d : Derived} → Derives fs n e β k d u → Costs (deduce fs n e β k) d u

module _ (fs : List Phrase) (n : ℕ) (ih : Deduced fs n) where
  argument_costs : {e : Env} {β : List Form} {k u : ℕ} {x : Argument} →
      Argues fs n e β k x u → Costs (argument fs (evaluate fs n) (deduce fs n) e β k) x u
  unfolding argument argument_of
  argument_costs (by_value i h) = rw (argument, i) (on_last _ (evaluate_costs h) nothing)
  argument_costs (by_lemma i h) = rw (argument, i) (on_last _ (ih.costs h) nothing)

  arguments_cost : {e : Env} {β : List Form} {ks : List ℕ} {u : ℕ} {xs : List Argument} →
      Arguments fs n e β ks xs u → Costs (arguments fs (evaluate fs n) (deduce fs n) e β ks) xs u
  unfolding arguments
  arguments_cost no_more = nothing
  arguments_cost (and_then h hs) = on_next _ (argument_costs h) (on_last _ (arguments_cost hs) nothing)

  steps_cost : {e : Env} {β : List Form} {j : ℕ} {js : List ℕ} {u : ℕ} {d : Derived} →
      Steps fs n e β j js d u → Costs (steps (deduce fs n) e β j js) d u
  unfolding steps chained
  steps_cost (last h) = ih.costs h
  steps_cost (step {d} h hs) = on_next _ (ih.costs h) (on_after (d ∷ []) (steps_cost hs))

  module _ (e : Env) (β : List Form) (k : ℕ) where
    deduces : {u : ℕ} {x : Deduction} {d : Derived} → phrase_at fs k ≡ dedu x →
        Costs (deduced fs (evaluate fs n) (deduce fs n) x e β k) d u → Costs (deduce fs (suc n) e β k) d (1 + u)
    unfolding deduce deduce_step
    deduces i c = on_entering k (rw (deduce_step, i) c)

    deduced_costs : {u : ℕ} {d : Derived} → Derives fs (suc n) e β k d u → Costs (deduce fs (suc n) e β k) d u
    unfolding deduced applied
    deduced_costs (applies_rule {as'} ps i h hs v l g m) =
        deduces i (on_next _ (evaluate_costs h) (on_last _ (arguments_cost hs) (on_after (lemmas as') (rule_costs (deduce fs n) _ k v l g m))))
    deduced_costs (applies_method {as'} i h hs l b) =
        deduces i (on_next _ (evaluate_costs h) (on_next _ (arguments_cost hs) (on_after (lemmas as') (on_must wrong_count k (eq-eqb _ _ l) (ih.costs b)))))
    deduced_costs (assumes i h b) = deduces i (on_next _ (evaluate_costs h) (on_last _ (ih.costs b) nothing))
    deduced_costs (supposes i h b) = deduces i (on_next _ (evaluate_costs h) (on_last _ (ih.costs b) nothing))
    deduced_costs (lets {x} i h b) = deduces i (on_next _ (argument_costs h) (on_after x.lemma (ih.costs b)))
    deduced_costs (announces {d} i b h) =
        deduces i (on_next _ (ih.costs b) (on_last _ (evaluate_costs h) (on_must announced_differs k (same_self d.conclusion) nothing)))
    deduced_costs (in_steps i s) = deduces i (steps_cost s)
    deduced_costs (dmatches i h q c b) = deduces i (on_next _ (argument_costs h) (rw (q, first_is c) (ih.costs b)))

underived : {fs : List Phrase} {e : Env} {β : List Form} {k u : ℕ} {d : Derived} → Derives fs 0 e β k d u → Costs (deduce fs 0 e β k) d u
underived = elim [ ]

derivations : (fs : List Phrase) (n : ℕ) → Deduced fs n
derivations fs ℕ.zero = record { costs = underived }
derivations fs (ℕ.suc n) = record { costs = deduced_costs fs n (derivations fs n) _ _ _ }

pub deduce_costs : {fs : List Phrase} {n : ℕ} {e : Env} {β : List Form} {k u : ℕ} {d : Derived} → Derives fs n e β k d u → Costs (deduce fs n e β k) d u
deduce_costs {fs} {n} = (derivations fs n).costs

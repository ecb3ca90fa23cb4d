-- The run of a phrase stays in a pool that grows by at most two for each evaluation.
use Prim.Native.Nat.{ℕ, ◌*◌}
use native.Mathlib.Omega.{arith}
use mathlib.Core.List.{List}
use Rattle.language.specs.Form.{Form, cond}
use Rattle.language.specs.Syntax.{Phrase}
use Rattle.language.specs.Plain.{infer}
use Rattle.language.specs.Values.{Val, Env}
use Rattle.language.specs.Run.{Derived, values_of, lemmas, refuted}
use Rattle.language.specs.Derives.{Evaluates, is_prop, is_bound, is_con, is_rule, is_abstract, calls_con, calls_function, binds, matches, none_left, one_more}
use Rattle.language.specs.Derives.{Derives, applies_rule, applies_method, assumes, supposes, lets, announces, in_steps, dmatches}
use Rattle.language.specs.Derives.{by_value, by_lemma, no_more, and_then, last, step}
use Rattle.theorems.proofs.Lists.{all_map}
use Rattle.theorems.proofs.Members.{◌∈◌, ◌⊆◌}
use Rattle.theorems.proofs.Listing.{names_map}
use Rattle.theorems.proofs.Pool.{Pool, joint, negation, Reached, reach_here, reach_more, reach_then, reach_next, constructed_next, gives_next, ruled_next}
use Rattle.theorems.proofs.Inside.{ValIn, EnvIn, ValsIn, DerivedIn, ArgumentIn, ArgumentsIn, val_grows, env_grows, derived_grows, lemmas_grow, argument_grows}
use Rattle.theorems.proofs.Inside.{bound_in, entered_in, with_forms_in, all_forms_in, values_of_in, lemmas_in, chained_in, first_in}

-- the run of an expression
abbrev Reaches : List Phrase → Env → ℕ → (List Form → Type 0) → Type 0
Reaches fs e w G = (L : List Form) → Pool fs L → EnvIn e L → Reached fs L (2 * w) G

pub evaluates_reach : {fs : List Phrase} {n k w : ℕ} {e : Env} {v : Val} → Evaluates fs n e k v w → Reaches fs e w (ValIn v)
evaluates_reach {fs} x = elim x as
    (λ n e k v w x. Reaches fs e w (ValIn v))
    (λ n e ks vs w x. Reaches fs e w (ValsIn vs)) [
      | is_prop {k = k} {p = p} q ↦ λ L pool env. reach_more (omega arith) (reach_here pool (pool.named k p q))
      | is_bound q b ↦ λ L pool env. reach_more (omega arith) (reach_here pool (bound_in L b env))
      | is_con q ↦ λ L pool env. reach_more (omega arith) (reach_here pool tt)
      | is_rule q ↦ λ L pool env. reach_more (omega arith) (reach_here pool tt)
      | is_abstract q ↦ λ L pool env. reach_more (omega arith) (reach_here pool env)
      | calls_con {e = e} {c = c} ps q (f → h) (xs → i) l ↦ λ L pool env.
          reach_more (omega arith) (reach_then (h L pool env) λ M pool k _.
          reach_then (i M pool (env_grows L M k e env)) λ N pool k vs.
          reach_next pool (constructed_next pool c ps (all_forms_in N ps vs)))
      | calls_function {e = e} {e' = e'} {m = m} {b = b} {self = self} {vs = vs} q (f → h) (xs → i) l (g → j) ↦ λ L pool env.
          reach_more (omega arith) (reach_then (h L pool env) λ M pool k env'.
          reach_then (i M pool (env_grows L M k e env)) λ N pool k vals.
          j N pool (entered_in N _ self m b e' vs (env_grows M N k e' env') vals))
      | binds {e = e} {u = u} q (f → h) (g → i) ↦ λ L pool env.
          reach_more (omega arith) (reach_then (h L pool env) λ M pool k val.
          i M pool (env_grows L M k e env, val))
      | matches {e = e} {ps = ps} q (f → h) c (g → i) ↦ λ L pool env.
          reach_more (omega arith) (reach_then (h L pool env) λ M pool k val.
          i M pool (with_forms_in M e ps (env_grows L M k e env) (first_in M pool.closed c val)))
      | none_left ↦ λ L pool env. reach_more (omega arith) (reach_here pool tt)
      | one_more {e = e} {v = v} (f → h) (xs → i) ↦ λ L pool env.
          reach_more (omega arith) (reach_then (h L pool env) λ M pool k val.
          reach_then (i M pool (env_grows L M k e env)) λ N pool k vals.
          reach_here pool (val_grows M N k v val, vals))
    ]

-- the run of a deduction
pub derives_reach : {fs : List Phrase} {n k w : ℕ} {e : Env} {β : List Form} {d : Derived} → Derives fs n e β k d w → Reaches fs e w (DerivedIn d)
unfolding refuted
derives_reach {fs} x = elim x as
    (λ n e β k d w x. Reaches fs e w (DerivedIn d))
    (λ n e β k a w x. Reaches fs e w (ArgumentIn a))
    (λ n e β ks as' w x. Reaches fs e w (ArgumentsIn as'))
    (λ n e β k js d w x. Reaches fs e w (DerivedIn d)) [
      | applies_rule {e = e} {r = r} {as' = as'} ps q f (xs → h) v l g m ↦ λ L pool env.
          reach_more (omega arith) (reach_then (evaluates_reach f L pool env) λ M pool k _.
          reach_then (h M pool (env_grows L M k e env)) λ N pool k args.
          let ps-in = all_forms_in N ps (rw v at (values_of_in N as' args)) in
          reach_then (reach_next pool (gives_next (rw g at (ruled_next pool r ps ps-in)))) λ O pool k q-in.
          reach_here pool (
            q-in,
            chained_in O (lemmas as') (infer r ps) (lemmas_grow N O k (lemmas as') (lemmas_in N as' args))
                (all_map (λ p. p ∈ N) (λ p. p ∈ O) k ps ps-in),
          ))
      | applies_method {e = e} {e' = e'} {m = m} {b = b} {self = self} {as' = as'} {d = d} q f (xs → h) l (g → i) ↦ λ L pool env.
          reach_more (omega arith) (reach_then (evaluates_reach f L pool env) λ M pool k env'.
          reach_then (h M pool (env_grows L M k e env)) λ N pool k args.
          reach_then (i N pool (entered_in N _ self m b e' (values_of as') (env_grows M N k e' env') (values_of_in N as' args))) λ O pool k d-in.
          reach_here pool (d-in.0, chained_in O (lemmas as') d.proof (lemmas_grow N O k (lemmas as') (lemmas_in N as' args)) d-in.1))
      | assumes {e = e} {p = p} {d = d} q f (g → i) ↦ λ L pool env.
          reach_more (omega arith) (reach_then (evaluates_reach f L pool env) λ M pool k p-in.
          reach_then (i M pool (env_grows L M k e env)) λ N pool k d-in.
          reach_then (reach_next pool (joint {c = cond} (k p p-in) d-in.0)) λ O pool k' c-in.
          reach_here pool (c-in, (k' p (k p p-in), (derived_grows N O k' d d-in).1)))
      | supposes {e = e} {p = p} {D = D} q f (g → i) ↦ λ L pool env.
          reach_more (omega arith) (reach_then (evaluates_reach f L pool env) λ M pool k p-in.
          reach_then (i M pool (env_grows L M k e env)) λ N pool k d-in.
          reach_then (reach_next pool (joint {c = cond} (k p p-in) pool.has_falsum)) λ O pool k' c-in.
          reach_then (reach_next pool (negation (k' p (k p p-in)))) λ O' pool k'' n-in.
          let up : N ⊆ O' = λ r h. k'' r (k' r h) in
          reach_here pool (
            n-in,
            (
              (up p (k p p-in), names_map (λ r. r ∈ N) (λ r. r ∈ O') up D d-in.1),
              (tt, (k'' _ c-in, (pool.has_not_falsum, tt))),
            ),
          ))
      | lets {e = e} {x = a} {d = d} q (f → h) (g → i) ↦ λ L pool env.
          reach_more (omega arith) (reach_then (h L pool env) λ M pool k a_in.
          reach_then (i M pool (env_grows L M k e env, a_in.0)) λ N pool k d-in.
          reach_here pool (d-in.0, chained_in N a.lemma d.proof (lemmas_grow M N k a.lemma a_in.1) d-in.1))
      | announces {e = e} {d = d} q (g → i) f ↦ λ L pool env.
          reach_more (omega arith) (reach_then (i L pool env) λ M pool k d-in.
          reach_then (evaluates_reach f M pool (env_grows L M k e env)) λ N pool k _.
          reach_here pool (derived_grows M N k d d-in))
      | in_steps q (g → i) ↦ λ L pool env. reach_more (omega arith) (i L pool env)
      | dmatches {e = e} {ps = ps} q (f → h) v c (g → i) ↦ λ L pool env.
          reach_more (omega arith) (reach_then (h L pool env) λ M pool k a_in.
          i M pool (with_forms_in M e ps (env_grows L M k e env) (first_in M pool.closed c (rw v at a_in.0))))
      | by_value q v ↦ λ L pool env. reach_more (omega arith) (reach_then (evaluates_reach v L pool env) λ M pool k val. reach_here pool (val, tt))
      | by_lemma q (g → i) ↦ λ L pool env. reach_more (omega arith) (reach_then (i L pool env) λ M pool k d-in. reach_here pool (d-in.0, (d-in, tt)))
      | no_more ↦ λ L pool env. reach_more (omega arith) (reach_here pool tt)
      | and_then {e = e} {x = a} (f → h) (xs → i) ↦ λ L pool env.
          reach_more (omega arith) (reach_then (h L pool env) λ M pool k a_in.
          reach_then (i M pool (env_grows L M k e env)) λ N pool k args.
          reach_here pool (argument_grows M N k a a_in, args))
      | last (g → i) ↦ i
      | step {e = e} {d = d} (g → h) (gs → i) ↦ λ L pool env.
          reach_more (omega arith) (reach_then (h L pool env) λ M pool k d-in.
          reach_then (i M pool (env_grows L M k e env)) λ N pool k d'-in.
          reach_here pool (d'-in.0, ((derived_grows M N k d d-in).1, d'-in.1)))
    ]

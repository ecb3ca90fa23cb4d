-- How large a derivation's proof can be: its nodes by the work, its nesting by the levels.
use Prim.Native.Nat.{ℕ, ◌+◌, ◌*◌, ◌≤◌, ◌<◌}
use native.Mathlib.Omega.{arith}
use mathlib.Core.Path.{◌≡◌}
use mathlib.Core.List.{List, [], ◌∷◌, ◌++◌}
use lib.ListN.{length, length-append}
use Rattle.language.specs.Form.{Form}
use Rattle.language.specs.Syntax.{Phrase, expr, dedu, phrase_at, apply, assume, suppose, dlet, by, block, dmatch}
use Rattle.language.specs.Plain.{Plain, infer}
use Rattle.language.specs.Values.{Env, Val}
use Rattle.language.specs.Run.{Derived, lemmas, chained, refuted}
use Rattle.language.specs.Derives.{Evaluates, is_prop, is_bound, is_con, is_rule, is_abstract, calls_con, calls_function, binds, matches}
use Rattle.language.specs.Derives.{Derives, applies_rule, applies_method, assumes, supposes, lets, announces, in_steps, dmatches, by_value, by_lemma, no_more, and_then, last, step}
use Rattle.theorems.specs.Demands.{nodes, nesting}
use Rattle.theorems.specs.Lists.{All}
use Rattle.theorems.proofs.Lists.{all_append, all_map}

-- an evaluation is work, and a deduction evaluates something
pub evaluates_works : {fs : List Phrase} {n k w : ℕ} {e : Env} {v : Val} → Evaluates fs n e k v w → 1 ≤ w
evaluates_works (is_prop p) = omega arith
evaluates_works (is_bound p b) = omega arith
evaluates_works (is_con p) = omega arith
evaluates_works (is_rule p) = omega arith
evaluates_works (is_abstract p) = omega arith
evaluates_works (calls_con ps p f xs l) = omega arith
evaluates_works (calls_function p f xs l b) = omega arith
evaluates_works (binds p f g) = omega arith
evaluates_works (matches p f c b) = omega arith

pub derives_works : {fs : List Phrase} {n k w : ℕ} {e : Env} {β : List Form} {d : Derived} → Derives fs n e β k d w → 2 ≤ w
derives_works x = elim x as (λ n e β k d w x. 2 ≤ w) (λ n e β k a w x. 1 ≤ w) (λ n e β ks as' w x. Unit {0}) (λ n e β k js d w x. 2 ≤ w) [
  | applies_rule ps p f xs v l g m ↦ omega (arith, evaluates_works f)
  | applies_method p f xs l b ↦ omega (arith, evaluates_works f)
  | assumes p f g ↦ omega (arith, evaluates_works f)
  | supposes p f g ↦ omega (arith, evaluates_works f)
  | lets p (f → h) g ↦ omega arith
  | announces p (g → i) f ↦ omega arith
  | in_steps p (g → i) ↦ omega arith
  | dmatches p (f → h) v c g ↦ omega arith
  | by_value p v ↦ evaluates_works v
  | by_lemma p (g → i) ↦ omega arith
  | no_more ↦ tt
  | and_then f xs ↦ tt
  | last (g → i) ↦ i
  | step (g → h) gs ↦ omega arith
]

-- the nodes of lemmas, each with the one that joins it to what follows
unfoldable total : List Derived → ℕ
total [] = 0
total (d ∷ ds) = 1 + nodes d.proof + total ds

total_append : (ds es : List Derived) → total (ds ++ es) ≡ total ds + total es
unfolding total
total_append [] es = omega arith
total_append (d ∷ ds) es = let ih = total_append ds es in omega arith

nodes_chained : (ds : List Derived) (D : Plain) → nodes (chained ds D) ≡ total ds + nodes D
unfolding total chained nodes
nodes_chained [] D = omega arith
nodes_chained (d ∷ ds) D = let ih = nodes_chained ds D in omega arith

-- fewer than three nodes for each evaluation
pub derives_nodes : {fs : List Phrase} {n k w : ℕ} {e : Env} {β : List Form} {d : Derived} → Derives fs n e β k d w → nodes d.proof < 3 * w
unfolding nodes refuted total lemmas
derives_nodes x = elim x as
    (λ n e β k d w x. nodes d.proof < 3 * w)
    (λ n e β k a w x. total a.lemma ≤ 3 * w)
    (λ n e β ks as' w x. total (lemmas as') ≤ 3 * w)
    (λ n e β k js d w x. nodes d.proof < 3 * w) [
      | applies_rule {r = r} {as' = as'} ps p f (xs → h) v l g m ↦ omega (arith, evaluates_works f, nodes_chained (lemmas as') (infer r ps))
      | applies_method {as' = as'} {d = d} p f (xs → h) l (b → i) ↦ omega (arith, nodes_chained (lemmas as') d.proof)
      | assumes p f (g → i) ↦ omega arith
      | supposes p f (g → i) ↦ omega (arith, evaluates_works f)
      | lets {x = a} {d = d} p (f → h) (g → i) ↦ omega (arith, nodes_chained a.lemma d.proof)
      | announces p (g → i) f ↦ omega arith
      | in_steps p (g → i) ↦ omega arith
      | dmatches p (f → h) v c (g → i) ↦ omega arith
      | by_value p v ↦ omega arith
      | by_lemma p (g → i) ↦ omega arith
      | no_more ↦ omega arith
      | and_then {x = a} {xs = as'} (f → h) (xs → i) ↦ omega (arith, total_append a.lemma (lemmas as'))
      | last (g → i) ↦ i
      | step (g → h) (gs → i) ↦ omega arith
    ]

-- method calls have at most four arguments, blocks at most seven steps after the first
abbrev pub NarrowPhrase : Phrase → Type 0
NarrowPhrase (expr x) = Unit {0}
NarrowPhrase (dedu (apply f xs)) = length xs ≤ 4
NarrowPhrase (dedu (assume f d)) = Unit {0}
NarrowPhrase (dedu (suppose f d)) = Unit {0}
NarrowPhrase (dedu (dlet f d)) = Unit {0}
NarrowPhrase (dedu (by f d)) = Unit {0}
NarrowPhrase (dedu (block j js)) = length js ≤ 7
NarrowPhrase (dedu (dmatch f cs)) = Unit {0}

abbrev pub Narrow : List Phrase → Type 0
Narrow fs = (k : ℕ) → NarrowPhrase (phrase_at fs k)

-- lemmas whose proofs nest at most so deep
abbrev Shallow : ℕ → List Derived → Type 0
Shallow m ds = All (λ d. nesting d.proof ≤ m) ds

nesting_chained : {m : ℕ} (ds : List Derived) (D : Plain) → Shallow m ds → nesting D ≤ m → nesting (chained ds D) ≤ length ds + m
unfolding chained nesting
nesting_chained [] D h i = omega arith
nesting_chained (d ∷ ds) D h i = let j = nesting_chained ds D h.1 i in omega (arith, h.0)

-- at most seven nodes nested for each level of nesting
pub derives_nesting : {fs : List Phrase} {n k w : ℕ} {e : Env} {β : List Form} {d : Derived} → Narrow fs → Derives fs n e β k d w → nesting d.proof ≤ 7 * n
unfolding nesting refuted lemmas
derives_nesting narrow x = elim x as
    (λ n e β k d w x. nesting d.proof ≤ 7 * n)
    (λ n e β k a w x. Shallow (7 * n) a.lemma × (length a.lemma ≤ 1))
    (λ n e β ks as' w x. Shallow (7 * n) (lemmas as') × (length (lemmas as') ≤ length ks))
    (λ n e β k js d w x. nesting d.proof ≤ length js + 7 * n) [
      | applies_rule {n = n} {k = k} {r = r} {as' = as'} ps p f (xs → h) v l g m ↦
          let m : Shallow (7 * n + 1) (lemmas as') = all_map (λ d. nesting d.proof ≤ 7 * n) _ (λ d l. omega arith) (lemmas as') h.0 in
          omega (arith, nesting_chained (lemmas as') (infer r ps) m (omega arith), rw p at (narrow k), h.1)
      | applies_method {k = k} {as' = as'} {d = d} p f (xs → h) l (b → i) ↦
          omega (arith, nesting_chained (lemmas as') d.proof h.0 i, rw p at (narrow k), h.1)
      | assumes p f (g → i) ↦ omega arith
      | supposes p f (g → i) ↦ omega arith
      | lets {x = a} {d = d} p (f → h) (g → i) ↦ omega (arith, nesting_chained a.lemma d.proof h.0 i, h.1)
      | announces p (g → i) f ↦ omega arith
      | in_steps {k = k} p (g → i) ↦ omega (arith, rw p at (narrow k))
      | dmatches p (f → h) v c (g → i) ↦ omega arith
      | by_value p v ↦ (tt, omega arith)
      | by_lemma p (g → i) ↦ ((i, tt), omega arith)
      | no_more ↦ (tt, omega arith)
      | and_then {n = n} {x = a} {xs = as'} (f → h) (xs → i) ↦
          (all_append (λ d. nesting d.proof ≤ 7 * n) a.lemma (lemmas as') h.0 i.0, simp length-append (omega (arith, h.1, i.1)))
      | last (g → i) ↦ omega arith
      | step (g → h) (gs → i) ↦ omega arith
    ]

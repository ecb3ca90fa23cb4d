-- Values, bindings and derivations whose propositions are all in a list: they stay so in a larger one, and what is bound, entered
-- and matched stays inside a list that is closed under parts.
use Prim.Native.Nat.{ℕ}
use mathlib.Core.List.{List, [], ◌∷◌}
use mathlib.Core.Bool.{Bool, true, false}
use mathlib.Core.Option.{Option, some, none}
use Rattle.language.specs.Form.{Form, atom, verum, falsum, neg, bin, same, same_conn}
use Rattle.language.specs.Syntax.{Pattern, any, exactly, neg_p, bin_p, Clause, Sort}
use Rattle.language.specs.Numbers.{pick}
use Rattle.language.specs.Plain.{Plain}
use Rattle.language.specs.Values.{Val, form, con_v, rule_v, closure, Env, empty, ◌▸◌, with_all, with_forms, scope, entered}
use Rattle.language.specs.Patterns.{join_fits, fits}
use Rattle.language.specs.Run.{Derived, Argument, values_of, lemmas, chained}
use Rattle.language.specs.Derives.{Bound, here, there, First, fit, pass, all_forms}
use Rattle.theorems.specs.Lists.{All}
use Rattle.theorems.proofs.Lists.{all_append, all_map}
use Rattle.theorems.proofs.Members.{◌∈◌, ◌⊆◌}
use Rattle.theorems.proofs.Closed.{Closed}
use Rattle.theorems.proofs.Listing.{Names, names_map}

-- values, bindings and derivations whose propositions are all in a list
abbrev mutual
  pub ValIn : Val → List Form → Type 0
  ValIn (form p) L = p ∈ L
  ValIn (con_v c) L = Unit {0}
  ValIn (rule_v r) L = Unit {0}
  ValIn (closure s self m b e) L = EnvIn e L

  pub EnvIn : Env → List Form → Type 0
  EnvIn empty L = Unit {0}
  EnvIn (e ▸ v) L = EnvIn e L × ValIn v L

abbrev pub ValsIn : List Val → List Form → Type 0
ValsIn vs L = All (λ v. ValIn v L) vs

abbrev pub DerivedIn : Derived → List Form → Type 0
DerivedIn d L = (d.conclusion ∈ L) × Names (λ p. p ∈ L) d.proof

abbrev pub LemmasIn : List Derived → List Form → Type 0
LemmasIn ds L = All (λ d. DerivedIn d L) ds

abbrev pub ArgumentIn : Argument → List Form → Type 0
ArgumentIn x L = ValIn x.value L × LemmasIn x.lemma L

abbrev pub ArgumentsIn : List Argument → List Form → Type 0
ArgumentsIn xs L = All (λ x. ArgumentIn x L) xs

-- they stay so in a larger one
module _ (L M : List Form) (k : L ⊆ M) where
  mutual
    pub val_grows : (v : Val) → ValIn v L → ValIn v M
    val_grows (form p) h = k p h
    val_grows (con_v c) h = tt
    val_grows (rule_v r) h = tt
    val_grows (closure s self m b e) h = env_grows e h

    pub env_grows : (e : Env) → EnvIn e L → EnvIn e M
    env_grows empty h = tt
    env_grows (e ▸ v) h = (env_grows e h.0, val_grows v h.1)

  pub derived_grows : (d : Derived) → DerivedIn d L → DerivedIn d M
  derived_grows d h = (k _ h.0, names_map (λ p. p ∈ L) (λ p. p ∈ M) k d.proof h.1)

  pub lemmas_grow : (ds : List Derived) → LemmasIn ds L → LemmasIn ds M
  lemmas_grow ds h = all_map (λ d. DerivedIn d L) (λ d. DerivedIn d M) derived_grows ds h

  pub argument_grows : (x : Argument) → ArgumentIn x L → ArgumentIn x M
  argument_grows x h = (val_grows x.value h.0, lemmas_grow x.lemma h.1)

-- bindings
module _ (L : List Form) where
  pub bound_in : {e : Env} {i : ℕ} {v : Val} → Bound e i v → EnvIn e L → ValIn v L
  bound_in here h = h.1
  bound_in (there b) h = bound_in b h.0

  with_all_in : (e : Env) (vs : List Val) → EnvIn e L → ValsIn vs L → EnvIn (with_all e vs) L
  unfolding with_all
  with_all_in e [] h g = h
  with_all_in e (v ∷ vs) h g = with_all_in (e ▸ v) vs (h, g.0) g.1

  pub entered_in : (s : Sort) (self : Bool) (m b : ℕ) (e : Env) (vs : List Val) → EnvIn e L → ValsIn vs L → EnvIn (entered (closure s self m b e) vs) L
  unfolding entered scope
  entered_in s true m b e vs h g = with_all_in (e ▸ closure s true m b e) vs (h, h) g
  entered_in s false m b e vs h g = with_all_in e vs h g

  pub with_forms_in : (e : Env) (ps : List Form) → EnvIn e L → All (λ p. p ∈ L) ps → EnvIn (with_forms e ps) L
  unfolding with_forms
  with_forms_in e [] h g = h
  with_forms_in e (p ∷ ps) h g = with_forms_in (e ▸ form p) ps (h, g.0) g.1

  pub all_forms_in : (ps : List Form) → ValsIn (all_forms ps) L → All (λ p. p ∈ L) ps
  unfolding all_forms
  all_forms_in [] h = tt
  all_forms_in (p ∷ ps) h = (h.0, all_forms_in ps h.1)

  -- arguments and their lemmas
  pub values_of_in : (xs : List Argument) → ArgumentsIn xs L → ValsIn (values_of xs) L
  unfolding values_of
  values_of_in [] h = tt
  values_of_in (x ∷ xs) h = (h.0.0, values_of_in xs h.1)

  pub lemmas_in : (xs : List Argument) → ArgumentsIn xs L → LemmasIn (lemmas xs) L
  unfolding lemmas
  lemmas_in [] h = tt
  lemmas_in (x ∷ xs) h = all_append (λ d. DerivedIn d L) x.lemma (lemmas xs) h.0.1 (lemmas_in xs h.1)

  pub chained_in : (ds : List Derived) (D : Plain) → LemmasIn ds L → Names (λ p. p ∈ L) D → Names (λ p. p ∈ L) (chained ds D)
  unfolding chained
  chained_in [] D h g = g
  chained_in (d ∷ ds) D h g = (h.0.1, chained_in ds D h.1 g)

  -- what a pattern binds of a proposition is among its parts
  abbrev FitIn : Option (List Form) → Type 0
  FitIn none = Unit {0}
  FitIn (some ps) = All (λ p. p ∈ L) ps

  join_fits_in : (x y : Option (List Form)) → FitIn x → FitIn y → FitIn (join_fits x y)
  unfolding join_fits
  join_fits_in none y h g = tt
  join_fits_in (some ps) none h g = tt
  join_fits_in (some ps) (some qs) h g = all_append (λ p. p ∈ L) ps qs h g

  pick_in : (t : Bool) (x : Option (List Form)) → FitIn x → FitIn (pick t x none)
  unfolding pick
  pick_in true x h = h
  pick_in false x h = tt

  module _ (closed : Closed L) where
    fits_in : (a : Pattern) (p : Form) → p ∈ L → FitIn (fits a p)
    unfolding fits
    fits_in any p h = (h, tt)
    fits_in (exactly q) p h = pick_in (same q p) (some []) tt
    fits_in (neg_p a) (atom x) h = tt
    fits_in (neg_p a) verum h = tt
    fits_in (neg_p a) falsum h = tt
    fits_in (neg_p a) (neg p) h = fits_in a p (closed (neg p) h)
    fits_in (neg_p a) (bin c p q) h = tt
    fits_in (bin_p c a b) (atom x) h = tt
    fits_in (bin_p c a b) verum h = tt
    fits_in (bin_p c a b) falsum h = tt
    fits_in (bin_p c a b) (neg p) h = tt
    fits_in (bin_p c a b) (bin d p q) h =
        let g = closed (bin d p q) h in
        pick_in (same_conn c d) (join_fits (fits a p) (fits b q)) (join_fits_in (fits a p) (fits b q) (fits_in a p g.0) (fits_in b q g.1))

    pub first_in : {cs : List Clause} {p : Form} {b : ℕ} {ps : List Form} → First cs p b ps → p ∈ L → All (λ p. p ∈ L) ps
    first_in (fit {c = c} {p = p} e) h = rw e at (fits_in c.pattern p h)
    first_in (pass e f) h = first_in f h

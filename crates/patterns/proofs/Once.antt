-- Two answers that the contracts allow are one: numbers below the table's count name each proposition once.
use Rattle.std.specs.Prelude.{Option, Some, None}
use Prim.Native.Nat.{ℕ, ◌<◌}
use mathlib.Core.Path.{◌≡◌, refl, sym, ap, ◌∙◌}
use mathlib.Core.List.{List, [], ◌∷◌, map}
use mathlib.Core.Option.{Option as Maybe, some, none}
use native.Mathlib.Omega.{arith}
use lib.ListN.{length, get_or, take, drop}
use Rattle.language.specs.Form.{Form, verum}
use Rattle.language.specs.Syntax.{Pattern, any}
use Rattle.language.specs.Patterns.{fits, Choice as ChosenClause, chosen, unfit, choose}
use Rattle.forms.specs.Table.{tree, Table}
use Rattle.forms.proofs.Trees.{distinct}
use Rattle.records.specs.Rows.{clauses_of}
use Rattle.theorems.specs.Lists.{All}
use Rattle.patterns.specs.declared.Parts.{Parts}
use Rattle.patterns.specs.Parts.{none_bound, extend}
use Rattle.patterns.specs.Fitting.{Named, Tried, Fitted, FitsSo, Offered, Picked, ChosenSo}

module _ (ws : List ℕ) (fs : List Form) (T : Table ws fs) where
  same_names : (ns ms : List ℕ) → map (tree fs) ns ≡ map (tree fs) ms → All (λ p. p < length fs) ns → All (λ p. p < length fs) ms → ns ≡ ms
  same_names [] [] e h g = refl
  same_names [] (m ∷ ms) e h g = absurd (let z = ap length e in omega arith)
  same_names (n ∷ ns) [] e h g = absurd (let z = ap length e in omega arith)
  same_names (n ∷ ns) (m ∷ ms) e h g =
      let c = T.count in
      let hn = h.0 in
      let gm = g.0 in
      let i : n ≡ m = distinct ws fs T n m (omega arith) (omega arith) (ap (λ (l : List Form). get_or l 0 verum) e) in
      rw (i, same_names ns ms (ap (drop 1) e) h.1 g.1)

  names_once : (ps : List Form) (ns ms : List ℕ) → Named fs ns ps → Named fs ms ps → ns ≡ ms
  names_once ps ns ms x y = same_names ns ms (x.trees ∙ sym y.trees) x.low y.low

  fitted_once : (a : Pattern) (b : Parts) (o : Maybe (List Form)) (r r' : Option Parts) → Fitted fs a b r o → Fitted fs a b r' o → r ≡ r'
  unfolding Fitted
  fitted_once a b none (Some c) r' x y = absurd x
  fitted_once a b none None (Some c) x y = absurd y
  fitted_once a b none None None x y = refl
  fitted_once a b (some ps) None r' x y = absurd x
  fitted_once a b (some ps) (Some c) None x y = absurd y
  fitted_once a b (some ps) (Some c) (Some c') x y =
      ap Some (x.1 ∙ ap (extend b) (names_once ps x.0 y.0 x.2 y.2) ∙ sym y.1)

  picked_once : (o : ChosenClause) (r r' : Option (ℕ × Parts)) → Picked fs r o → Picked fs r' o → r ≡ r'
  unfolding Picked
  picked_once unfit (Some (k, c)) r' x y = absurd x
  picked_once unfit None (Some (k, c)) x y = absurd y
  picked_once unfit None None x y = refl
  picked_once (chosen b ps) None r' x y = absurd x
  picked_once (chosen b ps) (Some (k, c)) None x y = absurd y
  picked_once (chosen b ps) (Some (k, c)) (Some (k', c')) (e, (ns, i, u, l)) (e', (ms, i', u', l')) =
      let z : c ≡ c' = i ∙ ap (extend none_bound) (names_once ps ns ms u u') ∙ sym i' in
      rw (e, e', z)

-- what a pattern that is tried comes to
pub fits_once : (forms patterns : List ℕ) (q p : ℕ) (b : Parts) (r r' : Option Parts) → Tried forms patterns q p b → FitsSo forms patterns q p b r → FitsSo forms patterns q p b r' → r ≡ r'
fits_once forms patterns q p b r r' x F F' =
    fitted_once (take x.words forms) x.trees x.legible.table (get_or x.qs q any) b (fits (get_or x.qs q any) (tree x.trees p)) r r' (F.meets x) (F'.meets x)

-- the clause that is chosen
pub chosen_once : (forms patterns phrases : List ℕ) (from left p : ℕ) (r r' : Option (ℕ × Parts)) → Offered forms patterns phrases from left p → ChosenSo forms patterns phrases from left p r → ChosenSo forms patterns phrases from left p r' → r ≡ r'
chosen_once forms patterns phrases from left p r r' x C C' =
    picked_once (take x.words forms) x.trees x.legible.table (choose (clauses_of x.qs left (drop from phrases)) (tree x.trees p)) r r' (C.meets x) (C'.meets x)

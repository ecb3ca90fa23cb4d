-- Choosing a clause: one law for each return.
use Rattle.std.specs.Prelude.{Option, Some, None}
use Prim.Native.Nat.{ℕ, zero, suc, ◌+◌, ◌*◌, ◌-◌, ◌≤◌, ◌<◌}
use mathlib.Core.Path.{◌≡◌, refl}
use mathlib.Core.List.{List, ◌∷◌}
use mathlib.Core.Option.{Option as Maybe, some, none}
use native.Mathlib.Omega.{arith}
use native.Mathlib.Numerals.{sub-one}
use lib.ListN.{length, get_or, drop}
use lib.Seq.{get_or-drop, drop-drop}
use Rattle.language.specs.Form.{Form}
use Rattle.language.specs.Syntax.{Pattern, any}
use Rattle.language.specs.Read.{binders}
use Rattle.language.specs.Patterns.{fits, Choice as ChosenClause, choose, or_else}
use Rattle.forms.specs.Table.{tree}
use Rattle.records.specs.Rows.{clauses_of}
use Rattle.patterns.specs.declared.Parts.{Parts}
use Rattle.patterns.specs.Parts.{none_bound}
use Rattle.patterns.specs.Fitting.{Tried, Fitted, FitsSo, Offered, Picked, ChosenSo}

module _ (forms patterns phrases : List ℕ) (from left p : ℕ) where
  pub none_left : left ≡ 0 → ChosenSo forms patterns phrases from left p None
  unfolding Picked choose clauses_of
  none_left e = record { meets = λ x. rw e tt }

  -- the first clause's pattern may be tried, with nothing bound before it
  abbrev pub first_tried : (q : ℕ) → (left ≡ 0 → ⊥) → q ≡ get_or phrases from 0 → Offered forms patterns phrases from left p → Tried forms patterns q p none_bound
  first_tried q h i x =
      let z : from + 2 * 0 ≡ from = omega arith in
      let low : q < length x.rows = rw (i, ← z) (x.named 0 (omega arith)) in
      let few = x.legible.says.few q low in
      record { words = x.words; trees = x.trees; qs = x.qs; rows = x.rows; legible = x.legible; pattern = low; proposition = x.proposition; room = omega arith }

  abbrev pub others : (left ≡ 0 → ⊥) → Offered forms patterns phrases from left p → Offered forms patterns phrases (from + 2) (left - 1) p
  others h x =
      let i = x.inside in
      record {
        words = x.words;
        trees = x.trees;
        qs = x.qs;
        rows = x.rows;
        legible = x.legible;
        proposition = x.proposition;
        named = λ k l. let z : from + 2 + 2 * k ≡ from + 2 * (k + 1) = omega arith in rw z (x.named (k + 1) (omega arith));
        inside = omega arith;
        short = x.short;
      }

  clauses_step : (qs : List Pattern) (n : ℕ) → (n ≡ 0 → ⊥) → clauses_of qs n (drop from phrases)
      ≡ record { pattern = get_or qs (get_or phrases from 0) any; body = get_or phrases (from + 1) 0 } ∷ clauses_of qs (n - 1) (drop (from + 2) phrases)
  unfolding clauses_of
  clauses_step qs zero h = absurd (h refl)
  clauses_step qs (suc n) h =
      let z : from + 0 ≡ from = omega arith in
      rw (get_or-drop from phrases 0 0, get_or-drop from phrases 1 0, drop-drop 2 from phrases, z, sub-one)

  fit_by : (fs : List Form) (a : Pattern) (c : Parts) (k : ℕ) (o : Maybe (List Form)) (rest : ChosenClause) → binders a ≤ 4 → Fitted fs a none_bound (Some c) o → Picked fs (Some (k, c)) (or_else o k rest)
  unfolding Fitted Picked or_else
  fit_by fs a c k none rest l h = absurd h
  fit_by fs a c k (some ps) rest l h = (refl, (h.0, h.1, h.2, (let e = h.3 in omega arith)))

  pub first_fits : (q k : ℕ) (c : Parts) → (left ≡ 0 → ⊥) → q ≡ get_or phrases from 0 → k ≡ get_or phrases (from + 1) 0 → FitsSo forms patterns q p none_bound (Some c) → ChosenSo forms patterns phrases from left p (Some (k, c))
  unfolding choose
  first_fits q k c h i j F = record {
    meets = λ x.
        let t = first_tried q h i x in
        let few = x.legible.says.few q t.pattern in
        let same = x.legible.says.binds q t.pattern in
        rw (clauses_step x.qs left h, ← i, ← j)
        (fit_by x.trees (get_or x.qs q any) c k (fits (get_or x.qs q any) (tree x.trees p)) (choose (clauses_of x.qs (left - 1) (drop (from + 2) phrases)) (tree x.trees p)) (omega arith) (F.meets t));
  }

  miss_by : (fs : List Form) (a : Pattern) (k : ℕ) (r : Option (ℕ × Parts)) (o : Maybe (List Form)) (rest : ChosenClause) → Fitted fs a none_bound None o → Picked fs r rest → Picked fs r (or_else o k rest)
  unfolding Fitted or_else
  miss_by fs a k r none rest h g = g
  miss_by fs a k r (some ps) rest h g = absurd h

  pub first_misses : (q : ℕ) (r : Option (ℕ × Parts)) → (left ≡ 0 → ⊥) → q ≡ get_or phrases from 0 → FitsSo forms patterns q p none_bound None → ChosenSo forms patterns phrases (from + 2) (left - 1) p r → ChosenSo forms patterns phrases from left p r
  unfolding choose
  first_misses q r h i F G = record {
    meets = λ x.
        let t = first_tried q h i x in
        rw (clauses_step x.qs left h, ← i)
        (miss_by x.trees (get_or x.qs q any) (get_or phrases (from + 1) 0) r (fits (get_or x.qs q any) (tree x.trees p)) (choose (clauses_of x.qs (left - 1) (drop (from + 2) phrases)) (tree x.trees p))
        (F.meets t) (G.meets (others h x)));
  }

-- The base as a stack: what a push leaves below it, and what it adds.
use Prim.Native.Nat.{ℕ, ◌+◌, ◌≤◌, ◌<◌}
use mathlib.Core.Path.{◌≡◌, sym, ap, ap₂, ◌∙◌}
use mathlib.Core.List.{List, ◌∷◌, ◌++◌}
use native.Mathlib.Omega.{arith}
use native.Mathlib.Numerals.{add-one}
use native.Mathlib.Decide.{dec_lt}
use lib.ListN.{length, get_or, set, take, length-set, length-append}
use lib.Seq.{get_or-take, get_or-set_same, get_or-set_other, length-take-le}
use Rattle.language.specs.Form.{Form}
use Rattle.forms.specs.Table.{tree, Table}
use Rattle.forms.proofs.Growth.{tree_more}
use Rattle.rules.specs.Base.{base_of}
use Rattle.rules.proofs.Sets.{base_same}
use Rattle.checker.specs.Walk.{Setting}

-- stacks that are the same up to a height
pub same_below : (s u : List ℕ) (b j : ℕ) → take b u ≡ take b s → j < b → get_or u j 0 ≡ get_or s j 0
same_below s u b j e h = sym (get_or-take b u j 0 h) ∙ ap (λ (l : List ℕ). get_or l j 0) e ∙ get_or-take b s j 0 h

-- p is pushed, over a table that has the old trees at their numbers
module _ (t base names : List ℕ) (n b deep : ℕ) (fs ps : List Form) (S : Setting t base names n b (deep + 1) fs ps)
    (t₁ base₁ : List ℕ) (k p : ℕ) (gs : List Form) (T : Table (take k t₁) gs) (more : n ≤ k)
    (old : (i : ℕ) → i < n → tree gs i ≡ tree fs i) (low : p < k) (same : take b base₁ ≡ take b base) (long : length base₁ ≡ length base) where
  abbrev base₂ : List ℕ
  base₂ = set base₁ b p

  top : get_or base₂ b 0 ≡ p
  top = let h = S.stack in get_or-set_same base₁ b p 0 (omega arith)

  under_top : (j : ℕ) → j < b → get_or base₂ j 0 ≡ get_or base j 0
  under_top j h = get_or-set_other base₁ b j p 0 (λ e. omega arith) ∙ same_below base base₁ b j same h

  pub pushed : Setting t₁ base₂ names k (b + 1) deep gs ps
  pushed =
      let h = S.stack in
      let l = length-set base₁ b p in
      record {
        table = T;
        named = λ j g. let w = S.named j g in (omega arith, old _ w.0 ∙ w.1);
        based = low_at;
        stack = omega arith;
      }
    where
      low_at : (j : ℕ) → j < b + 1 → get_or base₂ j 0 < k
      low_at j h = go (dec_lt j b)
        where
          go : Dec (j < b) → get_or base₂ j 0 < k
          go (yes l) = let e = under_top j l in let w = S.based j l in omega arith
          go (no l) = let e : j ≡ b = omega arith in let f = top in rw e (omega arith)

  pub pushed_base : (q : Form) → tree gs p ≡ q → base_of gs base₂ (b + 1) ≡ q ∷ base_of fs base b
  unfolding base_of
  pushed_base q e =
      rw add-one
      (ap₂ {C = List Form} (λ f β. f ∷ β) (ap (tree gs) top ∙ e)
      (base_same fs gs base base₂ b (λ j h. ap (tree gs) (under_top j h) ∙ old _ (S.based j h))))

-- a longer list of trees has them at their numbers, and a longer table is longer
module _ (t t₁ : List ℕ) (n k : ℕ) (fs gs : List Form) (T : Table (take n t) fs) (T₁ : Table (take k t₁) (fs ++ gs)) (room : n ≤ length t) (room₁ : k ≤ length t₁) where
  count : length fs ≡ n
  count = T.count ∙ length-take-le n t room

  pub more_words : n ≤ k
  more_words =
      let a = count in
      let b = T₁.count in
      let l = length-take-le k t₁ room₁ in
      let m = length-append fs gs in
      omega arith

  pub old_trees : (i : ℕ) → i < n → tree (fs ++ gs) i ≡ tree fs i
  old_trees i h = let a = count in tree_more fs gs i (omega arith)

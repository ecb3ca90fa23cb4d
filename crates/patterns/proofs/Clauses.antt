-- Clauses: what the numbers of a row say, which body is chosen, and what is bound.
use mathlib.Core.Path.{◌≡◌, refl, sym, ap, ◌∙◌}
use mathlib.Core.List.{List, map}
use mathlib.Core.Option.{Option, some, none}
use Prim.Native.Nat.{ℕ, zero, suc, ◌+◌, ◌*◌, ◌≤◌, ◌<◌}
use native.Mathlib.Omega.{arith}
use lib.ListN.{length, get_or, drop}
use lib.Seq.{get_or-drop, drop-drop}
use Rattle.language.specs.Form.{Form}
use Rattle.language.specs.Syntax.{Pattern, any}
use Rattle.language.specs.Patterns.{fits, Choice, chosen, unfit, or_else, choose}
use Rattle.theorems.specs.Lists.{All}
use Rattle.forms.specs.Table.{tree}
use Rattle.records.specs.Rows.{clauses_of}
use Rattle.patterns.specs.declared.Parts.{Parts}
use Rattle.patterns.specs.Parts.{numbers, none_bound, extend}
use Rattle.patterns.specs.Fitting.{Named}
use Rattle.patterns.proofs.Extending.{extend_count, extend_numbers}

-- rows with the same numbers say the same clauses
pub clauses_by : (qs : List Pattern) (n : ℕ) (xs ys : List ℕ) → ((j : ℕ) → j < 2 * n → get_or xs j 0 ≡ get_or ys j 0) → clauses_of qs n xs ≡ clauses_of qs n ys
unfolding clauses_of
clauses_by qs zero xs ys e = refl
clauses_by qs (suc n) xs ys e =
    let f : (j : ℕ) → j < 2 * n → get_or (drop 2 xs) j 0 ≡ get_or (drop 2 ys) j 0 = λ j h. get_or-drop 2 xs j 0 ∙ e (2 + j) (omega arith) ∙ sym (get_or-drop 2 ys j 0) in
    rw (e 0 (omega arith), e 1 (omega arith), clauses_by qs n (drop 2 xs) (drop 2 ys) f)

-- the body chosen is a clause's

unfoldable pub OnBody : (ℕ → Type 0) → Choice → Type 0
OnBody G (chosen b ps) = G b
OnBody G unfit = Unit {0}

pub body_of : (G : ℕ → Type 0) (qs : List Pattern) (P : Form) (n from : ℕ) (ph : List ℕ) → ((i : ℕ) → i < n → G (get_or ph (from + 2 * i + 1) 0)) → OnBody G (choose (clauses_of qs n (drop from ph)) P)
unfolding OnBody choose clauses_of or_else
body_of G qs P zero from ph g = tt
body_of G qs P (suc n) from ph g =
    go (fits (get_or qs (get_or (drop from ph) 0 0) any) P) (rw (drop-drop 2 from ph) (body_of G qs P n (from + 2) ph (λ i h. let z : from + 2 + 2 * i + 1 ≡ from + 2 * (i + 1) + 1 = omega arith in rw z (g (i + 1) (omega arith)))))
  where
    first : G (get_or (drop from ph) 1 0)
    first = let z : from + 2 * 0 + 1 ≡ from + 1 = omega arith in rw (get_or-drop from ph 1 0, ← z) (g 0 (omega arith))

    go : (o : Option (List Form)) → OnBody G (choose (clauses_of qs n (drop 2 (drop from ph))) P) → OnBody G (or_else o (get_or (drop from ph) 1 0) (choose (clauses_of qs n (drop 2 (drop from ph))) P))
    go none rest = rest
    go (some ps) rest = first

-- what was bound, as a list of numbers
pub record Binds (fs : List Form) (parts : Parts) (ps : List Form) : Type 0 where
  pub few : parts.count ≤ 4
  pub count : length (numbers parts) ≡ parts.count
  pub low : All (λ q. q < length fs) (numbers parts)
  pub trees : map (tree fs) (numbers parts) ≡ ps

pub binds_of : (fs ps : List Form) (parts : Parts) (ns : List ℕ) → parts ≡ extend none_bound ns → Named fs ns ps → length ns ≤ 4 → Binds fs parts ps
binds_of fs ps parts ns e N l =
    let c = extend_count none_bound ns in
    let u : numbers parts ≡ ns = ap (λ (q : Parts). numbers q) e ∙ extend_numbers none_bound ns (omega arith) in
    let t : parts.count ≡ 0 + length ns = ap (λ (q : Parts). q.count) e ∙ c in
    record { few = omega (arith, t, l); count = ap length u ∙ omega (arith, t); low = rw u N.low; trees = rw u N.trees }

-- What a pattern binds, put on a chain: one binding, then the rest on top of it.
use mathlib.Core.Path.{◌≡◌, refl, ◌∙◌}
use mathlib.Core.List.{List, [], ◌∷◌, map}
use Prim.Native.Nat.{ℕ, zero, suc, ◌+◌, ◌*◌, ◌≤◌, ◌<◌}
use native.Mathlib.Omega.{arith}
use lib.ListN.{length, get_or, take, drop}
use Rattle.std.proofs.lemmas.List.{drop_more, drop_all}
use Rattle.theorems.proofs.Lists.{all_at}
use lib.Seq.{sets, length-sets}
use Rattle.language.specs.Form.{Form}
use Rattle.language.specs.Values.{form, Env, ◌▸◌, with_forms}
use Rattle.forms.specs.Table.{tree}
use Rattle.theorems.specs.Lists.{All}
use Rattle.bindings.specs.declared.Value.TheVariants.{Prop}
use Rattle.bindings.specs.Numbers.{numbers_of, Small, Kept}
use Rattle.bindings.specs.Stands.{Stands, Chain}
use Rattle.bindings.proofs.Numbers.{kept_stored}
use Rattle.bindings.proofs.Chains.{pushed}
use Rattle.patterns.specs.declared.Parts.{Parts}
use Rattle.patterns.specs.Parts.{numbers}
use Rattle.expressions.specs.Machine.{chained, outermost}
use Rattle.expressions.specs.Asked.{Bindable}

-- so many of the numbers are bound: the others go on from there
abbrev pub Reached : List ℕ → ℕ → ℕ → List ℕ → List ℕ → ℕ → ℕ → Type 0
Reached t₀ n env ns t i top = (outermost (n + i) top (drop i ns) ≡ outermost n env ns) × (chained t (n + i) top (drop i ns) ≡ chained t₀ n env ns) × (top ≤ n + i)

pub none_bound : (t : List ℕ) (n env : ℕ) (ns : List ℕ) → env ≤ n → Reached t n env ns t 0 env
none_bound t n env ns h = let z : n + 0 ≡ n = omega arith in rw z (refl, refl, h)

pub more_bound : (t₀ t : List ℕ) (n env : ℕ) (ns : List ℕ) (i top : ℕ) → i < length ns → Reached t₀ n env ns t i top →
    Reached t₀ n env ns (sets t (4 * (n + i)) (numbers_of (Prop (get_or ns i 0)) top)) (i + 1) (n + i + 1)
unfolding chained outermost
more_bound t₀ t n env ns i top h r =
    let d = drop_more ns i 0 h in
    let z : n + (i + 1) ≡ n + i + 1 = omega arith in
    rw z (rw d at r.0, rw d at r.1, omega arith)

pub all_bound : (t₀ t : List ℕ) (n env : ℕ) (ns : List ℕ) (i top : ℕ) → length ns ≤ i → Reached t₀ n env ns t i top → (top ≡ outermost n env ns) × (t ≡ chained t₀ n env ns)
unfolding chained outermost
all_bound t₀ t n env ns i top h r = let d = drop_all i ns h in (rw d at r.0, rw d at r.1)

few_taken : (n : ℕ) (l : List ℕ) → length (take n l) ≤ n
few_taken zero l = omega arith
few_taken (suc n) [] = omega arith
few_taken (suc n) (x ∷ l) = let f = few_taken n l in omega arith

pub bound_fits : (t t' : List ℕ) (n env : ℕ) (p : Parts) → Bindable t n env p → length t' ≡ length t → (i top : ℕ) → i < length (numbers p) → top ≤ n + i →
    (4 * (n + i) + 4 ≤ length t') × Small (record { value = Prop (get_or (numbers p) i 0); next = top })
bound_fits t t' n env p A e i top h g =
    let r = A.room in
    let s = A.short in
    let f = few_taken p.count p.all in
    let l = all_at (λ q. q < 16384) (numbers p) i 0 A.low h in
    (omega arith, record { value = omega arith; next = omega arith })

-- what is bound stands on the chain, and what was bound before is kept

pub chained_kept : (ns : List ℕ) (t : List ℕ) (n env : ℕ) → Kept t (chained t n env ns) n
unfolding chained
chained_kept [] t n env i h = refl
chained_kept (p ∷ ps) t n env i h =
    let u = sets t (4 * n) (numbers_of (Prop p) env) in
    chained_kept ps u (n + 1) (n + 1) i (omega arith) ∙ kept_stored t (numbers_of (Prop p) env) n i h

pub chained_long : (ns : List ℕ) (t : List ℕ) (n env : ℕ) → length (chained t n env ns) ≡ length t
unfolding chained
chained_long [] t n env = refl
chained_long (p ∷ ps) t n env = chained_long ps (sets t (4 * n) (numbers_of (Prop p) env)) (n + 1) (n + 1) ∙ length-sets t (4 * n) (numbers_of (Prop p) env)

pub chained_stands : (ns : List ℕ) (rows : List (List ℕ)) (fs : List Form) (t : List ℕ) (n env : ℕ) (e : Env) → 4 * (n + length ns) ≤ length t → Chain rows fs t n e env → All (λ p. p < length fs) ns
    → Chain rows fs (chained t n env ns) (n + length ns) (with_forms e (map (tree fs) ns)) (outermost n env ns)
unfolding chained outermost with_forms Stands
chained_stands [] rows fs t n env e h c a = let z : n + 0 ≡ n = omega arith in rw z c
chained_stands (p ∷ ps) rows fs t n env e h c a =
    let u = sets t (4 * n) (numbers_of (Prop p) env) in
    let l = length-sets t (4 * n) (numbers_of (Prop p) env) in
    let z : n + suc (length ps) ≡ n + 1 + length ps = omega arith in
    let C = pushed rows fs t n env (omega arith) e (form (tree fs p)) (Prop p) c (p, refl, record { low = a.0; tree = refl }) in
    rw z (chained_stands ps rows fs u (n + 1) (n + 1) (e ▸ form (tree fs p)) (omega arith) C a.1)

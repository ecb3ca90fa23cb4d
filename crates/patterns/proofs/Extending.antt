-- What is bound, one after another.
use Prim.Native.Nat.{ℕ, ◌+◌, ◌≤◌}
use mathlib.Core.Path.{◌≡◌, refl, sym, ap, ◌∙◌}
use mathlib.Core.List.{List, [], ◌∷◌, ◌++◌, append-nil, append_assoc}
use native.Mathlib.Omega.{arith}
use lib.ListN.{length, length-set}
use Rattle.std.proofs.lemmas.List.{take_more_set}
use Rattle.patterns.specs.declared.Parts.{Parts}
use Rattle.patterns.specs.Parts.{numbers, with, extend}

-- several more
pub extend_count : (b : Parts) (ns : List ℕ) → (extend b ns).count ≡ b.count + length ns
unfolding extend
extend_count b [] = omega arith
extend_count b (p ∷ ns) = let c = extend_count (with b p) ns in omega arith

pub extend_numbers : (b : Parts) (ns : List ℕ) → b.count + length ns ≤ length b.all → numbers (extend b ns) ≡ numbers b ++ ns
unfolding extend
extend_numbers b [] h = sym (append-nil (numbers b))
extend_numbers b (p ∷ ns) h =
    let l = length-set b.all b.count p in
    extend_numbers (with b p) ns (omega arith)
    ∙ ap (λ (l : List ℕ). l ++ ns) (take_more_set b.all b.count p (omega arith))
    ∙ append_assoc (numbers b) (p ∷ []) ns

pub extend_extend : (b : Parts) (ms ns : List ℕ) → extend (extend b ms) ns ≡ extend b (ms ++ ns)
unfolding extend
extend_extend b [] ns = refl
extend_extend b (p ∷ ms) ns = extend_extend (with b p) ms ns

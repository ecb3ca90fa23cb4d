-- Things in the order of their numbers, 0 first: a thing's number and the thing of a number undo one another.
use Prim.Native.Nat.{ℕ, ◌<◌, ◌≤◌}
use mathlib.Core.Path.{◌≡◌, sym, ap, ◌∙◌}
use Rattle.std.proofs.Common.{arith}
use Rattle.std.specs.Prelude.{Some, None, List, length, get_or, map, slice_get}
use Rattle.std.specs.List.{range_with_len}
use Rattle.std.proofs.lemmas.List.{get_or-map}
use Rattle.std.proofs.lemmas.List.FromFn.{get_or-range_with_len}
use Rattle.std.proofs.lemmas.Option.{slice_get_within, slice_get_cases, get_or_from_slice_get}

module _ {K : Type 0} (all : List K) (number : K → ℕ) (ordered : map number all ≡ range_with_len 0 (length all)) where
  pub at : (n : ℕ) (d : K) → n < length all → number (get_or all n d) ≡ n
  at n d h =
      sym (get_or-map number all n d 0 h)
      ∙ (ap (λ (ns : List ℕ). get_or ns n 0) ordered ∙ (get_or-range_with_len 0 (length all) n 0 h ∙ omega arith))

  pub found : (n : ℕ) (k : K) → slice_get all n ≡ Some k → number k ≡ n
  found n k e = ap number (sym (get_or_from_slice_get all n k k e)) ∙ at n k (slice_get_within all n k e)

  -- a number whose thing is j is the number of j
  pub is : (n : ℕ) (k j : K) → Some k ≡ slice_get all n → k ≡ j → n ≡ number j
  is n k j e f = sym (found n k (sym e)) ∙ ap number f

  -- past them there is none
  pub none : (n : ℕ) → slice_get all n ≡ None → length all ≤ n
  none n e = let c = slice_get_cases all n in grind arith

  -- two things of one number are one
  pub once : ((k : K) → slice_get all (number k) ≡ Some k) → (j k : K) → number j ≡ number k → j ≡ k
  once back j k e =
      sym (get_or_from_slice_get all (number j) j j (back j))
      ∙ (ap (λ (n : ℕ). get_or all n j) e ∙ get_or_from_slice_get all (number k) k j (back k))

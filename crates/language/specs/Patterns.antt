-- A pattern is tried against a proposition part by part; the first clause whose pattern fits is chosen.
use Rattle.std.specs.Prelude.{ℕ, List, [], ◌∷◌, ◌++◌}
use Rattle.std.proofs.Math.Option.{Option, some, none}
use Rattle.language.specs.Refusals.{no_clause}
use Rattle.language.specs.Form.{Form, atom, verum, falsum, neg, bin, same, same_conn}
use Rattle.language.specs.Syntax.{Pattern, any, exactly, neg_p, bin_p, Clause}
use Rattle.language.specs.Numbers.{pick}
use Rattle.language.specs.Values.{Out, stop}

-- what two parts bind, left then right, where both fit
unfoldable pub join_fits : Option (List Form) → Option (List Form) → Option (List Form)
join_fits none y = none
join_fits (some xs) none = none
join_fits (some xs) (some ys) = some (xs ++ ys)

-- what a pattern binds of a proposition, or that it does not fit
unfoldable pub fits : Pattern → Form → Option (List Form)
unfolding join_fits same same_conn pick
fits any p = some (p ∷ [])
fits (exactly q) p = pick (same q p) (some []) none
fits (neg_p a) (atom x) = none
fits (neg_p a) verum = none
fits (neg_p a) falsum = none
fits (neg_p a) (neg p) = fits a p
fits (neg_p a) (bin c p q) = none
fits (bin_p c a b) (atom x) = none
fits (bin_p c a b) verum = none
fits (bin_p c a b) falsum = none
fits (bin_p c a b) (neg p) = none
fits (bin_p c a b) (bin d p q) = pick (same_conn c d) (join_fits (fits a p) (fits b q)) none

-- the clause chosen: its body and what its pattern binds
pub data Choice : Type 0 where
  chosen : ℕ → List Form → Choice
  unfit : Choice

unfoldable pub or_else : Option (List Form) → ℕ → Choice → Choice
or_else none b c = c
or_else (some ps) b c = chosen b ps

-- the first clause that fits
unfoldable pub choose : List Clause → Form → Choice
unfolding fits or_else
choose [] p = unfit
choose (c ∷ cs) p = or_else (fits c.pattern p) c.body (choose cs p)

-- the run of the clause chosen
unfoldable pub on_choice : {A : Type 0} → Choice → ℕ → (ℕ → List Form → Out A) → Out A
on_choice unfit k f = stop no_clause k
on_choice (chosen b ps) k f = f b ps

-- How many characters come before the first blank, from a place on.
use Rattle.std.proofs.Common.{◌≡◌, ℕ, ◌+◌, ◌<◌, ◌≤◌, List, length, get_or, drop, add-one, ne_eqb}
use lib.ListN.{drop_of_length-le}
use lib.Seq.{drop-cons}
use Rattle.requests.specs.Fields.{span}

pub span_blank : (line : List ℕ) (i : ℕ) → i < length line → get_or line i 0 ≡ 32 → span (drop i line) ≡ 0
unfolding span
span_blank line i h e = rw (drop-cons line i 0 h, e)

pub span_more : (line : List ℕ) (i : ℕ) → i < length line → (get_or line i 0 ≡ 32 → ⊥) → span (drop i line) ≡ span (drop (i + 1) line) + 1
unfolding span
span_more line i h e = rw (drop-cons line i 0 h, ne_eqb (get_or line i 0) 32 e, add-one i, add-one)

pub span_past : (line : List ℕ) (i : ℕ) → length line ≤ i → span (drop i line) ≡ 0
unfolding span
span_past line i h = rw (drop_of_length-le line {i = i} h)

pub ruleset spans = (span_blank, span_more, span_past)

-- A phrase kind's number and the kind of a number undo one another.
use Prim.Native.Nat.{ℕ, ◌≤◌, ◌<◌}
use mathlib.Core.Path.{◌≡◌, refl, sym, ap, ◌∙◌}
use native.Mathlib.Omega.{arith}
use native.Mathlib.Decide.{dec_lt}
use lib.ListN.{get_or-eq_default}
use Rattle.std.specs.Prelude.{Option, Some, None}
use Rattle.records.specs.PhraseNumbers.{phrase_number, phrase_kinds, phrase_kind_of}
use Rattle.records.specs.declared.phrase_kind.PhraseKind.{PhraseKind}
use Rattle.records.specs.declared.phrase_kind.PhraseKind.TheVariants.{Proposition, Variable, Constructor, Rule, Function, Method, Call, Let, Fix, Match, MethodCall, Assume, Suppose, DLet, By, Block, DMatch}
use Rattle.records.proofs.ByKind.{Each, each_at}

pub phrase_found : (k : PhraseKind) → phrase_kind_of (phrase_number k) ≡ Some k
phrase_found Proposition = refl
phrase_found Variable = refl
phrase_found Constructor = refl
phrase_found Rule = refl
phrase_found Function = refl
phrase_found Method = refl
phrase_found Call = refl
phrase_found Let = refl
phrase_found Fix = refl
phrase_found Match = refl
phrase_found MethodCall = refl
phrase_found Assume = refl
phrase_found Suppose = refl
phrase_found DLet = refl
phrase_found By = refl
phrase_found Block = refl
phrase_found DMatch = refl

-- a kind's number, and n where there is no kind
abbrev number_or : ℕ → Option PhraseKind → ℕ
number_or n None = n
number_or n (Some k) = phrase_number k

-- past the kinds there is none
past_kinds : (n : ℕ) → 23 ≤ n → phrase_kind_of n ≡ None
past_kinds n h = get_or-eq_default phrase_kinds None {n = n} h

-- a number that is a kind's is its kind's
abbrev Numbered : ℕ → Type 0
Numbered n = number_or n (phrase_kind_of n) ≡ n

numbered : (n : ℕ) → Numbered n
numbered n = go (dec_lt n 23)
  where
    kinds : Each Numbered 0 23
    kinds = (refl, (refl, (refl, (refl, (refl, (refl, (refl, (refl, (refl, (refl, (refl, (refl, (refl, (refl, (refl, (refl, (refl, (refl, (refl, (refl, (refl, (refl, (refl, tt)))))))))))))))))))))))

    go : Dec (n < 23) → Numbered n
    go (yes h) = each_at Numbered 0 23 kinds n (omega arith) h
    go (no h) = let l : 23 ≤ n = omega arith in ap (number_or n) (past_kinds n l)

-- a number whose kind is j is the number of j
pub phrase_is : (n : ℕ) (o : Option PhraseKind) (k j : PhraseKind) → o ≡ phrase_kind_of n → o ≡ Some k → k ≡ j → n ≡ phrase_number j
phrase_is n o k j e f g = sym (numbered n) ∙ (ap (number_or n) (sym e ∙ f) ∙ ap phrase_number g)

-- a number whose kind is not j is not the number of j
pub phrase_not : (n : ℕ) (o : Option PhraseKind) (j : PhraseKind) → o ≡ phrase_kind_of n → (o ≡ Some j → ⊥) → n ≡ phrase_number j → ⊥
phrase_not n o j e f g = f (e ∙ (ap phrase_kind_of g ∙ phrase_found j))

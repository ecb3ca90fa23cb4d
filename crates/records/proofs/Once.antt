-- What a record's reading answers and leaves is determined.
use Prim.Native.Nat.{ℕ}
use mathlib.Core.Path.{◌≡◌, sym, ap, ◌∙◌}
use mathlib.Core.List.{List}
use Rattle.std.specs.Prelude.{Result, Ok, Err}
use Rattle.language.specs.Numbers.{Got}
use Rattle.language.specs.Numbered.{number_of}
use Rattle.language.specs.declared.refusal.Refusal.{Refusal}
use Rattle.theorems.proofs.Lists.{clash}
use Rattle.theorems.proofs.Refusals.{refusal_once}
use Rattle.records.specs.Answers.{ends, Put}

-- two answers that stand for one ending are one
pub ends_once : (r r' : Result ℕ Refusal) → ends r ≡ ends r' → r ≡ r'
ends_once (Ok p) (Ok q) e = let a : p ≡ q = cc in ap Ok a
ends_once (Ok p) (Err y) e = absurd (clash cc)
ends_once (Err x) (Ok q) e = absurd (clash cc)
ends_once (Err x) (Err y) e =
    let a : number_of x.0 ≡ number_of y.0 = cc in
    let b : x.1 ≡ y.1 = cc in
    ap Err (refusal_once x y a b)

pub put_once : (w : ℕ) (g : Got (List ℕ)) (r r' : Result ℕ Refusal) (at : ℕ) (t₀ t t' : List ℕ) → Put w g r at t₀ t → Put w g r' at t₀ t' → (r ≡ r') × (t ≡ t')
put_once w g r r' at t₀ t t' P Q = (ends_once r r' (P.ended ∙ sym Q.ended), P.table ∙ sym Q.table)

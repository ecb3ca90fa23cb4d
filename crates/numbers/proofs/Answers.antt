-- What a reading answers is determined: two answers that stand for one result of the definition are one. So is a cursor, by its bytes and its place.
use Prim.Native.Nat.{ℕ}
use mathlib.Core.List.{List}
use mathlib.Core.Path.{◌≡◌, sym, ap, ◌∙◌}
use denote.Ref.{Bor}
use Rattle.std.specs.Prelude.{Result, Ok, Err}
use Rattle.language.specs.Numbered.{number_of}
use Rattle.language.specs.declared.refusal.Refusal.{Refusal}
use Rattle.theorems.proofs.Lists.{clash}
use Rattle.theorems.proofs.Refusals.{refusal_once}
use Rattle.numbers.specs.declared.Cursor.{Cursor}
use Rattle.numbers.specs.Gotten.{gotten}

pub gotten_once : (r r' : Result (ℕ × ℕ) Refusal) → gotten r ≡ gotten r' → r ≡ r'
gotten_once (Ok p) (Ok q) e = let a : p.0 ≡ q.0 = cc in let b : p.1 ≡ q.1 = cc in λ i. Ok (a i, b i)
gotten_once (Ok p) (Err y) e = absurd (clash cc)
gotten_once (Err x) (Ok q) e = absurd (clash cc)
gotten_once (Err x) (Err y) e =
    let a : number_of x.0 ≡ number_of y.0 = cc in
    let b : x.1 ≡ y.1 = cc in
    ap Err (refusal_once x y a b)

pub cursor_once : (s : Bor (List ℕ)) (at : ℕ) (c c' : Cursor) → (c.src ≡ s) × (c.at ≡ at) → (c'.src ≡ s) × (c'.at ≡ at) → c ≡ c'
cursor_once s at c c' e e' = λ i. record { src = (e.0 ∙ sym e'.0) i; at = (e.1 ∙ sym e'.1) i }

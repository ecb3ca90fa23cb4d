-- A certificate's bytes on a line: the first, the others each after a blank, the line's end.
use Prim.Native.Nat.{ℕ, suc}
use native.Mathlib.Omega.{arith}
use mathlib.Core.Path.{◌≡◌, refl, ap, ◌∙◌}
use mathlib.Core.List.{List, [], ◌∷◌, ◌++◌}
use lib.ListN.{length, get_or, take, drop}
use lib.Seq.{take_all}
use Rattle.wording.specs.Page.{Page, write}
use Rattle.wording.specs.Text.{text, decimal, listed}
use Rattle.wording.specs.Answers.{bytes_text}
use Rattle.wording.proofs.Writing.{both}

pub bytes_none : (s : List ℕ) (p r : Page) → length s ≡ 0 → r ≡ write (text "\n") p → r ≡ write (bytes_text s) p
unfolding bytes_text
bytes_none [] p r e w = w
bytes_none (b ∷ bs) p r e w = absurd (omega arith)

pub bytes_some : (s : List ℕ) (b : ℕ) (p q q' r : Page) → (length s ≡ 0 → ⊥) → b ≡ get_or s 0 0 → q ≡ write (decimal b) p →
    q' ≡ write (listed (take (length s) (drop 1 s))) q → r ≡ write (text "\n") q' → r ≡ write (bytes_text s) p
unfolding bytes_text
bytes_some [] b p q q' r z e u v w = absurd (z refl)
bytes_some (x ∷ xs) b p q q' r z e u v w =
    let all : take (suc (length xs)) xs ≡ xs = take_all (suc (length xs)) xs (omega arith) in
    let v' : q' ≡ write (listed xs) q = v ∙ ap (λ (l : List ℕ). write (listed l) q) all in
    rw (← e) (both (decimal b) (listed xs ++ text "\n") p q r u (both (listed xs) (text "\n") q q' r v' w))

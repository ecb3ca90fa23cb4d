-- Answers put together: one text after another, by the tests on the way.
use Prim.Native.Nat.{ℕ, ◌-◌, ◌≤◌, ◌<◌}
use mathlib.Core.Path.{◌≡◌, ◌∙◌}
use mathlib.Core.List.{List, ◌++◌, append-nil}
use lib.ListN.{length, take, drop}
use lib.Dec.{ltb}
use borrow.Author.Tests.{lt-ltb, le-ltb, le-leb, lt-leb}
use Rattle.wording.specs.Page.{Page, write}
use Rattle.wording.specs.Text.{text, listed}
use Rattle.wording.specs.Answers.{refused_text, dots_text, here_text, around_text, sheet_text, certificate_text, falls_text, fails_text}
use Rattle.wording.proofs.Writing.{both}

-- three texts
pub three : (xs ys zs : List ℕ) (p q q' r : Page) → q ≡ write xs p → q' ≡ write ys q → r ≡ write zs q' → r ≡ write (xs ++ (ys ++ zs)) p
three xs ys zs p q q' r u v w = both xs (ys ++ zs) p q r u (both ys zs q q' r v w)

module _ (s : List ℕ) (place from : ℕ) (e : from ≡ place - 8) (p q q' r : Page) (u : q ≡ write (dots_text (ltb 8 place)) p)
    (v : q' ≡ write (listed (take (place - from) (drop from s))) q) where
  pub around_here : place < length s → r ≡ write (here_text s place) q' → r ≡ write (around_text s place) p
  unfolding around_text
  around_here h w = rw (← e, lt-ltb place (length s) h) (three _ _ _ p q q' r u v w)

  pub around_end : length s ≤ place → r ≡ write (text " [end]") q' → r ≡ write (around_text s place) p
  unfolding around_text
  around_end h w = rw (← e, le-ltb place (length s) h) (three _ _ _ p q q' r u v w)

-- a refusal and its place
module _ (sheet certificate : List ℕ) (number place : ℕ) (p q r : Page) (u : q ≡ write (refused_text number) p) where
  pub falls_sheet : 3 ≤ number → number ≤ 7 → r ≡ write (sheet_text sheet place) q → r ≡ write (falls_text sheet certificate number place) p
  unfolding falls_text
  falls_sheet h l w = rw (le-leb 3 number h, le-leb number 7 l) (both _ _ p q r u w)

  pub falls_certificate : 3 ≤ number → 7 < number → r ≡ write (certificate_text certificate place) q → r ≡ write (falls_text sheet certificate number place) p
  unfolding falls_text
  falls_certificate h l w = rw (le-leb 3 number h, lt-leb number 7 l) (both _ _ p q r u w)

  pub falls_nowhere : number < 3 → r ≡ q → r ≡ write (falls_text sheet certificate number place) p
  unfolding falls_text
  falls_nowhere h w = rw (lt-leb 3 number h, append-nil (refused_text number)) (w ∙ u)

  pub fails_sheet : 3 ≤ number → number ≤ 7 → r ≡ write (sheet_text sheet place) q → r ≡ write (fails_text sheet number place) p
  unfolding fails_text
  fails_sheet h l w = rw (le-leb 3 number h, le-leb number 7 l) (both _ _ p q r u w)

  pub fails_high : 3 ≤ number → 7 < number → r ≡ q → r ≡ write (fails_text sheet number place) p
  unfolding fails_text
  fails_high h l w = rw (le-leb 3 number h, lt-leb number 7 l, append-nil (refused_text number)) (w ∙ u)

  pub fails_low : number < 3 → r ≡ q → r ≡ write (fails_text sheet number place) p
  unfolding fails_text
  fails_low h w = rw (lt-leb 3 number h, append-nil (refused_text number)) (w ∙ u)

-- The starred cases on the bench: one table, one theorem, by computation.
use Rattle.std.specs.Prelude.{ℕ, ◌≡◌, refl, List, [], ◌∷◌, get_or}
use Rattle.language.specs.Form.{Form, conj, disj, cond, atom, verum, neg, bin}
use Rattle.language.specs.Numbers.{Got, got, no}
use Rattle.language.specs.Answer.{Answer, accepted, refused, answer}
use Rattle.language.specs.Check.{Certificate, certificate_at, Verdict, stands, verdict}

infixr 5 ◌∶◌
abbrev pub ◌∶◌ : ℕ → List ℕ → List ℕ
◌∶◌ a b = a ∷ b

-- what a case comes to: refused; or accepted, with the verdict on the certificate alone against the sheet, and the conclusion it states
pub data Outcome : Type 0 where
  refuses : ℕ → ℕ → Outcome
  accepts : List ℕ → ℕ → ℕ → Verdict → Form → Outcome

pub record Case : Type 0 where
  pub sheet : List ℕ
  pub budget : ℕ
  pub room : ℕ
  pub expected : Outcome

abbrev pub case : List ℕ → ℕ → ℕ → Outcome → Case
case s b r x = record { sheet = s; budget = b; room = r; expected = x }

-- the proposition that a certificate's bytes conclude
unfoldable pub concludes : Got Certificate → Form
concludes (got c end) = get_or c.forms c.conclusion verum
concludes (no n p) = verum

unfoldable pub outcome : List ℕ → Answer → Outcome
unfolding verdict concludes certificate_at
outcome s (refused n p) = refuses n p
outcome s (accepted bytes w i) = accepts bytes w i (verdict s bytes) (concludes (certificate_at bytes))

abbrev pub A : Form
A = atom 0

abbrev pub B : Form
B = atom 1

-- base {A∧B}, the block left-and; right-and; both B A
abbrev pub c1 : List ℕ
c1 = 3 ∶ 0 ∶ 0 ∶ 0 ∶ 1 ∶ 4 ∶ 0 ∶ 1 ∶ 0 ∶ 10 ∶ 3 ∶ 5 ∶ 3 ∶ 6 ∶ 3 ∶ 4 ∶ 0 ∶ 2 ∶ 0 ∶ 1 ∶ 0 ∶ 0 ∶ 16 ∶ 0 ∶ 1 ∶ 3 ∶ 16 ∶ 1 ∶ 1 ∶ 3 ∶ 16 ∶ 2 ∶ 2 ∶ 4 ∶ 5 ∶ 21 ∶ 3 ∶ 6 ∶ 7 ∶ 8 ∶ 1 ∶ 2 ∶ 9 ∶ []

abbrev pub c1_certificate : List ℕ
c1_certificate = 4 ∶ 0 ∶ 0 ∶ 0 ∶ 1 ∶ 4 ∶ 0 ∶ 1 ∶ 4 ∶ 1 ∶ 0 ∶ 1 ∶ 0 ∶ 5 ∶ 2 ∶ 1 ∶ 0 ∶ 6 ∶ 2 ∶ 0 ∶ 4 ∶ 1 ∶ 0 ∶ 3 ∶ []

-- method P: assume P in suppose-absurd ¬P in absurd P, ¬P, called on A∨B, empty base
abbrev pub c4 : List ℕ
c4 = 3 ∶ 0 ∶ 0 ∶ 0 ∶ 1 ∶ 5 ∶ 0 ∶ 1 ∶ 0 ∶ 10 ∶ 1 ∶ 0 ∶ 2 ∶ 0 ∶ 6 ∶ 1 ∶ 1 ∶ 0 ∶ 3 ∶ 14 ∶ 16 ∶ 3 ∶ 2 ∶ 0 ∶ 2 ∶ 18 ∶ 2 ∶ 4 ∶ 17 ∶ 0 ∶ 5 ∶ 5 ∶ 1 ∶ 6 ∶ 0 ∶ 2 ∶ 16 ∶ 7 ∶ 1 ∶ 8 ∶ 0 ∶ 9 ∶ []

abbrev pub c4_certificate : List ℕ
c4_certificate = 9 ∶ 0 ∶ 0 ∶ 0 ∶ 1 ∶ 5 ∶ 0 ∶ 1 ∶ 3 ∶ 2 ∶ 2 ∶ 6 ∶ 3 ∶ 4 ∶ 3 ∶ 4 ∶ 3 ∶ 3 ∶ 6 ∶ 2 ∶ 7 ∶ 2 ∶ 2 ∶ 1 ∶ 2 ∶ 3 ∶ 0 ∶ 14 ∶ 2 ∶ 3 ∶ 1 ∶ 0 ∶ 15 ∶ 0 ∶ 2 ∶ 5 ∶ 6 ∶ 8 ∶ []

-- claim A, empty base
abbrev pub c5 : List ℕ
c5 = 1 ∶ 0 ∶ 0 ∶ 0 ∶ 3 ∶ 3 ∶ 0 ∶ 0 ∶ 0 ∶ 16 ∶ 0 ∶ 1 ∶ 1 ∶ 0 ∶ 2 ∶ []

-- claim A∨A, base {A}
abbrev pub c6 : List ℕ
c6 = 2 ∶ 0 ∶ 0 ∶ 5 ∶ 0 ∶ 0 ∶ 0 ∶ 3 ∶ 3 ∶ 0 ∶ 0 ∶ 1 ∶ 16 ∶ 0 ∶ 1 ∶ 1 ∶ 1 ∶ 0 ∶ 2 ∶ []

-- left-and of A∨B, base {A∨B}
abbrev pub c7 : List ℕ
c7 = 3 ∶ 0 ∶ 0 ∶ 0 ∶ 1 ∶ 5 ∶ 0 ∶ 1 ∶ 0 ∶ 3 ∶ 3 ∶ 5 ∶ 0 ∶ 2 ∶ 16 ∶ 0 ∶ 1 ∶ 1 ∶ 1 ∶ 2 ∶ 2 ∶ []

-- B by left-and A∧B, base {A∧B}
abbrev pub c8 : List ℕ
c8 = 3 ∶ 0 ∶ 0 ∶ 0 ∶ 1 ∶ 4 ∶ 0 ∶ 1 ∶ 0 ∶ 5 ∶ 3 ∶ 5 ∶ 0 ∶ 2 ∶ 16 ∶ 0 ∶ 1 ∶ 1 ∶ 0 ∶ 1 ∶ 20 ∶ 3 ∶ 2 ∶ 1 ∶ 2 ∶ 4 ∶ []

-- block (assume A in claim A); claim A, empty base
abbrev pub c9 : List ℕ
c9 = 1 ∶ 0 ∶ 0 ∶ 0 ∶ 5 ∶ 3 ∶ 0 ∶ 0 ∶ 0 ∶ 16 ∶ 0 ∶ 1 ∶ 1 ∶ 17 ∶ 1 ∶ 2 ∶ 21 ∶ 2 ∶ 3 ∶ 2 ∶ 0 ∶ 4 ∶ []

-- left-and of the deduction right-and, base {A∧(B∧C)}; the base's member is listed apart from the argument's, with the same shape
abbrev pub c10 : List ℕ
c10 = 10 ∶ 0 ∶ 0 ∶ 0 ∶ 1 ∶ 0 ∶ 2 ∶ 4 ∶ 1 ∶ 2 ∶ 4 ∶ 0 ∶ 3 ∶ 0 ∶ 0 ∶ 0 ∶ 1 ∶ 0 ∶ 2 ∶ 4 ∶ 6 ∶ 7 ∶ 4 ∶ 5 ∶ 8 ∶ 0 ∶ 5 ∶ 3 ∶ 6 ∶ 0 ∶ 4 ∶ 16 ∶ 0 ∶ 1 ∶ 1 ∶ 3 ∶ 5 ∶ 16 ∶ 3 ∶ 1 ∶ 2 ∶ 1 ∶ 9 ∶ 4 ∶ []

abbrev pub c10_certificate : List ℕ
c10_certificate = 5 ∶ 0 ∶ 0 ∶ 0 ∶ 1 ∶ 0 ∶ 2 ∶ 4 ∶ 1 ∶ 2 ∶ 4 ∶ 0 ∶ 3 ∶ 1 ∶ 0 ∶ 6 ∶ 4 ∶ 0 ∶ 5 ∶ 3 ∶ 1 ∶ []

-- C1 to C10: sheet, budget, room, and what comes of it
abbrev pub table : List Case
table =
    case c1 11 24 (accepts c1_certificate 11 3 (stands 3 3) (bin conj B A))
    ∷ (case c1 10 24 (refuses 8 5)
    ∷ (case c1 11 23 (refuses 18 0)
    ∷ (case c4 1024 64 (accepts c4_certificate 15 3 (stands 8 3) (bin cond (bin disj A B) (neg (neg (bin disj A B)))))
    ∷ (case c5 1024 64 (refuses 14 2)
    ∷ (case c6 1024 64 (refuses 14 2)
    ∷ (case c7 1024 64 (refuses 13 2)
    ∷ (case c8 1024 64 (refuses 15 4)
    ∷ (case c9 1024 64 (refuses 14 2)
    ∷ (case c10 1024 64 (accepts c10_certificate 5 2 (stands 1 2) B)
    ∷ [])))))))))

unfoldable pub outcomes : List Case → List Outcome
unfolding outcome answer
outcomes [] = []
outcomes (c ∷ cs) = outcome c.sheet (answer c.sheet c.budget c.room) ∷ outcomes cs

unfoldable pub expectations : List Case → List Outcome
expectations [] = []
expectations (c ∷ cs) = c.expected ∷ expectations cs

-- each case comes to what document 01 says of it
pub cases_hold : outcomes table ≡ expectations table
unfolding outcomes expectations
cases_hold = refl

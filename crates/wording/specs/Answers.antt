-- The answers in words.
use Rattle.std.specs.Prelude.{ℕ, suc, ◌+◌, ◌-◌, List, [], ◌∷◌, ◌++◌, Bool, true, false, length, get_or, take, drop, ltb, leb, eqb}
use Rattle.language.specs.declared.Work.{Work}
use Rattle.language.specs.declared.Inferences.{Inferences}
use Rattle.wording.specs.Page.{pick}
use Rattle.wording.specs.Text.{text, decimal, listed, piece}
use Rattle.wording.specs.Tables.{kinds, troubles}
use Rattle.wording.specs.Templates.{filled}

-- an evaluation that is accepted
unfoldable pub accepted_text : ℕ → Work → Inferences → List ℕ
unfolding text
accepted_text long work inferences = filled (0 ∷ long ∷ work.0 ∷ inferences.0 ∷ []) (text "ACCEPTED with a certificate of 1 bytes, work 2, inferences 3\n")

-- a check that is accepted
unfoldable pub stands_text : ℕ → ℕ → Inferences → List ℕ
unfolding text
stands_text long conclusion inferences = filled (0 ∷ long ∷ conclusion ∷ inferences.0 ∷ []) (text "ACCEPTED with conclusion 2, inferences 3, in a certificate of 1 bytes\n")

-- a refusal's number and its words
unfoldable pub refused_text : ℕ → List ℕ
unfolding text
refused_text number = filled (0 ∷ number ∷ []) (text "REFUSED 1: 9\n")

-- a mark for what is left out
unfoldable pub dots_text : Bool → List ℕ
unfolding text
dots_text true = text " .."
dots_text false = []

-- the byte at a place that there is, marked, with those after it
unfoldable pub here_text : List ℕ → ℕ → List ℕ
unfolding text dots_text
here_text s place =
    filled (0 ∷ get_or s place 0 ∷ []) (text " [1]") ++ (listed (take 8 (drop (place + 1) s)) ++ dots_text (ltb 9 (length s - place)))

-- the bytes around a place, at most eight on either side; past the last byte stands the end
unfoldable pub around_text : List ℕ → ℕ → List ℕ
unfolding text dots_text here_text
around_text s place =
    dots_text (ltb 8 place)
    ++ (listed (take (place - (place - 8)) (drop (place - 8) s)) ++ pick (ltb place (length s)) (here_text s place) (text " [end]"))

-- a place in the sheet's bytes, in a certificate's
unfoldable pub sheet_text : List ℕ → ℕ → List ℕ
unfolding text around_text
sheet_text s place = filled (0 ∷ place ∷ []) (text "at byte 1 of the sheet:") ++ (around_text s place ++ text "\n")

unfoldable pub certificate_text : List ℕ → ℕ → List ℕ
unfolding text around_text
certificate_text s place = filled (0 ∷ place ∷ []) (text "at byte 1 of the certificate:") ++ (around_text s place ++ text "\n")

-- the first place of a number in a list; the list's length where it has none
unfoldable pub first_at : List ℕ → ℕ → ℕ
first_at [] w = 0
first_at (x ∷ xs) w = pick (eqb x w) 0 (suc (first_at xs w))

-- a row's first operand: a proposition by its number in the sheet, the first of those equal to it; any other as it is
abbrev pub operand : List ℕ → List ℕ → ℕ
operand row names = pick (eqb (get_or row 0 0) 0) (first_at names (get_or row 1 0)) (get_or row 1 0)

-- a phrase's row as facts
abbrev pub facts_of : List ℕ → List ℕ → List ℕ
facts_of row names =
    get_or row 0 0 ∷ operand row names ∷ get_or row 2 0 ∷ get_or row 3 0 ∷ get_or row 4 0 ∷ get_or row 5 0 ∷ get_or row 6 0 ∷ get_or row 7 0 ∷ get_or row 8 0
    ∷ get_or row 9 0 ∷ get_or row 10 0 ∷ get_or row 11 0 ∷ []

-- a phrase by its number and its row
unfoldable pub phrase_text : List ℕ → List ℕ → ℕ → List ℕ
unfolding text
phrase_text row names k =
    filled (0 ∷ k ∷ []) (text "at phrase 1: ") ++ (filled (facts_of row names) (piece (get_or row 0 0) kinds) ++ text "\n")

-- a refused check: the refusal, and its place in the bytes that it is about
unfoldable pub falls_text : List ℕ → List ℕ → ℕ → ℕ → List ℕ
unfolding refused_text sheet_text certificate_text
falls_text sheet certificate number place =
    refused_text number
    ++ pick (leb 3 number) (pick (leb number 7) (sheet_text sheet place) (certificate_text certificate place)) []

-- a refused evaluation whose place is no phrase
unfoldable pub fails_text : List ℕ → ℕ → ℕ → List ℕ
unfolding refused_text sheet_text
fails_text sheet number place = refused_text number ++ pick (leb 3 number) (pick (leb number 7) (sheet_text sheet place) []) []

-- a certificate's bytes in decimal, on a line
unfoldable pub bytes_text : List ℕ → List ℕ
unfolding text
bytes_text [] = text "\n"
bytes_text (b ∷ bs) = decimal b ++ (listed bs ++ text "\n")

-- what keeps a request from being answered, with a line and a column
unfoldable pub trouble_text : ℕ → ℕ → ℕ → List ℕ
trouble_text which line column = filled (0 ∷ line ∷ column ∷ 255 ∷ []) (piece which troubles)

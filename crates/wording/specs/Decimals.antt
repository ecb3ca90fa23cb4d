-- Bytes written in decimal, with white space between them and around them, as document 01 writes them. A text may come in pieces, one after another.
use Rattle.std.specs.Prelude.{ℕ, ◌+◌, ◌-◌, ◌*◌, ◌≡◌, List, [], ◌∷◌, ◌++◌, Bool, ◌||◌, ltb, leb, eqb, Result, Ok, Err}
use Rattle.wording.specs.Page.{page, pick, write}
use Rattle.wording.specs.declared.Scan.{Scan}
use Rattle.wording.specs.declared.Reading.{Reading}
use Rattle.wording.specs.declared.Fault.{Fault}
use Rattle.wording.specs.declared.Fault.TheVariants.{Stray, Over}

-- what a text says so far
abbrev pub SoFar : Type 0
SoFar = Result Scan Fault

-- a blank, a tab, a line's end
abbrev pub white : ℕ → Bool
white c = eqb c 32 || (eqb c 9 || (eqb c 10 || eqb c 13))

-- one more, as far as 64 bits go
abbrev pub up : ℕ → ℕ
up n = pick (ltb n 18446744073709551615) (n + 1) n

-- past white space no number is begun; past a line's end stands the next line
abbrev pub spaced : Scan → ℕ → Scan
spaced s c = record { value = 0; digits = 0; line = pick (eqb c 10) (up s.line) s.line; column = pick (eqb c 10) 1 (up s.column) }

-- the number begun, with a digit's character more
abbrev pub grown : ℕ → ℕ → ℕ
grown v c = 10 * v + (c - 48)

-- a digit makes the number longer; a number over 255 is wrong where it begins
abbrev pub digit : Scan → ℕ → SoFar
digit s c =
    pick (leb (grown s.value c) 255) (Ok (record { value = grown s.value c; digits = up s.digits; line = s.line; column = up s.column }))
    (Err (Over s.line (s.column - s.digits)))

-- any other character is wrong
abbrev pub other : Scan → ℕ → SoFar
other s c = pick (leb 48 c) (pick (leb c 57) (digit s c) (Err (Stray s.line s.column))) (Err (Stray s.line s.column))

abbrev pub turn : Scan → ℕ → SoFar
turn s c = pick (white c) (Ok (spaced s c)) (other s c)

-- what is said with a character more; after a fault nothing changes it
abbrev pub next : ℕ → SoFar → SoFar
next c (Ok s) = turn s c
next c (Err fault) = Err fault

-- the byte that is complete, where a number is begun
abbrev pub ended : Scan → List ℕ
ended s = pick (eqb s.digits 0) [] (s.value ∷ [])

-- white space ends a number
abbrev pub ends : ℕ → SoFar → List ℕ
ends c (Ok s) = pick (white c) (ended s) []
ends c (Err fault) = []

-- what is said after a piece of a text, and the bytes that it ends
unfoldable pub heard : List ℕ → SoFar → SoFar
heard [] d = d
heard (c ∷ cs) d = heard cs (next c d)

unfoldable pub spoken : List ℕ → SoFar → List ℕ
spoken [] d = []
spoken (c ∷ cs) d = ends c d ++ spoken cs (next c d)

-- before a text's first character
abbrev pub unread : Reading
unread = record { said = Ok (record { value = 0; digits = 0; line = 1; column = 1 }); bytes = 0 }

-- what reading a piece answers, and the page of bytes after it
pub record Reads (piece : List ℕ) (x r : Reading) (t₀ t : List ℕ) : Type 0 where
  pub answer : r.said ≡ heard piece x.said
  pub bytes : page t r.bytes ≡ write (spoken piece x.said) (page t₀ x.bytes)

-- a whole text, white space after it: what it says, and its bytes
unfoldable pub said : List ℕ → SoFar
unfolding heard
said text = heard (text ++ (32 ∷ [])) unread.said

unfoldable pub bytes_of : List ℕ → List ℕ
unfolding spoken
bytes_of text = spoken (text ++ (32 ∷ [])) unread.said

-- A line of text: its fields, cut at blanks, and bytes written in hexadecimal.
use Rattle.std.specs.Prelude.{ℕ, suc, ◌+◌, ◌-◌, ◌*◌, ◌/◌, ◌%◌, List, [], ◌∷◌, ◌++◌, Bool, true, false, length, get_or, ltb, leb, eqb, cond, ◌≡◌, Option, Some, None}
use Rattle.words.specs.Front.{front}

-- the first where a test holds, else the second
abbrev pub pick : {A : Type 0} → Bool → A → A → A
pick test a b = cond test a b

-- how many characters come before the first blank
unfoldable pub span : List ℕ → ℕ
span [] = 0
span (c ∷ cs) = pick (eqb c 32) 0 (suc (span cs))

-- a hexadecimal digit's value, 0 to 9 and a to f
abbrev pub letter : ℕ → Option ℕ
letter c = pick (leb 97 c) (pick (leb c 102) (Some (c - 87)) None) None

abbrev pub nibble : ℕ → Option ℕ
nibble c = pick (leb 48 c) (pick (leb c 57) (Some (c - 48)) (letter c)) None

-- two digits' byte
abbrev pub byte_of : Option ℕ → Option ℕ → Option ℕ
byte_of (Some h) (Some l) = Some (16 * h + l)
byte_of (Some h) None = None
byte_of None l = None

-- the byte of the two digits at a place
abbrev pub pair_at : List ℕ → ℕ → Option ℕ
pair_at line at = byte_of (nibble (get_or line at 0)) (nibble (get_or line (at + 1) 0))

-- bytes read, and whether all could be
pub record Decoded : Type 0 where
  pub bytes : List ℕ
  pub whole : Bool

-- a byte more, where there is one and room for it
abbrev pub decoded : (List ℕ → Decoded) → List ℕ → Option ℕ → Bool → Decoded
decoded rest done (Some b) true = rest (done ++ (b ∷ []))
decoded rest done (Some b) false = record { bytes = done; whole = false }
decoded rest done None room = record { bytes = done; whole = false }

-- n pairs of digits from a place on, as long as they are digits and there is room
unfoldable pub decoding : List ℕ → ℕ → ℕ → ℕ → List ℕ → Decoded
decoding line room ℕ.zero at done = record { bytes = done; whole = true }
decoding line room (ℕ.suc n) at done = decoded (decoding line room n (at + 2)) done (pair_at line at) (ltb (length done) room)

-- the field from a place to another: a dash for no bytes, or pairs of digits
unfoldable pub field : List ℕ → ℕ → ℕ → ℕ → Decoded
field line room from to =
    let none : Bool → Decoded = λ whole. record { bytes = []; whole = whole } in
    pick (ltb from to)
    (pick (eqb (to - from) 1)
    (pick (eqb (get_or line from 0) 45) (none true) (none false))
    (pick (eqb ((to - from) % 2) 0) (decoding line room ((to - from) / 2) from []) (none false)))
    (none false)

-- how many bytes there are, where all could be read
abbrev pub told : ℕ → Bool → Option ℕ
told n true = Some n
told n false = None

-- what reading answers, and the buffer after it
pub record Reads (d : Decoded) (r : Option ℕ) (t₀ t : List ℕ) : Type 0 where
  pub answer : r ≡ told (length d.bytes) d.whole
  pub bytes : t ≡ front d.bytes t₀

-- How long a sheet, a certificate, and the certificate of an evaluation can be; and that what is past the longest cannot matter.
use Rattle.std.specs.Prelude.{ℕ, ◌≤◌, ◌<◌, ◌≡◌, List, length, take}
use Rattle.language.specs.Syntax.{Sheet}
use Rattle.language.specs.Numbers.{got}
use Rattle.language.specs.Read.{sheet}
use Rattle.language.specs.Check.{Certificate, certificate_at, verdict}
use Rattle.language.specs.Answer.{answer, accepted}

-- a sheet that reads
unfoldable pub LongestSheet : Type 0
LongestSheet = (s : List ℕ) (S : Sheet) (end : ℕ) → sheet s ≡ got S end → length s ≤ 12297

-- a certificate that reads
unfoldable pub LongestCertificate : Type 0
LongestCertificate = (s : List ℕ) (C : Certificate) (end : ℕ) → certificate_at s ≡ got C end → length s ≤ 80388

-- the certificate of an accepted sheet, whatever the budget and the room
unfoldable pub LongestAccepted : Type 0
LongestAccepted = (s : List ℕ) (budget room : ℕ) (bytes : List ℕ) (w i : ℕ) → answer s budget room ≡ accepted bytes w i → length bytes ≤ 47612

-- a front that is longer than any sheet reads as the whole: the same sheet, or the same number and place
unfoldable pub SheetFront : Type 0
SheetFront = (s : List ℕ) (n : ℕ) → 12297 < n → sheet (take n s) ≡ sheet s

-- the same of a certificate
unfoldable pub CertificateFront : Type 0
CertificateFront = (s : List ℕ) (n : ℕ) → 80388 < n → certificate_at (take n s) ≡ certificate_at s

-- so it is answered as the whole
unfoldable pub AnswerFront : Type 0
AnswerFront = (s : List ℕ) (n budget room : ℕ) → 12297 < n → answer (take n s) budget room ≡ answer s budget room

-- and a certificate's front against a sheet's gets the verdict of the whole against the whole
unfoldable pub VerdictFront : Type 0
VerdictFront = (s bytes : List ℕ) (n m : ℕ) → 12297 < n → 80388 < m → verdict (take n s) (take m bytes) ≡ verdict s bytes

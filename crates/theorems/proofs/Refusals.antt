-- A refusal's number tells which refusal it is, so that an answer in numbers is one answer.
use Prim.Native.Nat.{ℕ}
use mathlib.Core.Path.{◌≡◌, refl, sym, ap, ◌∙◌}
use mathlib.Core.List.{List, [], ◌∷◌}
use lib.ListN.{get_or}
use Rattle.theorems.proofs.Lists.{clash}
use Rattle.std.specs.Prelude.{Result, Ok, Err}
use Rattle.language.specs.Numbered.{number_of, numbered}
use Rattle.language.specs.declared.refusal.Refusal.{Refusal}
use Rattle.language.specs.declared.refusal.Why.{Why}
use Rattle.language.specs.declared.refusal.Why.TheVariants.{BudgetOver, ScratchShort, BytesEnd, NotShortest, OutOfRange, WrongReference, BytesAfter, BudgetSpent, TooDeep, NoBinding, WrongKind, WrongCount, WrongShapes, PremiseMissing, AnnouncedDiffers, NotFalse, NoClause, OutputShort, CertificateOver, StatedDiffers, BytesEndInCertificate, NotShortestInCertificate, OutOfRangeInCertificate, WrongReferenceInCertificate, BytesAfterInCertificate}

-- the refusals by their numbers; the first stands where there is none
abbrev by_number : List Why
by_number =
    BudgetOver ∷ (BudgetOver ∷ (ScratchShort ∷ (BytesEnd ∷ (NotShortest ∷ (
    OutOfRange ∷ (WrongReference ∷ (BytesAfter ∷ (BudgetSpent ∷ (TooDeep ∷ (
    NoBinding ∷ (WrongKind ∷ (WrongCount ∷ (WrongShapes ∷ (PremiseMissing ∷ (
    AnnouncedDiffers ∷ (NotFalse ∷ (NoClause ∷ (OutputShort ∷ (CertificateOver ∷ (
    StatedDiffers ∷ (BudgetOver ∷ (BudgetOver ∷ (BudgetOver ∷ (BudgetOver ∷ (
    BudgetOver ∷ (BudgetOver ∷ (BudgetOver ∷ (BudgetOver ∷ (BudgetOver ∷ (
    BudgetOver ∷ (BudgetOver ∷ (BudgetOver ∷ (BudgetOver ∷ (BudgetOver ∷ (
    BytesEndInCertificate ∷ (NotShortestInCertificate ∷ (OutOfRangeInCertificate ∷ (WrongReferenceInCertificate ∷ (BytesAfterInCertificate ∷ ([]))))))))))))))))))))))))))))))))))))))))

-- the refusal of a number
abbrev pub why_of : ℕ → Why
why_of n = get_or by_number n BudgetOver

pub found : (w : Why) → why_of (number_of w) ≡ w
found BudgetOver = refl
found ScratchShort = refl
found BytesEnd = refl
found NotShortest = refl
found OutOfRange = refl
found WrongReference = refl
found BytesAfter = refl
found BudgetSpent = refl
found TooDeep = refl
found NoBinding = refl
found WrongKind = refl
found WrongCount = refl
found WrongShapes = refl
found PremiseMissing = refl
found AnnouncedDiffers = refl
found NotFalse = refl
found NoClause = refl
found OutputShort = refl
found CertificateOver = refl
found StatedDiffers = refl
found BytesEndInCertificate = refl
found NotShortestInCertificate = refl
found OutOfRangeInCertificate = refl
found WrongReferenceInCertificate = refl
found BytesAfterInCertificate = refl

pub number_once : (w w' : Why) → number_of w ≡ number_of w' → w ≡ w'
number_once w w' e = sym (found w) ∙ ap why_of e ∙ found w'

pub refusal_once : (r r' : Refusal) → number_of r.0 ≡ number_of r'.0 → r.1 ≡ r'.1 → r ≡ r'
refusal_once r r' e f = λ i. (number_once r.0 r'.0 e i, f i)

pub numbered_once : {A : Type 0} (r r' : Result A Refusal) → numbered r ≡ numbered r' → r ≡ r'
numbered_once (Ok a) (Ok b) e = let f : a ≡ b = cc in ap Ok f
numbered_once (Ok a) (Err y) e = absurd (clash cc)
numbered_once (Err x) (Ok b) e = absurd (clash cc)
numbered_once (Err x) (Err y) e =
    let f : (number_of x.0, x.1) ≡ (number_of y.0, y.1) = cc in
    ap Err (refusal_once x y (ap (λ (p : ℕ × ℕ). p.0) f) (ap (λ (p : ℕ × ℕ). p.1) f))

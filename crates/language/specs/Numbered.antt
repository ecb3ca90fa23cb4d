-- The number of each refusal.
use Rattle.std.specs.Prelude.{ℕ, ◌+◌, Result, Ok, Err}
use Rattle.language.specs.Refusals.{budget_over, scratch_short, bytes_end, not_shortest, out_of_range, wrong_reference, bytes_after, budget_spent, too_deep, no_binding, wrong_kind, wrong_count, wrong_shapes, premise_missing, announced_differs, not_false, no_clause, output_short, certificate_over, stated_differs, in_certificate}
use Rattle.language.specs.declared.refusal.Refusal.{Refusal}
use Rattle.language.specs.declared.refusal.Why.{Why}
use Rattle.language.specs.declared.refusal.Why.TheVariants.{BudgetOver, ScratchShort, BytesEnd, NotShortest, OutOfRange, WrongReference, BytesAfter, BudgetSpent, TooDeep, NoBinding, WrongKind, WrongCount, WrongShapes, PremiseMissing, AnnouncedDiffers, NotFalse, NoClause, OutputShort, CertificateOver, StatedDiffers, BytesEndInCertificate, NotShortestInCertificate, OutOfRangeInCertificate, WrongReferenceInCertificate, BytesAfterInCertificate}

-- the number under which document 01 has it
abbrev pub number_of : Why → ℕ
number_of BudgetOver = budget_over
number_of ScratchShort = scratch_short
number_of BytesEnd = bytes_end
number_of NotShortest = not_shortest
number_of OutOfRange = out_of_range
number_of WrongReference = wrong_reference
number_of BytesAfter = bytes_after
number_of BudgetSpent = budget_spent
number_of TooDeep = too_deep
number_of NoBinding = no_binding
number_of WrongKind = wrong_kind
number_of WrongCount = wrong_count
number_of WrongShapes = wrong_shapes
number_of PremiseMissing = premise_missing
number_of AnnouncedDiffers = announced_differs
number_of NotFalse = not_false
number_of NoClause = no_clause
number_of OutputShort = output_short
number_of CertificateOver = certificate_over
number_of StatedDiffers = stated_differs
number_of BytesEndInCertificate = bytes_end + in_certificate
number_of NotShortestInCertificate = not_shortest + in_certificate
number_of OutOfRangeInCertificate = out_of_range + in_certificate
number_of WrongReferenceInCertificate = wrong_reference + in_certificate
number_of BytesAfterInCertificate = bytes_after + in_certificate

-- an answer whose refusal is its number and place
abbrev pub numbered : {A : Type 0} → Result A Refusal → Result A (ℕ × ℕ)
numbered (Ok a) = Ok a
numbered (Err r) = Err (number_of r.0, r.1)

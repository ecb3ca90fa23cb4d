-- The certificate written, or no room for it, as the definitions' answer.
use Rattle.std.specs.Prelude.{Option, Some, None, Result, Ok, Err}
use Prim.Native.Nat.{ℕ, ◌-◌}
use mathlib.Core.Path.{◌≡◌, refl, ◌∙◌}
use mathlib.Core.Bool.{Bool, true, false}
use mathlib.Core.List.{List}
use lib.ListN.{length}
use lib.Dec.{leb}
use Rattle.language.specs.Numbers.{pick}
use Rattle.language.specs.Plain.{inferences}
use Rattle.language.specs.Run.{Derived}
use Rattle.language.specs.Certificate.{certificate}
use Rattle.language.specs.Answer.{written}
use Rattle.language.specs.Doors.{evaluated_numbers, finished}
use Rattle.language.specs.declared.Accepted.{Accepted}
use Rattle.language.specs.declared.refusal.Refusal.{Refusal}
use Rattle.language.specs.declared.refusal.Why.TheVariants.{OutputShort}
use Rattle.certificates.specs.declared.Written.{Written}
use Rattle.certificates.specs.Certified.{Certified, Writes}
use Rattle.deductions.specs.Machine.{Progress}
use Rattle.evaluator.specs.Door.{Gives}
use Rattle.evaluator.specs.Parts.{Certifies}

-- the answer for what was written, so much work spent
unfoldable pub told : ℕ → Option Written → Result Accepted Refusal
told spent (Some w) = Ok (record { length = w.length; work = record { 0 = spent }; inferences = w.inferences })
told spent None = Err (record { 0 = OutputShort; 1 = 0 })

certified_gives : (d : Derived) (out₀ out : List ℕ) (spent : ℕ) (x : Option Written) → Certified d out₀ x out →
    Gives (written (length out₀) (certificate d) spent (inferences d.proof)) out₀ (told spent x) out
unfolding written pick told finished evaluated_numbers
certified_gives d out₀ out spent x C = by_room (leb (length (certificate d)) (length out₀)) refl
  where
    by_room : (b : Bool) → leb (length (certificate d)) (length out₀) ≡ b → Gives (written (length out₀) (certificate d) spent (inferences d.proof)) out₀ (told spent x) out
    by_room true e =
        let is : x ≡ Some (record { length = length (certificate d); inferences = record { 0 = inferences d.proof } }) = C.answer ∙ rw e in
        record { numbers = rw (e, is); output = C.output ∙ rw e }
    by_room false e =
        let is : x ≡ None = C.answer ∙ rw e in
        record { numbers = rw (e, is); output = C.output ∙ rw e }

module _ (forms tokens listing : List ℕ) (p : ℕ) (at : Progress) (budget : ℕ) (out₀ out : List ℕ) (x : Option Written)
    (W : Writes forms at.state.props tokens at.tokens p listing out₀ x out) where
  pub certifies : (r : Result Accepted Refusal) → r ≡ told (budget - at.state.remaining.0) x → Certifies forms tokens listing p at budget out₀ r out
  certifies r e = record { gives = λ y. rw e (certified_gives y.derived out₀ out (budget - at.state.remaining.0) x (W.certified y)) }

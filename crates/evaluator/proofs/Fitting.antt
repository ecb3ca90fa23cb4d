-- An accepted certificate is no longer than the output.
use Rattle.std.specs.Prelude.{Result, Ok}
use Prim.Native.Nat.{ℕ, ◌-◌, ◌≤◌}
use native.Mathlib.Omega.{arith}
use mathlib.Core.Path.{◌≡◌, refl, ap, subst}
use mathlib.Core.Bool.{Bool, true, false}
use mathlib.Core.List.{List, [], ◌∷◌}
use lib.ListN.{length}
use lib.Dec.{leb}
use borrow.Author.Tests.{leb-true}
use Rattle.language.specs.Refusals.{budget_over, scratch_short}
use Rattle.language.specs.Syntax.{Sheet}
use Rattle.language.specs.Numbers.{Got, got, no, pick}
use Rattle.language.specs.Read.{sheet}
use Rattle.language.specs.Plain.{inferences}
use Rattle.language.specs.Values.{Out, out, stop, empty}
use Rattle.language.specs.Run.{Derived, deduce}
use Rattle.language.specs.Certificate.{certificate}
use Rattle.language.specs.Answer.{Answer, accepted, refused, written, ended, started, answer}
use Rattle.language.specs.Doors.{evaluation_lengths, evaluated_numbers, enough, Evaluation, finished, evaluation}
use Rattle.language.specs.declared.Accepted.{Accepted}
use Rattle.language.specs.declared.refusal.Refusal.{Refusal}
use Rattle.theorems.proofs.Lists.{clash}
use Rattle.evaluator.specs.Door.{Evaluates}

-- an answer accepts no more bytes than there is room for
Fits : ℕ → Answer → Type 0
Fits room a = (bytes : List ℕ) (w i : ℕ) → a ≡ accepted bytes w i → length bytes ≤ room

refused_fits : (room n p : ℕ) → Fits room (refused n p)
unfolding Fits
refused_fits room n p bytes w i e = absurd (clash cc)

written_fits : (room : ℕ) (xs : List ℕ) (work rules : ℕ) → Fits room (written room xs work rules)
unfolding Fits written pick
written_fits room xs work rules bytes w i e = by_room (leb (length xs) room) refl e
  where
    by_room : (b : Bool) → leb (length xs) room ≡ b → pick b (accepted xs work rules) (refused 18 0) ≡ accepted bytes w i → length bytes ≤ room
    by_room true t f = let l = leb-true (length xs) room t in let same : xs ≡ bytes = cc in rw (← same) l
    by_room false t f = absurd (clash cc)

ended_fits : (budget room : ℕ) (o : Out Derived) → Fits room (ended budget room o)
unfolding ended
ended_fits budget room (stop n k) = refused_fits room n k
ended_fits budget room (out d w) = written_fits room (certificate d) (budget - w) (inferences d.proof)

started_fits : (budget room : ℕ) (g : Got Sheet) → Fits room (started budget room g)
unfolding started
started_fits budget room (no n p) = refused_fits room n p
started_fits budget room (got S end) = ended_fits budget room (deduce S.phrases 64 empty S.base S.root budget)

picked_fits : (room : ℕ) (b : Bool) (a : Answer) (n p : ℕ) → Fits room a → Fits room (pick b a (refused n p))
unfolding pick
picked_fits room true a n p h = h
picked_fits room false a n p h = refused_fits room n p

answer_fits : (s : List ℕ) (budget room : ℕ) → Fits room (answer s budget room)
unfolding answer
answer_fits s budget room = picked_fits room (leb budget 1024) (started budget room (sheet s)) budget_over 0 (started_fits budget room (sheet s))

-- of the three ways to answer, only the last accepts
fits_by : (room : ℕ) (a : Answer) (out₀ o : List ℕ) (bs₀ bs : List (List ℕ)) → Fits room a → (within long : Bool) (n w i : ℕ) →
    ◌≡◌ {A = Evaluation} (record { numbers = 0 ∷ (n ∷ (w ∷ (i ∷ []))); output = o; scratch = bs })
    (pick within (pick long (finished a out₀ bs₀) (record { numbers = scratch_short ∷ (0 ∷ []); output = out₀; scratch = bs₀ }))
    (record { numbers = budget_over ∷ (0 ∷ []); output = out₀; scratch = bs₀ })) →
    n ≤ room
unfolding pick Fits finished
fits_by room a out₀ o bs₀ bs h false long n w i e = absurd (clash (let z = ap (λ (v : Evaluation). v.numbers) e in cc))
fits_by room a out₀ o bs₀ bs h true false n w i e = absurd (clash (let z = ap (λ (v : Evaluation). v.numbers) e in cc))
fits_by room (refused m p) out₀ o bs₀ bs h true true n w i e = absurd (clash (let z = ap (λ (v : Evaluation). v.numbers) e in cc))
fits_by room (accepted bytes w' i') out₀ o bs₀ bs h true true n w i e =
    let z = ap (λ (v : Evaluation). v.numbers) e in
    let l = h bytes w' i' refl in
    let many : n ≡ length bytes = cc in
    omega arith

pub accepted_fits : (s : List ℕ) (budget : ℕ) (a : Accepted) (r : Result Accepted Refusal) (out₀ o : List ℕ) (bs₀ bs : List (List ℕ)) → Evaluates s budget r out₀ o bs₀ bs → r ≡ Ok a → a.length ≤ length out₀
unfolding evaluation evaluated_numbers
accepted_fits s budget a r out₀ o bs₀ bs x e =
    let y = subst (λ (z : Result Accepted Refusal). Evaluates s budget z out₀ o bs₀ bs) e x in
    fits_by (length out₀) (answer s budget (length out₀)) out₀ o bs₀ bs (answer_fits s budget (length out₀)) (leb budget 1024) (enough evaluation_lengths bs₀) a.length a.work.0 a.inferences.0 y.answers

-- What the contract of `evaluate` shuts out: each wrong door is refuted by case C1 or C8, with scratch of the fixed lengths that is all ones.
use Prim.Native.Nat.{ℕ}
use native.Mathlib.Omega.{arith}
use mathlib.Core.Path.{◌≡◌, refl, sym, ap, ◌∙◌}
use mathlib.Core.List.{List, [], ◌∷◌}
use lib.ListN.{length, take, replicate}
use Rattle.language.specs.Syntax.{Sheet}
use Rattle.language.specs.Numbers.{got}
use Rattle.language.specs.Read.{sheet}
use Rattle.language.specs.Values.{empty}
use Rattle.language.specs.Run.{Derived, deduce}
use Rattle.language.specs.Derives.{Derives}
use Rattle.language.specs.Certificate.{certificate}
use Rattle.language.specs.Doors.{accepted_with, evaluated_numbers, evaluation_lengths, wiped, fronted, Evaluation, finished}
use Rattle.language.specs.Answer.{answer, accepted, refused}
use Rattle.language.specs.Cases.{c1, c1_certificate, c8}
use Rattle.language.specs.declared.Work.{Work}
use Rattle.language.specs.declared.Inferences.{Inferences}
use Rattle.std.specs.Prelude.{Result, Ok, Err}
use Rattle.language.specs.declared.refusal.Refusal.{Refusal}
use Rattle.language.specs.declared.Accepted.{Accepted}
use Rattle.theorems.proofs.Lists.{clash}
use Rattle.theorems.specs.Demands.{DeducesExactly, AcceptsExactly}
use Rattle.theorems.proofs.ShutOut.{sheet_of, S₁, c1_reads, first, first_derived}
use Rattle.theorems.proofs.Exact.{interpreted, determined}
use Rattle.theorems.proofs.Accepting.{accepts_exactly}
use Rattle.evaluator.proofs.Scratch.{door_finished}
use Rattle.doors.specs.Demands.{EvaluateExactly}
use Rattle.doors.proofs.Demanded.{accepted_same, evaluate_exactly}
use Rattle.doors.proofs.Ones.{ones, ones_enough, wiped_not}
use Rattle.doors.specs.Wrong.{Evaluator, HasEvaluate, MeetsDemand2, RefusesEverything, EmitsTrueIntro, WritesNothing, RunsFirstStep, SpendsTheBudget, InfersItsWork, LeavesEvaluationScratch, BelievesAnnounced, WritesWhatFits, AcceptsWhatIsThere}

-- an answer by its numbers
accepted_by : (r : Result Accepted Refusal) (n w i : ℕ) → evaluated_numbers r ≡ 0 ∷ (n ∷ (w ∷ (i ∷ []))) → r ≡ accepted_with n (record { 0 = w }) (record { 0 = i })
unfolding evaluated_numbers
accepted_by (Ok a) n w i e =
    let x : a.length ≡ n = cc in
    let y : a.work.0 ≡ w = cc in
    let z : a.inferences.0 ≡ i = cc in
    accepted_same x y z
accepted_by (Err r) n w i e = absurd (clash cc)

refused_by : (r : Result Accepted Refusal) (n p m : ℕ) (w : Work) (i : Inferences) → evaluated_numbers r ≡ n ∷ (p ∷ []) → r ≡ accepted_with m w i → ⊥
unfolding evaluated_numbers
refused_by r n p m w i e f = let z = ap evaluated_numbers f in clash cc

-- what C1's sheet and C8's say, and what a first step of each derives
abbrev S₈ : Sheet
S₈ = sheet_of (sheet c8)

c8_reads : sheet c8 ≡ got S₈ 26
unfolding sheet
c8_reads = refl

c8_first : Derives S₈.phrases 63 empty S₈.base 2 first 3
unfolding sheet deduce DeducesExactly
c8_first =
    let (u, x, e) = (interpreted S₈.phrases 63 empty S₈.base 2 3 0 first).0 refl in
    let z : u ≡ 3 = omega arith in
    rw z at x

-- an output of so many nines
abbrev room : List ℕ
room = replicate 24 9

-- C1 is accepted with its certificate; its work is 11, its inferences are 3
c1_answer : answer c1 12 24 ≡ accepted c1_certificate 11 3
unfolding answer
c1_answer = refl

c1_no_room : answer c1 12 1 ≡ refused 18 0
unfolding answer
c1_no_room = refl

c8_answer : answer c8 1024 24 ≡ refused 15 4
unfolding answer
c8_answer = refl

-- the first step's certificate is not C1's
not_first : c1_certificate ≡ fronted (certificate first) room → ⊥
unfolding certificate fronted
not_first e = clash cc

-- C1 is derived, so that demand 2 has it accepted, though the output holds nines
pub what_is_there_unmet : (E : Evaluator) → MeetsDemand2 E → AcceptsWhatIsThere E → ⊥
unfolding MeetsDemand2 AcceptsWhatIsThere AcceptsExactly fronted
what_is_there_unmet E meets h =
    let (d, derives, spent, is, rules, fits) = (accepts_exactly c1 S₁ 43 12 24 c1_certificate 11 3 c1_reads (omega arith)).0 c1_answer in
    let exactly = meets c1 12 room (ones evaluation_lengths) (omega arith) (ones_enough evaluation_lengths) S₁ 43 c1_reads 24 11 3 in
    let numbers = exactly.0.1 (d, derives, spent, ap length is, rules, omega arith) in
    let accepts = accepted_by (E c1 12 room (ones evaluation_lengths)).answer 24 11 3 numbers in
    let there = h c1 S₁ 43 12 24 (record { 0 = 11 }) (record { 0 = 3 }) room (ones evaluation_lengths) d 11 (omega arith) c1_reads derives accepts in
    let e : room ≡ fronted c1_certificate room = there ∙ ap (λ (b : List ℕ). fronted b room) (sym is) in
    clash cc

module _ (E : Evaluator) (has : HasEvaluate E) where
  on_c1 : ◌≡◌ {A = Evaluation}
      (record {
        numbers = evaluated_numbers (E c1 12 room (ones evaluation_lengths)).answer;
        output = (E c1 12 room (ones evaluation_lengths)).output;
        scratch = (E c1 12 room (ones evaluation_lengths)).scratch;
      })
      (finished (accepted c1_certificate 11 3) room (ones evaluation_lengths))
  unfolding HasEvaluate
  on_c1 =
      (has c1 12 room (ones evaluation_lengths)).answers
      ∙ door_finished c1 12 room (ones evaluation_lengths) (omega arith) (ones_enough evaluation_lengths)
      ∙ ap (λ a. finished a room (ones evaluation_lengths)) c1_answer

  c1_numbers : evaluated_numbers (E c1 12 room (ones evaluation_lengths)).answer ≡ 0 ∷ (24 ∷ (11 ∷ (3 ∷ [])))
  unfolding finished
  c1_numbers = ap (λ (v : Evaluation). v.numbers) on_c1

  c1_output : (E c1 12 room (ones evaluation_lengths)).output ≡ c1_certificate
  unfolding finished fronted
  c1_output = ap (λ (v : Evaluation). v.output) on_c1

  c1_scratch : (E c1 12 room (ones evaluation_lengths)).scratch ≡ wiped evaluation_lengths (ones evaluation_lengths)
  unfolding finished
  c1_scratch = ap (λ (v : Evaluation). v.scratch) on_c1

  pub writing_nothing_shut_out : WritesNothing E → ⊥
  unfolding WritesNothing
  writing_nothing_shut_out h = let e = h c1 12 room (ones evaluation_lengths) in let f = c1_output in clash cc

  pub leaving_scratch_shut_out : LeavesEvaluationScratch E → ⊥
  unfolding LeavesEvaluationScratch
  leaving_scratch_shut_out h =
      wiped_not 9219 (4610 ∷ (640 ∷ (6144 ∷ (1088 ∷ (16384 ∷ (11264 ∷ [])))))) (sym c1_scratch ∙ h c1 12 room (ones evaluation_lengths))

  c1_accepted : (E c1 12 room (ones evaluation_lengths)).answer ≡ accepted_with 24 (record { 0 = 11 }) (record { 0 = 3 })
  c1_accepted = accepted_by (E c1 12 room (ones evaluation_lengths)).answer 24 11 3 c1_numbers

  pub refusing_shut_out : RefusesEverything E → ⊥
  unfolding RefusesEverything
  refusing_shut_out h = let (r, e) = h c1 12 room (ones evaluation_lengths) in let f = c1_accepted in clash cc

  pub true_intro_shut_out : EmitsTrueIntro E → ⊥
  unfolding EmitsTrueIntro fronted
  true_intro_shut_out h =
      let e = h c1 12 24 (record { 0 = 11 }) (record { 0 = 3 }) room (ones evaluation_lengths) c1_accepted in
      let f = c1_output in
      clash cc

  pub budget_for_work_shut_out : SpendsTheBudget E → ⊥
  unfolding SpendsTheBudget
  budget_for_work_shut_out h = let e = h c1 12 24 room (ones evaluation_lengths) (record { 0 = 11 }) (record { 0 = 3 }) c1_accepted in omega arith

  pub work_for_inferences_shut_out : InfersItsWork E → ⊥
  unfolding InfersItsWork
  work_for_inferences_shut_out h = let e = h c1 12 24 room (ones evaluation_lengths) (record { 0 = 11 }) (record { 0 = 3 }) c1_accepted in omega arith

  pub first_step_shut_out : RunsFirstStep E → ⊥
  unfolding RunsFirstStep sheet certificate fronted
  first_step_shut_out h =
      let (d, u, x, e) = h c1 S₁ 43 12 6 (7 ∷ (8 ∷ [])) 24 (record { 0 = 11 }) (record { 0 = 3 }) room (ones evaluation_lengths) c1_reads refl c1_accepted in
      let is : d ≡ first = (determined x first_derived).0 in
      not_first (sym c1_output ∙ e ∙ ap (λ (y : Derived). fronted (certificate y) room) is)

  c8_numbers : evaluated_numbers (E c8 1024 room (ones evaluation_lengths)).answer ≡ 15 ∷ (4 ∷ [])
  unfolding HasEvaluate finished
  c8_numbers =
      ap (λ (v : Evaluation). v.numbers)
      ((has c8 1024 room (ones evaluation_lengths)).answers
      ∙ door_finished c8 1024 room (ones evaluation_lengths) (omega arith) (ones_enough evaluation_lengths)
      ∙ ap (λ a. finished a room (ones evaluation_lengths)) c8_answer)

  pub believing_shut_out : BelievesAnnounced E → ⊥
  unfolding BelievesAnnounced sheet certificate
  believing_shut_out h =
      let (n, w, i, e) = h c8 S₈ 26 1024 3 2 room (ones evaluation_lengths) first 3 (omega arith) (ones_enough evaluation_lengths) c8_reads refl c8_first (omega arith) (omega arith) in
      refused_by (E c8 1024 room (ones evaluation_lengths)).answer 15 4 n w i c8_numbers e

  c1_kept : (E c1 12 (9 ∷ []) (ones evaluation_lengths)).output ≡ 9 ∷ []
  unfolding HasEvaluate finished
  c1_kept =
      ap (λ (v : Evaluation). v.output)
      ((has c1 12 (9 ∷ []) (ones evaluation_lengths)).answers
      ∙ door_finished c1 12 (9 ∷ []) (ones evaluation_lengths) (omega arith) (ones_enough evaluation_lengths)
      ∙ ap (λ a. finished a (9 ∷ []) (ones evaluation_lengths)) c1_no_room)

  pub writing_what_fits_shut_out : WritesWhatFits E → ⊥
  unfolding WritesWhatFits
  writing_what_fits_shut_out h =
      let e = h c1 12 24 (record { 0 = 11 }) (record { 0 = 3 }) (9 ∷ []) room (ones evaluation_lengths) c1_accepted (omega arith) in
      let f : ◌≡◌ {A = List ℕ} (9 ∷ []) (4 ∷ []) = sym c1_kept ∙ e ∙ ap (take 1) c1_output in
      clash cc

  meets : MeetsDemand2 E
  unfolding MeetsDemand2 HasEvaluate EvaluateExactly
  meets s budget out₀ bs₀ =
      evaluate_exactly s budget (E s budget out₀ bs₀).answer out₀ (E s budget out₀ bs₀).output bs₀ (E s budget out₀ bs₀).scratch (has s budget out₀ bs₀)

  pub what_is_there_shut_out : AcceptsWhatIsThere E → ⊥
  what_is_there_shut_out = what_is_there_unmet E meets

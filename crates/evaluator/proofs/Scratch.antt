-- The door's seven buffers, and what it answers: 1, 2, or what was found with their fronts lent.
use Rattle.std.specs.Prelude.{Result, Err}
use Prim.Native.Nat.{ℕ, ◌≤◌, ◌<◌}
use mathlib.Core.Path.{◌≡◌, refl, sym, ◌∙◌}
use mathlib.Core.List.{List, [], ◌++◌, map}
use mathlib.Core.Bool.{true, false}
use lib.ListN.{length, take, drop, replicate}
use borrow.Author.Tests.{le-leb, lt-leb}
use Rattle.language.specs.Numbers.{pick}
use Rattle.language.specs.Answer.{Answer, accepted, refused, answer}
use Rattle.language.specs.Doors.{evaluated_numbers, enough, wiped, evaluation_lengths, finished, evaluation}
use Rattle.language.specs.declared.Accepted.{Accepted}
use Rattle.language.specs.declared.refusal.Refusal.{Refusal}
use Rattle.language.specs.declared.refusal.Why.TheVariants.{BudgetOver, ScratchShort}
use Rattle.theorems.proofs.Buffers.{fronts, fronts_long, long_more, over, over_wiped, wiped_more, wiped_none}
use Rattle.evaluator.specs.Door.{scratch, Gives, Evaluates}

-- the seven buffers of an evaluation
module _ (a b c d e f g : List ℕ) where
  module _ (a' b' c' d' e' f' g' : List ℕ) where
    -- fronts that were lent are as long as fixed
    pub seven_fixed : enough evaluation_lengths (scratch a b c d e f g) ≡ true → length a' ≡ length (take 9220 a) → length b' ≡ length (take 4610 b) → length c' ≡ length (take 640 c) →
        length d' ≡ length (take 6144 d) → length e' ≡ length (take 1088 e) → length f' ≡ length (take 16384 f) → length g' ≡ length (take 11264 g) →
        map length (scratch a' b' c' d' e' f' g') ≡ evaluation_lengths
    unfolding fronts
    seven_fixed h la lb lc ld le lf lg = long_more la (long_more lb (long_more lc (long_more ld (long_more le (long_more lf (long_more lg refl)))))) ∙ fronts_long evaluation_lengths (scratch a b c d e f g) h

    pub seven_wiped : a' ≡ replicate 9220 0 ++ drop 9220 a → b' ≡ replicate 4610 0 ++ drop 4610 b → c' ≡ replicate 640 0 ++ drop 640 c → d' ≡ replicate 6144 0 ++ drop 6144 d →
        e' ≡ replicate 1088 0 ++ drop 1088 e → f' ≡ replicate 16384 0 ++ drop 16384 f → g' ≡ replicate 11264 0 ++ drop 11264 g →
        scratch a' b' c' d' e' f' g' ≡ wiped evaluation_lengths (scratch a b c d e f g)
    seven_wiped la lb lc ld le lf lg =
        wiped_more 9220 _ _ _ _ _ la (wiped_more 4610 _ _ _ _ _ lb (wiped_more 640 _ _ _ _ _ lc (wiped_more 6144 _ _ _ _ _ ld
        (wiped_more 1088 _ _ _ _ _ le (wiped_more 16384 _ _ _ _ _ lf (wiped_more 11264 _ _ _ _ _ lg wiped_none))))))

-- what is answered: 1, 2, or what was found with the fronts lent
finished_whole : (a : Answer) (out : List ℕ) (bs : List (List ℕ)) →
    finished a out bs ≡ record { numbers = (finished a out []).numbers; output = (finished a out []).output; scratch = wiped evaluation_lengths bs }
unfolding finished
finished_whole (accepted bytes w i) out bs = refl
finished_whole (refused n p) out bs = refl

module _ (s : List ℕ) (budget : ℕ) (out₀ : List ℕ) (bs : List (List ℕ)) where
  pub door_over : 1024 < budget → Evaluates s budget (Err (record { 0 = BudgetOver; 1 = 0 })) out₀ out₀ bs bs
  unfolding evaluated_numbers evaluation pick
  door_over h = record { answers = rw (lt-leb budget 1024 h) }

  pub door_short : budget ≤ 1024 → enough evaluation_lengths bs ≡ false → Evaluates s budget (Err (record { 0 = ScratchShort; 1 = 0 })) out₀ out₀ bs bs
  unfolding evaluated_numbers evaluation pick
  door_short h e = record { answers = rw (le-leb budget 1024 h, e) }

  pub door_finished : budget ≤ 1024 → enough evaluation_lengths bs ≡ true → evaluation s budget out₀ bs ≡ finished (answer s budget (length out₀)) out₀ bs
  unfolding evaluation pick
  door_finished h e = rw (le-leb budget 1024 h, e)

  pub door_answers : budget ≤ 1024 → enough evaluation_lengths bs ≡ true → length bs ≡ 7 → (r : Result Accepted Refusal) (out : List ℕ) (xs us : List (List ℕ)) →
      map length xs ≡ evaluation_lengths → Gives (answer s budget (length out₀)) out₀ r out → us ≡ wiped evaluation_lengths (over evaluation_lengths xs bs) →
      Evaluates s budget r out₀ out bs us
  door_answers h e seven r out xs us l G w =
      let ended = w ∙ over_wiped evaluation_lengths xs bs l e seven in
      record { answers = rw (G.numbers, G.output, ended) (sym (door_finished h e ∙ finished_whole (answer s budget (length out₀)) out₀ bs)) }

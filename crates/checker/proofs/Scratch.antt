-- The door's five buffers, and what it answers: 2, or the verdict with their fronts lent.
use Prim.Native.Nat.{ℕ, ◌≤◌}
use mathlib.Core.Path.{◌≡◌, refl, sym, ap₂, ◌∙◌}
use mathlib.Core.List.{List, ◌++◌, map}
use mathlib.Core.Bool.{true, false}
use lib.ListN.{length, take, drop, replicate}
use Rattle.language.specs.Numbers.{pick}
use Rattle.language.specs.Check.{verdict}
use Rattle.language.specs.Doors.{checked_numbers, verdict_numbers, check_lengths, enough, wiped, checking}
use Rattle.std.specs.Prelude.{Result, Err}
use Rattle.language.specs.declared.refusal.Refusal.{Refusal}
use Rattle.language.specs.declared.Stands.{Stands}
use Rattle.language.specs.declared.refusal.Why.TheVariants.{ScratchShort}
use Rattle.theorems.proofs.Buffers.{enough_more, enough_none, fronts, fronts_long, long_more, over, over_wiped, wiped_more, wiped_none}
use Rattle.checker.specs.Verdicts.{scratch, Checks}

-- the five buffers of a check
module _ (a b c d e : List ℕ) where
  pub five_enough : 4608 ≤ length a → 12290 ≤ length b → 640 ≤ length c → 6144 ≤ length d → 576 ≤ length e → enough check_lengths (scratch a b c d e) ≡ true
  five_enough la lb lc ld le = enough_more _ _ _ _ la (enough_more _ _ _ _ lb (enough_more _ _ _ _ lc (enough_more _ _ _ _ ld (enough_more _ _ _ _ le enough_none))))

  module _ (a' b' c' d' e' : List ℕ) where
    -- fronts that were lent are as long as fixed
    pub five_fixed : enough check_lengths (scratch a b c d e) ≡ true → length a' ≡ length (take 4608 a) → length b' ≡ length (take 12290 b) → length c' ≡ length (take 640 c) →
        length d' ≡ length (take 6144 d) → length e' ≡ length (take 576 e) → map length (scratch a' b' c' d' e') ≡ check_lengths
    unfolding fronts
    five_fixed h la lb lc ld le = long_more la (long_more lb (long_more lc (long_more ld (long_more le refl)))) ∙ fronts_long check_lengths (scratch a b c d e) h

    pub five_wiped : a' ≡ replicate 4608 0 ++ drop 4608 a → b' ≡ replicate 12290 0 ++ drop 12290 b → c' ≡ replicate 640 0 ++ drop 640 c → d' ≡ replicate 6144 0 ++ drop 6144 d →
        e' ≡ replicate 576 0 ++ drop 576 e → scratch a' b' c' d' e' ≡ wiped check_lengths (scratch a b c d e)
    five_wiped la lb lc ld le =
        wiped_more 4608 _ _ _ _ _ la (wiped_more 12290 _ _ _ _ _ lb (wiped_more 640 _ _ _ _ _ lc (wiped_more 6144 _ _ _ _ _ ld (wiped_more 576 _ _ _ _ _ le wiped_none))))

-- the definitions' answer where the scratch is long enough
pub checking_enough : (sheet certificate : List ℕ) (buffers : List (List ℕ)) → enough check_lengths buffers ≡ true →
    checking sheet certificate buffers ≡ record { numbers = verdict_numbers (verdict sheet certificate); scratch = wiped check_lengths buffers }
unfolding checking pick
checking_enough sheet certificate buffers e = rw e

module _ (sheet certificate ns fs ps hs bs : List ℕ) where
  pub door_short : enough check_lengths (scratch ns fs ps hs bs) ≡ false → Checks sheet certificate (Err (record { 0 = ScratchShort; 1 = 0 })) ns fs ps hs bs ns fs ps hs bs
  unfolding checking pick checked_numbers
  door_short e = record { checks = rw e }

  pub door_answers : enough check_lengths (scratch ns fs ps hs bs) ≡ true → (r : Result Stands Refusal) (xs : List (List ℕ)) (ns' fs' ps' hs' bs' : List ℕ) → map length xs ≡ check_lengths →
      checked_numbers r ≡ verdict_numbers (verdict sheet certificate) → scratch ns' fs' ps' hs' bs' ≡ wiped check_lengths (over check_lengths xs (scratch ns fs ps hs bs)) →
      Checks sheet certificate r ns fs ps hs bs ns' fs' ps' hs' bs'
  door_answers e r xs ns' fs' ps' hs' bs' l v w =
      let ended = w ∙ over_wiped check_lengths xs (scratch ns fs ps hs bs) l e refl in
      record { checks = ap₂ (λ (u : List ℕ) (x : List (List ℕ)). record { numbers = u; scratch = x }) v ended ∙ sym (checking_enough sheet certificate (scratch ns fs ps hs bs) e) }

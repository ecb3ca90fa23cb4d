-- What the contract of `check` shuts out: each wrong door is refuted by C1's certificate, or by it against another sheet or with another conclusion.
use Prim.Native.Nat.{ℕ}
use native.Mathlib.Omega.{arith}
use mathlib.Core.Path.{◌≡◌, refl, sym, ap, ◌∙◌}
use mathlib.Core.Bool.{true}
use mathlib.Core.List.{List, [], ◌∷◌, ◌++◌}
use lib.ListN.{get_or, replicate}
use Rattle.language.specs.Numbers.{got, pick}
use Rattle.language.specs.Read.{sheet}
use Rattle.language.specs.Check.{Verdict, stands, falls, verdict}
use Rattle.language.specs.Doors.{stands_with, checked_numbers, verdict_numbers, check_lengths, enough, wiped, Checking, checking}
use Rattle.language.specs.Cases.{◌∶◌, c1, c5}
use Rattle.language.specs.declared.Inferences.{Inferences}
use Rattle.std.specs.Prelude.{Result, Ok, Err}
use Rattle.language.specs.declared.refusal.Refusal.{Refusal}
use Rattle.language.specs.declared.Stands.{Stands}
use Rattle.theorems.proofs.Lists.{clash}
use Rattle.theorems.proofs.ShutOut.{sheet_of, c1_reads}
use Rattle.checker.specs.Verdicts.{scratch}
use Rattle.doors.proofs.Ones.{ones, ones_enough}
use Rattle.doors.specs.Wrong.{Checker, CheckedSo, HasCheck, AcceptsAll, RefusesAll, IgnoresBase, IgnoresConclusion, CountsNone, LeavesCheckScratch}

-- C1's certificate without its last number, which states its conclusion
abbrev before : List ℕ
before = 4 ∶ 0 ∶ 0 ∶ 0 ∶ 1 ∶ 4 ∶ 0 ∶ 1 ∶ 4 ∶ 1 ∶ 0 ∶ 1 ∶ 0 ∶ 5 ∶ 2 ∶ 1 ∶ 0 ∶ 6 ∶ 2 ∶ 0 ∶ 4 ∶ 1 ∶ 0 ∶ []

stands_c1 : verdict c1 (before ++ (3 ∷ [])) ≡ stands 3 3
unfolding verdict
stands_c1 = refl

falls_empty : verdict c1 [] ≡ falls 35 0
unfolding verdict
falls_empty = refl

falls_c5 : verdict c5 (before ++ (3 ∷ [])) ≡ falls 14 12
unfolding verdict
falls_c5 = refl

falls_stated : verdict c1 (before ++ (0 ∷ [])) ≡ falls 20 23
unfolding verdict
falls_stated = refl

-- the other sheet reads too
c5_reads : sheet c5 ≡ got (sheet_of (sheet c5)) 15
unfolding sheet
c5_reads = refl

-- an answer by its numbers
stands_by : (r : Result Stands Refusal) (k i : ℕ) → checked_numbers r ≡ 0 ∷ (k ∷ (i ∷ [])) → r ≡ stands_with k (record { 0 = i })
unfolding checked_numbers
stands_by (Ok c) k i e = let x : c.conclusion ≡ k = cc in let y : c.inferences.0 ≡ i = cc in alike x y
  where
    alike : {a a' b b' : ℕ} → a ≡ a' → b ≡ b' → stands_with a (record { 0 = b }) ≡ stands_with a' (record { 0 = b' })
    alike x y = rw (x, y)
stands_by (Err r) k i e = absurd (clash cc)

falls_not : (r : Result Stands Refusal) (n p k : ℕ) (i : Inferences) → checked_numbers r ≡ n ∷ (p ∷ []) → r ≡ stands_with k i → ⊥
unfolding checked_numbers
falls_not r n p k i e f = let z = ap checked_numbers f in clash cc

-- with scratch that is long enough, the answer is the verdict's and the scratch is wiped
check_finished : (s bytes : List ℕ) (bs : List (List ℕ)) (v : Verdict) → enough check_lengths bs ≡ true → verdict s bytes ≡ v →
    ◌≡◌ {A = Checking} (checking s bytes bs) (record { numbers = verdict_numbers v; scratch = wiped check_lengths bs })
unfolding checking pick
check_finished s bytes bs v e f = rw (e, f)

module _ (K : Checker) (has : HasCheck K) where
  -- what it answers and leaves with scratch that is all ones
  abbrev checked : List ℕ → List ℕ → CheckedSo
  checked s bytes = K s bytes (replicate 4608 1) (replicate 12290 1) (replicate 640 1) (replicate 6144 1) (replicate 576 1)

  long : enough check_lengths (scratch (replicate 4608 1) (replicate 12290 1) (replicate 640 1) (replicate 6144 1) (replicate 576 1)) ≡ true
  unfolding ones
  long = ones_enough check_lengths

  whole : (s bytes : List ℕ) (v : Verdict) → verdict s bytes ≡ v →
      ◌≡◌ {A = Checking}
      (record { numbers = checked_numbers (checked s bytes).answer; scratch = scratch (checked s bytes).names (checked s bytes).forms (checked s bytes).patterns (checked s bytes).phrases (checked s bytes).base })
      (record { numbers = verdict_numbers v; scratch = wiped check_lengths (ones check_lengths) })
  unfolding HasCheck ones
  whole s bytes v e =
      (has s bytes (replicate 4608 1) (replicate 12290 1) (replicate 640 1) (replicate 6144 1) (replicate 576 1)).checks
      ∙ check_finished s bytes (ones check_lengths) v (ones_enough check_lengths) e

  numbers : (s bytes : List ℕ) (v : Verdict) → verdict s bytes ≡ v → checked_numbers (checked s bytes).answer ≡ verdict_numbers v
  numbers s bytes v e = ap (λ (c : Checking). c.numbers) (whole s bytes v e)

  c1_stands : (checked c1 (before ++ (3 ∷ []))).answer ≡ stands_with 3 (record { 0 = 3 })
  unfolding verdict_numbers
  c1_stands = stands_by (checked c1 (before ++ (3 ∷ []))).answer 3 3 (numbers c1 (before ++ (3 ∷ [])) (stands 3 3) stands_c1)

  pub accepting_shut_out : AcceptsAll K → ⊥
  unfolding AcceptsAll verdict_numbers
  accepting_shut_out h =
      let (k, i, e) = h c1 [] (replicate 4608 1) (replicate 12290 1) (replicate 640 1) (replicate 6144 1) (replicate 576 1) long in
      falls_not (checked c1 []).answer 35 0 k i (numbers c1 [] (falls 35 0) falls_empty) e

  pub refusing_all_shut_out : RefusesAll K → ⊥
  unfolding RefusesAll
  refusing_all_shut_out h =
      let (r, e) = h c1 (before ++ (3 ∷ [])) (replicate 4608 1) (replicate 12290 1) (replicate 640 1) (replicate 6144 1) (replicate 576 1) in
      let f = sym e ∙ c1_stands in
      clash cc

  pub ignoring_base_shut_out : IgnoresBase K → ⊥
  unfolding IgnoresBase verdict_numbers
  ignoring_base_shut_out h =
      let e =
      h c1 c5 (before ++ (3 ∷ [])) (replicate 4608 1) (replicate 12290 1) (replicate 640 1) (replicate 6144 1) (replicate 576 1)
      (sheet_of (sheet c1)) (sheet_of (sheet c5)) 43 15 c1_reads c5_reads in
      falls_not (checked c5 (before ++ (3 ∷ []))).answer 14 12 3 (record { 0 = 3 }) (numbers c5 (before ++ (3 ∷ [])) (falls 14 12) falls_c5) (sym e ∙ c1_stands)

  pub ignoring_conclusion_shut_out : IgnoresConclusion K → ⊥
  unfolding IgnoresConclusion verdict_numbers
  ignoring_conclusion_shut_out h =
      let e =
      h c1 before (replicate 4608 1) (replicate 12290 1) (replicate 640 1) (replicate 6144 1) (replicate 576 1) 3 0 (record { 0 = 3 }) (omega arith) c1_stands in
      falls_not (checked c1 (before ++ (0 ∷ []))).answer 20 23 0 (record { 0 = 3 }) (numbers c1 (before ++ (0 ∷ [])) (falls 20 23) falls_stated) e

  pub counting_none_shut_out : CountsNone K → ⊥
  unfolding CountsNone
  counting_none_shut_out h =
      let e =
      h c1 (before ++ (3 ∷ [])) (replicate 4608 1) (replicate 12290 1) (replicate 640 1) (replicate 6144 1) (replicate 576 1) 3 (record { 0 = 3 }) c1_stands in
      omega arith

  pub leaving_check_scratch_shut_out : LeavesCheckScratch K → ⊥
  unfolding LeavesCheckScratch wiped ones
  leaving_check_scratch_shut_out h =
      let e = h c1 (before ++ (3 ∷ [])) (replicate 4608 1) (replicate 12290 1) (replicate 640 1) (replicate 6144 1) (replicate 576 1) in
      let f = ap (λ (c : Checking). get_or (get_or c.scratch 0 []) 0 7) (whole c1 (before ++ (3 ∷ [])) (stands 3 3) stands_c1) in
      clash (sym f ∙ ap (λ (ns : List ℕ). get_or ns 0 7) e)

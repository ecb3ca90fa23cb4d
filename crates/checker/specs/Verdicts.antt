-- A certificate against a base, part by part: what the functions of the door ask, and what they answer.
use Rattle.std.specs.Prelude.{ℕ, ◌+◌, ◌≤◌, ◌<◌, ◌≡◌, List, [], ◌∷◌, length, get_or, take, Result}
use Rattle.language.specs.Form.{Form, verum}
use Rattle.language.specs.Numbers.{Got, got, no, then, times}
use Rattle.language.specs.Read.{proposition}
use Rattle.language.specs.Check.{Certificate, Verdict, falls, concluded, stated}
use Rattle.language.specs.Doors.{checked_numbers, verdict_numbers, Checking, checking}
use Rattle.language.specs.declared.refusal.Refusal.{Refusal}
use Rattle.language.specs.declared.Stands.{Stands}
use Rattle.forms.specs.Table.{tree, Table}
use Rattle.rules.specs.Base.{base_of}
use Rattle.checker.specs.Walk.{Setting}
use Rattle.checker.specs.Tally.{proof_at, own_number}

-- the verdict on what was read of a certificate, in a base
unfoldable pub verdict_in : List Form → Got Certificate → Verdict
unfolding own_number stated concluded
verdict_in β (no why place) = falls (own_number why) place
verdict_in β (got C end) = stated C (concluded β C.proof)

-- the first n words stand for the trees fs, and the first b numbers of the base for the propositions β
pub record Standing (forms base : List ℕ) (n b : ℕ) (fs β : List Form) : Type 0 where
  pub table : Table (take n forms) fs
  pub words : length (take n forms) ≡ n
  pub count : length β ≡ b
  pub based : (j : ℕ) → j < b → (get_or base j 0 < n) × (tree fs (get_or base j 0) ≡ get_or β j verum)

-- the buffers have their fixed lengths, with a sheet's words and members in them
pub record Fixed (names forms base : List ℕ) (n b : ℕ) : Type 0 where
  pub names_long : length names ≡ 4608
  pub forms_long : length forms ≡ 12290
  pub base_long : length base ≡ 576
  pub few : n ≤ 514
  pub low : b ≤ 64

-- the sheet was read: the buffers stand for some trees and some base
pub record Begun (names forms base : List ℕ) (n b : ℕ) : Type 0 where
  pub trees : List Form
  pub members : List Form
  pub standing : Standing forms base n b trees members
  pub fixed : Fixed names forms base n b

-- whatever they stand for, the answer is the verdict there on what a reading gives
pub record Answers (read : Got Certificate) (forms base : List ℕ) (n b : ℕ) (r : Result Stands Refusal) : Type 0 where
  pub answers : (fs β : List Form) → Standing forms base n b fs β → checked_numbers r ≡ verdict_numbers (verdict_in β read)

-- the listed propositions and the proof, from a place on
abbrev pub listing_at : List ℕ → ℕ → ℕ → Got Certificate
listing_at s count at = then (times count (proposition s) [] at) (proof_at s)

-- the propositions were read too: the names stand for a listing of so many
pub record Listed (names forms base : List ℕ) (n b count : ℕ) : Type 0 where
  pub trees : List Form
  pub listing : List Form
  pub setting : Setting forms base names n b 512 trees listing
  pub counted : length listing ≡ count
  pub long : n + 7168 ≤ length forms
  pub small : n + 7168 ≤ 16384

-- whatever the names stand for, the answer is the verdict on the proof over that listing
pub record ProofAnswers (s : List ℕ) (at : ℕ) (names forms base : List ℕ) (n b count : ℕ) (r : Result Stands Refusal) : Type 0 where
  pub answers : (fs ps : List Form) → Setting forms base names n b 512 fs ps → length ps ≡ count →
      checked_numbers r ≡ verdict_numbers (verdict_in (base_of fs base b) (proof_at s ps at))

-- the five buffers, in the door's order
abbrev pub scratch : List ℕ → List ℕ → List ℕ → List ℕ → List ℕ → List (List ℕ)
scratch names forms patterns phrases base = names ∷ (forms ∷ (patterns ∷ (phrases ∷ (base ∷ []))))

-- the buffers have their fixed lengths
pub record Lengths (names forms patterns phrases base : List ℕ) : Type 0 where
  pub names_long : length names ≡ 4608
  pub forms_long : length forms ≡ 12290
  pub patterns_long : length patterns ≡ 640
  pub phrases_long : length phrases ≡ 6144
  pub base_long : length base ≡ 576

-- the door's answer and its buffers are the definitions', for every input
pub record Checks (sheet certificate : List ℕ) (r : Result Stands Refusal) (ns₀ fs₀ ps₀ hs₀ bs₀ ns fs ps hs bs : List ℕ) : Type 0 where
  pub checks : ◌≡◌ {A = Checking} (record { numbers = checked_numbers r; scratch = scratch ns fs ps hs bs }) (checking sheet certificate (scratch ns₀ fs₀ ps₀ hs₀ bs₀))

-- A certificate's proof in the base: what is asked of the state, and what is answered.
use Rattle.std.specs.Prelude.{ℕ, ◌+◌, ◌≤◌, ◌≡◌, List, length, Result, Ok}
use Rattle.language.specs.Form.{Form}
use Rattle.language.specs.Numbers.{got}
use Rattle.language.specs.Check.{Certificate, concluded, stated}
use Rattle.language.specs.Doors.{checked_numbers, verdict_numbers}
use Rattle.language.specs.declared.refusal.Refusal.{Refusal}
use Rattle.language.specs.declared.Stands.{Stands}
use Rattle.rules.specs.Base.{base_of}
use Rattle.checker.specs.declared.reading.Stated.{Stated}
use Rattle.checker.specs.Walk.{Setting}
use Rattle.checker.specs.Tally.{proof_at, certified}

-- over some listing the proof was read and states c; every node has room for a word, and the base for every nesting
pub record Stating (t base s names : List ℕ) (n b at : ℕ) (c : Stated) : Type 0 where
  pub trees : List Form
  pub listing : List Form
  pub setting : Setting t base names n b 512 trees listing
  pub said : Ok c ≡ certified (proof_at s listing at)
  pub long : n + 7168 ≤ length t
  pub small : n + 7168 ≤ 16384

-- whatever was read and states c is answered as the definition answers it
pub record Judged (t base s names : List ℕ) (n b at : ℕ) (c : Stated) (r : Result Stands Refusal) : Type 0 where
  pub answers : (fs ps : List Form) → Setting t base names n b 512 fs ps → Ok c ≡ certified (proof_at s ps at) →
      (C : Certificate) (end : ℕ) → proof_at s ps at ≡ got C end →
      checked_numbers r ≡ verdict_numbers (stated C (concluded (base_of fs base b) C.proof))

-- How a sheet's bytes grow: counts changed, records of propositions and members of the base appended, the rest as it was.
use Rattle.std.specs.Prelude.{ℕ, ◌+◌, ◌≤◌, List, [], ◌++◌, ◌≡◌, length}
use Rattle.language.specs.Form.{Form}
use Rattle.language.specs.Syntax.{Pattern, Phrase, Sheet}
use Rattle.language.specs.Numbers.{Got, got, then, from, times}
use Rattle.language.specs.Read.{reference, proposition, pattern, phrase, dedu_ref}
use Rattle.language.specs.Answer.{answer, accepted}
use Rattle.theorems.specs.Demands.{StandsFor}

-- the bytes xs, which follow the bytes `before` in s, are what the reader R reads as v
pub record Piece {A : Type 0} (R : List ℕ → ℕ → Got A) (s before xs : List ℕ) (v : A) : Type 0 where
  pub reads : R s (length before) ≡ got v (length before + length xs)

-- parts 2 and 3: the patterns and the phrases, each after its count
unfoldable pub patterns_and_phrases : List ℕ → List Form → ℕ → Got (List Pattern × List Phrase)
unfolding then
patterns_and_phrases s ps at =
    then (from 0 128 s at) (λ nq a. then (times nq (pattern s ps) [] a) (λ qs b.
    then (from 1 512 s b) (λ nf c. then (times nf (phrase s ps qs) [] c) (λ fs. got (qs, fs)))))

-- the parts of a sheet's bytes, where the reader finds them, and what it reads there
pub record Parts (s : List ℕ) (S : Sheet) : Type 0 where
  pub props_count : ℕ
  pub base_count : ℕ
  -- the bytes: a count, the propositions' records, patterns and phrases, a count, the base's members, the root
  pub count₁ : List ℕ
  pub props : List ℕ
  pub middle : List ℕ
  pub count₄ : List ℕ
  pub base : List ℕ
  pub root : List ℕ
  pub whole : s ≡ count₁ ++ (props ++ (middle ++ (count₄ ++ (base ++ root))))
  pub counts_props : Piece (from 0 512) s [] count₁ props_count
  pub reads_props : Piece (λ s. times props_count (proposition s) []) s count₁ props S.props
  pub reads_middle : Piece (λ s. patterns_and_phrases s S.props) s (count₁ ++ props) middle (S.patterns, S.phrases)
  pub counts_base : Piece (from 0 64) s (count₁ ++ (props ++ middle)) count₄ base_count
  pub reads_base : Piece (λ s. times base_count (λ acc. reference s S.props) []) s (count₁ ++ (props ++ (middle ++ count₄))) base S.base
  pub reads_root : Piece (λ s. dedu_ref s S.phrases) s (count₁ ++ (props ++ (middle ++ (count₄ ++ base)))) root S.root

-- t is s with records appended to part 1 and to part 4, and counts that say so
pub record Grown {s t : List ℕ} {S T : Sheet} (p : Parts s S) (q : Parts t T) : Type 0 where
  pub more_props : ℕ
  pub more_base : ℕ
  pub props_bytes : List ℕ
  pub base_bytes : List ℕ
  pub props_count : q.props_count ≡ p.props_count + more_props
  pub props : q.props ≡ p.props ++ props_bytes
  pub middle : q.middle ≡ p.middle
  pub base_count : q.base_count ≡ p.base_count + more_base
  pub base : q.base ≡ p.base ++ base_bytes
  pub root : q.root ≡ p.root

-- demand 3, over bytes: an answer stands for a grown sheet, no less budget and room for its certificate
unfoldable pub AnswersStand : Type 0
AnswersStand =
    (s t : List ℕ) (S T : Sheet) (p : Parts s S) (q : Parts t T) (b b' room room' w i : ℕ) (bytes : List ℕ) →
    Grown p q → b ≤ b' → b' ≤ 1024 → length bytes ≤ room' → answer s b room ≡ accepted bytes w i → StandsFor S T t b' room' bytes w i

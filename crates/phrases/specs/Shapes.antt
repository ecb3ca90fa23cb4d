-- What follows a phrase's kind in its record: which operands, and the row that they make.
use Rattle.std.specs.Prelude.{ℕ, ◌≡◌, List, [], ◌∷◌, ◌||◌, length, get_or, take, replicate, eqb, Option, Some, None}
use Rattle.language.specs.Refusals.{out_of_range, wrong_reference}
use Rattle.language.specs.Numbers.{Got, got, no, then, check, from}
use Rattle.words.specs.Front.{front}
use Rattle.phrases.specs.declared.shape.Operand.{Operand}
use Rattle.phrases.specs.declared.shape.Operand.TheVariants as operand
use Rattle.phrases.specs.declared.shape.Shape.{Shape}
use Rattle.phrases.specs.declared.shape.Shape.TheVariants as shape
use Rattle.records.specs.Rows.{cell}
use Rattle.records.specs.Reading.{name_ref, row_ref, expr_row, dedu_row, one_row, pair_row, several_row, clauses_row}

-- an earlier phrase of kind 4 or 5
unfoldable pub abstraction_row : List ℕ → List (List ℕ) → ℕ → Got ℕ
unfolding then check row_ref
abstraction_row s rows at =
    then (row_ref s rows at) (λ k next. check (eqb (cell rows k 0) 4 || eqb (cell rows k 0) 5) wrong_reference at (got k next))

-- the operand at a place, over the rows before the phrase's
unfoldable pub operand_at : List ℕ → List (List ℕ) → Operand → ℕ → Got ℕ
unfolding from row_ref expr_row dedu_row abstraction_row
operand_at s rows operand.Variable at = from 0 255 s at
operand_at s rows operand.Constructor at = from 0 4 s at
operand_at s rows operand.Rule at = from 0 15 s at
operand_at s rows operand.Parameters at = from 0 4 s at
operand_at s rows operand.Phrase at = row_ref s rows at
operand_at s rows operand.Expression at = expr_row s rows at
operand_at s rows operand.Deduction at = dedu_row s rows at
operand_at s rows operand.Abstraction at = abstraction_row s rows at

-- the operands by the kind; numbers that are no kinds have none
abbrev pub shapes : List (Option Shape)
shapes =
    let E = operand.Expression in
    let D = operand.Deduction in
    let F = operand.Phrase in
    -- 0 to 9: prop, var, con, rule, function, method, call, let, fix, match
    Some shape.Name
    ∷ (Some (shape.One operand.Variable)
    ∷ (Some (shape.One operand.Constructor)
    ∷ (Some (shape.One operand.Rule)
    ∷ (Some (shape.Two operand.Parameters E)
    ∷ (Some (shape.Two operand.Parameters D)
    ∷ (Some (shape.Call E)
    ∷ (Some (shape.Two E E)
    ∷ (Some (shape.One operand.Abstraction)
    ∷ (Some (shape.Match E E)
    ∷ (None ∷ (None ∷ (None ∷ (None ∷ (None ∷ (None
    -- 16 to 22: method call, assume, suppose-absurd, dlet, by, block, dmatch
    ∷ (Some (shape.Call F)
    ∷ (Some (shape.Two E D)
    ∷ (Some (shape.Two E D)
    ∷ (Some (shape.Two F D)
    ∷ (Some (shape.Two E D)
    ∷ (Some shape.Block
    ∷ (Some (shape.Match F D)
    ∷ []))))))))))))))))))))))

abbrev pub shape_of : ℕ → Option Shape
shape_of kind = get_or shapes kind None

-- the row of a kind with these operands, at a place; its record began at start
unfoldable pub shaped_row : List ℕ → List ℕ → ℕ → List (List ℕ) → ℕ → ℕ → Option Shape → ℕ → Got (List ℕ)
unfolding then one_row pair_row several_row clauses_row operand_at name_ref
shaped_row s names nq rows start kind None a = no out_of_range start
shaped_row s names nq rows start kind (Some shape.Name) a = one_row kind (name_ref s names) a
shaped_row s names nq rows start kind (Some (shape.One x)) a = one_row kind (operand_at s rows x) a
shaped_row s names nq rows start kind (Some (shape.Two x y)) a = pair_row kind (operand_at s rows x) (operand_at s rows y) a
shaped_row s names nq rows start kind (Some (shape.Call x)) a =
    then (operand_at s rows operand.Expression a) (λ e. several_row s 0 4 (kind ∷ (e ∷ [])) (operand_at s rows x))
shaped_row s names nq rows start kind (Some shape.Block) a = several_row s 1 8 (kind ∷ []) (operand_at s rows operand.Deduction) a
shaped_row s names nq rows start kind (Some (shape.Match x y)) a =
    then (operand_at s rows x a) (λ e. clauses_row s nq (kind ∷ (e ∷ [])) (operand_at s rows y))

-- a phrase's row that has its first m numbers, and zeros past them
pub record Begun (m : ℕ) (row : List ℕ) : Type 0 where
  pub long : length row ≡ 12
  pub rest : row ≡ front (take m row) (replicate 12 0)

-- What the rows of deductions say, kind by kind: which deduction a row is, and what its operands are, where the code reads its numbers.
use Prim.Native.Nat.{ℕ, zero, suc, ◌+◌, ◌*◌, ◌-◌, ◌≤◌, ◌<◌}
use mathlib.Core.Path.{◌≡◌, refl, ◌∙◌}
use mathlib.Core.List.{List, [], ◌∷◌}
use native.Mathlib.Omega.{arith}
use native.Mathlib.Numerals.{sub-one}
use lib.ListN.{length, get_or, take, drop, length-drop}
use lib.Seq.{get_or-drop}
use Rattle.language.specs.Form.{Form}
use Rattle.language.specs.Syntax.{Pattern, Expression, Phrase, expr, dedu, phrase_at, Deduction, apply, assume, suppose, dlet, by, block, dmatch}
use Rattle.language.specs.Values.{Env, out, next}
use Rattle.language.specs.Run.{Evaluate, Deduce, on_dedu, deduced, deduce_step, plainly, as_lemma, argument_of, argument}
use Rattle.records.specs.Rows.{cell, phrase_cells, phrase_of, clauses_of, block_by}
use Rattle.reader.specs.Stands.{Dedu, PhraseRow}
use Rattle.reader.specs.Stands.{prop_row, var_row, con_row, rule_row, function_row, method_row, call_row, let_row, fix_row, match_row, apply_row, assume_row, suppose_row, dlet_row, by_row, block_row, dmatch_row}
use Rattle.patterns.proofs.Clauses.{clauses_by}
use Rattle.expressions.specs.Machine.{Shared, M as ME, kind, one, two, listed}
use Rattle.expressions.specs.Asked.{Text, Row, World}
use Rattle.expressions.proofs.Operands.{Operands, listed_by, cell_at, kind_at, kind_is, wide, rest_at, operands_at, earlier}
use Rattle.deductions.specs.Asked.{In, Ins}

-- the step of a phrase that is the deduction y
pub step_is : (ps : List Phrase) (E : Evaluate) (D : Deduce) (e : Env) (β : List Form) (k w : ℕ) (y : Deduction) → phrase_at ps k ≡ dedu y → deduce_step ps E D e β k w ≡ deduced ps E D y e β k w
unfolding deduce_step on_dedu
step_is ps E D e β k w y h = rw h

pub list_step : (ph : List ℕ) (from n : ℕ) → (n ≡ 0 → ⊥) → listed ph from n ≡ get_or ph from 0 ∷ listed ph (from + 1) (n - 1)
unfolding listed
list_step ph from zero h = absurd (h refl)
list_step ph from (suc n) h = rw sub-one

module _ (x : Text) (fs : List Form) (s : Shared) (m : ME) (W : World x fs s m) (k : ℕ) (low : k < length x.rows) where
  abbrev row : List ℕ
  row = get_or x.rows k []

  at : (j : ℕ) → j < 12 → get_or s.phrases (12 * k + j) 0 ≡ cell x.rows k j
  at j h = cell_at x fs s m W k low j h

  says : phrase_at x.phrases k ≡ phrase_of fs x.patterns x.rows row
  says = W.says.says k low

  pub says_assume : kind s.phrases k ≡ 17 → phrase_at x.phrases k ≡ dedu (assume (one s.phrases k) (two s.phrases k))
  unfolding phrase_of
  says_assume e = says ∙ rw (kind_is x fs s m W k low 17 e, at 1 (omega arith), at 2 (omega arith))

  pub says_suppose : kind s.phrases k ≡ 18 → phrase_at x.phrases k ≡ dedu (suppose (one s.phrases k) (two s.phrases k))
  unfolding phrase_of
  says_suppose e = says ∙ rw (kind_is x fs s m W k low 18 e, at 1 (omega arith), at 2 (omega arith))

  pub says_dlet : kind s.phrases k ≡ 19 → phrase_at x.phrases k ≡ dedu (dlet (one s.phrases k) (two s.phrases k))
  unfolding phrase_of
  says_dlet e = says ∙ rw (kind_is x fs s m W k low 19 e, at 1 (omega arith), at 2 (omega arith))

  pub says_by : kind s.phrases k ≡ 20 → phrase_at x.phrases k ≡ dedu (by (one s.phrases k) (two s.phrases k))
  unfolding phrase_of
  says_by e = says ∙ rw (kind_is x fs s m W k low 20 e, at 1 (omega arith), at 2 (omega arith))

  pub says_apply : kind s.phrases k ≡ 16 → phrase_at x.phrases k ≡ dedu (apply (one s.phrases k) (listed s.phrases (12 * k + 3) (two s.phrases k)))
  unfolding phrase_of Operands
  says_apply e =
      let n : two s.phrases k ≡ cell x.rows k 2 = at 2 (omega arith) in
      let few = (operands_at x fs s m W k low 16 e).1 in
      let long : length (drop 3 row) ≡ 9 = length-drop 3 row ∙ rw (wide x fs s m W k low) in
      let l = listed_by s.phrases (cell x.rows k 2) (12 * k + 3) (drop 3 row) (omega (arith, few, long)) (λ j h. rest_at x fs s m W k low 3 j (omega (arith, few, h))) in
      says ∙ rw (kind_is x fs s m W k low 16 e, at 1 (omega arith), n, l)

  pub says_block : kind s.phrases k ≡ 21 → phrase_at x.phrases k ≡ dedu (block (get_or s.phrases (12 * k + 2) 0) (listed s.phrases (12 * k + 2 + 1) (one s.phrases k - 1)))
  unfolding phrase_of Operands block_by
  says_block e =
      let n : one s.phrases k ≡ cell x.rows k 1 = at 1 (omega arith) in
      let o = operands_at x fs s m W k low 21 e in
      let some = o.0 in let few = o.1 in
      let long : length (drop 2 row) ≡ 10 = length-drop 2 row ∙ rw (wide x fs s m W k low) in
      let l = listed_by s.phrases (cell x.rows k 1) (12 * k + 2) (drop 2 row) (omega (arith, few, long)) (λ j h. rest_at x fs s m W k low 2 j (omega (arith, few, h))) in
      let f = list_step s.phrases (12 * k + 2) (cell x.rows k 1) (λ z. omega (arith, z, some)) in
      says ∙ rw (kind_is x fs s m W k low 21 e, n, ← l, f)

  pub says_dmatch : kind s.phrases k ≡ 22 → phrase_at x.phrases k ≡ dedu (dmatch (one s.phrases k) (clauses_of x.patterns (two s.phrases k) (drop (12 * k + 3) s.phrases)))
  unfolding phrase_of Operands
  says_dmatch e =
      let n : two s.phrases k ≡ cell x.rows k 2 = at 2 (omega arith) in
      let few = (operands_at x fs s m W k low 22 e).2 in
      let l = clauses_by x.patterns (cell x.rows k 2) (drop (12 * k + 3) s.phrases) (drop 3 row) (λ j h. get_or-drop (12 * k + 3) s.phrases j 0 ∙ rest_at x fs s m W k low 3 j (omega (arith, few, h))) in
      says ∙ rw (kind_is x fs s m W k low 22 e, at 1 (omega arith), n, l)

  -- an earlier deduction
  deduction : (j : ℕ) → Dedu x.rows k j → In j x × (16 ≤ kind s.phrases j)
  deduction j (l, c) = let i : j < length x.rows = omega arith in (i, rw (kind_at x fs s m W j i) c)

  -- the operands of each kind

  pub operator_row : kind s.phrases k ≡ 16 → Row x (one s.phrases k)
  unfolding Operands
  operator_row e = rw (at 1 (omega arith)) (earlier x fs s m W k low _ (operands_at x fs s m W k low 16 e).0)

  pub few_arguments : kind s.phrases k ≡ 16 → two s.phrases k ≤ 4
  unfolding Operands
  few_arguments e = rw (at 2 (omega arith)) (operands_at x fs s m W k low 16 e).1

  pub argument_rows : kind s.phrases k ≡ 16 → Ins s.phrases (12 * k + 3) (two s.phrases k) x
  unfolding Operands
  argument_rows e i l =
      let o = operands_at x fs s m W k low 16 e in
      let few = o.1 in
      let n = at 2 (omega arith) in
      let z : 12 * k + 3 + i ≡ 12 * k + (3 + i) = omega arith in
      let a = o.2 i (omega (arith, n, l)) in
      rw (z, at (3 + i) (omega (arith, few, n, l))) (omega (arith, a, low))

  pub assumed_rows : kind s.phrases k ≡ 17 → Row x (one s.phrases k) × (In (two s.phrases k) x × (16 ≤ kind s.phrases (two s.phrases k)))
  unfolding Operands
  assumed_rows e = let o = operands_at x fs s m W k low 17 e in rw (at 1 (omega arith), at 2 (omega arith)) (earlier x fs s m W k low _ o.0, deduction _ o.1)

  pub supposed_rows : kind s.phrases k ≡ 18 → Row x (one s.phrases k) × (In (two s.phrases k) x × (16 ≤ kind s.phrases (two s.phrases k)))
  unfolding Operands
  supposed_rows e = let o = operands_at x fs s m W k low 18 e in rw (at 1 (omega arith), at 2 (omega arith)) (earlier x fs s m W k low _ o.0, deduction _ o.1)

  pub let_rows : kind s.phrases k ≡ 19 → In (one s.phrases k) x × (In (two s.phrases k) x × (16 ≤ kind s.phrases (two s.phrases k)))
  unfolding Operands
  let_rows e = let o = operands_at x fs s m W k low 19 e in let a = o.0 in rw (at 1 (omega arith), at 2 (omega arith)) (omega (arith, a, low), deduction _ o.1)

  pub by_rows : kind s.phrases k ≡ 20 → Row x (one s.phrases k) × (In (two s.phrases k) x × (16 ≤ kind s.phrases (two s.phrases k)))
  unfolding Operands
  by_rows e = let o = operands_at x fs s m W k low 20 e in rw (at 1 (omega arith), at 2 (omega arith)) (earlier x fs s m W k low _ o.0, deduction _ o.1)

  pub block_count : kind s.phrases k ≡ 21 → (1 ≤ one s.phrases k) × (one s.phrases k ≤ 8)
  unfolding Operands
  block_count e = let o = operands_at x fs s m W k low 21 e in rw (at 1 (omega arith)) (o.0, o.1)

  pub step_rows : kind s.phrases k ≡ 21 → (i : ℕ) → i < one s.phrases k → In (get_or s.phrases (12 * k + 2 + i) 0) x × (16 ≤ kind s.phrases (get_or s.phrases (12 * k + 2 + i) 0))
  unfolding Operands
  step_rows e i l =
      let o = operands_at x fs s m W k low 21 e in
      let few = o.1 in
      let n = at 1 (omega arith) in
      let z : 12 * k + 2 + i ≡ 12 * k + (2 + i) = omega arith in
      rw (z, at (2 + i) (omega (arith, few, n, l))) (deduction _ (o.2 i (omega (arith, n, l))))

  pub subject_row : kind s.phrases k ≡ 22 → In (one s.phrases k) x
  unfolding Operands
  subject_row e = let a = (operands_at x fs s m W k low 22 e).0 in rw (at 1 (omega arith)) (omega (arith, a, low))

  pub few_clauses : kind s.phrases k ≡ 22 → two s.phrases k ≤ 4
  unfolding Operands
  few_clauses e = rw (at 2 (omega arith)) (operands_at x fs s m W k low 22 e).2

  pub clause_rows : kind s.phrases k ≡ 22 → (i : ℕ) → i < two s.phrases k →
      (get_or s.phrases (12 * k + 3 + 2 * i) 0 < length x.pattern_rows)
      × (In (get_or s.phrases (12 * k + 3 + 2 * i + 1) 0) x × (16 ≤ kind s.phrases (get_or s.phrases (12 * k + 3 + 2 * i + 1) 0)))
  unfolding Operands
  clause_rows e i l =
      let o = operands_at x fs s m W k low 22 e in
      let few = o.2 in
      let n = at 2 (omega arith) in
      let z : 12 * k + 3 + 2 * i ≡ 12 * k + (3 + 2 * i) = omega arith in
      let y : 12 * k + 3 + 2 * i + 1 ≡ 12 * k + (4 + 2 * i) = omega arith in
      let c = o.3 i (omega (arith, n, l)) in
      let q = W.legible.says.count in
      let p = c.0 in (
        rw (z, at (3 + 2 * i) (omega (arith, few, n, l))) (omega (arith, p, q)),
        rw (y, at (4 + 2 * i) (omega (arith, few, n, l))) (deduction _ c.1),
      )

  -- a phrase of either class

  pub expression_row : kind s.phrases k < 16 → Row x k
  expression_row h = (low, rw (← kind_at x fs s m W k low) h)

-- a block has a first step
block_by_lem : (n z : ℕ) (zs : List ℕ) → 1 ≤ n → (y : Deduction) × (block_by (take n (z ∷ zs)) ≡ dedu y)
unfolding block_by
block_by_lem zero z zs h = absurd (omega arith)
block_by_lem (suc n) z zs h = (block z (take n zs), refl)

-- a row of a low kind is an expression, one of a high kind a deduction of kind 22 at most
module _ (fs : List Form) (qs : List Pattern) where
  expression : {words nq k : ℕ} {rows : List (List ℕ)} {row : List ℕ} → PhraseRow words nq rows k row → get_or row 0 0 < 16 → (y : Expression) × (phrase_of fs qs rows row ≡ expr y)
  unfolding phrase_of phrase_cells
  expression (prop_row a) h = (_, refl)
  expression (var_row a) h = (_, refl)
  expression (con_row a) h = (_, refl)
  expression (rule_row a) h = (_, refl)
  expression (function_row a b) h = (_, refl)
  expression (method_row a b) h = (_, refl)
  expression (call_row xs a l b c) h = (_, refl)
  expression (let_row a b) h = (_, refl)
  expression (fix_row a b) h = (_, refl)
  expression (match_row cs a l b c d) h = (_, refl)
  expression (apply_row xs a l b c) h = absurd (omega arith)
  expression (assume_row a b) h = absurd (omega arith)
  expression (suppose_row a b) h = absurd (omega arith)
  expression (dlet_row a b) h = absurd (omega arith)
  expression (by_row a b) h = absurd (omega arith)
  expression (block_row xs l a b c) h = absurd (omega arith)
  expression (dmatch_row cs a l b c d) h = absurd (omega arith)

  deduction_of : {words nq k : ℕ} {rows : List (List ℕ)} {row : List ℕ} → PhraseRow words nq rows k row → 16 ≤ get_or row 0 0 → (get_or row 0 0 ≤ 22) × ((y : Deduction) × (phrase_of fs qs rows row ≡ dedu y))
  unfolding phrase_of phrase_cells block_by
  deduction_of (prop_row a) h = absurd (omega arith)
  deduction_of (var_row a) h = absurd (omega arith)
  deduction_of (con_row a) h = absurd (omega arith)
  deduction_of (rule_row a) h = absurd (omega arith)
  deduction_of (function_row a b) h = absurd (omega arith)
  deduction_of (method_row a b) h = absurd (omega arith)
  deduction_of (call_row xs a l b c) h = absurd (omega arith)
  deduction_of (let_row a b) h = absurd (omega arith)
  deduction_of (fix_row a b) h = absurd (omega arith)
  deduction_of (match_row cs a l b c d) h = absurd (omega arith)
  deduction_of (apply_row xs a l b c) h = (omega arith, (_, refl))
  deduction_of (assume_row a b) h = (omega arith, (_, refl))
  deduction_of (suppose_row a b) h = (omega arith, (_, refl))
  deduction_of (dlet_row a b) h = (omega arith, (_, refl))
  deduction_of (by_row a b) h = (omega arith, (_, refl))
  deduction_of (block_row [] l a b c) h = absurd (omega arith)
  deduction_of (block_row {n} (y ∷ ys) l a b c) h = (omega arith, block_by_lem n y _ a)
  deduction_of (dmatch_row cs a l b c d) h = (omega arith, (_, refl))

module _ (x : Text) (fs : List Form) (s : Shared) (m : ME) (W : World x fs s m) (k : ℕ) (low : k < length x.rows) where
  pub kind_most : 16 ≤ kind s.phrases k → kind s.phrases k ≤ 22
  kind_most h =
      let e = kind_at x fs s m W k low in
      let d = (deduction_of fs x.patterns (W.says.sound k low) (rw (← e) h)).0 in
      rw e d

  pub argument_expression : (E : Evaluate) (D : Deduce) (e : Env) (β : List Form) (w : ℕ) → kind s.phrases k < 16 → argument x.phrases E D e β k w ≡ next (E e k w) (λ v. out (plainly v))
  unfolding argument argument_of
  argument_expression E D e β w h =
      let y = expression fs x.patterns (W.says.sound k low) (rw (← kind_at x fs s m W k low) h) in
      rw (W.says.says k low ∙ y.1)

  pub argument_deduction : (E : Evaluate) (D : Deduce) (e : Env) (β : List Form) (w : ℕ) → 16 ≤ kind s.phrases k → argument x.phrases E D e β k w ≡ next (D e β k w) (λ d. out (as_lemma d))
  unfolding argument argument_of
  argument_deduction E D e β w h =
      let y = (deduction_of fs x.patterns (W.says.sound k low) (rw (← kind_at x fs s m W k low) h)).1 in
      rw (W.says.says k low ∙ y.1)

-- the body of a method is a deduction
pub body_row : (x : Text) (fs : List Form) (s : Shared) (m : ME) → World x fs s m → (a b : ℕ) → a < length x.rows → cell x.rows a 0 ≡ 5 → b ≡ cell x.rows a 2 → In b x × (16 ≤ kind s.phrases b)
unfolding Operands
body_row x fs s m W a b h e i = rw i (deduction x fs s m W a h _ (operands_at x fs s m W a h 5 (kind_at x fs s m W a h ∙ e)).1)

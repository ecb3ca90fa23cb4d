-- A phrase's row by its kind is the one that its operands make.
use Prim.Native.Nat.{ℕ, ◌≤◌, ◌<◌}
use mathlib.Core.Path.{◌≡◌, refl, sym, ap, ◌∙◌}
use mathlib.Core.List.{List, [], ◌∷◌}
use mathlib.Core.Bool.{Bool, true, false, ◌||◌}
use native.Mathlib.Omega.{arith}
use native.Mathlib.Decide.{dec_lt}
use lib.ListN.{get_or, get_or-eq_default}
use lib.Dec.{eqb}
use Rattle.language.specs.Refusals.{out_of_range, wrong_reference}
use Rattle.language.specs.Numbers.{Got, got, then, check, number, record_at}
use Rattle.language.specs.Numbers as sheet
use Rattle.records.proofs.ByKind.{Each, each_at}
use Rattle.std.specs.Prelude.{None}
use Rattle.records.specs.Rows.{cell, phrase_cells}
use Rattle.records.specs.Reading.{phrase_row_kinds, phrase_row, row_ref, fixed_row, one_row}
use Rattle.phrases.specs.Shapes.{operand_at, abstraction_row, shapes, shape_of, shaped_row}

-- a fix is one operand, an earlier function or method
fix_one : (s : List ℕ) (rows : List (List ℕ)) (a : ℕ) → fixed_row s rows a ≡ one_row 8 (abstraction_row s rows) a
unfolding fixed_row one_row abstraction_row then check
fix_one s rows a = go (row_ref s rows a)
  where
    kept : (b : Bool) (k next : ℕ) → check b wrong_reference a (got (phrase_cells (8 ∷ (k ∷ []))) next) ≡ then (check b wrong_reference a (got k next)) (λ x. got (phrase_cells (8 ∷ (x ∷ []))))
    kept true k next = refl
    kept false k next = refl

    go : (g : Got ℕ) → then g (λ k next. check (eqb (cell rows k 0) 4 || eqb (cell rows k 0) 5) wrong_reference a (got (phrase_cells (8 ∷ (k ∷ []))) next))
        ≡ then (then g (λ k next. check (eqb (cell rows k 0) 4 || eqb (cell rows k 0) 5) wrong_reference a (got k next))) (λ x. got (phrase_cells (8 ∷ (x ∷ []))))
    go (got k next) = kept (eqb (cell rows k 0) 4 || eqb (cell rows k 0) 5) k next
    go (sheet.no n p) = refl

-- the rows of phrases by their kinds are those of their operands
module _ (s names : List ℕ) (nq : ℕ) (rows : List (List ℕ)) (start a : ℕ) where
  abbrev Same : ℕ → Type 0
  Same k = get_or (phrase_row_kinds s names nq rows start) k (λ x. sheet.no out_of_range start) a ≡ shaped_row s names nq rows start k (shape_of k) a

  pub phrase_none : (k : ℕ) → 22 < k → get_or (phrase_row_kinds s names nq rows start) k (λ x. sheet.no out_of_range start) a ≡ sheet.no out_of_range start
  unfolding phrase_row_kinds
  phrase_none k h =
      ap (λ (f : ℕ → Got (List ℕ)). f a) (get_or-eq_default (phrase_row_kinds s names nq rows start) (λ x. sheet.no out_of_range start) {n = k} h)

  pub shaped : (k : ℕ) → Same k
  unfolding phrase_row_kinds shaped_row operand_at
  shaped k = go (dec_lt k 23)
    where
      kinds : Each Same 0 23
      kinds = (
        refl,
        (
          refl,
          (
            refl,
            (
              refl,
              (
                refl,
                (
                  refl,
                  (
                    refl,
                    (
                      refl,
                      (
                        fix_one s rows a,
                        (
                          refl,
                          (
                            refl,
                            (
                              refl,
                              (
                                refl,
                                (
                                  refl,
                                  (
                                    refl,
                                    (
                                      refl,
                                      (refl, (refl, (refl, (refl, (refl, (refl, (refl, tt))))))),
                                    ),
                                  ),
                                ),
                              ),
                            ),
                          ),
                        ),
                      ),
                    ),
                  ),
                ),
              ),
            ),
          ),
        ),
      )

      go : Dec (k < 23) → Same k
      go (yes h) = each_at Same 0 23 kinds k (omega arith) h
      go (no h) =
          let l : 23 ≤ k = omega arith in
          phrase_none k l
          ∙ rw (get_or-eq_default shapes None {n = k} l)

-- a phrase's row, once its kind is read
module _ (s names : List ℕ) (nq : ℕ) (rows : List (List ℕ)) (at k next : ℕ) (e : number s at ≡ got k next) where
  pub row_none : 22 < k → sheet.no out_of_range at ≡ phrase_row s names nq rows at
  unfolding phrase_row record_at then
  row_none h = rw e (sym (phrase_none s names nq rows at next k h))

  pub row_shaped : (g : Got (List ℕ)) → g ≡ shaped_row s names nq rows at k (shape_of k) next → g ≡ phrase_row s names nq rows at
  unfolding phrase_row record_at then
  row_shaped g f = rw e (f ∙ sym (shaped s names nq rows at next k))

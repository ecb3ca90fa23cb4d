-- `evaluator::answer` meets its contract: a sheet that is refused is answered so; one that is read leaves buffers in which its root runs.
use Prim.Native.Nat.{ℕ}
use mathlib.Core.Path.{refl, ap, ◌∙◌}
use mathlib.Core.List.{List}
use lib.ListN.{get_or}
use Rattle.std.proofs.lemmas.Result.{err_from_is_err_and}
use Rattle.evaluator.proofs.Rooting.{sheet_stops, sheet_roots, sheet_goes_on}
use Rattle.evaluator.proofs.answer.Goals as goal

pub run-requires : goal.run-requires
run-requires c =
    let read_sheet = c.read_sheet in (
      sheet_roots _ _ _ _ _ _ _ _ _ _ _ _ c.in_ok-c.ensures _ c.requires.1 _ _ _ refl
          (read_sheet.auto.forms ∙ ap (λ (l : List ℕ). get_or l 1 0) c.requires.0) (ap (λ (l : List ℕ). get_or l 5 0) c.requires.0) (ap (λ (l : List ℕ). get_or l 6 0) c.requires.0)
          (read_sheet.auto.base ∙ ap (λ (l : List ℕ). get_or l 4 0) c.requires.0) (read_sheet.auto.phrases ∙ ap (λ (l : List ℕ). get_or l 3 0) c.requires.0) (read_sheet.auto.patterns ∙ ap (λ (l : List ℕ). get_or l 2 0) c.requires.0) read_sheet.auto.phrases read_sheet.auto.patterns
          _ (read_sheet.auto.names ∙ ap (λ (l : List ℕ). get_or l 0 0) c.requires.0),
      refl,
    )

pub returns-in_err-c : goal.returns-in_err-c
returns-in_err-c c =
    let e = err_from_is_err_and c.from_residual.result c.from_residual.ensures.1 in
    rw (e.1, e.2) (sheet_stops _ _ _ _ _ _ _ _ _ _ _ _ c.in_err-c.ensures _ c.requires.1 _ refl _)

pub returns : goal.returns
returns c =
    let read_sheet = c.read_sheet in
    sheet_goes_on _ _ _ _ _ _ _ _ _ _ _ _ c.in_ok-c.ensures _ c.requires.1 _ _ _ refl
    (read_sheet.auto.forms ∙ ap (λ (l : List ℕ). get_or l 1 0) c.requires.0) (ap (λ (l : List ℕ). get_or l 5 0) c.requires.0) (ap (λ (l : List ℕ). get_or l 6 0) c.requires.0)
    (read_sheet.auto.base ∙ ap (λ (l : List ℕ). get_or l 4 0) c.requires.0) (read_sheet.auto.phrases ∙ ap (λ (l : List ℕ). get_or l 3 0) c.requires.0) (read_sheet.auto.patterns ∙ ap (λ (l : List ℕ). get_or l 2 0) c.requires.0) read_sheet.auto.phrases read_sheet.auto.patterns
    _ _ _ c.run.ensures

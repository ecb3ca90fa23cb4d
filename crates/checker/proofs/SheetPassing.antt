-- The sheet's reading as a check begins: the buffers stand for its propositions and its base, or it is refused.
use Prim.Native.Nat.{ℕ, ◌<◌}
use native.Mathlib.Omega.{arith}
use mathlib.Core.Path.{◌≡◌, refl, sym, ap, ◌∙◌}
use mathlib.Core.List.{List}
use lib.ListN.{length, get_or, take, length-map}
use Rattle.language.specs.Syntax.{Sheet}
use Rattle.language.specs.Numbers.{Got, got, no}
use Rattle.language.specs.Read.{sheet}
use Rattle.language.specs.Check.{Certificate, certificate_at, own, checked, against, verdict}
use Rattle.language.specs.Doors.{checked_numbers, verdict_numbers}
use Rattle.std.specs.Prelude.{Result, Ok, Err}
use Rattle.language.specs.Numbered.{number_of, numbered}
use Rattle.language.specs.declared.refusal.Refusal.{Refusal}
use Rattle.language.specs.declared.Stands.{Stands}
use Rattle.theorems.proofs.Lists.{all_at}
use Rattle.words.proofs.Fronts.{take_front, get_d_front}
use Rattle.forms.specs.Table.{tree}
use Rattle.records.specs.Reading.{Tables, reading}
use Rattle.reader.specs.declared.Counts.{Counts}
use Rattle.reader.specs.Laid.{Laid}
use Rattle.reader.specs.Stands.{ReadAs, read, unread}
use Rattle.reader.proofs.SheetSaying.{reading_sheet}
use Rattle.reader.proofs.Opened.{Opened, opened, base_few, get_d_tree, refused_not_read, refused_same}
use Rattle.checker.specs.Tally.{own_number}
use Rattle.checker.specs.Verdicts.{verdict_in, Standing, Begun, Answers, Lengths}

-- a verdict in the sheet's base is the check of what was read
in_base : (S : Sheet) (g : Got Certificate) → verdict_in S.base g ≡ checked S (own g)
unfolding verdict_in checked own own_number
in_base S (got C end) = refl
in_base S (no n p) = refl

module _ (s : List ℕ) (ns₀ fs₀ ps₀ hs₀ bs₀ ns fs ps hs bs : List ℕ) (fixed : Lengths ns₀ fs₀ ps₀ hs₀ bs₀) where
  abbrev T : Tables
  T = (reading s).tables

  module _ (r : Result Counts Refusal) (L : Laid s r ns₀ fs₀ ps₀ hs₀ bs₀ ns fs ps hs bs) where
    -- the buffers stand for the sheet's propositions and its base
    standing : (c : Counts) (O : Opened s c) → Standing fs bs c.words c.base O.stands.trees O.sheet_is.base
    standing c O =
        let st = O.stands in
        let used : take c.words fs ≡ T.words = rw (L.forms, O.words_many) (take_front T.words fs₀) in
        let many = O.base_many in
        let w = O.words_many in
        record {
          table = rw used st.table;
          words = rw used (sym w);
          count = rw (← st.base) (length-map T.base (tree st.trees) ∙ sym many);
          based = λ j h.
              let i : j < length T.base = omega arith in
              let e : get_or bs j 0 ≡ get_or T.base j 0 = rw L.base (get_d_front T.base bs₀ j i) in
              let l = all_at (λ p. p < length T.words) T.base j 0 st.low i in
              rw e (omega arith, rw (← st.base) (sym (get_d_tree st.trees T.base j i)));
        }

    pub sheet_ready : (c : Counts) → r ≡ Ok c → length ns ≡ length ns₀ → length fs ≡ length fs₀ → length bs ≡ length bs₀ → Begun ns fs bs c.words c.base
    sheet_ready c e a b d =
        let O = opened s c (sym L.answered ∙ ap numbered e) in
        let w = O.words_many in
        let m = O.base_many in
        let few = O.stands.few in
        let count = (standing c O).count in
        let low = base_few s O.sheet_is O.end O.is in
        record {
          trees = O.stands.trees;
          members = O.sheet_is.base;
          standing = standing c O;
          fixed = record { names_long = a ∙ fixed.names_long; forms_long = b ∙ fixed.forms_long; base_long = d ∙ fixed.base_long; few = omega arith; low = omega arith };
        }

    module _ (certificate : List ℕ) where
      pub sheet_stops : (w : Refusal) → r ≡ Err w → checked_numbers (Err w) ≡ verdict_numbers (verdict s certificate)
      unfolding verdict against checked_numbers verdict_numbers
      sheet_stops w e = go (sheet s) refl (reading_sheet s)
        where
          go : (g : Got Sheet) → sheet s ≡ g → ReadAs (reading s) g → checked_numbers (Err w) ≡ verdict_numbers (against certificate (sheet s))
          go g z (read {S} {end} x st) = absurd (refused_not_read T (reading s).root (number_of w.0) w.1 S.root end (sym L.answered ∙ ap numbered e) x)
          go g z (unread {n = n'} {p = p'} x) =
              let (a, b) = refused_same T (reading s).root (number_of w.0) w.1 n' p' (sym L.answered ∙ ap numbered e) x in
              rw (z, a, b)

      pub sheet_goes_on : (c : Counts) (x : Result Stands Refusal) → r ≡ Ok c → Answers (certificate_at certificate) fs bs c.words c.base x →
          checked_numbers x ≡ verdict_numbers (verdict s certificate)
      unfolding verdict against
      sheet_goes_on c x e A =
          let O = opened s c (sym L.answered ∙ ap numbered e) in
          A.answers O.stands.trees O.sheet_is.base (standing c O)
          ∙ ap verdict_numbers (in_base O.sheet_is (certificate_at certificate) ∙ sym (rw O.is))

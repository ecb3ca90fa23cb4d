-- The parts of a pattern are earlier patterns, so its number falls. At each return the row's kind and the word's kind say which case holds.
use Prim.Native.Nat.{◌+◌}
use mathlib.Core.Path.{◌≡◌, refl, sym, ◌∙◌}
use native.Mathlib.Omega.{arith}
use Rattle.forms.specs.KindNumbers.{kind_number}
use Rattle.records.specs.PatternNumbers.{pattern_number}
use Rattle.records.specs.declared.pattern_kind.PatternKind.TheVariants.{Any, Exactly, Not}
use Rattle.records.proofs.PatternNumbers.{number_is}
use Rattle.patterns.proofs.Trying.{none_fits, pattern_same, kind_same, kind_other, has_parts, has_two, any_room, any_fits, exact_fits, left_low, left_tried, shape_misses, part_misses, neg_fits, right_low, right_tried, both_fit}
use Rattle.patterns.proofs.+fits.Goals as goal

pub returns-in_default : goal.returns-in_default
returns-in_default t c = none_fits _ _ _ _ _ _ c.at.ensures (sym c.of.ensures ∙ c.in_default.is)

pub extended-requires : goal.extended-requires
extended-requires t c = any_room _ _ _ _ _ c.requires _ c.at.ensures (number_is _ _ _ (sym c.in-Some.is ∙ c.of.ensures) refl ∙ pattern_same _ c.in-Some.kind Any c.eq.ensures c.if-eq.true)

pub returns-then-eq : goal.returns-then-eq
returns-then-eq t c = any_fits _ _ _ _ _ _ _ c.at.ensures (number_is _ _ _ (sym c.in-Some.is ∙ c.of.ensures) refl ∙ pattern_same _ c.in-Some.kind Any c.eq.ensures c.if-eq.true) c.extended.ensures

pub returns-then-eq-2 : goal.returns-then-eq-2
returns-then-eq-2 t c = exact_fits _ _ _ _ _ _ _ _ c.at.ensures c.at-one.ensures (number_is _ _ _ (sym c.in-Some.is ∙ c.of.ensures) refl ∙ pattern_same _ c.in-Some.kind Exactly c.eq-2.ensures c.if-eq-2.true) refl

pub returns-then-ne : goal.returns-then-ne
returns-then-ne t c =
    let k : c.at.result ≡ pattern_number c.in-Some.kind = number_is _ _ _ (sym c.in-Some.is ∙ c.of.ensures) refl in
    let h = has_parts _ _ _ c.eq.ensures c.if-eq.false c.eq-2.ensures c.if-eq-2.false in
    shape_misses _ _ _ _ _ _ _ _ _ _ (sym k ∙ c.at.ensures) c.at-one.ensures c.at-w.ensures c.of_word.ensures refl h (λ e. kind_other _ _ _ c.ne.ensures c.if-ne.true (e ∙ sym (c.over.ensures h)))

pub fits-requires : goal.fits-requires
fits-requires t c =
    let k : c.at.result ≡ pattern_number c.in-Some.kind = number_is _ _ _ (sym c.in-Some.is ∙ c.of.ensures) refl in
    let h = has_parts _ _ _ c.eq.ensures c.if-eq.false c.eq-2.ensures c.if-eq-2.false in
    let s : kind_number c.of_word.result ≡ pattern_number c.in-Some.kind + 1 = kind_same _ _ _ c.ne.ensures c.if-ne.false ∙ c.over.ensures h in
    let low = left_low _ _ _ _ _ _ _ _ _ _ (sym k ∙ c.at.ensures) c.at-one.ensures c.at-w.ensures c.of_word.ensures c.left_of.ensures h c.requires in
    (omega (arith, c.decreases, low), left_tried _ _ _ _ _ _ _ _ _ _ (sym k ∙ c.at.ensures) c.at-one.ensures c.at-w.ensures c.of_word.ensures c.left_of.ensures h s c.requires)

pub returns-then-not-fits : goal.returns-then-not-fits
returns-then-not-fits t c =
    let k : c.at.result ≡ pattern_number c.in-Some.kind = number_is _ _ _ (sym c.in-Some.is ∙ c.of.ensures) refl in
    let h = has_parts _ _ _ c.eq.ensures c.if-eq.false c.eq-2.ensures c.if-eq-2.false in
    let s : kind_number c.of_word.result ≡ pattern_number c.in-Some.kind + 1 = kind_same _ _ _ c.ne.ensures c.if-ne.false ∙ c.over.ensures h in
    part_misses _ _ _ _ _ _ _ _ _ _ (sym k ∙ c.at.ensures) c.at-one.ensures c.at-w.ensures c.of_word.ensures c.left_of.ensures h s (rw c.if-not-fits.true at c.fits.ensures)

pub returns-then-eq-3 : goal.returns-then-eq-3
returns-then-eq-3 t c =
    let k : c.at.result ≡ pattern_number c.in-Some.kind = number_is _ _ _ (sym c.in-Some.is ∙ c.of.ensures) refl in
    let h = has_parts _ _ _ c.eq.ensures c.if-eq.false c.eq-2.ensures c.if-eq-2.false in
    let s : kind_number c.of_word.result ≡ pattern_number c.in-Some.kind + 1 = kind_same _ _ _ c.ne.ensures c.if-ne.false ∙ c.over.ensures h in
    neg_fits _ _ _ _ _ _ _ _ _ _ (sym k ∙ c.at.ensures) c.at-one.ensures c.at-w.ensures c.of_word.ensures c.left_of.ensures h _ s (pattern_same _ c.in-Some.kind Not c.eq-3.ensures c.if-eq-3.true) (rw c.if-not-fits.false at c.fits.ensures)

pub fits-requires-2 : goal.fits-requires-2
fits-requires-2 t c =
    let k : c.at.result ≡ pattern_number c.in-Some.kind = number_is _ _ _ (sym c.in-Some.is ∙ c.of.ensures) refl in
    let h = has_parts _ _ _ c.eq.ensures c.if-eq.false c.eq-2.ensures c.if-eq-2.false in
    let g = has_two _ _ h c.eq-3.ensures c.if-eq-3.false in
    let s : kind_number c.of_word.result ≡ pattern_number c.in-Some.kind + 1 = kind_same _ _ _ c.ne.ensures c.if-ne.false ∙ c.over.ensures h in
    let low = right_low _ _ _ _ _ _ _ _ _ _ (sym k ∙ c.at.ensures) c.at-one.ensures c.at-w.ensures c.of_word.ensures c.left_of.ensures h _ _ c.at-two.ensures c.right_of.ensures g s _ (rw c.if-not-fits.false at c.fits.ensures) c.requires in
    (omega (arith, c.decreases, low), right_tried _ _ _ _ _ _ _ _ _ _ (sym k ∙ c.at.ensures) c.at-one.ensures c.at-w.ensures c.of_word.ensures c.left_of.ensures h _ _ c.at-two.ensures c.right_of.ensures g s _ (rw c.if-not-fits.false at c.fits.ensures) c.requires)

pub returns : goal.returns
returns t c =
    let k : c.at.result ≡ pattern_number c.in-Some.kind = number_is _ _ _ (sym c.in-Some.is ∙ c.of.ensures) refl in
    let h = has_parts _ _ _ c.eq.ensures c.if-eq.false c.eq-2.ensures c.if-eq-2.false in
    let g = has_two _ _ h c.eq-3.ensures c.if-eq-3.false in
    let s : kind_number c.of_word.result ≡ pattern_number c.in-Some.kind + 1 = kind_same _ _ _ c.ne.ensures c.if-ne.false ∙ c.over.ensures h in
    both_fit _ _ _ _ _ _ _ _ _ _ (sym k ∙ c.at.ensures) c.at-one.ensures c.at-w.ensures c.of_word.ensures c.left_of.ensures h _ _ c.at-two.ensures c.right_of.ensures g s _ (rw c.if-not-fits.false at c.fits.ensures) _ c.fits-2.ensures

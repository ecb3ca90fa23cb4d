-- In each arm the kind says which parts the record has.
use mathlib.Core.Path.{ap, ◌∙◌}
use native.Mathlib.Omega.{arith}
use Rattle.forms.specs.KindNumbers.{kind_number}
use Rattle.forms.proofs.KindNumbers.{truth_between, joined_above}
use Rattle.certificates.proofs.Pieces.{kind_fits, atom_fits, atom_emitted, plain_emitted, first_fits, neg_emitted, second_fits, bin_emitted}
use Rattle.certificates.proofs.emit_record.Goals as goal

pub number-requires-2 : goal.number-requires-2
number-requires-2 g c = kind_fits _ _ _ _ _ _ (c.number.ensures ∙ c.of_word-kind.ensures) c.requires

pub number-requires-in-Atom : goal.number-requires-in-Atom
number-requires-in-Atom g c =
    atom_fits _ _ _ _ _ _ (c.number.ensures ∙ c.of_word-kind.ensures) c.requires _ _ c.number-2.ensures.emitted _ c.left_of.ensures (c.number.ensures ∙ ap kind_number c.in-Atom.is)

pub returns-in-Atom-clause-emitted : goal.returns-in-Atom-clause-emitted
returns-in-Atom-clause-emitted g c =
    atom_emitted _ _ _ _ _ _ (c.number.ensures ∙ c.of_word-kind.ensures) c.requires _ _ c.number-2.ensures.emitted _ _ _ c.left_of.ensures (c.number.ensures ∙ ap kind_number c.in-Atom.is) c.number-in-Atom.ensures.emitted

pub returns-in-True-clause-emitted : goal.returns-in-True-clause-emitted
returns-in-True-clause-emitted g c =
    let t = truth_between _ c.in-True.is in
    let e = c.number.ensures in
    plain_emitted _ _ _ _ _ _ (e ∙ c.of_word-kind.ensures) c.requires _ _ c.number-2.ensures.emitted (omega (arith, e, t.0)) (omega (arith, e, t.1))

pub emit_place-requires : goal.emit_place-requires
emit_place-requires g c =
    let e = c.number.ensures ∙ ap kind_number c.in-Not.is in
    first_fits _ _ _ _ _ _ (c.number.ensures ∙ c.of_word-kind.ensures) c.requires _ _ c.number-2.ensures.emitted (omega (arith, e)) _ c.left_of-in-Not.ensures

pub returns-in-Not-clause-emitted : goal.returns-in-Not-clause-emitted
returns-in-Not-clause-emitted g c =
    let e = c.number.ensures ∙ ap kind_number c.in-Not.is in
    neg_emitted _ _ _ _ _ _ (c.number.ensures ∙ c.of_word-kind.ensures) c.requires _ _ c.number-2.ensures.emitted (omega (arith, e)) _ c.left_of-in-Not.ensures _ _ c.emit_place.ensures.emitted e

pub emit_place-requires-in-And : goal.emit_place-requires-in-And
emit_place-requires-in-And g c =
    let e = c.number.ensures in
    let two = joined_above _ c.in-And.is in
    first_fits _ _ _ _ _ _ (e ∙ c.of_word-kind.ensures) c.requires _ _ c.number-2.ensures.emitted (omega (arith, e, two)) _ c.left_of-in-And.ensures

pub emit_place-requires-in-And-2 : goal.emit_place-requires-in-And-2
emit_place-requires-in-And-2 g c =
    let e = c.number.ensures in
    let two = joined_above _ c.in-And.is in
    second_fits _ _ _ _ _ _ (e ∙ c.of_word-kind.ensures) c.requires _ _ c.number-2.ensures.emitted (omega (arith, e, two)) _ c.left_of-in-And.ensures _ _ c.emit_place-in-And.ensures.emitted (omega (arith, e, two)) _ c.right_of.ensures

pub returns-in-And-clause-emitted : goal.returns-in-And-clause-emitted
returns-in-And-clause-emitted g c =
    let e = c.number.ensures in
    let two = joined_above _ c.in-And.is in
    bin_emitted _ _ _ _ _ _ (e ∙ c.of_word-kind.ensures) c.requires _ _ c.number-2.ensures.emitted (omega (arith, e, two)) _ c.left_of-in-And.ensures _ _ c.emit_place-in-And.ensures.emitted (omega (arith, e, two)) _ c.right_of.ensures _ _ c.emit_place-in-And-2.ensures.emitted

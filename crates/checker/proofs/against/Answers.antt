-- `checker::against` meets its contract: a count that is refused refuses the certificate; else the propositions are named as the definitions read them,
-- and the proof is judged over that listing.
use mathlib.Core.Path.{sym, ap, ◌∙◌}
use native.Mathlib.Omega.{arith}
use Rattle.std.proofs.lemmas.Result.{err_from_is_err_and}
use Rattle.numbers.specs.Gotten.{gotten}
use Rattle.theorems.proofs.Reading.{ensured, ensures_from}
use Rattle.checker.proofs.Mapping.{mapped_ok, mapped_err}
use Rattle.checker.proofs.Passing.{count_stops, count_goes_on, listing_ready, listing_stops, listing_goes_on}
use Rattle.checker.proofs.against.Goals as goal

pub returns-in_err-count : goal.returns-in_err-count
returns-in_err-count c =
    let e = err_from_is_err_and c.from_residual.result c.from_residual.ensures.1 in
    let m = mapped_err _ _ _ c.map_err.ensures.cases _ c.in_err-count.was in
    rw (e.1, e.2) (count_stops _ _ _ _ _ m.0 _ (sym c.read_from.ensures ∙ ap gotten m.1) m.2)

pub read_propositions-listed-requires : goal.read_propositions-listed-requires
read_propositions-listed-requires c =
    let f = sym c.read_from.ensures ∙ ap gotten (mapped_ok _ _ _ c.map_err.ensures.cases _ c.in_ok-count.was) in
    let few = (ensured (ensures_from 0 4608 _ 0) f).1 in
    let h = c.requires.fixed in
    record { names = omega (arith, few, h); words = omega (arith, few, h); forms = omega (arith, h) }

pub returns-in_err-next : goal.returns-in_err-next
returns-in_err-next c =
    let f = sym c.read_from.ensures ∙ ap gotten (mapped_ok _ _ _ c.map_err.ensures.cases _ c.in_ok-count.was) in
    let few = (ensured (ensures_from 0 4608 _ 0) f).1 in
    let e = err_from_is_err_and c.from_residual-in_err-next.result c.from_residual-in_err-next.ensures.1 in
    let m = mapped_err _ _ _ c.map_err-2.ensures.cases _ c.in_err-next.was in
    rw (e.1, e.2)
    (count_goes_on _ _ _ _ _ _ _ _ f (listing_stops _ _ _ _ _ _ _ _ few c.requires.fixed _ _ _ c.read_propositions-listed.ensures _ _ m.1 m.2))

pub over_proof-requires : goal.over_proof-requires
over_proof-requires c =
    let f = sym c.read_from.ensures ∙ ap gotten (mapped_ok _ _ _ c.map_err.ensures.cases _ c.in_ok-count.was) in
    let few = (ensured (ensures_from 0 4608 _ 0) f).1 in
    let e = mapped_ok _ _ _ c.map_err-2.ensures.cases _ c.in_ok-next.was in
    listing_ready _ _ _ _ _ _ _ _ few c.requires.fixed _ _ _ c.read_propositions-listed.ensures _ _ c.requires.standing _ e

pub returns : goal.returns
returns c =
    let f = sym c.read_from.ensures ∙ ap gotten (mapped_ok _ _ _ c.map_err.ensures.cases _ c.in_ok-count.was) in
    let few = (ensured (ensures_from 0 4608 _ 0) f).1 in
    let e = mapped_ok _ _ _ c.map_err-2.ensures.cases _ c.in_ok-next.was in
    count_goes_on _ _ _ _ _ _ _ _ f (listing_goes_on _ _ _ _ _ _ _ _ few c.requires.fixed _ _ _ c.read_propositions-listed.ensures _ _ e c.over_proof.ensures)

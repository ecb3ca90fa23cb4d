-- The parts of a proposition are earlier in the table, so its number falls. Each way lists them, then enters the proposition behind them.
use Prim.Native.Nat.{◌≤◌}
use mathlib.Core.Path.{ap}
use native.Mathlib.Omega.{arith}
use Rattle.forms.specs.KindNumbers.{kind_number}
use Rattle.forms.proofs.KindNumbers.{plain_below, joined_above}
use Rattle.certificates.proofs.Marking.{old_lists, open_enter, open_lists, open_plain, first_below, first_listable, open_one, second_below, second_listable, open_two}
use Rattle.certificates.proofs.+list.Goals as goal

pub returns-then-at-gt0 : goal.returns-then-at-gt0
returns-then-at-gt0 t c = old_lists _ _ _ _ _ _ c.at.ensures c.if-at-gt0.true

pub enter-requires : goal.enter-requires
enter-requires t c =
    open_enter _ _ _ _ _ _ _ (open_plain _ _ _ _ _ _ c.at.ensures c.if-at-gt0.false _ c.at-w.ensures _ c.of_word.ensures (plain_below _ c.in-Atom.is)) c.requires

pub returns-in-Atom : goal.returns-in-Atom
returns-in-Atom t c =
    let low = plain_below _ c.in-Atom.is in
    open_lists _ _ _ _ _ _ _ (open_plain _ _ _ _ _ _ c.at.ensures c.if-at-gt0.false _ c.at-w.ensures _ c.of_word.ensures low) _ _ c.enter.ensures

pub list-first-requires : goal.list-first-requires
list-first-requires t c =
    let e = ap kind_number c.in-Not.is in
    let h : 3 ≤ kind_number c.of_word.result = omega (arith, e) in
    let low = first_below _ _ _ _ _ _ c.at.ensures c.if-at-gt0.false _ c.at-w.ensures _ c.of_word.ensures h _ c.left_of.ensures c.requires in
    (omega (arith, c.decreases, low), first_listable _ _ _ _ _ _ c.at.ensures c.if-at-gt0.false _ c.at-w.ensures _ c.of_word.ensures h _ c.left_of.ensures c.requires)

pub enter-requires-in-Not : goal.enter-requires-in-Not
enter-requires-in-Not t c =
    let e = ap kind_number c.in-Not.is in
    open_enter _ _ _ _ _ _ _ (open_one _ _ _ _ _ _ c.at.ensures c.if-at-gt0.false _ c.at-w.ensures _ c.of_word.ensures (omega (arith, e)) _ c.left_of.ensures _ _ c.list-first.ensures e) c.requires

pub returns-in-Not : goal.returns-in-Not
returns-in-Not t c =
    let e = ap kind_number c.in-Not.is in
    open_lists _ _ _ _ _ _ _ (open_one _ _ _ _ _ _ c.at.ensures c.if-at-gt0.false _ c.at-w.ensures _ c.of_word.ensures (omega (arith, e)) _ c.left_of.ensures _ _ c.list-first.ensures e) _ _ c.enter-in-Not.ensures

pub list-first-requires-in-And : goal.list-first-requires-in-And
list-first-requires-in-And t c =
    let two = joined_above _ c.in-And.is in
    let h : 3 ≤ kind_number c.of_word.result = omega (arith, two) in
    let low = first_below _ _ _ _ _ _ c.at.ensures c.if-at-gt0.false _ c.at-w.ensures _ c.of_word.ensures h _ c.left_of-in-And.ensures c.requires in
    (omega (arith, c.decreases, low), first_listable _ _ _ _ _ _ c.at.ensures c.if-at-gt0.false _ c.at-w.ensures _ c.of_word.ensures h _ c.left_of-in-And.ensures c.requires)

pub list-second-requires : goal.list-second-requires
list-second-requires t c =
    let two = joined_above _ c.in-And.is in
    let h : 3 ≤ kind_number c.of_word.result = omega (arith, two) in
    let low = second_below _ _ _ _ _ _ c.at.ensures c.if-at-gt0.false _ c.at-w.ensures _ c.of_word.ensures h _ c.left_of-in-And.ensures _ _ c.list-first-in-And.ensures two _ c.right_of.ensures c.requires in
    (omega (arith, c.decreases, low), second_listable _ _ _ _ _ _ c.at.ensures c.if-at-gt0.false _ c.at-w.ensures _ c.of_word.ensures h _ c.left_of-in-And.ensures _ _ c.list-first-in-And.ensures two _ c.right_of.ensures c.requires)

pub enter-requires-in-And : goal.enter-requires-in-And
enter-requires-in-And t c =
    let two = joined_above _ c.in-And.is in
    open_enter _ _ _ _ _ _ _ (open_two _ _ _ _ _ _ c.at.ensures c.if-at-gt0.false _ c.at-w.ensures _ c.of_word.ensures (omega (arith, two)) _ c.left_of-in-And.ensures _ _ c.list-first-in-And.ensures two _ c.right_of.ensures _ _ c.list-second.ensures) c.requires

pub returns-in-And : goal.returns-in-And
returns-in-And t c =
    let two = joined_above _ c.in-And.is in
    open_lists _ _ _ _ _ _ _ (open_two _ _ _ _ _ _ c.at.ensures c.if-at-gt0.false _ c.at-w.ensures _ c.of_word.ensures (omega (arith, two)) _ c.left_of-in-And.ensures _ _ c.list-first-in-And.ensures two _ c.right_of.ensures _ _ c.list-second.ensures) _ _ c.enter-in-And.ensures

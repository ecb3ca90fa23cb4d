-- The tests on the kind say which expression it is.
use Rattle.expressions.proofs.Steps.{proposition, variable_is, constructor, ruled, closure_is, fix_is, fix_asks}
use Rattle.std.proofs.Common.{rules}
use Rattle.records.proofs.PhraseNumbers.{phrase_is, phrase_not}
use Rattle.records.specs.declared.phrase_kind.PhraseKind.TheVariants.{Proposition, Variable, Constructor, Rule, Fix}
use Rattle.expressions.proofs.Machine.plain.Goals as goal

pub returns-in-Some-Proposition-clause-stepped : goal.returns-in-Some-Proposition-clause-stepped
returns-in-Some-Proposition-clause-stepped c = λ d. proposition _ _ _ _ _ _ _ c.at-kind.ensures c.at-a.ensures (phrase_is _ _ _ Proposition c.of.ensures c.in-Some-Proposition.is c.in-Some-Proposition.field-0-is)

pub returns-in-Some-Variable-clause-stepped : goal.returns-in-Some-Variable-clause-stepped
returns-in-Some-Variable-clause-stepped c = λ d. variable_is _ _ _ _ _ _ _ _ c.at-kind.ensures c.at-a.ensures (phrase_is _ _ _ Variable c.of.ensures c.in-Some-Variable.is c.in-Some-Variable.field-0-is) c.variable.ensures

pub returns-in-Some-Constructor-clause-stepped : goal.returns-in-Some-Constructor-clause-stepped
returns-in-Some-Constructor-clause-stepped c = λ d. constructor _ _ _ _ _ _ _ c.at-kind.ensures c.at-a.ensures (phrase_is _ _ _ Constructor c.of.ensures c.in-Some-Constructor.is c.in-Some-Constructor.field-0-is)

pub returns-in-Some-Rule-clause-stepped : goal.returns-in-Some-Rule-clause-stepped
returns-in-Some-Rule-clause-stepped c = λ d. ruled _ _ _ _ _ _ _ c.at-kind.ensures c.at-a.ensures (phrase_is _ _ _ Rule c.of.ensures c.in-Some-Rule.is c.in-Some-Rule.field-0-is)

pub fix-requires : goal.fix-requires
fix-requires c =
    let at1 = c.at-kind in
    let at2 = c.at-a in
    fix_asks _ _ _ _ _ _ c.requires.ready at1.ensures at2.ensures (phrase_is _ _ _ Fix c.of.ensures c.in-Some-Fix.is c.in-Some-Fix.field-0-is)

pub returns-in-Some-Fix-clause-stepped : goal.returns-in-Some-Fix-clause-stepped
returns-in-Some-Fix-clause-stepped c =
    let at1 = c.at-kind in
    let at2 = c.at-a in
    λ d.
    let z = fix_asks _ _ _ _ _ _ c.requires.ready at1.ensures at2.ensures (phrase_is _ _ _ Fix c.of.ensures c.in-Some-Fix.is c.in-Some-Fix.field-0-is) in
    rw (c.fix.ensures.same.1) (fix_is _ _ _ _ _ _ _ _ _ _ at1.ensures at2.ensures (phrase_is _ _ _ Fix c.of.ensures c.in-Some-Fix.is c.in-Some-Fix.field-0-is) z.0 c.fix.ensures.bound.0 c.fix.ensures.bound.1 c.fix.ensures.bound.2)

pub returns-in_default-clause-stepped : goal.returns-in_default-clause-stepped
returns-in_default-clause-stepped c =
    λ d.
    closure_is _ _ _ _ _ _ _ c.at-kind.ensures (phrase_not _ _ Proposition c.of.ensures (search rules)) (phrase_not _ _ Variable c.of.ensures (search rules)) (phrase_not _ _ Constructor c.of.ensures (search rules)) (phrase_not _ _ Rule c.of.ensures (search rules)) (phrase_not _ _ Fix c.of.ensures (search rules)) c.requires.runs_no_other.0 c.requires.runs_no_other.1 c.requires.runs_no_other.2 c.closure.ensures

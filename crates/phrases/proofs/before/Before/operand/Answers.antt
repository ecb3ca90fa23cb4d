-- One reading for each kind of operand.
use Rattle.records.specs.Reading.{row_ref}
use Rattle.phrases.specs.Shapes.{operand_at}
use Rattle.records.proofs.Tables.{rows_long}
use Rattle.phrases.proofs.before.Before.operand.Goals as goal

pub returns-in-Variable : goal.returns-in-Variable
unfolding operand_at
returns-in-Variable c = rw c.in-Variable.is c.read_from.ensures

pub returns-in-Constructor : goal.returns-in-Constructor
unfolding operand_at
returns-in-Constructor c = rw c.in-Constructor.is c.read_from-in-Constructor.ensures

pub returns-in-Rule : goal.returns-in-Rule
unfolding operand_at
returns-in-Rule c = rw c.in-Rule.is c.read_from-in-Rule.ensures

pub returns-in-Parameters : goal.returns-in-Parameters
unfolding operand_at
returns-in-Parameters c = rw c.in-Parameters.is c.read_from-in-Parameters.ensures

pub returns-in-Phrase : goal.returns-in-Phrase
unfolding operand_at row_ref
returns-in-Phrase c = rw (c.in-Phrase.is, rows_long) c.read_below.ensures

pub returns-in-Expression : goal.returns-in-Expression
unfolding operand_at
returns-in-Expression c = rw c.in-Expression.is c.expression.ensures

pub returns-in-Deduction : goal.returns-in-Deduction
unfolding operand_at
returns-in-Deduction c = rw c.in-Deduction.is c.deduction.ensures

pub returns-in-Abstraction : goal.returns-in-Abstraction
unfolding operand_at
returns-in-Abstraction c = rw c.in-Abstraction.is c.abstraction.ensures

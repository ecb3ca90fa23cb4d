-- The clauses from the start are those stored, and the rest from here.
use Rattle.phrases.specs.Shapes.{operand_at}
use Rattle.records.specs.Answers.{rows_in}
use Rattle.phrases.proofs.OperandRuns.{clause_run, At}
use Rattle.phrases.proofs.before.Before.clause_list.Given as goal

abbrev pub invariant-loop-i : goal.invariant-loop-i
invariant-loop-i l = At (clause_run l.self.s.now l.self.patterns (operand_at l.self.s.now (rows_in 12 l.self.n l.self.phrases.now) l.body)) l.count l.at l.initial.row l.from l.row l.i l.p

-- The operands from the start are those stored, and the rest from here.
use Rattle.records.specs.Answers.{rows_in}
use Rattle.phrases.proofs.OperandRuns.{operand_run, At}
use Rattle.phrases.proofs.before.Before.operands.Given as goal

abbrev pub invariant-loop-i : goal.invariant-loop-i
invariant-loop-i l = At (operand_run l.self.s.now (rows_in 12 l.self.n l.self.phrases.now) l.what) l.count l.at l.initial.row l.from l.row l.i l.p

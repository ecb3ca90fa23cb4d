-- The clauses of a dmatch may be tried.
use Rattle.deductions.proofs.Matching.{clauses_offered}
use Rattle.deductions.proofs.Run.chosen.Goals as goal

pub choose-requires : goal.choose-requires
choose-requires c = clauses_offered _ _ _ _ _ _ _ c.at-count.ensures c.requires.2.kind c.requires.2

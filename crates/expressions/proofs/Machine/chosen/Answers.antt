-- The clauses of a match may be tried.
use Rattle.expressions.proofs.Matches.{clauses_offered}
use Rattle.expressions.proofs.Machine.chosen.Goals as goal

pub choose-requires : goal.choose-requires
choose-requires c = clauses_offered _ _ _ _ _ _ c.at-count.ensures c.requires.1

-- The place stays far below the top of a word.
use Rattle.std.proofs.Common.{rules}
use Rattle.certificates.proofs.Emitting.{groups_few}
use Rattle.certificates.proofs.sink.MeasureSink.number.Goals as goal

pub overflow_add-self : goal.overflow_add-self
overflow_add-self c = let f = groups_few c.args.v in let e = c.length_of.ensures in search rules

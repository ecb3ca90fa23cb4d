-- A pattern over two is read the same way whichever it is.
use mathlib.Core.Path.{◌≡◌}
use Rattle.std.specs.Prelude.{Some}
use Rattle.std.proofs.Common.{rules}
use Rattle.records.specs.PatternNumbers.{pattern_kind_of}
use Rattle.language.specs.Numbers.{then, record_at}
use Rattle.records.specs.Reading.{pattern_row}
use Rattle.records.proofs.ByKind.{row_junction}
use Rattle.records.proofs.patterns.pattern_row.Goals as goal

pub returns-in-And : goal.returns-in-And
unfolding pattern_row record_at then
returns-in-And c =
    let e : Some c.in_ok-kind.kind ≡ pattern_kind_of c.in_ok-k.k = search rules in
    rw (← c.in_ok-k.ensures, row_junction _ _ _ _ _ _ _ _ e c.in-And.is) c.junction.ensures

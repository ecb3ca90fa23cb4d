-- The table starts with two words, and each proposition adds one at most.
use mathlib.Core.Path.{sym}
use Rattle.reader.proofs.Naming.{part_room, part_refused, part_read}
use Rattle.reader.proofs.parts.propositions.Goals as goal

pub read_propositions-requires : goal.read_propositions-requires
read_propositions-requires c =
    let start = c.start-words.ensures in
    part_room _ _ c.args.forms.now _ c.requires.1 start.1 _ _ _ start.0 (sym c.in-Ok.ensures) c.requires.0 c.requires.2

pub returns-in-Ok : goal.returns-in-Ok
returns-in-Ok c =
    let start = c.start-words.ensures in
    part_read _ _ _ _ c.requires.1 start.1 _ _ _ _ _ _ start.0 (sym c.in-Ok.ensures) c.read_propositions.ensures

pub returns-in-Err : goal.returns-in-Err
returns-in-Err c =
    let start = c.start-words.ensures in
    part_refused _ _ _ _ c.requires.1 start.1 _ _ start.0 (sym c.in-Err.ensures)

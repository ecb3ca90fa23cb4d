-- What the text says from the start is what it says from here, and so are the bytes.
use Rattle.wording.proofs.Decoding.{At}
use Rattle.wording.proofs.decimals.read.Given as goal

abbrev pub invariant-loop-c : goal.invariant-loop-c
invariant-loop-c l = At l.piece l.initial.reading l.reading l.initial.out l.out l.c-index

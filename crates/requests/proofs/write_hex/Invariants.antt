-- What is written stands at the front.
use Rattle.std.proofs.Common.{◌≡◌, take}
use Rattle.words.specs.Front.{front}
use Rattle.requests.specs.Writing.{hex_of}
use Rattle.requests.proofs.write_hex.Given as goal

abbrev pub invariant-loop-i : goal.invariant-loop-i
invariant-loop-i l = l.out ≡ front (hex_of (take l.i l.s)) l.initial.out

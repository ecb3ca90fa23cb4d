-- What was emitted and what is ahead make up the proof; it is the same output.
use Prim.Native.Nat.{◌-◌}
use mathlib.Core.Path.{◌≡◌}
use Rattle.certificates.proofs.Proving.{ProofsAt}
use Rattle.certificates.proofs.emit_proof.Given as goal

abbrev pub invariant-loop-i : goal.invariant-loop-i
invariant-loop-i g l = record {
  same : g.S.Sink.name l.sink ≡ g.S.Sink.name l.initial.sink;
  proof : ProofsAt l.tokens l.m l.listing g.S.Sink.writes (g.S.Sink.place l.initial.sink) (g.S.Sink.bytes l.initial.sink) (g.S.Sink.bytes l.sink) l.i l.left (g.S.Sink.place l.sink);
}

abbrev pub decreases-loop-i : goal.decreases-loop-i
decreases-loop-i g l = l.m - l.i

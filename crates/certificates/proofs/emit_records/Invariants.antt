-- What was emitted and the records from here on make up all of them; it is the same output.
use mathlib.Core.Path.{◌≡◌}
use Rattle.certificates.proofs.Recording.{RecordsAt}
use Rattle.certificates.proofs.emit_records.Given as goal

abbrev pub invariant-loop-i : goal.invariant-loop-i
invariant-loop-i g l = record {
  same : g.S.Sink.name l.sink ≡ g.S.Sink.name l.initial.sink;
  records : RecordsAt l.forms l.n l.listing l.k g.S.Sink.writes (g.S.Sink.place l.initial.sink) (g.S.Sink.bytes l.initial.sink) (g.S.Sink.bytes l.sink) l.i (g.S.Sink.place l.sink);
}

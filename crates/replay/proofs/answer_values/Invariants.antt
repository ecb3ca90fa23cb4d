-- `replay::answer_values` is safe: the buffers keep their lengths.
use Rattle.std.proofs.Common.{length, ◌≡◌}
use Rattle.replay.proofs.answer_values.Given as goal

abbrev pub invariant-loop-k : goal.invariant-loop-k
invariant-loop-k g l =
    (length l.names ≡ 512) × (length l.forms ≡ 4610) × (length l.patterns ≡ 640) × (length l.phrases ≡ 6144) × (length l.base ≡ 64) × (length l.binds ≡ 16384)

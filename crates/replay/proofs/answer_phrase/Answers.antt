-- `replay::answer_phrase` is safe: what was read is what `evaluate` asks.
use native.Mathlib.Omega.{arith}
use Rattle.replay.proofs.Phrases.{phrase_ready}
use Rattle.replay.proofs.answer_phrase.Goals as goal

pub evaluate-requires : goal.evaluate-requires
evaluate-requires g c =
    let read_sheet = c.read_sheet in
    let kept = read_sheet.auto in
    let forms = c.requires.1 in
    let patterns = c.requires.2 in
    let phrases = c.requires.3 in
    let forms-kept = kept.forms in
    let patterns-kept = kept.patterns in
    let phrases-kept = kept.phrases in
    let first = c.at.ensures in
    let inside = c.if-c-k.false in
    let low = c.if-at.false in
    phrase_ready _ _ _ _ _ _ _ _ _ _ _ _ _ _ read_sheet.ensures c.in-Ok.is (omega arith) patterns-kept (omega arith) phrases-kept (omega arith) c.requires.5 _ (omega arith) (omega arith)

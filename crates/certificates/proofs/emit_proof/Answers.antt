-- What was emitted and what is ahead make up the proof.
use mathlib.Core.Path.{refl, ◌∙◌}
use Rattle.certificates.proofs.Proving.{proofs_start, place_fits, proofs_name, head_fits_at, proofs_head, proofs_end_at}
use Rattle.certificates.proofs.emit_proof.Goals as goal

pub loop-i-init : goal.loop-i-init
loop-i-init g c = record { same = refl; proof = proofs_start _ _ _ _ _ _ }

pub emit_place-requires : goal.emit_place-requires
emit_place-requires g c =
    place_fits _ _ _ _ _ _ _ _ _ _ c.loop-i.invariant.proof c.loop-i-test.true c.if-left-gt0.true _ c.at.ensures c.requires

pub loop-i-preserved-then-left-gt0 : goal.loop-i-preserved-then-left-gt0
loop-i-preserved-then-left-gt0 g c = record {
  same = c.emit_place.ensures.same ∙ c.loop-i.invariant.same;
  proof = proofs_name _ _ _ _ _ _ _ _ _ _ c.loop-i.invariant.proof c.loop-i-test.true c.if-left-gt0.true _ c.at.ensures _ _ c.emit_place.ensures.emitted;
}

pub emit_head-requires : goal.emit_head-requires
emit_head-requires g c = head_fits_at _ _ _ _ _ _ _ _ _ _ c.loop-i.invariant.proof c.loop-i-test.true c.if-left-gt0.false c.requires

pub loop-i-preserved : goal.loop-i-preserved
loop-i-preserved g c =
    let head = c.head_of-head.ensures in
    record {
      same = c.emit_head.ensures.same ∙ c.loop-i.invariant.same;
      proof = proofs_head _ _ _ _ _ _ _ _ _ _ c.loop-i.invariant.proof c.loop-i-test.true c.if-left-gt0.false _ head.0 head.2 _ _ c.emit_head.ensures.emitted;
    }

pub returns-clause-emitted : goal.returns-clause-emitted
returns-clause-emitted g c = proofs_end_at _ _ _ _ _ _ _ _ _ _ c.loop-i.invariant.proof c.loop-i-test.false

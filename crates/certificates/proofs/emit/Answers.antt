-- The count, the records, the proof and the conclusion, one after another.
use Rattle.certificates.proofs.Certifying.{count_fits, recording, proving, conclusion_fits, emits}
use Rattle.certificates.proofs.emit.Goals as goal

pub number-requires : goal.number-requires
number-requires g c = rw c.requires.1 (count_fits _ _ _ _ _ _ _ _ _ c.requires.0)

pub emit_records-requires : goal.emit_records-requires
emit_records-requires g c = recording _ _ _ _ _ _ _ _ _ _ _ (rw c.requires.1 at c.number.ensures.emitted) c.requires.0

pub emit_proof-requires : goal.emit_proof-requires
emit_proof-requires g c = proving _ _ _ _ _ _ _ _ _ _ _ (rw c.requires.1 at c.number.ensures.emitted) _ _ c.emit_records.ensures.emitted c.requires.0

pub emit_place-requires : goal.emit_place-requires
emit_place-requires g c =
    let records = c.emit_records in
    conclusion_fits _ _ _ _ _ _ _ _ _ _ _ (rw c.requires.1 at c.number.ensures.emitted) _ _ records.ensures.emitted _ _ c.emit_proof.ensures.emitted c.requires.0

pub returns-clause-emitted : goal.returns-clause-emitted
returns-clause-emitted g c =
    let records = c.emit_records in
    let proof = c.emit_proof in
    emits _ _ _ _ _ _ _ _ _ _ _ (rw c.requires.1 at c.number.ensures.emitted) _ _ records.ensures.emitted _ _ proof.ensures.emitted _ _ c.emit_place.ensures.emitted

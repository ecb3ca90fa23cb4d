-- What was emitted and the records from here on make up all of them.
use mathlib.Core.Path.{refl, ◌∙◌}
use Rattle.certificates.proofs.Recording.{records_start, record_fits, records_more, records_end}
use Rattle.certificates.proofs.emit_records.Goals as goal

pub loop-i-init : goal.loop-i-init
loop-i-init g c = record { same = refl; records = records_start _ _ _ _ _ _ _ }

pub emit_record-requires : goal.emit_record-requires
emit_record-requires g c =
    record_fits _ _ _ _ _ _ _ _ _ _ c.loop-i.invariant.records c.loop-i-test.true _ c.at-p.ensures _ c.at.ensures c.requires

pub loop-i-preserved : goal.loop-i-preserved
loop-i-preserved g c = record {
  same = c.emit_record.ensures.same ∙ c.loop-i.invariant.same;
  records = records_more _ _ _ _ _ _ _ _ _ _ c.loop-i.invariant.records c.loop-i-test.true _ c.at-p.ensures _ c.at.ensures _ _ c.emit_record.ensures.emitted;
}

pub returns-clause-emitted : goal.returns-clause-emitted
returns-clause-emitted g c = records_end _ _ _ _ _ _ _ _ _ _ c.loop-i.invariant.records c.loop-i-test.false

-- The public functions of `records`.
use Rattle.records.proofs as records
use Rattle.determined.specs.Once.{Once}

pub record Records : Type 0 where
  pub names_name_ref : Once records.names.name_ref.Kinds.ps records.names.name_ref.Kinds.r records.names.name_ref.Reads.Learnt
  pub names_cell : Once records.names.cell.Kinds.ps records.names.cell.Kinds.r records.names.cell.Reads.Learnt
  pub props_word_at : Once records.props.word_at.Kinds.ps records.props.word_at.Kinds.r records.props.word_at.Reads.Learnt
  pub pattern_kind_pattern_kind_of : Once records.pattern_kind.PatternKind.of.Kinds.ps records.pattern_kind.PatternKind.of.Kinds.r records.pattern_kind.PatternKind.of.Reads.Learnt
  pub pattern_kind_pattern_kind_number : Once records.pattern_kind.PatternKind.number.Kinds.ps records.pattern_kind.PatternKind.number.Kinds.r records.pattern_kind.PatternKind.number.Reads.Learnt
  pub phrase_kind_phrase_kind_of : Once records.phrase_kind.PhraseKind.of.Kinds.ps records.phrase_kind.PhraseKind.of.Kinds.r records.phrase_kind.PhraseKind.of.Reads.Learnt
  pub phrase_kind_phrase_kind_number : Once records.phrase_kind.PhraseKind.number.Kinds.ps records.phrase_kind.PhraseKind.number.Kinds.r records.phrase_kind.PhraseKind.number.Reads.Learnt
  pub patterns_read_pattern : Once records.patterns.read_pattern.Kinds.ps records.patterns.read_pattern.Kinds.r records.patterns.read_pattern.Reads.Learnt
  pub rows_lay : Once records.rows.lay.Kinds.ps records.rows.lay.Kinds.r records.rows.lay.Reads.Learnt

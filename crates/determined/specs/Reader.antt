-- The public functions of `reader`.
use Rattle.reader.proofs as reader
use Rattle.determined.specs.Once.{Once}

pub record Reader : Type 0 where
  pub read_sheet : Once reader.read_sheet.Kinds.ps reader.read_sheet.Kinds.r reader.read_sheet.Reads.Learnt
  pub read_propositions : Once reader.read_propositions.Kinds.ps reader.read_propositions.Kinds.r reader.read_propositions.Reads.Learnt
  pub parts_propositions : Once reader.parts.propositions.Kinds.ps reader.parts.propositions.Kinds.r reader.parts.propositions.Reads.Learnt
  pub parts_patterns : Once reader.parts.patterns.Kinds.ps reader.parts.patterns.Kinds.r reader.parts.patterns.Reads.Learnt
  pub parts_phrases : Once reader.parts.phrases.Kinds.ps reader.parts.phrases.Kinds.r reader.parts.phrases.Reads.Learnt
  pub parts_base : Once reader.parts.base.Kinds.ps reader.parts.base.Kinds.r reader.parts.base.Reads.Learnt
  pub parts_root : Once reader.parts.root.Kinds.ps reader.parts.root.Kinds.r reader.parts.root.Reads.Learnt

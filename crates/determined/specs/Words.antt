-- The public functions of `words`.
use Rattle.words.proofs as words
use Rattle.determined.specs.Once.{Once}

pub record Words : Type 0 where
  pub at : Once words.at.Kinds.ps words.at.Kinds.r words.at.Reads.Learnt
  pub put : Once words.put.Kinds.ps words.put.Kinds.r words.put.Reads.Learnt
  pub wipe : Once words.wipe.Kinds.ps words.wipe.Kinds.r words.wipe.Reads.Learnt
  pub put_all : Once words.put_all.Kinds.ps words.put_all.Kinds.r words.put_all.Reads.Learnt

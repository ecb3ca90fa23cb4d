-- The public functions of `numbers`.
use Rattle.numbers.proofs as numbers
use Rattle.numbers.specs.contracts as held
use Rattle.determined.specs.Once.{Once, OnceHeld}

pub record Numbers : Type 2 where
  pub cursor_at : OnceHeld held.cursor_at.ended (λ M 𝓤 𝓛. held.cursor_at.clauses 𝓛)
  pub moved : OnceHeld held.moved.ended (λ M 𝓤 𝓛. held.moved.clauses 𝓛)
  pub number_at : OnceHeld held.number_at.ended (λ M 𝓤 𝓛. held.number_at.clauses 𝓛)
  pub number_from : OnceHeld held.number_from.ended (λ M 𝓤 𝓛. held.number_from.clauses 𝓛)
  pub number_below : OnceHeld held.number_below.ended (λ M 𝓤 𝓛. held.number_below.clauses 𝓛)
  pub read : Once numbers.read.Kinds.ps numbers.read.Kinds.r numbers.read.Reads.Learnt
  pub read_from : Once numbers.read_from.Kinds.ps numbers.read_from.Kinds.r numbers.read_from.Reads.Learnt
  pub read_below : Once numbers.read_below.Kinds.ps numbers.read_below.Kinds.r numbers.read_below.Reads.Learnt
  pub length_of : Once numbers.length_of.Kinds.ps numbers.length_of.Kinds.r numbers.length_of.Reads.Learnt
  pub write : Once numbers.write.Kinds.ps numbers.write.Kinds.r numbers.write.Reads.Learnt
  -- those over a cursor again, by what a caller learns of them
  pub cursor_at_learnt : Once numbers.cursor_at.Kinds.ps numbers.cursor_at.Kinds.r numbers.cursor_at.Reads.Learnt
  pub moved_learnt : Once numbers.moved.Kinds.ps numbers.moved.Kinds.r numbers.moved.Reads.Learnt
  pub number_at_learnt : Once numbers.number_at.Kinds.ps numbers.number_at.Kinds.r numbers.number_at.Reads.Learnt
  pub number_from_learnt : Once numbers.number_from.Kinds.ps numbers.number_from.Kinds.r numbers.number_from.Reads.Learnt
  pub number_below_learnt : Once numbers.number_below.Kinds.ps numbers.number_below.Kinds.r numbers.number_below.Reads.Learnt

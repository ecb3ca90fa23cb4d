-- The first token tells the node.
use Prim.Native.Nat.{ℕ, zero, suc}
use mathlib.Core.Path.{◌≡◌, refl}
use native.Mathlib.Omega.{arith}
use lib.ListN.{get_or}
use Rattle.language.specs.Rules.{arity}
use Rattle.language.specs.RuleNumbers.{node_of}
use Rattle.language.specs.declared.node.Node.{Node}
use Rattle.language.specs.declared.node.Node.TheVariants.{Rule, Sequence, Hypothesis}
use Rattle.certificates.specs.declared.Head.{Head}
use Rattle.certificates.specs.Emitted.{head_by}
use Rattle.certificates.proofs.head_of.Goals as goal

abbrev head_at : Node → ℕ → Head
head_at Rule y = record { width = 2; names = get_or arity y 0; rules = record { 0 = 1 } }
head_at Sequence y = record { width = 1; names = 0; rules = record { 0 = 0 } }
head_at Hypothesis y = record { width = 1; names = 1; rules = record { 0 = 0 } }

heads : (x y : ℕ) → head_by x y ≡ head_at (node_of x) y
unfolding head_by
heads zero y = refl
heads (suc zero) y = refl
heads (suc (suc x)) y = refl

pub returns-in-Rule : goal.returns-in-Rule
returns-in-Rule c = rw (heads, ← c.at.ensures, ← c.of.ensures, c.in-Rule.is) (rw (c.arguments.ensures, c.at-in-Rule.ensures), omega arith, omega arith, omega arith)

pub returns-in-Sequence : goal.returns-in-Sequence
returns-in-Sequence c = rw (heads, ← c.at.ensures, ← c.of.ensures, c.in-Sequence.is) (refl, omega arith, omega arith, omega arith)

pub returns-in-Hypothesis : goal.returns-in-Hypothesis
returns-in-Hypothesis c = rw (heads, ← c.at.ensures, ← c.of.ensures, c.in-Hypothesis.is) (refl, omega arith, omega arith, omega arith)

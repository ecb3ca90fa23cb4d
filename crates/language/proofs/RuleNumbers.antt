-- A rule's number and the rule of a number undo one another; the kind of a node.
use Prim.Native.Nat.{ℕ, zero, suc, ◌≤◌}
use mathlib.Core.Path.{◌≡◌, refl}
use native.Mathlib.Omega.{arith}
use Rattle.std.specs.Prelude.{Some, None}
use borrow.Author.Rules.{rules as all_rules}
use Rattle.language.specs.RuleNumbers.{rule_number, rules, rule_of, node_of}
use Rattle.language.specs.declared.node.Node.TheVariants.{Sequence, Hypothesis}
use Rattle.language.specs.declared.node.Node.TheVariants.{Rule as RuleNode}
use Rattle.language.specs.declared.rule.Rule.{Rule}
use Rattle.language.specs.declared.rule.Rule.TheVariants.{Claim, ModusPonens, ModusTollens, DoubleNegation, Both, LeftAnd, RightAnd, LeftEither, RightEither, ConstructiveDilemma, Equivalence, LeftIff, RightIff, TrueIntro, Absurd, FalseElim}
use Rattle.language.proofs.Numbering as numbering

pub rule_found : (r : Rule) → rule_of (rule_number r) ≡ Some r
rule_found Claim = refl
rule_found ModusPonens = refl
rule_found ModusTollens = refl
rule_found DoubleNegation = refl
rule_found Both = refl
rule_found LeftAnd = refl
rule_found RightAnd = refl
rule_found LeftEither = refl
rule_found RightEither = refl
rule_found ConstructiveDilemma = refl
rule_found Equivalence = refl
rule_found LeftIff = refl
rule_found RightIff = refl
rule_found TrueIntro = refl
rule_found Absurd = refl
rule_found FalseElim = refl

pub number_found : (n : ℕ) (r : Rule) → rule_of n ≡ Some r → rule_number r ≡ n
number_found = numbering.found rules rule_number refl

pub number_is : (n : ℕ) (r s : Rule) → Some r ≡ rule_of n → r ≡ s → n ≡ rule_number s
number_is = numbering.is rules rule_number refl

pub none_found : (n : ℕ) → rule_of n ≡ None → 16 ≤ n
none_found = numbering.none rules rule_number refl

-- the kind of a node
pub rule_kind : (n : ℕ) → node_of n ≡ RuleNode → n ≡ 0
rule_kind zero e = refl
rule_kind (suc zero) e = search all_rules
rule_kind (suc (suc n)) e = search all_rules

pub sequence_kind : (n : ℕ) → node_of n ≡ Sequence → n ≡ 1
sequence_kind zero e = search all_rules
sequence_kind (suc zero) e = refl
sequence_kind (suc (suc n)) e = search all_rules

pub hypothesis_kind : (n : ℕ) → node_of n ≡ Hypothesis → (n ≡ 0 → ⊥) × (n ≡ 1 → ⊥)
hypothesis_kind zero e = search all_rules
hypothesis_kind (suc zero) e = search all_rules
hypothesis_kind (suc (suc n)) e = ((λ f. omega arith), (λ f. omega arith))

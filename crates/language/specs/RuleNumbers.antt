-- The number of each rule, and the node of each kind.
use Rattle.std.specs.Prelude.{ℕ, List, [], ◌∷◌, get_or, Option, slice_get}
use Rattle.language.specs.declared.node.Node.{Node}
use Rattle.language.specs.declared.node.Node.TheVariants.{Sequence, Hypothesis}
use Rattle.language.specs.declared.node.Node.TheVariants.{Rule as RuleNode}
use Rattle.language.specs.declared.rule.Rule.{Rule}
use Rattle.language.specs.declared.rule.Rule.TheVariants.{Claim, ModusPonens, ModusTollens, DoubleNegation, Both, LeftAnd, RightAnd, LeftEither, RightEither, ConstructiveDilemma, Equivalence, LeftIff, RightIff, TrueIntro, Absurd, FalseElim}

-- the number under which document 01 has it
abbrev pub rule_number : Rule → ℕ
rule_number Claim = 0
rule_number ModusPonens = 1
rule_number ModusTollens = 2
rule_number DoubleNegation = 3
rule_number Both = 4
rule_number LeftAnd = 5
rule_number RightAnd = 6
rule_number LeftEither = 7
rule_number RightEither = 8
rule_number ConstructiveDilemma = 9
rule_number Equivalence = 10
rule_number LeftIff = 11
rule_number RightIff = 12
rule_number TrueIntro = 13
rule_number Absurd = 14
rule_number FalseElim = 15

-- the rules in the order of their numbers
abbrev pub rules : List Rule
rules =
    Claim ∷ (ModusPonens ∷ (ModusTollens ∷ (DoubleNegation ∷ (Both ∷ (LeftAnd ∷ (RightAnd ∷ (LeftEither ∷ (
    RightEither ∷ (ConstructiveDilemma ∷ (Equivalence ∷ (LeftIff ∷ (RightIff ∷ (TrueIntro ∷ (Absurd ∷ (FalseElim ∷ [])))))))))))))))

-- the rule of a number, where it is a rule's
abbrev pub rule_of : ℕ → Option Rule
rule_of n = slice_get rules n

-- the node of a kind; a number that is no kind's is taken for a hypothesis's
abbrev pub node_of : ℕ → Node
node_of n = get_or (RuleNode ∷ (Sequence ∷ [])) n Hypothesis

-- The public functions of `language`.
use Rattle.language.proofs as language
use Rattle.determined.specs.Once.{Once}

pub record Language : Type 0 where
  pub arguments : Once language.arguments.Kinds.ps language.arguments.Kinds.r language.arguments.Reads.Learnt
  pub node_node_of : Once language.node.Node.of.Kinds.ps language.node.Node.of.Kinds.r language.node.Node.of.Reads.Learnt
  pub refusal_why_number : Once language.refusal.Why.number.Kinds.ps language.refusal.Why.number.Kinds.r language.refusal.Why.number.Reads.Learnt
  pub rule_rule_of : Once language.rule.Rule.of.Kinds.ps language.rule.Rule.of.Kinds.r language.rule.Rule.of.Reads.Learnt
  pub rule_rule_number : Once language.rule.Rule.number.Kinds.ps language.rule.Rule.number.Kinds.r language.rule.Rule.number.Reads.Learnt

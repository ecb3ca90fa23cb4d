-- The kind, and where it is 0 the rule.
use Rattle.certificates.proofs.Pieces.{head_fits, rule_fits, rule_emitted, head_emitted}
use Rattle.certificates.proofs.emit_head.Goals as goal

pub number-requires : goal.number-requires
number-requires g c = rw c.at-token.ensures (head_fits _ _ _ _ _ c.requires.0 c.requires.2)

pub number-requires-then-token : goal.number-requires-then-token
number-requires-then-token g c =
    let at1 = c.at-token in
    rw c.at.ensures (rule_fits _ _ _ _ _ c.requires.0 c.requires.2 _ _ (rw at1.ensures at c.number.ensures.emitted) (rw at1.ensures at c.if-token.true))

pub returns-then-token-clause-emitted : goal.returns-then-token-clause-emitted
returns-then-token-clause-emitted g c =
    let at1 = c.at-token in
    rule_emitted _ _ _ _ _ c.requires.0 c.requires.2 _ _ (rw at1.ensures at c.number.ensures.emitted) _ _ (rw at1.ensures at c.if-token.true) (rw c.at.ensures at c.number-then-token.ensures.emitted)

pub returns-else-token-clause-emitted : goal.returns-else-token-clause-emitted
returns-else-token-clause-emitted g c =
    let at1 = c.at-token in
    head_emitted _ _ _ _ _ c.requires.0 c.requires.2 _ _ (rw at1.ensures at c.number.ensures.emitted) (rw at1.ensures at c.if-token.false)

-- `template::named` meets its contract: the character picks the table.
use Rattle.std.proofs.Common.{◌≡◌, arith, ne_eqb}
use Rattle.wording.specs.Text.{text}
use Rattle.wording.specs.Tables.{refusals, constructors, rules}
use Rattle.wording.proofs.template.named.Goals as goal

pub returns-in-55 : goal.returns-in-55
unfolding constructors text
returns-in-55 c = rw c.in-55.is c.words.ensures

pub returns-in-56 : goal.returns-in-56
unfolding rules text
returns-in-56 c = rw c.in-56.is c.words-in-56.ensures

pub returns-in_default : goal.returns-in_default
unfolding refusals text
returns-in_default c =
    let no_constructor : c.args.c ≡ 55 → ⊥ = omega arith in
    let no_rule : c.args.c ≡ 56 → ⊥ = omega arith in
    simp (ne_eqb _ _ no_constructor, ne_eqb _ _ no_rule) c.words-in_default.ensures

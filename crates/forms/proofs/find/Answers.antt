-- The words passed so far are not the one that is sought.
use mathlib.Core.Path.{◌∙◌, sym}
use Rattle.std.proofs.Common.{length-take}
use Rattle.forms.proofs.Interning.{passed_hit, passed_more, passed_all}
use Rattle.forms.proofs.find.Goals as goal

pub returns-then-at-w : goal.returns-then-at-w
returns-then-at-w c =
    passed_hit _ c.args.n c.args.t.now _ (c.min-end.ensures ∙ sym (length-take _ _)) _ c.loop-i.invariant c.loop-i-test.true (sym c.at.ensures ∙ c.if-at-w.true)

pub loop-i-preserved : goal.loop-i-preserved
loop-i-preserved c =
    passed_more _ c.args.n c.args.t.now _ (c.min-end.ensures ∙ sym (length-take _ _)) _ c.loop-i.invariant c.loop-i-test.true (λ e. c.if-at-w.false (c.at.ensures ∙ e))

pub returns : goal.returns
returns c = passed_all _ c.args.n c.args.t.now _ (c.min-end.ensures ∙ sym (length-take _ _)) _ c.loop-i.invariant c.loop-i-test.false

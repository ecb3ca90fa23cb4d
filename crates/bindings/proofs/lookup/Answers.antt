-- Along the chain: the answer from the start is the answer from here.
use Rattle.std.specs.Prelude.{Some}
use mathlib.Core.Path.{sym, ap, ◌∙◌}
use Rattle.bindings.specs.declared.Binding.{Binding}
use Rattle.bindings.proofs.Numbers.{found_end, found_here, found_on}
use Rattle.bindings.proofs.Chains.{linked_low, linked_on}
use Rattle.bindings.proofs.lookup.Goals as goal

pub load-b-requires : goal.load-b-requires
load-b-requires c = linked_low _ _ c.loop-e.invariant.0 c.loop-e-test.true

pub returns-then-i-eq0 : goal.returns-then-i-eq0
returns-then-i-eq0 c = ap (λ (b : Binding). Some b.value) c.load-b.ensures ∙ found_here _ _ _ c.loop-e-test.true c.if-i-eq0.true ∙ sym c.loop-e.invariant.1

pub loop-e-preserved : goal.loop-e-preserved
loop-e-preserved c =
    rw c.load-b.ensures
    (linked_on _ _ c.loop-e.invariant.0 c.loop-e-test.true, c.loop-e.invariant.1 ∙ found_on _ _ _ c.loop-e-test.true c.if-i-eq0.false)

pub returns : goal.returns
returns c = found_end _ _ _ c.loop-e-test.false ∙ sym c.loop-e.invariant.1

-- Two results that the contract allows stand for one result of the definitions.
use Prim.Native.Nat.{ℕ}
use native.Mathlib.Omega.{arith}
use mathlib.Core.Path.{sym, ap, ◌∙◌}
use mathlib.Core.List.{List, ◌++◌}
use lib.ListN.{take}
use Rattle.language.specs.Form.{Form}
use Rattle.language.specs.Values.{Val, Out, out, stop}
use Rattle.language.specs.Run.{Derived}
use Rattle.forms.specs.Table.{number_of}
use Rattle.forms.proofs.Trees.{number_at}
use Rattle.expressions.specs.Machine as expressions
use Rattle.expressions.specs.Meets as expressions_meets
use Rattle.deductions.specs.Machine.{M, inner, MOut, concluded, refused}
use Rattle.deductions.specs.Meets.{Meets}
use Rattle.determined.specs.Alike.{ValuesAlike, ConclusionsAlike, ConclusionNumber}

pub values_by : (rows : List (List ℕ)) (m : expressions.M) (fs : List Form) (r : Out Val) (o o' : expressions.MOut) →
    expressions_meets.Meets 0 0 rows m fs o r → expressions_meets.Meets 0 0 rows m fs o' r → ValuesAlike rows fs o o'
unfolding expressions_meets.Meets ValuesAlike
values_by rows m fs (out X w) (expressions.done v m₁) (expressions.done v' m₂) (gs, g, x, e) (gs', g', x', e') =
    (e ∙ sym e', (X, record { more = gs; table = g.table; stands = x }, record { more = gs'; table = g'.table; stands = x' }))
values_by rows m fs (out X w) (expressions.done v m₁) (expressions.refused n k) x y = absurd y
values_by rows m fs (out X w) (expressions.refused n k) o' x y = absurd x
values_by rows m fs (stop a b) (expressions.done v m₁) o' x y = absurd x
values_by rows m fs (stop a b) (expressions.refused n k) (expressions.done v m₁) x y = absurd y
values_by rows m fs (stop a b) (expressions.refused n k) (expressions.refused n' k') x y = (x.0 ∙ sym y.0, x.1 ∙ sym y.1)

pub conclusions_by : (b : ℕ) (m : M) (fs : List Form) (r : Out Derived) (o o' : MOut) → Meets 0 0 0 b m fs o r → Meets 0 0 0 b m fs o' r → ConclusionsAlike fs m o o'
unfolding Meets ConclusionsAlike
conclusions_by b m fs (out d w) (concluded p m₁) (concluded p' m₂) (gs, ts, g, x, t, e) (gs', ts', g', x', t', e') = (
  e ∙ sym e',
  (
    d,
    record { more = gs; told = ts; table = g.inner.table; concludes = x; tokens = g.tokens; tells = t },
    record { more = gs'; told = ts'; table = g'.inner.table; concludes = x'; tokens = g'.tokens; tells = t' },
  ),
)
conclusions_by b m fs (out d w) (concluded p m₁) (refused n k) x y = absurd y
conclusions_by b m fs (out d w) (refused n k) o' x y = absurd x
conclusions_by b m fs (stop u v) (concluded p m₁) o' x y = absurd x
conclusions_by b m fs (stop u v) (refused n k) (concluded p m₁) x y = absurd y
conclusions_by b m fs (stop u v) (refused n k) (refused n' k') x y = (x.0 ∙ sym y.0, x.1 ∙ sym y.1)

pub conclusion_number : ConclusionNumber
unfolding ConclusionNumber
conclusion_number fs m₀ d p m c =
    let ws : List ℕ = take (inner m).st.props (inner m).forms in
    let many = c.table.count in
    let low = c.concludes.low in
    sym (number_at ws (fs ++ c.more) c.table p (omega arith)) ∙ ap (λ (x : Form). number_of x ws) c.concludes.tree

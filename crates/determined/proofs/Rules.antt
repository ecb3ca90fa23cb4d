-- The public functions of `rules`: each by the equations that its contract has.
use mathlib.Core.Path.{refl}
use Rattle.rules.proofs.Determined.{ruling_unique}
use Rattle.determined.specs.Once.{AnyTwo}
use Rattle.determined.specs.Rules.{Rules}
use Rattle.determined.proofs.Left.{pair}

pub rules : Rules
unfolding AnyTwo
rules = record {
  apply = λ κs a q z z' ws ws' x y. let (e, f) = ruling_unique _ _ _ _ _ _ _ _ _ _ z z' q x y in (e, pair f refl);
}

-- The word's lowest three bits are below 8.
use Prim.Native.Nat.{◌%◌}
use native.Mathlib.Omega.{arith}
use Rattle.forms.proofs.KindNumbers.{kind_at}
use Rattle.forms.proofs.kind.Kind.of_word.Goals as goal

pub returns : goal.returns
returns c = kind_at (c.args.w % 8) _ (omega arith)

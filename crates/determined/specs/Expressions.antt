-- The public functions of `expressions`. `evaluate` fixes what its value stands for (Alike.antt).
use Rattle.expressions.proofs as expressions
use Rattle.expressions.specs.Machine.{machine, Same, out_of}
use Rattle.determined.specs.Once.{Once, AnyTwo}
use Rattle.determined.specs.Alike.{ValuesAlike}

pub record Expressions : Type 0 where
  pub evaluate : AnyTwo expressions.Machine.evaluate.Kinds.ps expressions.Machine.evaluate.Kinds.r expressions.Machine.evaluate.Reads.Asked expressions.Machine.evaluate.Reads.Learnt
      (λ κs a ready z z' (self, _) (self', _). ValuesAlike ready.text.rows ready.formed (out_of (machine self) z) (out_of (machine self') z') × Same self self')
  pub bind_value : Once expressions.bind_value.Kinds.ps expressions.bind_value.Kinds.r expressions.bind_value.Reads.Learnt
  pub bind_parts : Once expressions.bind_parts.Kinds.ps expressions.bind_parts.Kinds.r expressions.bind_parts.Reads.Learnt

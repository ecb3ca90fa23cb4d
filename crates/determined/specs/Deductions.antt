-- The public function of `deductions`. It fixes the conclusion and its proof as table and tokens tell them (Alike.antt).
use Rattle.deductions.proofs as deductions
use Rattle.deductions.specs.Machine.{run, Same, out_of}
use Rattle.determined.specs.Once.{AnyTwo}
use Rattle.determined.specs.Alike.{ConclusionsAlike}

pub record Deductions : Type 0 where
  pub deduce : AnyTwo deductions.Run.deduce.Kinds.ps deductions.Run.deduce.Kinds.r deductions.Run.deduce.Reads.Asked deductions.Run.deduce.Reads.Learnt
      (λ κs (self₀, _) (ready, _) z z' (self, _) (self', _). ConclusionsAlike ready.formed (run self₀.now) (out_of (run self) z) (out_of (run self') z') × Same self self')

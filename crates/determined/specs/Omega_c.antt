-- The public functions of `omega_c`.
use Rattle.omega_c.proofs as omega_c
use Rattle.determined.specs.Once.{Once}

pub record Omega_c : Type 0 where
  pub waxdapple_evaluate : Once omega_c.waxdapple_evaluate.Kinds.ps omega_c.waxdapple_evaluate.Kinds.r omega_c.waxdapple_evaluate.Reads.Learnt
  pub waxdapple_check : Once omega_c.waxdapple_check.Kinds.ps omega_c.waxdapple_check.Kinds.r omega_c.waxdapple_check.Reads.Learnt

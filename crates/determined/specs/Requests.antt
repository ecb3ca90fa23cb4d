-- The public functions of `requests`.
use Rattle.requests.proofs as requests
use Rattle.determined.specs.Once.{Once}

pub record Requests : Type 0 where
  pub field_end : Once requests.field_end.Kinds.ps requests.field_end.Kinds.r requests.field_end.Reads.Learnt
  pub read_hex : Once requests.read_hex.Kinds.ps requests.read_hex.Kinds.r requests.read_hex.Reads.Learnt
  pub read_decimal : Once requests.read_decimal.Kinds.ps requests.read_decimal.Kinds.r requests.read_decimal.Reads.Learnt
  pub write_hex : Once requests.write_hex.Kinds.ps requests.write_hex.Kinds.r requests.write_hex.Reads.Learnt

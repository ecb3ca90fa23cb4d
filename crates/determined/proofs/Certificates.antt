-- The public function of `certificates`: the certificate that was told is one.
use Rattle.certificates.proofs.Determined.{certified_once}
use Rattle.determined.specs.Once.{AnyTwo}
use Rattle.determined.specs.Certificates.{Certificates}

pub certificates : Certificates
unfolding AnyTwo
certificates = record {
  write = λ κs a q z z' ws ws' x y. certified_once _ _ _ _ _ _ _ _ _ z z' q x y;
}

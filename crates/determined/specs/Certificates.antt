-- The public function of `certificates`. It fixes the answer and the output; the listing is left open, which its only caller wipes.
use Rattle.std.specs.Prelude.{◌≡◌}
use Rattle.certificates.proofs as certificates
use Rattle.determined.specs.Once.{AnyTwo}

pub record Certificates : Type 0 where
  pub write : AnyTwo certificates.write.Kinds.ps certificates.write.Kinds.r certificates.write.Reads.Asked certificates.write.Reads.Learnt
      (λ κs a q z z' (_, (_, (_, (_, (_, (listing, (out, _))))))) (_, (_, (_, (_, (_, (listing', (out', _))))))). (z ≡ z') × (out ≡ out'))

-- What a run derives is proved by the bytes of its certificate: they are read back inside the limits, and the checker accepts them.
use Prim.Native.Nat.{ℕ, ◌≤◌}
use native.Mathlib.Omega.{arith}
use mathlib.Core.Path.{◌≡◌, refl, subst⁻¹}
use mathlib.Core.List.{List}
use lib.ListN.{length, get_or}
use Rattle.language.specs.Form.{falsum}
use Rattle.language.specs.Syntax.{Sheet}
use Rattle.language.specs.Numbers.{got}
use Rattle.language.specs.Read.{sheet}
use Rattle.language.specs.Plain.{Proves, inferences}
use Rattle.language.specs.Run.{Derived}
use Rattle.language.specs.Certificate.{certificate, listing, index_of}
use Rattle.language.specs.Check.{Certificate, certificate_at, plain, verdict, stands}
use Rattle.theorems.specs.Demands.{SheetDerives, AcceptsExactly, ChecksExactly, InsideLimits, AnswersProved}
use Rattle.theorems.proofs.Certified.{certified}
use Rattle.theorems.proofs.Accepting.{accepts_exactly}
use Rattle.theorems.proofs.Reading.{ensured}
use Rattle.theorems.proofs.Checking.{checks_exactly}
use Rattle.theorems.proofs.RoundTrip.{Writable, ReadsAs, round_trip, proves_regular, certificate_stands}
use Rattle.theorems.proofs.Limits.{derived_writable}
use Rattle.theorems.proofs.Sheets.{sheet_well_formed}

-- what is derived in a sheet within the budget is small enough to be written; its certificate is read back, and stands
module _ (s : List ℕ) (S : Sheet) (end : ℕ) (reads : sheet s ≡ got S end) {w : ℕ} {d : Derived} (x : SheetDerives S d w) (work : w ≤ 1024) where
  small_enough : Writable d
  small_enough = derived_writable (ensured (sheet_well_formed s) reads) x (omega arith) work

  pub derived_read : (c : Certificate) × ReadsAs d c
  derived_read = round_trip d small_enough (proves_regular (certified x))

  pub derived_stands : verdict s (certificate d) ≡ stands (index_of d.conclusion (listing d)) (inferences d.proof)
  derived_stands = certificate_stands s S end d reads small_enough (certified x)

-- what is read where something writable was written is inside the limits
inside_limits : {d : Derived} {c : Certificate} → Writable d → ReadsAs d c → InsideLimits c
inside_limits ok r = record { few = rw r.forms ok.few; short = rw r.proof ok.short; shallow = rw r.proof ok.shallow }

pub answers_proved : AnswersProved
unfolding AnswersProved AcceptsExactly ChecksExactly
answers_proved s S end budget room bytes w i reads small a =
    let (d, x, within, is, count, _) = (accepts_exactly s S end budget room bytes w i reads small).0 a in
    let (c, r) = derived_read s S end reads x (omega arith) in
    let read : certificate_at bytes ≡ got c (length bytes) = subst⁻¹ (λ b. certificate_at b ≡ got c (length b)) is r.read in
    let proved : Proves S.base (plain c.proof) (get_or c.forms c.conclusion falsum) = rw (r.proof, r.states) (certified x) in
    let rules : i ≡ inferences (plain c.proof) = rw r.proof count in
    (c, read, inside_limits (small_enough s S end reads x (omega arith)) r, proved, rules, (checks_exactly s bytes S end c.conclusion i reads).1 (c, read, refl, proved, rules))

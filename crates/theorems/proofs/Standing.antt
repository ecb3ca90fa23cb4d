-- Demand 3: an accepted answer stands for a longer sheet, its certificate checks alone against it, and its conclusion holds wherever
-- the longer base does. The derivation stands in the larger base; the rest is demand 2 again, and soundness.
use native.Mathlib.Omega.{arith}
use mathlib.Core.Path.{◌≡◌, subst⁻¹}
use lib.ListN.{length}
use Rattle.language.specs.Numbers.{got}
use Rattle.language.specs.Values.{empty}
use Rattle.language.specs.Derives.{Derives}
use Rattle.language.specs.Check.{certificate_at}
use Rattle.theorems.specs.Demands.{AcceptsExactly, AnswersStandAsRead}
use Rattle.theorems.specs.Growth.{AnswersStand}
use Rattle.theorems.proofs.Members.{◌⊆◌, in_front}
use Rattle.theorems.proofs.Soundness.{proves_sound}
use Rattle.theorems.proofs.Certified.{certified}
use Rattle.theorems.proofs.Accepting.{accepts_exactly}
use Rattle.theorems.proofs.Answers.{derived_read, derived_stands}
use Rattle.theorems.proofs.Diluted.{diluted}
use Rattle.theorems.proofs.Grown.{grown_longer}
use Rattle.theorems.proofs.Parted.{parts_read}

pub answers_stand_as_read : AnswersStandAsRead
unfolding AnswersStandAsRead AcceptsExactly
answers_stand_as_read s t S T end end' b b' room room' w i bytes reads reads' l h h' f a =
    let (d, x, v, c, j, _) = (accepts_exactly s S end b room bytes w i reads (omega arith)).0 a in
    let larger : S.base ⊆ T.base = λ p i. rw l.base (in_front p S.base l.more_base i) in
    let z = subst⁻¹ (λ k. Derives S.phrases 64 empty T.base k d w) l.root (diluted x T.base larger) in
    let y = subst⁻¹ (λ fs. Derives fs 64 empty T.base T.root d w) l.phrases z in
    let (C, r) = derived_read t T end' reads' y (omega arith) in
    let checks = derived_stands t T end' reads' y (omega arith) in
    let is = r.conclusion in
    record {
      derived = d;
      here = x;
      there = y;
      answers = (accepts_exactly t T end' b' room' bytes w i reads' h').1 (d, y, omega arith, c, j, f);
      written = c;
      concludes = record { read = C; reads = subst⁻¹ (λ b. certificate_at b ≡ got C (length b)) c r.read; states = r.states };
      checks = cc (checks, c, j, is);
      holding = λ σ. proves_sound σ (certified y);
    }

-- the same of bytes that grow
pub answers_stand : AnswersStand
unfolding AnswersStand AnswersStandAsRead
answers_stand s t S T p q b b' room room' w i bytes g =
    answers_stand_as_read s t S T (length s) (length t) b b' room room' w i bytes (parts_read p) (parts_read q) (grown_longer p q g)

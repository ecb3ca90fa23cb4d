-- The root's run: what it leaves is what the certificate asks, and the answer is the definitions'.
use Rattle.std.specs.Prelude.{Result, Err}
use Prim.Native.Nat.{ℕ, ◌-◌, ◌≤◌}
use native.Mathlib.Omega.{arith}
use mathlib.Core.Path.{◌≡◌, refl, ap, ◌∙◌}
use mathlib.Core.List.{List, ◌++◌}
use lib.ListN.{length, take}
use Rattle.language.specs.Form.{Form}
use Rattle.language.specs.Values.{Out, out, stop, empty}
use Rattle.language.specs.Run.{Derived, deduce}
use Rattle.language.specs.Plain.{inferences}
use Rattle.language.specs.Certificate.{certificate}
use Rattle.language.specs.Answer.{ended, written}
use Rattle.language.specs.Doors.{evaluated_numbers, finished}
use Rattle.language.specs.Numbered.{number_of}
use Rattle.language.specs.declared.Accepted.{Accepted}
use Rattle.language.specs.declared.refusal.Refusal.{Refusal}
use Rattle.expressions.specs.Machine.{Shared}
use Rattle.deductions.specs.Machine.{M, concluded, refused, remaining}
use Rattle.deductions.specs.Asked.{Room}
use Rattle.deductions.specs.Meets.{Meets, Deduced}
use Rattle.certificates.specs.Certified.{Writing}
use Rattle.evaluator.specs.Door.{Gives}
use Rattle.evaluator.specs.Parts.{Rooted, Runs, Ending, Certifies}

module _ (m : M) (b p : ℕ) (m' : M) (listing : List ℕ) (room : Room m b 0 0 0 0) (none : m.at.tokens ≡ 0) (listed : 9220 ≤ length listing) (formed : length m.forms ≤ 4610) where
  -- a conclusion is what a certificate is written of
  record WrittenFrom (o : Out Derived) : Type 0 where
    d : Derived
    left : ℕ
    is : o ≡ out d left
    writing : Writing m'.forms m'.at.state.props m'.tokens m'.at.tokens p listing
    same : writing.derived ≡ d
    rest : remaining m' ≡ left
    spent : remaining m' ≤ remaining m

  writing_from : (fs : List Form) (o : Out Derived) → Meets 0 0 0 b m fs (concluded p m') o → WrittenFrom o
  unfolding Meets
  writing_from fs (out d w) x =
      let G = x.2 in
      let t = G.tokens in
      let paid = G.paid in
      let few = G.inner.props in
      let forms_long = G.inner.forms_long in
      let tokens_long = G.tokens_long in
      let r = room.inner.forms in
      let s = room.tokens in
      let short = room.short in
      let alone : take m'.at.tokens m'.tokens ≡ x.1 = t ∙ ap (λ (n : ℕ). take n m.tokens ++ x.1) none in
      record {
        d = d;
        left = w;
        is = refl;
        writing = record {
          trees = fs ++ x.0;
          derived = d;
          table = G.inner.table;
          tells = rw alone x.4;
          concludes = x.3;
          whole = omega arith;
          inside = omega arith;
          short = omega arith;
          room = omega arith;
        };
        same = refl;
        rest = x.5;
        spent = omega arith;
      }
  writing_from fs (stop n k) x = absurd x

-- a refusal of the run is the answer's
refused_gives : (budget : ℕ) (r : Refusal) (out₀ : List ℕ) (b : ℕ) (m : M) (fs : List Form) (o : Out Derived) → Meets 0 0 0 b m fs (refused (number_of r.0) r.1) o →
    Gives (ended budget (length out₀) o) out₀ (Err r) out₀
unfolding Meets ended finished evaluated_numbers
refused_gives budget r out₀ b m fs (out d w) x = absurd x
refused_gives budget r out₀ b m fs (stop n' k') x = record { numbers = rw (x.0, x.1); output = refl }

-- the definitions' end of a run that has concluded
ended_written : (budget room : ℕ) (d d' : Derived) (w w' : ℕ) → d' ≡ d → w' ≡ w → ended budget room (out d w) ≡ written room (certificate d') (budget - w') (inferences d'.proof)
unfolding ended
ended_written budget room d d' w w' e f = rw (e, f)

module _ (s : Shared) (m : M) (b k : ℕ) (listing : List ℕ) (none : m.at.tokens ≡ 0) (R : Rooted s m b k listing) where
  module _ (p : ℕ) (m' : M) (D : Deduced s 64 0 b k m (concluded p m')) where
    -- the certificate may be written
    pub run_ends : Ending m'.forms m'.tokens listing p m'.at (remaining m)
    run_ends =
        let r = R.ready in
        let W = writing_from m b p m' listing r.room none R.listed R.formed r.formed (deduce r.text.phrases 64 r.bindings r.basis k (remaining m))
        (D.meets r.text r.formed r.bindings r.basis r.setting r.row) in
        record { writing = W.writing; spent = W.spent }

    -- and its answer is the run's
    pub run_gives : (out₀ o : List ℕ) (z : Result Accepted Refusal) → Certifies m'.forms m'.tokens listing p m'.at (remaining m) out₀ z o → Runs s m b k out₀ z o
    run_gives out₀ o z C =
        record {
          gives = λ y fs β S I.
              let run = deduce y.phrases 64 empty β k (remaining m) in
              let W = writing_from m b p m' listing R.ready.room none R.listed R.formed fs run (D.meets y fs empty β S I) in
              let is : ended (remaining m) (length out₀) run ≡ written (length out₀) (certificate W.writing.derived) (remaining m - remaining m') (inferences W.writing.derived.proof)
              = ap (ended (remaining m) (length out₀)) W.is ∙ ended_written (remaining m) (length out₀) W.d W.writing.derived W.left (remaining m') W.same W.rest in
              rw is (C.gives W.writing);
        }

  -- a refusal is handed on, and the output is as it was
  pub run_stops : (r : Refusal) → Deduced s 64 0 b k m (refused (number_of r.0) r.1) → (out₀ : List ℕ) → Runs s m b k out₀ (Err r) out₀
  run_stops r D out₀ = record { gives = λ y fs β S I. refused_gives (remaining m) r out₀ b m fs (deduce y.phrases 64 empty β k (remaining m)) (D.meets y fs empty β S I) }

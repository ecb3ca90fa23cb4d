-- The three demands of the doors, from their contracts and the theorems over the definitions.
use Prim.Native.Nat.{ℕ, ◌≤◌, ◌<◌}
use native.Mathlib.Omega.{arith}
use mathlib.Core.Path.{◌≡◌, refl, sym, ap, ap₂, subst⁻¹, ◌∙◌}
use mathlib.Core.Bool.{Bool, true, false, ◌&&◌}
use mathlib.Core.List.{List, [], ◌∷◌}
use lib.ListN.{length, take}
use lib.Dec.{leb}
use Rattle.language.specs.Refusals.{budget_over, scratch_short}
use Rattle.language.specs.Form.{Form}
use Rattle.language.specs.Numbers.{got, pick}
use Rattle.language.specs.Plain.{inferences}
use Rattle.language.specs.Run.{Derived}
use Rattle.language.specs.Certificate.{certificate}
use Rattle.language.specs.Answer.{Answer, accepted, refused, answer}
use Rattle.language.specs.Check.{certificate_at, verdict}
use Rattle.language.specs.Doors.{accepted_with, evaluated_numbers, evaluation_lengths, enough, wiped, fronted, Evaluation, finished, evaluation, checking}
use Rattle.std.specs.Prelude.{Result, Ok, Err}
use Rattle.language.specs.Numbered.{number_of}
use Rattle.theorems.proofs.Refusals.{refusal_once}
use Rattle.language.specs.declared.refusal.Refusal.{Refusal}
use Rattle.language.specs.declared.Accepted.{Accepted}
use Rattle.theorems.proofs.Lists.{clash}
use Rattle.theorems.specs.Demands.{SheetDerives, Concludes, AcceptsExactly, ChecksExactly}
use Rattle.theorems.specs.Growth.{AnswersStand}
use Rattle.theorems.proofs.Exact.{determined}
use Rattle.theorems.proofs.Accepting.{accepts_exactly}
use Rattle.theorems.proofs.Checking.{checks_exactly}
use Rattle.theorems.proofs.Parted.{parts_read}
use Rattle.theorems.specs.Longest.{LongestAccepted, AnswerFront, VerdictFront}
use Rattle.theorems.proofs.Standing.{answers_stand}
use Rattle.theorems.proofs.Longest.{longest_accepted, answer_front, verdict_front}
use Rattle.words.proofs.Fronts.{take_front}
use Rattle.evaluator.specs.Door.{Evaluates}
use Rattle.evaluator.proofs.Scratch.{door_finished}
use Rattle.checker.specs.Verdicts.{scratch}
use Rattle.checker.specs.Demand.{CheckExactly}
use Rattle.checker.proofs.Demanded.{check_exactly}
use Rattle.doors.specs.Demands.{EvaluateOnce, EvaluateRefuses, EvaluateScratch, EvaluateExactly, EvaluateRoom, EvaluateStands, CertificateStands, EvaluateFront, CheckFront}

-- answers with the same numbers
pub accepted_same : {a a' b b' c c' : ℕ} → a ≡ a' → b ≡ b' → c ≡ c' → accepted_with a (record { 0 = b }) (record { 0 = c }) ≡ accepted_with a' (record { 0 = b' }) (record { 0 = c' })
accepted_same x y z = rw (x, y, z)

-- an answer is known by its numbers
numbers_once : (r r' : Result Accepted Refusal) → evaluated_numbers r ≡ evaluated_numbers r' → r ≡ r'
unfolding evaluated_numbers
numbers_once (Ok a) (Ok a') e =
    let x : a.length ≡ a'.length = cc in
    let y : a.work.0 ≡ a'.work.0 = cc in
    let z : a.inferences.0 ≡ a'.inferences.0 = cc in
    accepted_same x y z
numbers_once (Ok a) (Err r') e = absurd (clash cc)
numbers_once (Err r) (Ok a') e = absurd (clash cc)
numbers_once (Err r) (Err r') e =
    let x : number_of r.0 ≡ number_of r'.0 = cc in
    let y : r.1 ≡ r'.1 = cc in
    ap Err (refusal_once r r' x y)

pub evaluate_once : EvaluateOnce
unfolding EvaluateOnce
evaluate_once s budget r r' out₀ out out' bs₀ bs bs' x y =
    let e = x.answers ∙ sym y.answers in
    (numbers_once r r' (ap (λ (v : Evaluation). v.numbers) e), ap (λ (v : Evaluation). v.output) e, ap (λ (v : Evaluation). v.scratch) e)

-- the numbers of an accepted answer are its own
accepted_is : (a : Answer) (out₀ : List ℕ) (bs : List (List ℕ)) (n w i : ℕ) → (finished a out₀ bs).numbers ≡ 0 ∷ (n ∷ (w ∷ (i ∷ []))) →
    (bytes : List ℕ) × (a ≡ accepted bytes w i) × (n ≡ length bytes)
unfolding finished
accepted_is (accepted bytes w' i') out₀ bs n w i e = let x : w' ≡ w = cc in let y : i' ≡ i = cc in (bytes, ap₂ (accepted bytes) x y, cc)
accepted_is (refused m p) out₀ bs n w i e = absurd (clash cc)

-- of the three ways to answer, a refusal leaves the output; the scratch is wiped by the last alone
module _ (a : Answer) (out₀ : List ℕ) (bs₀ : List (List ℕ)) where
  abbrev untouched : ℕ → Evaluation
  untouched n = record { numbers = n ∷ (0 ∷ []); output = out₀; scratch = bs₀ }

  refuses_by : (within long : Bool) (n place : ℕ) (out : List ℕ) (bs : List (List ℕ)) →
      ◌≡◌ {A = Evaluation} (record { numbers = n ∷ (place ∷ []); output = out; scratch = bs })
      (pick within (pick long (finished a out₀ bs₀) (untouched scratch_short)) (untouched budget_over)) →
      out ≡ out₀
  unfolding pick finished
  refuses_by false long n place out bs e = ap (λ (v : Evaluation). v.output) e
  refuses_by true false n place out bs e = ap (λ (v : Evaluation). v.output) e
  refuses_by true true n place out bs e = by_answer a e
    where
      by_answer : (x : Answer) → ◌≡◌ {A = Evaluation} (record { numbers = n ∷ (place ∷ []); output = out; scratch = bs }) (finished x out₀ bs₀) → out ≡ out₀
      by_answer (accepted bytes w i) f =
          let z : n ∷ (place ∷ []) ≡ 0 ∷ (length bytes ∷ (w ∷ (i ∷ []))) = ap (λ (v : Evaluation). v.numbers) f in
          absurd (clash cc)
      by_answer (refused m q) f = ap (λ (v : Evaluation). v.output) f

  finished_scratch : (finished a out₀ bs₀).scratch ≡ wiped evaluation_lengths bs₀
  unfolding finished
  finished_scratch = by_answer a
    where
      by_answer : (x : Answer) → (finished x out₀ bs₀).scratch ≡ wiped evaluation_lengths bs₀
      by_answer (accepted bytes w i) = refl
      by_answer (refused m q) = refl

  scratch_by : (within long : Bool) →
      (pick within (pick long (finished a out₀ bs₀) (untouched scratch_short)) (untouched budget_over)).scratch ≡ pick (within && long) (wiped evaluation_lengths bs₀) bs₀
  unfolding pick
  scratch_by false long = refl
  scratch_by true false = refl
  scratch_by true true = finished_scratch

pub evaluate_refuses : EvaluateRefuses
unfolding EvaluateRefuses evaluation evaluated_numbers
evaluate_refuses s budget r out₀ out bs₀ bs x =
    refuses_by (answer s budget (length out₀)) out₀ bs₀ (leb budget 1024) (enough evaluation_lengths bs₀) (number_of r.0) r.1 out bs x.answers

pub evaluate_scratch : EvaluateScratch
unfolding EvaluateScratch evaluation
evaluate_scratch s budget r out₀ out bs₀ bs x =
    ap (λ (v : Evaluation). v.scratch) x.answers ∙ scratch_by (answer s budget (length out₀)) out₀ bs₀ (leb budget 1024) (enough evaluation_lengths bs₀)

-- a run of `evaluate` with a budget within its limit and scratch long enough
module _ (s : List ℕ) (budget : ℕ) (r : Result Accepted Refusal) (out₀ out : List ℕ) (bs₀ bs : List (List ℕ)) (x : Evaluates s budget r out₀ out bs₀ bs)
    (within : budget ≤ 1024) (long : enough evaluation_lengths bs₀ ≡ true) where
  is_finished : ◌≡◌ {A = Evaluation} (record { numbers = evaluated_numbers r; output = out; scratch = bs }) (finished (answer s budget (length out₀)) out₀ bs₀)
  is_finished = x.answers ∙ door_finished s budget out₀ bs₀ within long

  -- where it accepts, the definitions' answer does, and the output is the certificate
  pub record Accepting (n w i : ℕ) : Type 0 where
    pub bytes : List ℕ
    pub is : answer s budget (length out₀) ≡ accepted bytes w i
    pub many : n ≡ length bytes
    pub output : out ≡ fronted bytes out₀

  accepting_out : (bytes : List ℕ) (w i : ℕ) → answer s budget (length out₀) ≡ accepted bytes w i → out ≡ fronted bytes out₀
  unfolding finished
  accepting_out bytes w i e = ap (λ (v : Evaluation). v.output) is_finished ∙ ap (λ (a : Answer). (finished a out₀ bs₀).output) e

  accepting : (n w i : ℕ) → evaluated_numbers r ≡ 0 ∷ (n ∷ (w ∷ (i ∷ []))) → Accepting n w i
  accepting n w i z =
      let (bytes, is, many) = accepted_is (answer s budget (length out₀)) out₀ bs₀ n w i (sym (ap (λ (v : Evaluation). v.numbers) is_finished) ∙ z) in
      record { bytes = bytes; is = is; many = many; output = accepting_out bytes w i is }

  accepting_numbers : (bytes : List ℕ) (w i : ℕ) → answer s budget (length out₀) ≡ accepted bytes w i → evaluated_numbers r ≡ 0 ∷ (length bytes ∷ (w ∷ (i ∷ [])))
  unfolding finished
  accepting_numbers bytes w i e = ap (λ (v : Evaluation). v.numbers) is_finished ∙ ap (λ (a : Answer). (finished a out₀ bs₀).numbers) e

  -- the bytes in front of the output
  front_is : (n w i : ℕ) (A : Accepting n w i) → take n out ≡ A.bytes
  unfolding fronted
  front_is n w i A = ap₂ (λ (m : ℕ) (l : List ℕ). take m l) A.many A.output ∙ take_front A.bytes out₀

pub evaluate_exactly : EvaluateExactly
unfolding EvaluateExactly AcceptsExactly
evaluate_exactly s budget r out₀ out bs₀ bs x within long S end reads n w i = (
  (
    (λ z. let (d, derives, spent, many, rules, room, _) = accepted_as z in (d, derives, spent, many, rules, room)),
    (λ y.
        let (d, derives, spent, many, rules, room) = y in
        let is = (accepts_exactly s S end budget (length out₀) (certificate d) w i reads within).1 (d, derives, spent, refl, rules, omega arith) in
        accepting_numbers s budget r out₀ out bs₀ bs x within long (certificate d) w i is ∙ ap (λ (m : ℕ). 0 ∷ (m ∷ (w ∷ (i ∷ [])))) (sym many)),
  ),
  (λ z d u derives.
      let (d', derives', _, _, _, _, output) = accepted_as z in
      output ∙ ap (λ (e : Derived). fronted (certificate e) out₀) (determined derives' derives).0),
)
  where
    accepted_as : evaluated_numbers r ≡ 0 ∷ (n ∷ (w ∷ (i ∷ []))) →
        (d : Derived) × SheetDerives S d w × (w ≤ budget) × (n ≡ length (certificate d)) × (i ≡ inferences d.proof) × (n ≤ length out₀) × (out ≡ fronted (certificate d) out₀)
    accepted_as z =
        let A = accepting s budget r out₀ out bs₀ bs x within long n w i z in
        let (d, derives, spent, is, rules, room) = (accepts_exactly s S end budget (length out₀) A.bytes w i reads within).0 A.is in
        let many = A.many in
        (d, derives, spent, many ∙ ap length is, rules, omega arith, A.output ∙ ap (λ (b : List ℕ). fronted b out₀) is)

pub evaluate_room : EvaluateRoom
unfolding EvaluateRoom LongestAccepted
evaluate_room s budget r out₀ out bs₀ bs x within long n w i z =
    let A = accepting s budget r out₀ out bs₀ bs x within long n w i z in
    let many = A.many in
    let short = longest_accepted s budget (length out₀) A.bytes w i A.is in
    omega arith

-- the same bytes conclude the same
abbrev concludes_same : {xs ys : List ℕ} {p : Form} → xs ≡ ys → Concludes ys p → Concludes xs p
concludes_same e c = record { read = c.read; reads = subst⁻¹ (λ b. certificate_at b ≡ got c.read (length b)) e c.reads; states = c.states }

pub evaluate_stands : EvaluateStands
unfolding EvaluateStands AnswersStand
evaluate_stands s t S T p q b b' n w i g larger within r out₀ out bs₀ bs x long z r' out₀' out' bs₀' bs' x' long' room =
    let A = accepting s b r out₀ out bs₀ bs x (omega arith) long n w i z in
    let many = A.many in
    let X = answers_stand s t S T p q b b' (length out₀) (length out₀') w i A.bytes g larger within (omega arith) A.is in
    let is = X.answers in
    let front = front_is s b r out₀ out bs₀ bs x (omega arith) long n w i A in
    let z' = accepting_numbers t b' r' out₀' out' bs₀' bs' x' within long' A.bytes w i is ∙ ap (λ (m : ℕ). 0 ∷ (m ∷ (w ∷ (i ∷ [])))) (sym many) in
    let A' = accepting t b' r' out₀' out' bs₀' bs' x' within long' n w i z' in
    let same : A'.bytes ≡ A.bytes = bytes_same A'.bytes A.bytes w i (sym A'.is ∙ is) in (
      numbers_once r' r (z' ∙ sym z),
      front_is t b' r' out₀' out' bs₀' bs' x' within long' n w i A' ∙ same ∙ sym front,
      (X.derived, X.here, X.there, concludes_same front X.concludes),
    )
  where
    bytes_same : (xs ys : List ℕ) (w i : ℕ) → accepted xs w i ≡ accepted ys w i → xs ≡ ys
    bytes_same xs ys w i e = cc

pub certificate_stands : CertificateStands
unfolding CertificateStands AnswersStand ChecksExactly CheckExactly
certificate_stands s t S T p q b n w i g within r out₀ out bs₀ bs x long z y ns₀ fs₀ ps₀ hs₀ ms₀ ns fs ps hs ms Y enough-scratch =
    let A = accepting s b r out₀ out bs₀ bs x within long n w i z in
    let front = front_is s b r out₀ out bs₀ bs x within long n w i A in
    let X = answers_stand s t S T p q b b (length out₀) (length A.bytes) w i A.bytes g (omega arith) within (omega arith) A.is in
    let C = concludes_same front X.concludes in
    let k = X.concludes.read.conclusion in
    let reads = parts_read q in
    let numbers =
    (check_exactly t (take n out) y ns₀ fs₀ ps₀ hs₀ ms₀ ns fs ps hs ms Y enough-scratch T (length t) k i reads).1
    ((checks_exactly t (take n out) T (length t) k i reads).0 (ap (verdict t) front ∙ X.checks)) in
    (X.derived, X.here, X.there, (C, numbers), X.holding)

-- the definitions' answers to a front
evaluation_front : (s : List ℕ) (n budget : ℕ) (out₀ : List ℕ) (bs₀ : List (List ℕ)) → 12297 < n → evaluation (take n s) budget out₀ bs₀ ≡ evaluation s budget out₀ bs₀
unfolding evaluation AnswerFront
evaluation_front s n budget out₀ bs₀ l = rw (answer_front s n budget (length out₀) l)

checking_front : (s bytes : List ℕ) (n m : ℕ) (bs₀ : List (List ℕ)) → 12297 < n → 80388 < m → checking (take n s) (take m bytes) bs₀ ≡ checking s bytes bs₀
unfolding checking VerdictFront
checking_front s bytes n m bs₀ l l' = rw (verdict_front s bytes n m l l')

pub evaluate_front : EvaluateFront
unfolding EvaluateFront
evaluate_front s n budget r out₀ out bs₀ bs l =
    ((λ x. record { answers = x.answers ∙ front }), (λ x. record { answers = x.answers ∙ sym front }))
  where
    front : evaluation (take n s) budget out₀ bs₀ ≡ evaluation s budget out₀ bs₀
    front = evaluation_front s n budget out₀ bs₀ l

pub check_front : CheckFront
unfolding CheckFront
check_front s bytes n m r ns₀ fs₀ ps₀ hs₀ bs₀ ns fs ps hs bs l l' =
    ((λ x. record { checks = x.checks ∙ front }), (λ x. record { checks = x.checks ∙ sym front }))
  where
    front : checking (take n s) (take m bytes) (scratch ns₀ fs₀ ps₀ hs₀ bs₀) ≡ checking s bytes (scratch ns₀ fs₀ ps₀ hs₀ bs₀)
    front = checking_front s bytes n m (scratch ns₀ fs₀ ps₀ hs₀ bs₀) l l'

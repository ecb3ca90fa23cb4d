-- What a proof concludes against what its certificate states.
use Prim.Native.Nat.{ℕ, ◌+◌, ◌≤◌, ◌<◌}
use mathlib.Core.Path.{◌≡◌, refl, sym, ap, ◌∙◌}
use mathlib.Core.Bool.{Bool, true, false}
use mathlib.Core.List.{List, ◌++◌}
use native.Mathlib.Omega.{arith}
use lib.ListN.{length, get_or, take}
use lib.Dec.{eqb}
use lib.Seq.{length-take-le}
use borrow.Author.Tests.{eq-eqb, ne_eqb}
use Rattle.language.specs.Refusals.{bytes_after, stated_differs}
use Rattle.language.specs.Form.{Form, verum, same}
use Rattle.language.specs.Numbers.{Got, got, no, pick, below}
use Rattle.language.specs.Plain.{inferences}
use Rattle.language.specs.Check.{Node, plain, Counted, node, Certificate, concluded, stands, falls, stated}
use Rattle.language.specs.Doors.{checked_numbers, verdict_numbers}
use Rattle.std.specs.Prelude.{Ok, Err}
use Rattle.language.specs.declared.refusal.Refusal.{Refusal}
use Rattle.language.specs.declared.refusal.Why.TheVariants.{StatedDiffers}
use Rattle.numbers.proofs.Bounds.{then_got, check_got, below_got}
use Rattle.forms.specs.Table.{tree}
use Rattle.forms.proofs.Trees.{same_at}
use Rattle.rules.specs.Base.{base_of}
use Rattle.checker.specs.declared.reading.Stated.{Stated}
use Rattle.checker.specs.Walk.{node_at, Setting, Room, Awaits, Meets, Walks, Reached}
use Rattle.checker.specs.Tally.{proof_at, certified}
use Rattle.checker.specs.Judge.{Stating, Judged}
use Rattle.checker.proofs.Readings.{got_both}
use Rattle.checker.proofs.Tallies.{node_within}
use Rattle.checker.proofs.Stacks.{more_words, old_trees}
use Rattle.checker.proofs.Meetings.{After, after_walk}

-- a certificate that was read: its proof, and the number of its conclusion, which is listed
record Proved (s : List ℕ) (ps : List Form) (at : ℕ) (C : Certificate) (end : ℕ) : Type 0 where
  root : Counted
  place : ℕ
  k : ℕ
  read : node 512 s ps 0 at ≡ got root place
  low : k < length ps
  is : C ≡ record { forms = ps; proof = root.node; conclusion = k; place = place }

proved : (s : List ℕ) (ps : List Form) (at : ℕ) (C : Certificate) (end : ℕ) → proof_at s ps at ≡ got C end → Proved s ps at C end
unfolding proof_at
proved s ps at C end e =
    let f = then_got (node 512 s ps 0 at) _ C end e in
    let g = then_got (below (length ps) s f.place) _ C end f.rest in
    let h = check_got (eqb g.place (length s)) bytes_after g.place _ C end g.rest in
    let i = got_both _ C g.place end h.read in
    record {
      root = f.value;
      place = f.place;
      k = g.value;
      read = f.first;
      low = (below_got s f.place g.value g.place (length ps) g.first).low;
      is = sym i.0;
    }

-- what is stated is the certificate's
said_is : (c : Stated) (C : Certificate) (end : ℕ) (g : Got Certificate) → g ≡ got C end → Ok c ≡ certified g → c ≡ record { rules = record { 0 = inferences (plain C.proof) }; conclusion = C.conclusion; place = C.place }
unfolding certified
said_is c C end g e f = let h = rw e at f in cc

-- the stated conclusion is the derived one, or it differs
stated_is : (ps : List Form) (x : Node) (k place : ℕ) (q : Form) (at : ℕ) (v : Bool) (rules conclusion placed : ℕ) → same q (get_or ps k verum) ≡ v → rules ≡ inferences (plain x) → conclusion ≡ k → placed ≡ place → stated (record { forms = ps; proof = x; conclusion = k; place = place }) (got q at) ≡ pick v (stands conclusion rules) (falls stated_differs placed)
unfolding stated
stated_is ps x k place q at v rules conclusion placed e r d l = rw (e, r, d, l)

-- some certificate was read where one is stated
some_read : (c : Stated) (g : Got Certificate) → Ok c ≡ certified g → (C : Certificate) × (end : ℕ) × (g ≡ got C end)
unfolding certified
some_read c (got C end) e = (C, end, refl)
some_read c (no w p) e = absurd (let z : ◌≡◌ {A = ℕ} 0 1 = cc in omega arith)

module _ (t base s names : List ℕ) (n b at : ℕ) (c : Stated) (long : n + 7168 ≤ length t) (small : n + 7168 ≤ 16384) where
  room : (ps : List Form) (x : Counted) (place : ℕ) → node 512 s ps 0 at ≡ got x place → Room t n 0 x.nodes
  room ps x place e =
      let l = (node_within 512 s ps 0 at x place e).limit in
      record { long = omega arith; small = omega arith }

  pub judge_walks : Stating t base s names n b at c → Awaits (node_at 512 s at) t base names n b 512
  judge_walks A =
      let g = some_read c (proof_at s A.listing at) A.said in
      let P = proved s A.listing at g.0 g.1 g.2 in
      record {
        trees = A.trees;
        listing = A.listing;
        setting = A.setting;
        used = 0;
        counted = P.root;
        next = P.place;
        was_read = P.read;
        room = room A.listing P.root P.place P.read;
      }

  -- a refusal on the way
  refused_stated : (u : List ℕ) (fs : List Form) (nodes next : ℕ) (x : Refusal) (C : Certificate) (g : Got Form) → Meets u fs n 0 nodes next (Err x) g → checked_numbers (Err x) ≡ verdict_numbers (stated C g)
  unfolding checked_numbers verdict_numbers stated
  refused_stated u fs nodes next x C (got q at) M = absurd M
  refused_stated u fs nodes next x C (no why place) M = rw (M.0, M.1)

  pub judge_refused : (u base₁ : List ℕ) (x : Refusal) → Walks (node_at 512 s at) t base names n b 512 u base₁ (Err x) → Judged t base s names n b at c (Err x)
  judge_refused u base₁ x W =
      record {
        answers = λ fs ps S said C end e.
            let P = proved s ps at C end e in
            let M = W.meets fs ps S 0 P.root P.place P.read (room ps P.root P.place P.read) in
            rw P.is (refused_stated u fs P.root.nodes P.place x _ _ M);
      }

  -- a conclusion, and the number of the one that is stated
  module _ (u base₁ : List ℕ) (walked : Reached) (W : Walks (node_at 512 s at) t base names n b 512 u base₁ (Ok walked)) (lu : length u ≡ length t) where
    module _ (fs ps : List Form) (S : Setting t base names n b 512 fs ps) (said : Ok c ≡ certified (proof_at s ps at)) (C : Certificate) (end : ℕ) (e : proof_at s ps at ≡ got C end) where
      abbrev P : Proved s ps at C end
      P = proved s ps at C end e

      derived : After u fs n 0 P.root.nodes P.place walked (concluded (base_of fs base b) P.root.node)
      derived =
          after_walk u fs n 0 P.root.nodes P.place walked (concluded (base_of fs base b) P.root.node)
          (W.meets fs ps S 0 P.root P.place P.read (room ps P.root P.place P.read))

      fits : walked.size ≤ length u
      fits =
          let l = (node_within 512 s ps 0 at P.root P.place P.read).limit in
          let d = derived.derived.paid in
          omega arith

      same_number : same derived.q (get_or ps P.k verum) ≡ eqb walked.conclusion (get_or names P.k 0)
      same_number =
          let D = derived.derived in
          let w = S.named P.k P.low in
          let f = fits in
          let l = length-take-le walked.size u f in
          let low = D.low in
          let o = more_words t u n walked.size fs D.more S.table D.table (omega arith) f in
          let x : tree (fs ++ D.more) (get_or names P.k 0) ≡ get_or ps P.k verum = old_trees t u n walked.size fs D.more S.table D.table (omega arith) f (get_or names P.k 0) w.0 ∙ w.1 in
          rw (← D.is, ← x) (same_at (take walked.size u) (fs ++ D.more) D.table walked.conclusion (get_or names P.k 0) (omega arith) (omega arith))

      what_is_said : (c.rules.0 ≡ inferences (plain P.root.node)) × (c.conclusion ≡ P.k) × (c.place ≡ P.place)
      what_is_said =
          let z = said_is c C end (proof_at s ps at) e said in
          let y = P.is in (
            ap (λ (v : Stated). v.rules.0) z ∙ ap (λ (v : Certificate). inferences (plain v.proof)) y,
            ap (λ (v : Stated). v.conclusion) z ∙ ap (λ (v : Certificate). v.conclusion) y,
            ap (λ (v : Stated). v.place) z ∙ ap (λ (v : Certificate). v.place) y,
          )

      answered : (v : Bool) → eqb walked.conclusion (get_or names c.conclusion 0) ≡ v → verdict_numbers (stated C (concluded (base_of fs base b) C.proof)) ≡ verdict_numbers (pick v (stands c.conclusion c.rules.0) (falls stated_differs c.place))
      answered v h =
          let w = what_is_said in
          let x : same derived.q (get_or ps P.k verum) ≡ v = same_number ∙ ap (λ (j : ℕ). eqb walked.conclusion (get_or names j 0)) (sym w.1) ∙ h in
          ap (λ (D : Certificate). verdict_numbers (stated D (concluded (base_of fs base b) D.proof))) P.is
          ∙ ap (λ (g : Got Form). verdict_numbers (stated (record { forms = ps; proof = P.root.node; conclusion = P.k; place = P.place }) g)) derived.is
          ∙ ap verdict_numbers (stated_is ps P.root.node P.k P.place derived.q derived.at v c.rules.0 c.conclusion c.place x w.0 w.1 w.2)

    pub judge_stands : (v : ℕ) → v ≡ get_or names c.conclusion 0 → walked.conclusion ≡ v → Judged t base s names n b at c (Ok (record { conclusion = c.conclusion; inferences = c.rules }))
    unfolding checked_numbers verdict_numbers pick
    judge_stands v f g =
        record { answers = λ fs ps S said C end e. sym (answered fs ps S said C end e true (eq-eqb walked.conclusion (get_or names c.conclusion 0) (g ∙ f))) }

    pub judge_differs : (v : ℕ) → v ≡ get_or names c.conclusion 0 → (walked.conclusion ≡ v → ⊥) → Judged t base s names n b at c (Err (record { 0 = StatedDiffers; 1 = c.place }))
    unfolding checked_numbers verdict_numbers pick
    judge_differs v f g =
        record { answers = λ fs ps S said C end e. sym (answered fs ps S said C end e false (ne_eqb walked.conclusion (get_or names c.conclusion 0) (λ z. g (z ∙ sym f)))) }

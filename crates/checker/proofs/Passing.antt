-- The door's way through a certificate: the count, the listed propositions, the proof. At each return, whatever the buffers stand for,
-- the answer is the definitions' verdict.
use Prim.Native.Nat.{ℕ, ◌+◌, ◌≤◌, ◌<◌}
use native.Mathlib.Omega.{arith}
use mathlib.Core.Path.{◌≡◌, refl, sym, ap, ◌∙◌}
use mathlib.Core.List.{List, [], ◌++◌, append-nil}
use lib.ListN.{length, get_or, take, length-append}
use lib.Seq.{take_all}
use Rattle.language.specs.Form.{Form, member}
use Rattle.language.specs.Numbers.{Got, got, no, then, from, times}
use Rattle.language.specs.Read.{proposition}
use Rattle.language.specs.Check.{Certificate, certificate_at, stated, concluded}
use Rattle.language.specs.Doors.{checked_numbers, verdict_numbers}
use Rattle.std.specs.Prelude.{Result, Ok, Err}
use Rattle.language.specs.Numbered.{number_of}
use Rattle.language.specs.declared.refusal.Refusal.{Refusal}
use Rattle.language.specs.declared.Stands.{Stands}
use Rattle.theorems.proofs.Lists.{clash}
use Rattle.theorems.proofs.Reading.{ensure, ensured, ensures_times}
use Rattle.words.proofs.Fronts.{take_front, get_d_front, length_front}
use Rattle.forms.specs.Table.{Table}
use Rattle.forms.proofs.Growth.{tree_more}
use Rattle.records.specs.Reading.{Props, naming}
use Rattle.records.specs.Answers.{ends}
use Rattle.reader.specs.declared.Named.{Named as NamedCounts}
use Rattle.reader.specs.Laid.{Propositions}
use Rattle.reader.specs.Stands.{Named}
use Rattle.reader.proofs.PropSaying.{NamedAs, named_said, named_refused, naming_says}
use Rattle.rules.specs.Base.{base_of}
use Rattle.checker.specs.declared.reading.Stated.{Stated}
use Rattle.checker.specs.Walk.{Setting}
use Rattle.checker.specs.Tally.{proof_at, own_number, certified}
use Rattle.checker.specs.Judge.{Judged}
use Rattle.checker.specs.Verdicts.{verdict_in, Standing, Fixed, Answers, listing_at, Listed, ProofAnswers}
use Rattle.rules.specs.Base.{Alike}
use Rattle.rules.proofs.Sets.{stack_alike}
use Rattle.checker.proofs.Bases.{concluded_alike}
use Rattle.checker.proofs.Certificates.{certificate_parts}
use Rattle.checker.proofs.Refusing.{Late, refused, late_no, late_from, late_listing, late_proof}
use Rattle.checker.proofs.Tallies.{err_both}

-- what is answered, o, for what was refused, r
abbrev pub Owned : Refusal → Refusal → Type 0
Owned r o = (3 ≤ number_of r.0 → number_of o.0 ≡ own_number (number_of r.0)) × (o.1 ≡ r.1)

-- the proof, read and refused, or read and judged
module _ (s : List ℕ) (at : ℕ) (names forms base : List ℕ) (n b count : ℕ) where
  read_refused : (g : Got Certificate) → Late g → (β : List Form) (r o : Refusal) → Err (number_of r.0, r.1) ≡ certified g → Owned r o →
      checked_numbers (Err o) ≡ verdict_numbers (verdict_in β g)
  unfolding certified verdict_in verdict_numbers checked_numbers
  read_refused (got C end) late β r o e f = absurd (clash cc)
  read_refused (no w p) (refused h) β r o e f =
      let x = err_both (number_of r.0) r.1 w p e in
      let l : 3 ≤ number_of r.0 = omega (arith, x.0) in
      rw (f.0 l, f.1, x.0, x.1)

  pub proof_refused : (r o : Refusal) → Owned r o → ((ps : List Form) → length ps ≡ count → Err (number_of r.0, r.1) ≡ certified (proof_at s ps at)) →
      ProofAnswers s at names forms base n b count (Err o)
  proof_refused r o f e = record { answers = λ fs ps S l. read_refused (proof_at s ps at) (late_proof s ps at) (base_of fs base b) r o (e ps l) f }

  pub proof_judged : (c : Stated) (r : Result Stands Refusal) → Judged forms base s names n b at c r →
      ((ps : List Form) → length ps ≡ count → Ok c ≡ certified (proof_at s ps at)) → ProofAnswers s at names forms base n b count r
  unfolding verdict_in certified
  proof_judged c r J e =
      record { answers = λ fs ps S l. go (proof_at s ps at) (λ C end g. J.answers fs ps S (e ps l) C end g) (e ps l) (base_of fs base b) refl }
    where
      go : (g : Got Certificate) → {β : List Form} → ((C : Certificate) (end : ℕ) → g ≡ got C end → checked_numbers r ≡ verdict_numbers (stated C (concluded β C.proof))) →
          Ok c ≡ certified g → (γ : List Form) → γ ≡ β → checked_numbers r ≡ verdict_numbers (verdict_in γ g)
      go (got C end) h e γ z = rw z (h C end refl)
      go (no w p) h e γ z = absurd (let z : ◌≡◌ {A = ℕ} 0 1 = cc in omega arith)

-- the listed propositions, read over a table that stands for fs
module _ (s : List ℕ) (names forms base : List ℕ) (n b count at : ℕ) (few : count ≤ 4608) (fixed : Fixed names forms base n b) where
  abbrev P : Props
  P = naming s count [] (take n forms) at

  module _ (fs β : List Form) (st : Standing forms base n b fs β) where
    said : NamedAs fs (n + count) P (times count (proposition s) [] at)
    said =
        let l = fixed.few in
        let w = st.words in
        let none : Named (fs ++ []) [] [] = record { count = refl; low = λ i h. absurd (omega arith); trees = λ i h. absurd (omega arith) } in
        naming_says s fs (n + count) (omega arith) count [] (take n forms) at [] [] (rw (append-nil fs) st.table) none (omega arith)

    -- refused, or read as a listing
    refused_is : (w p : ℕ) → P.ended ≡ no w p → times count (proposition s) [] at ≡ no w p
    refused_is w p e = go said
      where
        go : {g : Got (List Form)} → NamedAs fs (n + count) P g → g ≡ no w p
        go (named_said more f T N l) = absurd (let z : ◌≡◌ {A = ℕ} 0 1 = cc in omega arith)
        go (named_refused {n = w'} {p = p'} f) = let x : w' ≡ w = cc in let y : p' ≡ p = cc in rw (x, y)

    record Read (next : ℕ) : Type 0 where
      listing : List Form
      more : List Form
      is : times count (proposition s) [] at ≡ got listing next
      table : Table P.words (fs ++ more)
      named : Named (fs ++ more) listing P.names
      within : length P.words ≤ n + count

    read_is : (next : ℕ) → P.ended ≡ got tt next → Read next
    read_is next e = go (times count (proposition s) [] at) refl said
      where
        go : (g : Got (List Form)) → times count (proposition s) [] at ≡ g → NamedAs fs (n + count) P g → Read next
        go g z (named_said {ps} {at = place} more f T N l) =
            let x : place ≡ next = cc in
            record { listing = ps; more = more; is = rw x at z; table = T; named = N; within = l }
        go g z (named_refused f) = absurd (let z : ◌≡◌ {A = ℕ} 0 1 = cc in omega arith)

    counted_is : (next : ℕ) (R : Read next) → length R.listing ≡ count
    counted_is next R =
        let z = (ensured (ensures_times (λ xs. Unit {0}) (proposition s) (λ acc at h. ensure (proposition s acc at) (λ a next e. tt)) count [] at tt) R.is).1 in
        z ∙ omega arith

    module _ (r : NamedCounts) (names' forms' : List ℕ) (Q : Propositions P r names forms names' forms') (next : ℕ) (R : Read next) where
      setting_is : Setting forms' base names' r.words b 512 (fs ++ R.more) R.listing
      setting_is =
          let w = Q.words in
          let c = R.table.count in
          let u = st.table.count in
          let v = st.words in
          let k = R.named.count in
          let low = fixed.low in
          let long = fixed.base_long in
          let a = length-append fs R.more in
          record {
            table = rw (Q.forms, w, take_front P.words forms) R.table;
            named = λ j h.
                let i : j < length P.names = omega arith in
                let e : get_or names' j 0 ≡ get_or P.names j 0 = rw Q.names (get_d_front P.names names j i) in
                let l = R.named.low j i in
                rw e (omega arith, R.named.trees j i);
            based = λ j h. let l = (st.based j h).0 in omega arith;
            stack = omega arith;
          }

    -- the base as a stack has the propositions of the list
    alike : (next : ℕ) (R : Read next) → Alike (base_of (fs ++ R.more) base b) β
    alike next R p =
        let c = st.count in
        let u = st.table.count in
        let v = st.words in
        let whole : take b β ≡ β = take_all b β (omega arith) in
        stack_alike (fs ++ R.more) base β
        (λ j h. tree_more fs R.more (get_or base j 0) (let l = (st.based j (omega arith)).0 in omega arith) ∙ (st.based j (omega arith)).1) b (omega arith) p
        ∙ ap (λ (γ : List Form). member p γ) whole

  verdict_alike : (β γ : List Form) → Alike β γ → (g : Got Certificate) → verdict_in β g ≡ verdict_in γ g
  unfolding verdict_in
  verdict_alike β γ h (no w p) = refl
  verdict_alike β γ h (got C end) = ap (stated C) (concluded_alike C.proof β γ h)

  module _ (r : NamedCounts) (names' forms' : List ℕ) (Q : Propositions P r names forms names' forms') where
    ended_is : (e : Result ℕ Refusal) → r.ended ≡ e → P.ended ≡ ends e
    ended_is e z = sym Q.ended ∙ ap ends z

    pub listing_ready : (fs β : List Form) → Standing forms base n b fs β → (next : ℕ) → r.ended ≡ Ok next → Listed names' forms' base r.words b count
    listing_ready fs β st next e =
        let R = read_is fs β st next (ended_is (Ok next) e) in
        let f = R.within in
        let w = Q.words in
        let g = fixed.few in
        let long : length forms' ≡ 12290 = rw Q.forms (length_front P.words forms (let h = fixed.forms_long in omega arith) ∙ fixed.forms_long) in
        record {
          trees = fs ++ R.more;
          listing = R.listing;
          setting = setting_is fs β st r names' forms' Q next R;
          counted = counted_is fs β st next R;
          long = omega arith;
          small = omega arith;
        }

    pub listing_stops : (x o : Refusal) → r.ended ≡ Err x → Owned x o → Answers (listing_at s count at) forms base n b (Err o)
    unfolding verdict_in verdict_numbers checked_numbers then
    listing_stops x o e f =
        record {
          answers = λ fs β st.
              let g = refused_is fs β st (number_of x.0) x.1 (ended_is (Err x) e) in
              rw (g, f.0 (late_no (late_listing s count at) g), f.1);
        }

    pub listing_goes_on : (next : ℕ) (x : Result Stands Refusal) → r.ended ≡ Ok next → ProofAnswers s next names' forms' base r.words b count x →
        Answers (listing_at s count at) forms base n b x
    unfolding then
    listing_goes_on next x e A =
        record {
          answers = λ fs β st.
              let R = read_is fs β st next (ended_is (Ok next) e) in
              A.answers (fs ++ R.more) R.listing (setting_is fs β st r names' forms' Q next R) (counted_is fs β st next R)
              ∙ ap verdict_numbers (verdict_alike (base_of (fs ++ R.more) base b) β (alike fs β st next R) (proof_at s R.listing next))
              ∙ rw R.is;
        }

-- the count
module _ (s forms base : List ℕ) (n b : ℕ) where
  pub count_stops : (x o : Refusal) → from 0 4608 s 0 ≡ no (number_of x.0) x.1 → Owned x o → Answers (certificate_at s) forms base n b (Err o)
  unfolding verdict_in verdict_numbers checked_numbers then
  count_stops x o e f = record { answers = λ fs β st. rw (certificate_parts s, e, f.0 (late_no (late_from 0 4608 s 0) e), f.1) }

  pub count_goes_on : (count at : ℕ) (x : Result Stands Refusal) → from 0 4608 s 0 ≡ got count at → Answers (listing_at s count at) forms base n b x → Answers (certificate_at s) forms base n b x
  unfolding then
  count_goes_on count at x e A = record { answers = λ fs β st. rw (certificate_parts s, e) (A.answers fs β st) }

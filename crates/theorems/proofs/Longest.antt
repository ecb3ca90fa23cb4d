-- How long a sheet and a certificate can be: the bytes of their numbers, record by record. What is past those and one more is not looked at.
use Prim.Native.Nat.{ℕ, zero, suc, ◌+◌, ◌*◌, ◌-◌, ◌≤◌, ◌<◌}
use native.Mathlib.Omega.{arith}
use mathlib.Core.Path.{◌≡◌, refl, ap, ◌∙◌}
use mathlib.Core.List.{List, []}
use mathlib.Core.Bool.{Bool, true, false, not, ◌&&◌}
use lib.ListN.{length, get_or, take}
use lib.Dec.{ltb, leb, eqb}
use borrow.Author.Tests.{eqb-true, leb-true, ltb-true}
use Rattle.language.specs.Refusals.{bytes_after, budget_over, out_of_range, wrong_reference, certificate_over}
use Rattle.language.specs.Form.{Conn, Form, verum, falsum, neg, bin, conj, disj, cond, bicond, atom}
use Rattle.language.specs.Syntax.{Pattern, any, exactly, neg_p, bin_p, function, method, Phrase, Clause, expr, dedu, phrase_at, Sheet}
use Rattle.language.specs.Syntax.{prop, var, con, rule, abstract, call, bind, match, apply, assume, suppose, dlet, by, dmatch}
use Rattle.language.specs.Numbers.{Got, got, no, then, check, pick, from, times}
use Rattle.language.specs.Read.{reference, proposition_kinds, proposition, binders, parts, small, pattern_ref, pattern_kinds, pattern, is_deduction, phrase_ref, expr_ref, dedu_ref, fixed, pair, several, clause, clauses, block_of, phrase_kinds, phrase, sheet}
use Rattle.language.specs.Rules.{arity}
use Rattle.language.specs.Check.{Counted, ReadNode, plain, rule_node, inner, node, Certificate, certificate_at, own, checked, against, verdict}
use Rattle.language.specs.Certificate.{certificate}
use Rattle.language.specs.Answer.{accepted, refused as refused_answer, started, answer}
use Rattle.theorems.specs.Demands.{nodes, AcceptsExactly}
use Rattle.theorems.specs.Longest.{LongestSheet, LongestCertificate, LongestAccepted, SheetFront, CertificateFront, AnswerFront, VerdictFront}
use Rattle.theorems.proofs.Lists.{clash}
use Rattle.theorems.proofs.Arguments.{three}
use Rattle.theorems.proofs.Certified.{certified}
use Rattle.theorems.proofs.Accepting.{accepts_exactly}
use Rattle.theorems.proofs.RoundTrip.{round_trip, proves_regular}
use Rattle.theorems.proofs.Bounds.{derives_nodes}
use Rattle.theorems.proofs.Limits.{derived_writable}
use Rattle.theorems.proofs.Sheets.{sheet_well_formed}
use Rattle.theorems.proofs.Reading.{Ensures, ensured, ensure, ensures_map, ensures_times}
use Rattle.theorems.proofs.Spans.{Alike, give, refuse, alike_same, alike_ensures, alike_both, alike_check, alike_then, ends_front, refers}
use Rattle.theorems.proofs.Spans.{Spans, counts_1, counts_2, counts_spans, below_1, below_2, then_spans, count_spans, got_spans, none_spans, check_spans, here, spans_more, times_spans, Readers, no_more, and_then, record_spans}

reference_spans : (ps : List Form) → length ps ≤ 16384 → Spans 2 (λ s. reference s ps)
unfolding reference
reference_spans ps h = then_spans 2 0 (below_2 (length ps) h) (λ p. got_spans (get_or ps p verum))

-- a proposition has at most two references
proposition_spans : (ps : List Form) → length ps ≤ 16384 → Spans 5 (λ s. proposition s ps)
unfolding proposition proposition_kinds
proposition_spans ps h =
    record_spans 4 8 (omega arith)
    (and_then (spans_more 2 4 (then_spans 2 0 (counts_spans (counts_2 0 255 (omega arith))) (λ v. got_spans (atom v))) (omega arith))
    (and_then (spans_more 0 4 (got_spans verum) (omega arith))
    (and_then (spans_more 0 4 (got_spans falsum) (omega arith))
    (and_then (spans_more 2 4 (then_spans 2 0 R (λ p. got_spans (neg p))) (omega arith))
    (and_then (two conj) (and_then (two disj) (and_then (two cond) (and_then (two bicond) no_more))))))))
  where
    R : Spans 2 (λ s. reference s ps)
    R = reference_spans ps h

    two : (c : Conn) → Spans 4 (λ s a. then (reference s ps a) (λ p b. then (reference s ps b) (λ q. got (bin c p q))))
    two c = then_spans 2 2 R (λ p. then_spans 2 0 R (λ q. got_spans (bin c p q)))

-- a pattern has at most two references
module _ (ps : List Form) (few : length ps ≤ 16384) (qs : List Pattern) (some : length qs ≤ 128) where
  small_spans : (at : ℕ) (p : Pattern) → Spans 0 (λ s. small at p)
  unfolding small
  small_spans at p = check_spans 0 (leb (binders p) 4 && leb (parts p) 256) out_of_range at (got_spans p)

  pattern_ref_spans : Spans 1 (λ s. pattern_ref s qs)
  unfolding pattern_ref
  pattern_ref_spans = then_spans 1 0 (below_1 (length qs) some) (λ q. got_spans (get_or qs q any))

  pattern_readers : (at : ℕ) → Readers 2 7 (λ s. pattern_kinds s ps qs at)
  unfolding pattern_kinds
  pattern_readers at =
      and_then (spans_more 0 2 (small_spans at any) (omega arith))
      (and_then (then_spans 2 0 (reference_spans ps few) (λ p. small_spans at (exactly p)))
      (and_then (spans_more 1 2 (then_spans 1 0 pattern_ref_spans (λ p. small_spans at (neg_p p))) (omega arith))
      (and_then (two conj) (and_then (two disj) (and_then (two cond) (and_then (two bicond) no_more))))))
    where
      two : (c : Conn) → Spans 2 (λ s a. then (pattern_ref s qs a) (λ p b. then (pattern_ref s qs b) (λ q. small at (bin_p c p q))))
      two c = then_spans 1 1 pattern_ref_spans (λ p. then_spans 1 0 pattern_ref_spans (λ q. small_spans at (bin_p c p q)))

  pattern_spans : Spans 3 (λ s. pattern s ps qs)
  unfolding pattern
  pattern_spans = here (λ at. record_spans 2 7 (omega arith) (pattern_readers at))

  -- a phrase is longest as a block of eight
  module _ (fs : List Phrase) (low : length fs ≤ 16384) where
    F : Spans 2 (λ s. phrase_ref s fs)
    unfolding phrase_ref
    F = below_2 (length fs) low

    E : Spans 2 (λ s. expr_ref s fs)
    unfolding expr_ref
    E = here (λ at. then_spans 2 0 F (λ k. check_spans 0 (not (is_deduction (phrase_at fs k))) wrong_reference at (got_spans k)))

    D : Spans 2 (λ s. dedu_ref s fs)
    unfolding dedu_ref
    D = here (λ at. then_spans 2 0 F (λ k. check_spans 0 (is_deduction (phrase_at fs k)) wrong_reference at (got_spans k)))

    fixed_spans : (x : Phrase) (at : ℕ) → Spans 0 (λ s. fixed x at)
    unfolding fixed
    fixed_spans (dedu d) at = none_spans 0 wrong_reference at
    fixed_spans (expr (prop p)) at = none_spans 0 wrong_reference at
    fixed_spans (expr (var k)) at = none_spans 0 wrong_reference at
    fixed_spans (expr (con c)) at = none_spans 0 wrong_reference at
    fixed_spans (expr (rule r)) at = none_spans 0 wrong_reference at
    fixed_spans (expr (abstract z true n b)) at = none_spans 0 wrong_reference at
    fixed_spans (expr (abstract z false n b)) at = got_spans (expr (abstract z true n b))
    fixed_spans (expr (call e es)) at = none_spans 0 wrong_reference at
    fixed_spans (expr (bind e f)) at = none_spans 0 wrong_reference at
    fixed_spans (expr (match e cs)) at = none_spans 0 wrong_reference at

    pair_spans : (j : ℕ) {R R' : List ℕ → ℕ → Got ℕ} (f : ℕ → ℕ → Phrase) → Spans j R → Spans 2 R' → j ≤ 2 → Spans 17 (λ s. pair (R s) (R' s) f)
    unfolding pair
    pair_spans j f h h' l = spans_more (j + 2) 17 (then_spans j 2 h (λ x. then_spans 2 0 h' (λ y. got_spans (f x y)))) (omega arith)

    several_spans : (low top : ℕ) {R : List ℕ → ℕ → Got ℕ} (f : List ℕ → Phrase) → top < 128 → Spans 2 R → Spans (1 + top * 2) (λ s. several s low top (R s) f)
    unfolding several
    several_spans low top {R} f h one =
        count_spans 1 (top * 2) (counts_1 low top h) (λ n l.
        spans_more (n * 2 + 0) (top * 2) (then_spans (n * 2) 0 (times_spans 2 n (λ s acc. R s) (λ acc m. one) n [] (omega arith)) (λ xs. got_spans (f xs))) (omega arith))

    clause_spans : {R : List ℕ → ℕ → Got ℕ} → Spans 2 R → Spans 3 (λ s. clause s qs (R s))
    unfolding clause
    clause_spans one = then_spans 1 2 pattern_ref_spans (λ q. then_spans 2 0 one (λ k. got_spans (record { pattern = q; body = k })))

    clauses_spans : {R : List ℕ → ℕ → Got ℕ} (f : List Clause → Phrase) → Spans 2 R → Spans 13 (λ s. clauses s qs (R s) f)
    unfolding clauses
    clauses_spans {R} f one =
        count_spans 1 12 (counts_1 1 4 (omega arith)) (λ n l.
        spans_more (n * 3 + 0) 12 (then_spans (n * 3) 0 (times_spans 3 n (λ s acc. clause s qs (R s)) (λ acc m. clause_spans one) n [] (omega arith)) (λ cs. got_spans (f cs))) (omega arith))

    one_spans : (top : ℕ) (f : ℕ → Phrase) → top < 16384 → Spans 17 (λ s a. then (from 0 top s a) (λ v. got (f v)))
    one_spans top f h = spans_more 2 17 (then_spans 2 0 (counts_spans (counts_2 0 top h)) (λ v. got_spans (f v))) (omega arith)

    phrase_readers : (at : ℕ) → Readers 17 23 (λ s. phrase_kinds s ps qs fs at)
    unfolding phrase_kinds
    phrase_readers at =
        and_then (spans_more 2 17 (then_spans 2 0 (reference_spans ps few) (λ p. got_spans (expr (prop p)))) (omega arith))
        (and_then (one_spans 255 (λ v. expr (var v)) (omega arith))
        (and_then (one_spans 4 (λ v. expr (con v)) (omega arith))
        (and_then (one_spans 15 (λ v. expr (rule v)) (omega arith))
        (and_then (pair_spans 1 (λ n b. expr (abstract function false n b)) count E (omega arith))
        (and_then (pair_spans 1 (λ n b. expr (abstract method false n b)) count D (omega arith))
        (and_then (spans_more 11 17 (then_spans 2 9 E (λ e. several_spans 0 4 (λ es. expr (call e es)) (omega arith) E)) (omega arith))
        (and_then (pair_spans 2 (λ e f. expr (bind e f)) E E (omega arith))
        (and_then (spans_more 2 17 (here (λ a. then_spans 2 0 F (λ k. fixed_spans (phrase_at fs k) a))) (omega arith))
        (and_then (spans_more 15 17 (then_spans 2 13 E (λ e. clauses_spans (λ cs. expr (match e cs)) E)) (omega arith))
        (and_then out (and_then out (and_then out (and_then out (and_then out (and_then out
        (and_then (spans_more 11 17 (then_spans 2 9 E (λ e. several_spans 0 4 (λ es. dedu (apply e es)) (omega arith) F)) (omega arith))
        (and_then (pair_spans 2 (λ e d. dedu (assume e d)) E D (omega arith))
        (and_then (pair_spans 2 (λ e d. dedu (suppose e d)) E D (omega arith))
        (and_then (pair_spans 2 (λ f d. dedu (dlet f d)) F D (omega arith))
        (and_then (pair_spans 2 (λ e d. dedu (by e d)) E D (omega arith))
        (and_then (several_spans 1 8 block_of (omega arith) D)
        (and_then (spans_more 15 17 (then_spans 2 13 F (λ f. clauses_spans (λ cs. dedu (dmatch f cs)) D)) (omega arith))
        no_more))))))))))))))))))))))
      where
        count : Spans 1 (from 0 4)
        count = counts_spans (counts_1 0 4 (omega arith))

        out : Spans {A = Phrase} 17 (λ s a. no out_of_range at)
        out = none_spans 17 out_of_range at

    phrase_spans : Spans 18 (λ s. phrase s ps qs fs)
    unfolding phrase
    phrase_spans = here (λ at. record_spans 17 23 (omega arith) (phrase_readers at))

-- several that were read: how many, and how far on
module _ {A : Type 0} (n : ℕ) (s : List ℕ) (R : List ℕ → List A → ℕ → Got A) where
  many : (k m : ℕ) → ((acc : List A) → length acc < m → Spans k (λ s. R s acc)) → (at : ℕ) → at + m * k + 2 ≤ n →
      Alike (λ xs next. (next ≤ at + m * k) × (length xs ≡ m)) (times m (R (take n s)) [] at) (times m (R s) [] at)
  many k m one at room =
      alike_both ((times_spans k m R one m [] (omega arith)).reads n s at room)
      (ensures_map (ensures_times (λ xs. Unit {0}) (R s) (λ acc c u. ensure (R s acc c) (λ a d e. tt)) m [] at tt) λ xs next w. omega (arith, w.1))

-- nothing follows: the front ends there where the whole does
module _ (n : ℕ) (s : List ℕ) (end : ℕ) (inside : end < n) where
  ends_alike : {A : Type 0} {G : A → ℕ → Type 0} (a : A) → (end ≡ length s → G a end) →
      Alike G (check (eqb end (length (take n s))) bytes_after end (got a end)) (check (eqb end (length s)) bytes_after end (got a end))
  ends_alike a h =
      rw (ends_front n s end inside)
      (alike_check (eqb end (length s)) bytes_after end λ t. give {at = end} (h (eqb-true end (length s) t)))

module _ (n : ℕ) (s : List ℕ) (fs : List Phrase) (low : length fs ≤ 16384) (at : ℕ) (room : at + 3 ≤ n) where
  root_alike : Alike (λ k next. next ≤ at + 2) (dedu_ref (take n s) fs at) (dedu_ref s fs at)
  unfolding dedu_ref phrase_ref
  root_alike = alike_then (refers n s at room (length fs) low) λ k next l. alike_check (is_deduction (phrase_at fs k)) wrong_reference at λ t. give l

sheet_alike : (n : ℕ) (s : List ℕ) → 12297 < n → Alike (λ S end. length s ≤ 12297) (sheet (take n s)) (sheet s)
unfolding sheet
sheet_alike n s room =
    alike_then ((counts_2 0 512 (omega arith)).reads n s 0 (omega arith)) λ np a x₁.
    alike_then (many n s proposition 5 np (λ acc m. proposition_spans acc (omega (arith, m, x₁))) a (omega (arith, room, x₁))) λ ps b x₂.
    alike_then ((counts_2 0 128 (omega arith)).reads n s b (omega (arith, room, x₁, x₂))) λ nq c x₃.
    alike_then (many n s (λ s. pattern s ps) 3 nq (λ acc m. pattern_spans ps (omega (arith, x₂, x₁)) acc (omega (arith, m, x₃))) c (omega (arith, room, x₁, x₂, x₃))) λ qs d x₄.
    alike_then ((counts_2 1 512 (omega arith)).reads n s d (omega (arith, room, x₁, x₂, x₃, x₄))) λ nf e x₅.
    alike_then (many n s (λ s. phrase s ps qs) 18 nf (λ acc m. phrase_spans ps (omega (arith, x₂, x₁)) qs (omega (arith, x₄, x₃)) acc (omega (arith, m, x₅))) e (omega (arith, room, x₁, x₂, x₃, x₄, x₅))) λ fs f x₆.
    alike_then ((counts_1 0 64 (omega arith)).reads n s f (omega (arith, room, x₁, x₂, x₃, x₄, x₅, x₆))) λ nb g x₇.
    alike_then (many n s (λ s acc. reference s ps) 2 nb (λ acc m. reference_spans ps (omega (arith, x₂, x₁))) g (omega (arith, room, x₁, x₂, x₃, x₄, x₅, x₆, x₇))) λ bs h x₈.
    let near : h ≤ 12295 = omega (arith, x₁, x₂, x₃, x₄, x₅, x₆, x₇, x₈) in
    alike_then (root_alike n s fs (omega (arith, x₆, x₅)) h (omega (arith, room, near))) λ r end x₉.
    ends_alike n s end (omega (arith, room, near, x₉)) (record { props = ps; patterns = qs; phrases = fs; base = bs; root = r }) (λ whole. omega (arith, near, x₉, whole))

pub longest_sheet : LongestSheet
unfolding LongestSheet
longest_sheet s S end e = ensured (alike_ensures (sheet_alike 12298 s (omega arith))) e

pub sheet_front : SheetFront
unfolding SheetFront
sheet_front s n room = alike_same (sheet_alike n s room)

-- a node has at most eight bytes of its own, and the counter counts nodes
module _ (n : ℕ) (s : List ℕ) (ps : List Form) (few : length ps ≤ 16384) where
  abbrev LongNode : ℕ → ℕ → Counted → ℕ → Type 0
  LongNode used at x next = (next ≤ at + 8 * nodes (plain x.node)) × (x.nodes ≡ used + nodes (plain x.node)) × (x.nodes ≤ 7168)

  -- the nodes that may follow are inside the front, and the kind of one too many
  abbrev Room : ℕ → ℕ → Type 0
  Room used at = (used ≤ 7168) × (at + 8 * (7168 - used) + 3 ≤ n)

  inner_long : (R R' : ReadNode) → ((u a : ℕ) → Room u a → Alike (LongNode u a) (R u a) (R' u a)) →
      (used at kind u a next : ℕ) → used < 7168 → Room used a → next ≤ a + 1 →
      Alike (LongNode used a) (get_or (inner R (take n s) ps used at) kind (λ u b. no out_of_range at) u next) (get_or (inner R' s ps used at) kind (λ u b. no out_of_range at) u next)
  unfolding inner rule_node plain nodes
  inner_long R R' long used at zero u a next left room l =
      alike_then ((counts_1 0 15 (omega arith)).reads n s next (omega (arith, left, room, l))) λ r b h.
      let three-at-most = three r in
      alike_then (many n s (λ s acc. reference s ps) 2 (get_or arity r 0) (λ acc m. reference_spans ps few) b (omega (arith, left, room, l, h, three-at-most))) λ xs c w.
      give {at = c} (omega (arith, l, h, w.0, three-at-most), refl, omega (arith, left))
  inner_long R R' long used at (suc zero) u a next left room l =
      alike_then (long (used + 1) next (omega (arith, left), omega (arith, left, room, l))) λ x b h.
      alike_then (long x.nodes b (h.2, omega (arith, left, room, l, h))) λ y c w.
      give {at = c} (omega (arith, l, h.0, w.0), omega (arith, h.1, w.1), w.2)
  inner_long R R' long used at (suc (suc zero)) u a next left room l =
      alike_then ((reference_spans ps few).reads n s next (omega (arith, left, room, l))) λ p b h.
      alike_then (long (used + 1) b (omega (arith, left), omega (arith, left, room, l, h))) λ x c w.
      give {at = c} (omega (arith, l, h, w.0), omega (arith, w.1), w.2)
  inner_long R R' long used at (suc (suc (suc k))) u a next left room l = refuse

  node_long : (levels used at : ℕ) → Room used at → Alike (LongNode used at) (node levels (take n s) ps used at) (node levels s ps used at)
  unfolding node
  node_long zero used at room = alike_then ((counts_1 0 2 (omega arith)).reads n s at (omega (arith, room))) λ kind a h. refuse
  node_long (suc levels) used at room =
      alike_then ((counts_1 0 2 (omega arith)).reads n s at (omega (arith, room))) λ kind a h.
      alike_check (ltb used 7168) certificate_over at λ t.
      inner_long (node levels (take n s) ps) (node levels s ps) (node_long levels) used at kind used at a (ltb-true used 7168 t) room h.1

abbrev Long : List ℕ → Certificate → ℕ → Type 0
Long s C end = (length s ≤ 4 + 5 * length C.forms + 8 * nodes (plain C.proof)) × (length C.forms ≤ 4608) × (nodes (plain C.proof) ≤ 7168)

certificate_alike : (n : ℕ) (s : List ℕ) → 80388 < n → Alike (Long s) (certificate_at (take n s)) (certificate_at s)
unfolding certificate_at
certificate_alike n s room =
    alike_then ((counts_2 0 4608 (omega arith)).reads n s 0 (omega arith)) λ np a x₁.
    alike_then (many n s proposition 5 np (λ acc m. proposition_spans acc (omega (arith, m, x₁))) a (omega (arith, room, x₁))) λ ps b x₂.
    alike_then (node_long n s ps (omega (arith, x₂, x₁)) 512 0 b (omega arith, omega (arith, room, x₁, x₂))) λ x c x₃.
    alike_then (refers n s c (omega (arith, room, x₁, x₂, x₃)) (length ps) (omega (arith, x₂, x₁))) λ k end x₄.
    ends_alike n s end (omega (arith, room, x₁, x₂, x₃, x₄)) (record { forms = ps; proof = x.node; conclusion = k; place = c })
    (λ whole. (omega (arith, x₁, x₂, x₃.0, x₄, whole), omega (arith, x₂, x₁), omega (arith, x₃)))

certificate_long : (s : List ℕ) → Ensures (Long s) (certificate_at s)
certificate_long s = alike_ensures (certificate_alike 80389 s (omega arith))

pub longest_certificate : LongestCertificate
unfolding LongestCertificate
longest_certificate s C end e = let l = ensured (certificate_long s) e in omega (arith, l)

pub certificate_front : CertificateFront
unfolding CertificateFront
certificate_front s n room = alike_same (certificate_alike n s room)

pub answer_front : AnswerFront
unfolding AnswerFront SheetFront answer
answer_front s n budget room l = rw (sheet_front s n l)

pub verdict_front : VerdictFront
unfolding VerdictFront SheetFront CertificateFront verdict against
verdict_front s bytes n m l l' = ap (against (take m bytes)) (sheet_front s n l) ∙ by_sheet (sheet s)
  where
    by_sheet : (g : Got Sheet) → against (take m bytes) g ≡ against bytes g
    by_sheet (got S end) = ap (λ (c : Got Certificate). checked S (own c)) (certificate_front bytes m l')
    by_sheet (no e p) = refl

-- an evaluation's certificate has fewer than three nodes for each evaluation begun
accepted_long : (s : List ℕ) (S : Sheet) (end budget room : ℕ) (bytes : List ℕ) (w i : ℕ) → sheet s ≡ got S end → budget ≤ 1024 → answer s budget room ≡ accepted bytes w i → length bytes ≤ 47612
unfolding AcceptsExactly
accepted_long s S end budget room bytes w i reads small a =
    let (d, x, within, is, count, _) = (accepts_exactly s S end budget room bytes w i reads small).0 a in
    let ok = derived_writable (ensured (sheet_well_formed s) reads) x (omega arith) (omega arith) in
    let (c, r) = round_trip d ok (proves_regular (certified x)) in
    let l = ensured (certificate_long (certificate d)) r.read in
    let few = ok.few in
    let short = derives_nodes x in
    rw is (omega (arith, rw (r.forms, r.proof) at l.0, few, short, within, small))

pub longest_accepted : LongestAccepted
unfolding LongestAccepted answer pick started
longest_accepted s budget room bytes w i a = go (leb budget 1024) refl (sheet s) refl a
  where
    go : (b : Bool) → leb budget 1024 ≡ b → (g : Got Sheet) → sheet s ≡ g → pick b (started budget room g) (refused_answer budget_over 0) ≡ accepted bytes w i → length bytes ≤ 47612
    go false t g e h = absurd (clash cc)
    go true t (no n p) e h = absurd (clash cc)
    go true t (got S end) e h = accepted_long s S end budget room bytes w i e (leb-true budget 1024 t) (rw (t, e) h)

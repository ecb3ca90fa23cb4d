-- A sheet reads exactly where its bytes have parts, so that growth is defined for every sheet that reads.
use Prim.Native.Nat.{ℕ, ◌+◌, ◌≤◌}
use native.Mathlib.Nat.{zero-add}
use native.Mathlib.Omega.{arith}
use mathlib.Core.Path.{◌≡◌, refl, sym, ap, subst, ◌∙◌}
use mathlib.Core.List.{List, [], ◌++◌}
use mathlib.Core.Bool.{Bool, true, false}
use lib.ListN.{length, length-append}
use lib.Dec.{eqb}
use borrow.Author.Tests.{eq-eqb, eqb-true}
use Rattle.language.specs.Refusals.{bytes_after}
use Rattle.language.specs.Form.{Form}
use Rattle.language.specs.Syntax.{Pattern, Phrase, Sheet}
use Rattle.language.specs.Numbers.{Got, got, then, check, from, times}
use Rattle.language.specs.Read.{reference, proposition, pattern, phrase, dedu_ref, sheet}
use Rattle.theorems.specs.Growth.{Piece, patterns_and_phrases, Parts}
use Rattle.theorems.proofs.Lists.{clash}
use Rattle.theorems.proofs.Reading.{got_then, got_check}
use Rattle.theorems.proofs.ReadBack.{Has, has_all}
use Rattle.theorems.proofs.Places.{has_within, has_join, has_same}
use Rattle.theorems.proofs.InTurn.{then_is, then_then, through}
use Rattle.theorems.proofs.Frames.{Framed, framed, refused, framed_times}
use Rattle.theorems.proofs.Parsed.{extends_self, framed_from, framed_reference, framed_dedu_ref, framed_proposition}
use Rattle.theorems.proofs.Grown.{framed_middle}

-- a piece, at places given as numbers
piece_at : {A : Type 0} {R : List ℕ → ℕ → Got A} {s before xs : List ℕ} {v : A} (at next : ℕ) → at ≡ length before → next ≡ at + length xs →
    Piece R s before xs v → R s at ≡ got v next
piece_at at next e f p = rw (f, e) p.reads

-- parts 2 and 3, and what follows them
middle_then : {C : Type 0} (s : List ℕ) (ps : List Form) (at : ℕ) (rest : List Pattern → List Phrase → ℕ → Got C) →
    then (patterns_and_phrases s ps at) (λ x. rest x.0 x.1)
    ≡ then (from 0 128 s at) (λ nq a. then (times nq (pattern s ps) [] a) (λ qs b.
    then (from 1 512 s b) (λ nf c. then (times nf (phrase s ps qs) [] c) (λ fs. rest qs fs))))
unfolding patterns_and_phrases then
middle_then s ps at rest =
    let after : List Pattern × List Phrase → ℕ → Got _ = λ x. rest x.0 x.1 in
    then_then _ after (from 0 128 s at) ∙ then_is (from 0 128 s at) (λ nq a.
    then_then _ after (times nq (pattern s ps) [] a) ∙ then_is (times nq (pattern s ps) [] a) (λ qs b.
    then_then _ after (from 1 512 s b) ∙ then_is (from 1 512 s b) (λ nf c.
    then_then _ after (times nf (phrase s ps qs) [] c))))

-- a sheet that has parts reads, whole
pub parts_read : {s : List ℕ} {S : Sheet} → Parts s S → sheet s ≡ got S (length s)
unfolding sheet
parts_read {s} {S} p =
    let a = length p.count₁ in
    let b = a + length p.props in
    let f = b + length p.middle in
    let g = f + length p.count₄ in
    let h = g + length p.base in
    let end : length s ≡ h + length p.root = rw p.whole (simp length-append (omega arith)) in
    got_then _ (piece_at 0 a refl (sym (zero-add a)) p.counts_props)
    ∙ got_then _ (piece_at a b refl refl p.reads_props)
    ∙ sym (middle_then s S.props b _)
    ∙ got_then _ (piece_at b f (simp length-append (omega arith)) refl p.reads_middle)
    ∙ got_then _ (piece_at f g (simp length-append (omega arith)) refl p.counts_base)
    ∙ got_then _ (piece_at g h (simp length-append (omega arith)) refl p.reads_base)
    ∙ got_then _ (piece_at h (h + length p.root) (simp length-append (omega arith)) refl p.reads_root)
    ∙ got_check bytes_after (h + length p.root) _ (eq-eqb _ _ (sym end)) ∙ ap (got S) (sym end)

-- what is read stands in bytes of its own
stood : {A : Type 0} {R : ℕ → List ℕ → ℕ → Got A} {s : List ℕ} {at next : ℕ} {v : A} {g : Got A} → Framed R s at g → g ≡ got v next →
    (xs : List ℕ) × Has s at xs × (next ≡ at + length xs)
stood {next} (framed {next = end} xs w e k) z = let ends : next ≡ end = cc in (xs, w, ends ∙ e)
stood refused z = absurd (clash (cc))

piece_of : {A : Type 0} {R : List ℕ → ℕ → Got A} {s before xs : List ℕ} {v : A} {at next : ℕ} → at ≡ length before → next ≡ at + length xs →
    R s at ≡ got v next → Piece R s before xs v
piece_of e f r = record { reads = rw (← e, ← f) r }

-- the parts, from what was read one after another
parts_of : (s : List ℕ) (np a b f nb g h r : ℕ) (ps bs : List Form) (qs : List Pattern) (fs : List Phrase) →
    from 0 512 s 0 ≡ got np a → times np (proposition s) [] a ≡ got ps b → patterns_and_phrases s ps b ≡ got (qs, fs) f →
    from 0 64 s f ≡ got nb g → times nb (λ acc. reference s ps) [] g ≡ got bs h → dedu_ref s fs h ≡ got r (length s) →
    Parts s (record { props = ps; patterns = qs; phrases = fs; base = bs; root = r })
parts_of s np a b f nb g h r ps bs qs fs e₁ e₂ e₃ e₄ e₅ e₆ =
    let (c₁, w₁, l₁) = stood (framed_from s 0 0 512) e₁ in
    let (p, w₂, l₂) = stood (framed_times s (proposition s) proposition (λ ps a l. framed_proposition s ps a) np [] a (inside w₁ l₁)) e₂ in
    let (m, w₃, l₃) = stood (framed_middle s (extends_self ps) b) e₃ in
    let (c₄, w₄, l₄) = stood (framed_from s f 0 64) e₄ in
    let (q, w₅, l₅) = stood (framed_times s (λ acc. reference s ps) (λ t acc. reference t ps) (λ acc a l. framed_reference s a (extends_self ps)) nb [] g (inside w₄ l₄)) e₅ in
    let (t, w₆, l₆) = stood (framed_dedu_ref s h fs) e₆ in
    let base = has_join q t w₅ l₅ w₆ in
    let four = has_join c₄ (q ++ t) w₄ l₄ base in
    let three = has_join m (c₄ ++ (q ++ t)) w₃ l₃ four in
    let two = has_join p (m ++ (c₄ ++ (q ++ t))) w₂ l₂ three in
    let one = has_join c₁ (p ++ (m ++ (c₄ ++ (q ++ t)))) w₁ l₁ two in
    record {
      props_count = np;
      base_count = nb;
      count₁ = c₁;
      props = p;
      middle = m;
      count₄ = c₄;
      base = q;
      root = t;
      whole = sym (has_same (c₁ ++ (p ++ (m ++ (c₄ ++ (q ++ t))))) s (simp length-append (omega arith)) one (has_all s));
      counts_props = piece_of refl l₁ e₁;
      reads_props = piece_of (l₁ ∙ zero-add _) l₂ e₂;
      reads_middle = piece_of (simp length-append (omega arith)) l₃ e₃;
      counts_base = piece_of (simp length-append (omega arith)) l₄ e₄;
      reads_base = piece_of (simp length-append (omega arith)) l₅ e₅;
      reads_root = piece_of (simp length-append (omega arith)) l₆ e₆;
    }
  where
    inside : {at next : ℕ} {xs : List ℕ} → Has s at xs → next ≡ at + length xs → next ≤ length s
    inside {xs} w l = rw l (has_within xs w)

pub read_parts : {s : List ℕ} {S : Sheet} {end : ℕ} → sheet s ≡ got S end → Parts s S
unfolding sheet
read_parts {s} {S} {end} e =
    let (np, a, e₁, h₁) = through (from 0 512 s 0) e in
    let (ps, b, e₂, h₂) = through (times np (proposition s) [] a) h₁ in
    let (qfs, f, e₃, h₃) = through (patterns_and_phrases s ps b) (middle_then s ps b _ ∙ h₂) in
    let (nb, g, e₄, h₄) = through (from 0 64 s f) h₃ in
    let (bs, h, e₅, h₅) = through (times nb (λ acc. reference s ps) [] g) h₄ in
    let (r, last, e₆, h₆) = through (dedu_ref s qfs.1 h) h₅ in
    whole r last (record { props = ps; patterns = qfs.0; phrases = qfs.1; base = bs; root = r }) h₆
    (λ z. parts_of s np a b f nb g h r ps bs qfs.0 qfs.1 e₁ e₂ e₃ e₄ e₅ (rw z at e₆))
  where
    whole : (r last : ℕ) (T : Sheet) → check (eqb last (length s)) bytes_after last (got T last) ≡ got S end → (last ≡ length s → Parts s T) → Parts s S
    whole r last T h k = by_test (eqb last (length s)) refl h
      where
        by_test : (t : Bool) → eqb last (length s) ≡ t → check t bytes_after last (got T last) ≡ got S end → Parts s S
        by_test true e z = let is : T ≡ S = cc in subst (Parts s) is (k (eqb-true last (length s) e))
        by_test false e z = absurd (clash (cc))

-- Two sheets, of which one is the other with records appended, differ as read only in their lists of propositions and assumptions.
use Prim.Native.Nat.{ℕ, ◌+◌, ◌≤◌}
use native.Mathlib.Omega.{arith}
use mathlib.Core.Path.{◌≡◌, refl, sym, ap, ◌∙◌}
use mathlib.Core.List.{List, [], ◌++◌, append_assoc, append-nil}
use lib.ListN.{length, length-append}
use Rattle.language.specs.Form.{Form}
use Rattle.language.specs.Syntax.{Pattern, Phrase, Sheet}
use Rattle.language.specs.Numbers.{Got, got}
use Rattle.language.specs.Read.{reference, proposition, pattern, phrase}
use Rattle.theorems.specs.Demands.{Longer}
use Rattle.theorems.specs.Growth.{Piece, patterns_and_phrases, Parts, Grown}
use Rattle.theorems.proofs.Lists.{clash}
use Rattle.theorems.proofs.ReadBack.{Has, has_left}
use Rattle.theorems.proofs.Places.{has_same}
use Rattle.theorems.proofs.InTurn.{times_grow}
use Rattle.theorems.proofs.Frames.{Framed, framed, refused, on_got, on_then, framed_times}
use Rattle.theorems.proofs.Parsed.{Extends, extends_append, framed_from, framed_reference, framed_dedu_ref, framed_proposition, framed_pattern, framed_phrase}

stands : {s : List ℕ} (before xs back : List ℕ) → s ≡ before ++ (xs ++ back) → Has s (length before) xs
stands before xs back e = record { front = before; back = back; whole = e; place = refl }

-- what a piece is read as, it is read as wherever its bytes stand
replays : {A : Type 0} {R R' : List ℕ → ℕ → Got A} {s : List ℕ} (before xs back : List ℕ) {v : A} →
    s ≡ before ++ (xs ++ back) → Piece R s before xs v → ((at : ℕ) → at ≤ length s → Framed (λ o. R') s at (R s at)) →
    {t : List ℕ} {b : ℕ} → Has t b xs → R' t b ≡ got v (b + length xs)
replays {A} {R} {R'} {s} before xs back {v} whole piece f h = go (f (length before) inside) piece.reads h
  where
    inside : length before ≤ length s
    inside = rw whole (simp length-append (omega arith))

    go : {g : Got A} → Framed (λ o. R') s (length before) g → g ≡ got v (length before + length xs) →
        {t : List ℕ} {b : ℕ} → Has t b xs → R' t b ≡ got v (b + length xs)
    go (framed {v = u} {next} ys w e k) z {t} {b} h =
        let ends : next ≡ length before + length xs = cc in
        let same : u ≡ v = cc in
        let as_long : length ys ≡ length xs = omega arith in
        let is : ys ≡ xs = has_same ys xs as_long w (stands before xs back whole) in
        rw (← is, ← same) (k 0 t b (rw is h))
    go refused z h = absurd (clash (cc))

pub framed_middle : (s : List ℕ) {ps ps' : List Form} → Extends ps ps' → (at : ℕ) →
    Framed (λ o t. patterns_and_phrases t ps') s at (patterns_and_phrases s ps at)
unfolding patterns_and_phrases
framed_middle s {ps} {ps'} x at =
    on_then (framed_from s at 0 128) (λ nq a e l.
    on_then (framed_times s (pattern s ps) (λ t. pattern t ps') (λ qs at l. framed_pattern s x qs at) nq [] a l) (λ qs b e l.
    on_then (framed_from s b 1 512) (λ nf c e l.
    on_then (framed_times s (phrase s ps qs) (λ t. phrase t ps' qs) (λ fs at l. framed_phrase s x qs fs at) nf [] c l) (λ fs d e l. on_got (qs, fs) l))))

-- where the parts of a sheet's bytes stand
module _ {s : List ℕ} {S : Sheet} (p : Parts s S) where
  abbrev before_middle : List ℕ
  before_middle = p.count₁ ++ p.props

  abbrev before_base : List ℕ
  before_base = p.count₁ ++ (p.props ++ (p.middle ++ p.count₄))

  abbrev before_root : List ℕ
  before_root = p.count₁ ++ (p.props ++ (p.middle ++ (p.count₄ ++ p.base)))

  middle_whole : s ≡ before_middle ++ (p.middle ++ (p.count₄ ++ (p.base ++ p.root)))
  middle_whole = p.whole ∙ simp append_assoc

  base_whole : s ≡ before_base ++ (p.base ++ p.root)
  base_whole = p.whole ∙ simp append_assoc

  root_whole : s ≡ before_root ++ (p.root ++ [])
  root_whole = p.whole ∙ simp (append_assoc, append-nil)

-- part by part: what s has is read of t as of s
module _ {s t : List ℕ} {S T : Sheet} (p : Parts s S) (q : Parts t T) (g : Grown p q) where
  props_grow : (more : List Form) × (T.props ≡ S.props ++ more)
  props_grow =
      let n = p.props_count in
      times_grow (proposition t) n g.more_props (length q.count₁) g.props_count
      (replays p.count₁ p.props _ p.whole p.reads_props
      (framed_times s (proposition s) proposition (λ ps a l. framed_proposition s ps a) n [])
      (has_left p.props g.props_bytes (rw g.props at (stands q.count₁ q.props _ q.whole))))
      q.reads_props.reads

  extends : Extends S.props T.props
  extends = let (more, e) = props_grow in rw e (extends_append S.props more)

  middle_same : ◌≡◌ {A = List Pattern × List Phrase} (S.patterns, S.phrases) (T.patterns, T.phrases)
  middle_same =
      let e = replays (before_middle p) p.middle _ (middle_whole p) p.reads_middle (λ a l. framed_middle s extends a)
      (rw g.middle at (stands (before_middle q) q.middle _ (middle_whole q))) in
      let f = q.reads_middle.reads in
      cc

  base_grows : (more : List Form) × (T.base ≡ S.base ++ more)
  base_grows =
      let n = p.base_count in
      times_grow (λ acc. reference t T.props) n g.more_base (length (before_base q)) g.base_count
      (replays (before_base p) p.base p.root (base_whole p) p.reads_base
      (framed_times s (λ acc. reference s S.props) (λ t acc. reference t T.props) (λ acc a l. framed_reference s a extends) n [])
      (has_left p.base g.base_bytes (rw g.base at (stands (before_base q) q.base q.root (base_whole q)))))
      q.reads_base.reads

  root_same : S.root ≡ T.root
  root_same =
      let e = replays (before_root p) p.root [] (root_whole p) p.reads_root (λ a l. framed_dedu_ref s a S.phrases) (rw g.root at (stands (before_root q) q.root [] (root_whole q))) in
      let f = q.reads_root.reads in
      let h = ap (λ (x : List Pattern × List Phrase). x.1) middle_same in
      cc

  pub grown_longer : Longer S T
  grown_longer =
      let (more_props, props) = props_grow in
      let (more_base, base) = base_grows in
      record {
        more_props = more_props;
        more_base = more_base;
        props = props;
        base = base;
        patterns = sym (ap (λ (x : List Pattern × List Phrase). x.0) middle_same);
        phrases = sym (ap (λ (x : List Pattern × List Phrase). x.1) middle_same);
        root = sym root_same;
      }

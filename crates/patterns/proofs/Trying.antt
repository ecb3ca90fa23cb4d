-- Trying a pattern: one law for each return. The row says which pattern it is, the word which proposition, and their parts are tried in turn.
use Rattle.std.specs.Prelude.{Option, Some, None}
use Prim.Native.Nat.{ℕ, zero, suc, ◌+◌, ◌*◌, ◌≤◌, ◌<◌}
use mathlib.Core.Path.{◌≡◌, refl, sym, ap, ap₂, subst, ◌∙◌}
use mathlib.Core.Bool.{Bool, true, false, not}
use denote.Enum.Bare.{sameb}
use denote.Enum.Declared.{tag_of}
use mathlib.Core.List.{List, [], ◌∷◌, ◌++◌, map-append}
use mathlib.Core.Option.{Option as Maybe, some, none}
use native.Mathlib.Omega.{arith}
use native.Mathlib.Decide.{ℕ_discrete as dec_eq}
use lib.ListN.{length, get_or, take, length-append}
use lib.Dec.{eqb}
use borrow.Author.Tests.{eqb-true, eq-eqb, not-true, not-false}
use Rattle.language.specs.Form.{Conn, Form}
use Rattle.language.specs.Syntax.{Pattern, any, exactly, neg_p, bin_p}
use Rattle.language.specs.Numbers.{pick}
use Rattle.language.specs.Read.{binders}
use Rattle.language.specs.Patterns.{fits, join_fits}
use Rattle.forms.specs.Word.{kind, left, right, code}
use Rattle.forms.specs.Table.{tree, Row}
use Rattle.forms.proofs.Trees.{same_at}
use Rattle.records.specs.Rows.{cell, pattern_of, pattern_by}
use Rattle.forms.specs.KindNumbers.{kind_number}
use Rattle.forms.specs.contracts.kind.Kind.{the_type as kind_type}
use Rattle.forms.specs.declared.kind.Kind.{Kind}
use Rattle.forms.specs.declared.kind.Kind.TheVariants as kinds
use Rattle.records.specs.PatternNumbers.{pattern_kind_of, pattern_number}
use Rattle.records.specs.contracts.pattern_kind.PatternKind.{the_type as pattern_type}
use Rattle.records.specs.declared.pattern_kind.PatternKind.{PatternKind}
use Rattle.records.specs.declared.pattern_kind.PatternKind.TheVariants.{Any, Exactly, Not, And, Or, If, Iff}
use Rattle.records.proofs.PatternNumbers.{none_found}
use Rattle.theorems.proofs.Lists.{all_append, clash}
use Rattle.reader.specs.Stands.{PatternRow, any_row, exactly_row, not_row, join_row}
use Rattle.patterns.specs.declared.Parts.{Parts}
use Rattle.patterns.specs.Parts.{with, extend}
use Rattle.patterns.specs.Fitting.{Named, Tried, Fitted, FitsSo, told, exactly_so}
use Rattle.patterns.proofs.Shapes.{conn_of, joins_by, rec_neg, rec_bin, neg_other, bin_other, neg_same, bin_same}
use Rattle.patterns.proofs.Extending.{extend_count, extend_extend}

-- the front of a list is read in the list
pub get_d_taken : (n : ℕ) (l : List ℕ) (i : ℕ) → i < length (take n l) → get_or (take n l) i 0 ≡ get_or l i 0
get_d_taken zero l i h = absurd (omega arith)
get_d_taken (suc n) [] i h = absurd (omega arith)
get_d_taken (suc n) (x ∷ l) zero h = refl
get_d_taken (suc n) (x ∷ l) (suc i) h = get_d_taken n l i (omega arith)

-- names, one list after another
named_append : (fs : List Form) (ms ns : List ℕ) (ps qs : List Form) → Named fs ms ps → Named fs ns qs → Named fs (ms ++ ns) (ps ++ qs)
named_append fs ms ns ps qs x y = record {
  trees = map-append (tree fs) ms ns ∙ rw (x.trees, y.trees);
  low = all_append (λ p. p < length fs) ms ns x.low y.low;
}

-- a row's operands, by its kind
Operands : ℕ → ℕ → ℕ → ℕ → ℕ → Type 0
Operands words k zero one two = Unit {0}
Operands words k (suc zero) one two = one < words
Operands words k (suc (suc zero)) one two = one < k
Operands words k (suc (suc (suc c))) one two = (one < k) × (two < k) × (c ≤ 3)

operands : {words k : ℕ} {row : List ℕ} → PatternRow words k row → Operands words k (get_or row 0 0) (get_or row 1 0) (get_or row 2 0)
unfolding Operands
operands any_row = tt
operands (exactly_row h) = h
operands (not_row h) = h
operands {words} {k} (join_row {c} {p} {q} a b h g) = go c a b
  where
    go : (c : ℕ) → 3 ≤ c → c ≤ 6 → Operands words k c p q
    go zero a b = absurd (omega arith)
    go (suc zero) a b = absurd (omega arith)
    go (suc (suc zero)) a b = absurd (omega arith)
    go (suc (suc (suc c))) a b = (h, g, omega arith)

module _ (forms patterns : List ℕ) (q p : ℕ) (b : Parts) (x : Tried forms patterns q p b) where
  abbrev pat : ℕ → Pattern
  pat k = get_or x.qs k any

  abbrev at : ℕ → Form
  at k = tree x.trees k

  kind_cell : (k : ℕ) → k ≡ get_or patterns (5 * q) 0 → cell x.rows q 0 ≡ k
  kind_cell k e =
      let z : 5 * q + 0 ≡ 5 * q = omega arith in
      sym (e ∙ ap (λ (i : ℕ). get_or patterns i 0) (sym z) ∙ x.legible.holds.cells q 0 x.pattern (omega arith))

  one_cell : (k : ℕ) → k ≡ get_or patterns (5 * q + 1) 0 → cell x.rows q 1 ≡ k
  one_cell k e = sym (e ∙ x.legible.holds.cells q 1 x.pattern (omega arith))

  two_cell : (k : ℕ) → k ≡ get_or patterns (5 * q + 2) 0 → cell x.rows q 2 ≡ k
  two_cell k e = sym (e ∙ x.legible.holds.cells q 2 x.pattern (omega arith))

  pub pattern_small : 5 * q + 5 ≤ 16384
  pattern_small =
      let l = x.pattern in
      let s = x.legible.short in
      let i = x.legible.holds.inside in
      omega arith

  says : (k one two : ℕ) → cell x.rows q 0 ≡ k → cell x.rows q 1 ≡ one → cell x.rows q 2 ≡ two → pat q ≡ pattern_by k (at one) (pat one) (pat two)
  unfolding pattern_of
  says k one two e f g = x.legible.says.says q x.pattern ∙ rw (e, f, g)

  parts : (k : ℕ) → cell x.rows q 0 ≡ k → Operands (length x.trees) q k (cell x.rows q 1) (cell x.rows q 2)
  parts k e = subst (λ (c : ℕ). Operands (length x.trees) q c (cell x.rows q 1) (cell x.rows q 2)) e (operands (x.legible.says.sound q x.pattern))

  pub kind_small : (k : ℕ) → k ≡ get_or patterns (5 * q) 0 → k ≤ 6
  unfolding Operands
  kind_small k e = go k (parts k (kind_cell k e))
    where
      go : (c : ℕ) → Operands (length x.trees) q c (cell x.rows q 1) (cell x.rows q 2) → c ≤ 6
      go zero o = omega arith
      go (suc zero) o = omega arith
      go (suc (suc zero)) o = omega arith
      go (suc (suc (suc c))) o = let l = o.2 in omega arith

  word_at : p < length (take x.words forms)
  word_at = let c = x.legible.table.count in let h = x.proposition in omega arith

  -- the record of the proposition
  record_at : Row (take x.words forms) x.trees p
  record_at = x.legible.table.rows p word_at

  says_word : (w : ℕ) → w ≡ get_or forms p 0 → w ≡ code record_at.says
  says_word w e = e ∙ sym (get_d_taken x.words forms p word_at) ∙ record_at.word

  p_small : p ≤ 16384
  p_small = let s = x.legible.table.small in let h = word_at in omega arith

  -- a pattern that is tried within this one
  abbrev inner : (k l : ℕ) (c : Parts) → k < q → l < p → c.count + binders (pat k) ≤ 4 → Tried forms patterns k l c
  inner k l c h g r =
      let hq = x.pattern in
      let hp = x.proposition in
      let e = x.legible.says.binds k (omega arith) in
      record { words = x.words; trees = x.trees; qs = x.qs; rows = x.rows; legible = x.legible; pattern = omega arith; proposition = omega arith; room = omega arith }

  room_at : (a : Pattern) → pat q ≡ a → b.count + binders a ≤ 4
  room_at a e = let r = x.room in let z = x.legible.says.binds q x.pattern in rw (← e) (omega arith)

  -- not a pattern, at not a proposition
  pub record NegOpen (one w : ℕ) : Type 0 where
    pub pattern : pat q ≡ neg_p (pat one)
    pub low : one < q
    pub part : (kind w ≡ 3) → (fits (pat q) (at p) ≡ fits (pat one) (at (left w))) × (left w < p)
    pub other : (kind w ≡ 3 → ⊥) → fits (pat q) (at p) ≡ none

  neg_open : (one w : ℕ) → get_or patterns (5 * q) 0 ≡ 2 → one ≡ get_or patterns (5 * q + 1) 0 → w ≡ get_or forms p 0 → NegOpen one w
  unfolding pattern_by Operands
  neg_open one w k i j =
      let c = kind_cell 2 (sym k) in
      let e : pat q ≡ neg_p (pat one) = says 2 one (cell x.rows q 2) c (one_cell one i) refl in
      let l : one < q = rw (one_cell one i) at (parts 2 c) in
      let y = record_at in
      let f = says_word w j in
      record {
        pattern = e;
        low = l;
        part = λ s. let n = rec_neg p w p_small y.says y.below f s in (rw (e, y.tree, n.0) (neg_same x.trees (pat one) (pat one) (left w)), n.1);
        other = λ s. rw (e, y.tree) (neg_other x.trees (pat one) (pat one) y.says (λ z. s (ap kind f ∙ z)));
      }

  -- two patterns joined, at a proposition that is joined so
  pub record BinOpen (k one two w : ℕ) : Type 0 where
    pub conn : Conn
    pub pattern : pat q ≡ bin_p conn (pat one) (pat two)
    pub low : one < q
    pub low' : two < q
    pub part : (kind w ≡ k + 1) → (fits (pat q) (at p) ≡ join_fits (fits (pat one) (at (left w))) (fits (pat two) (at (right w)))) × (left w < p) × (right w < p)
    pub other : (kind w ≡ k + 1 → ⊥) → fits (pat q) (at p) ≡ none

  bin_open : (k one two w : ℕ) → k ≡ get_or patterns (5 * q) 0 → (k ≡ 0 → ⊥) → (k ≡ 1 → ⊥) → (k ≡ 2 → ⊥) → one ≡ get_or patterns (5 * q + 1) 0 → two ≡ get_or patterns (5 * q + 2) 0 → w ≡ get_or forms p 0 → BinOpen k one two w
  unfolding Operands
  bin_open zero one two w k a b c i i' j = absurd (a refl)
  bin_open (suc zero) one two w k a b c i i' j = absurd (b refl)
  bin_open (suc (suc zero)) one two w k a b c i i' j = absurd (c refl)
  bin_open (suc (suc (suc n))) one two w k a b c i i' j =
      let K : ℕ = suc (suc (suc n)) in
      let d = kind_cell K k in
      let o = parts K d in
      let n3 = o.2 in
      let e : pat q ≡ bin_p (conn_of (K + 1)) (pat one) (pat two) =
      says K one two d (one_cell one i) (two_cell two i') ∙ joins_by K (at one) (pat one) (pat two) (omega arith) (omega arith) in
      let y = record_at in
      let f = says_word w j in
      record {
        conn = conn_of (K + 1);
        pattern = e;
        low = rw (one_cell one i) at o.0;
        low' = rw (two_cell two i') at o.1;
        part = λ s. let r = rec_bin p w p_small y.says K (omega arith) (omega arith) y.below f s in
            (rw (e, y.tree, r.0) (bin_same x.trees (pat one) (pat two) (conn_of (K + 1)) (left w) (right w)), r.1, r.2);
        other = λ s. rw (e, y.tree) (bin_other x.trees (pat one) (pat two) y.says K (omega arith) (omega arith) (λ z. s (ap kind f ∙ z)));
      }

-- what the test of two kinds says
pub met_so : (b : Bool) (kw n : ℕ) → b ≡ eqb kw n → b ≡ true → kw ≡ n
met_so b kw n e f = eqb-true kw n (sym e ∙ f)

pub unmet_so : (b : Bool) (kw n : ℕ) → b ≡ eqb kw n → b ≡ false → kw ≡ n → ⊥
unmet_so b kw n e f g = clash (ap (λ (x : Bool). elim x [ true ↦ 1 | false ↦ 0 ]) (sym f ∙ e ∙ eq-eqb kw n g))

-- what `==` of two kinds says of their numbers
pattern_tag : (k : PatternKind) → tag_of pattern_type k ≡ pattern_number k
pattern_tag Any = refl
pattern_tag Exactly = refl
pattern_tag Not = refl
pattern_tag And = refl
pattern_tag Or = refl
pattern_tag If = refl
pattern_tag Iff = refl

kind_tag : (k : Kind) → tag_of kind_type k ≡ kind_number k
kind_tag kinds.Atom = refl
kind_tag kinds.True = refl
kind_tag kinds.False = refl
kind_tag kinds.Not = refl
kind_tag kinds.And = refl
kind_tag kinds.Or = refl
kind_tag kinds.If = refl
kind_tag kinds.Iff = refl

pub pattern_same : (b : Bool) (k j : PatternKind) → b ≡ sameb pattern_type k j → b ≡ true → pattern_number k ≡ pattern_number j
pattern_same b k j e = met_so b (pattern_number k) (pattern_number j) (e ∙ ap₂ eqb (pattern_tag k) (pattern_tag j))

pub pattern_other : (b : Bool) (k j : PatternKind) → b ≡ sameb pattern_type k j → b ≡ false → pattern_number k ≡ pattern_number j → ⊥
pattern_other b k j e = unmet_so b (pattern_number k) (pattern_number j) (e ∙ ap₂ eqb (pattern_tag k) (pattern_tag j))

pub kind_same : (b : Bool) (k j : Kind) → b ≡ not (sameb kind_type k j) → b ≡ false → kind_number k ≡ kind_number j
kind_same b k j e f = met_so (sameb kind_type k j) (kind_number k) (kind_number j) (ap₂ eqb (kind_tag k) (kind_tag j)) (not-false (sameb kind_type k j) (sym e ∙ f))

pub kind_other : (b : Bool) (k j : Kind) → b ≡ not (sameb kind_type k j) → b ≡ true → kind_number k ≡ kind_number j → ⊥
kind_other b k j e f = unmet_so (sameb kind_type k j) (kind_number k) (kind_number j) (ap₂ eqb (kind_tag k) (kind_tag j)) (not-true (sameb kind_type k j) (sym e ∙ f))

-- a pattern that is neither any nor exactly has parts
pub has_parts : (b b' : Bool) (k : PatternKind) → b ≡ sameb pattern_type k Any → b ≡ false → b' ≡ sameb pattern_type k Exactly → b' ≡ false → 2 ≤ pattern_number k
has_parts b b' k e f e' f' = let x = pattern_other b k Any e f in let y = pattern_other b' k Exactly e' f' in go (pattern_number k) x y
  where
    go : (n : ℕ) → (n ≡ 0 → ⊥) → (n ≡ 1 → ⊥) → 2 ≤ n
    go zero x y = absurd (x refl)
    go (suc zero) x y = absurd (y refl)
    go (suc (suc n)) x y = omega arith

-- one that is not a negation either has two
pub has_two : (b : Bool) (k : PatternKind) → 2 ≤ pattern_number k → b ≡ sameb pattern_type k Not → b ≡ false → 3 ≤ pattern_number k
has_two b k h e f = let x = pattern_other b k Not e f in go (pattern_number k) h x
  where
    go : (n : ℕ) → 2 ≤ n → (n ≡ 2 → ⊥) → 3 ≤ n
    go zero h x = omega (arith, h)
    go (suc zero) h x = omega (arith, h)
    go (suc (suc zero)) h x = absurd (x refl)
    go (suc (suc (suc n))) h x = omega arith

-- a row's kind is a kind's number
pub none_fits : (forms patterns : List ℕ) (q p : ℕ) (b : Parts) (k : ℕ) → k ≡ get_or patterns (5 * q) 0 → pattern_kind_of k ≡ None → FitsSo forms patterns q p b None
none_fits forms patterns q p b k i e = record { meets = λ x. absurd (omega (arith, kind_small forms patterns q p b x k i, none_found k e)) }

-- what the parts ask
module _ (forms patterns : List ℕ) (q p : ℕ) (b : Parts) (k one w kw l : ℕ)
    (i : k ≡ get_or patterns (5 * q) 0) (i₁ : one ≡ get_or patterns (5 * q + 1) 0) (j : w ≡ get_or forms p 0) (jk : kw ≡ kind w) (jl : l ≡ left w)
    (over : 2 ≤ k) where
  k₀ : k ≡ 0 → ⊥
  k₀ e = omega (arith, e, over)

  k₁ : k ≡ 1 → ⊥
  k₁ e = omega (arith, e, over)

  pub left_low : Tried forms patterns q p b → one < q
  left_low x = go (dec_eq k 2)
    where
      go : Dec (k ≡ 2) → one < q
      go (yes e) = (neg_open forms patterns q p b x one w (sym i ∙ e) i₁ j).low
      go (no e) = (bin_open forms patterns q p b x k one (get_or patterns (5 * q + 2) 0) w i k₀ k₁ e i₁ refl j).low

  pub left_tried : kw ≡ k + 1 → Tried forms patterns q p b → Tried forms patterns one l b
  unfolding binders
  left_tried s x = go (dec_eq k 2)
    where
      go : Dec (k ≡ 2) → Tried forms patterns one l b
      go (yes e) =
          let o = neg_open forms patterns q p b x one w (sym i ∙ e) i₁ j in
          let r = room_at forms patterns q p b x (neg_p (get_or x.qs one any)) o.pattern in
          inner forms patterns q p b x one l b o.low (rw jl (o.part (sym jk ∙ s ∙ rw e)).1) r
      go (no e) =
          let o = bin_open forms patterns q p b x k one (get_or patterns (5 * q + 2) 0) w i k₀ k₁ e i₁ refl j in
          let r = room_at forms patterns q p b x (bin_p o.conn (get_or x.qs one any) (get_or x.qs (get_or patterns (5 * q + 2) 0) any)) o.pattern in
          inner forms patterns q p b x one l b o.low (rw jl (o.part (sym jk ∙ s)).1) (omega (arith, r))

  -- a shape that is another's, and a left part that misses
  pub shape_misses : (kw ≡ k + 1 → ⊥) → FitsSo forms patterns q p b None
  unfolding Fitted
  shape_misses s = record { meets = λ x. go x (dec_eq k 2) }
    where
      go : (x : Tried forms patterns q p b) → Dec (k ≡ 2) → Fitted x.trees (get_or x.qs q any) b None (fits (get_or x.qs q any) (tree x.trees p))
      go x (yes e) = rw ((neg_open forms patterns q p b x one w (sym i ∙ e) i₁ j).other (λ z. s (jk ∙ z ∙ rw e))) tt
      go x (no e) = rw ((bin_open forms patterns q p b x k one (get_or patterns (5 * q + 2) 0) w i k₀ k₁ e i₁ refl j).other (λ z. s (jk ∙ z))) tt

  join_misses : (fs : List Form) (a a' : Pattern) (o o' : Maybe (List Form)) → Fitted fs a b None o → Fitted fs a' b None (join_fits o o')
  unfolding Fitted join_fits
  join_misses fs a a' none o' h = tt
  join_misses fs a a' (some ps) o' h = absurd h

  pub left_misses : 3 ≤ k → kw ≡ k + 1 → FitsSo forms patterns one l b None → FitsSo forms patterns q p b None
  unfolding binders
  left_misses joins s F = record { meets = λ x. go x }
    where
      F' : FitsSo forms patterns one (left w) b None
      F' = rw jl at F

      go : (x : Tried forms patterns q p b) → Fitted x.trees (get_or x.qs q any) b None (fits (get_or x.qs q any) (tree x.trees p))
      go x =
          let two : ℕ = get_or patterns (5 * q + 2) 0 in
          let o = bin_open forms patterns q p b x k one two w i k₀ k₁ (λ e. omega (arith, e, joins)) i₁ refl j in
          let P = o.part (sym jk ∙ s) in
          let r = room_at forms patterns q p b x (bin_p o.conn (get_or x.qs one any) (get_or x.qs two any)) o.pattern in
          rw P.0 (join_misses x.trees (get_or x.qs one any) (get_or x.qs q any) (fits (get_or x.qs one any) (tree x.trees (left w))) (fits (get_or x.qs two any) (tree x.trees (right w)))
          (F'.meets (inner forms patterns q p b x one (left w) b o.low P.1 (omega (arith, r)))))

  -- not a pattern: what the part binds
  fits_on : (fs : List Form) (a a' : Pattern) (f : Option Parts) (o : Maybe (List Form)) → binders a ≡ binders a' → Fitted fs a b f o → Fitted fs a' b f o
  unfolding Fitted
  fits_on fs a a' None none e h = h
  fits_on fs a a' None (some ps) e h = h
  fits_on fs a a' (Some c) none e h = h
  fits_on fs a a' (Some c) (some ps) e h = (h.0, h.1, h.2, h.3 ∙ e)

  pub neg_fits : (f : Option Parts) → kw ≡ k + 1 → k ≡ 2 → FitsSo forms patterns one l b f → FitsSo forms patterns q p b f
  unfolding binders
  neg_fits f s e F = record { meets = λ x. go x }
    where
      F' : FitsSo forms patterns one (left w) b f
      F' = rw jl at F

      go : (x : Tried forms patterns q p b) → Fitted x.trees (get_or x.qs q any) b f (fits (get_or x.qs q any) (tree x.trees p))
      go x =
          let o = neg_open forms patterns q p b x one w (sym i ∙ e) i₁ j in
          let P = o.part (sym jk ∙ s ∙ rw e) in
          let r = room_at forms patterns q p b x (neg_p (get_or x.qs one any)) o.pattern in
          rw P.0 (fits_on x.trees (get_or x.qs one any) (get_or x.qs q any) f (fits (get_or x.qs one any) (tree x.trees (left w))) (sym (ap binders o.pattern))
          (F'.meets (inner forms patterns q p b x one (left w) b o.low P.1 r)))

  -- a left part that misses, of either
  pub part_misses : kw ≡ k + 1 → FitsSo forms patterns one l b None → FitsSo forms patterns q p b None
  part_misses s F = go (dec_eq k 2)
    where
      go : Dec (k ≡ 2) → FitsSo forms patterns q p b None
      go (yes e) = neg_fits None s e F
      go (no e) = left_misses (omega (arith, e, over)) s F

  -- two patterns joined: the right part after what the left part binds
  module _ (two r : ℕ) (i₂ : two ≡ get_or patterns (5 * q + 2) 0) (jr : r ≡ right w) (joins : 3 ≤ k) (s : kw ≡ k + 1) (c : Parts) (F : FitsSo forms patterns one l b (Some c)) where
    k₂ : k ≡ 2 → ⊥
    k₂ e = omega (arith, e, joins)

    left_answer : (x : Tried forms patterns q p b) → Fitted x.trees (get_or x.qs one any) b (Some c) (fits (get_or x.qs one any) (tree x.trees (left w)))
    unfolding binders
    left_answer x =
        let o = bin_open forms patterns q p b x k one two w i k₀ k₁ k₂ i₁ i₂ j in
        let P = o.part (sym jk ∙ s) in
        let m = room_at forms patterns q p b x (bin_p o.conn (get_or x.qs one any) (get_or x.qs two any)) o.pattern in
        let F' : FitsSo forms patterns one (left w) b (Some c) = rw jl at F in
        F'.meets (inner forms patterns q p b x one (left w) b o.low P.1 (omega (arith, m)))

    bound : (fs : List Form) (a : Pattern) (o : Maybe (List Form)) → Fitted fs a b (Some c) o → c.count ≡ b.count + binders a
    unfolding Fitted
    bound fs a none h = absurd h
    bound fs a (some ps) h = ap (λ (d : Parts). d.count) h.1 ∙ extend_count b h.0 ∙ ap (λ (n : ℕ). b.count + n) h.3

    right_room : (x : Tried forms patterns q p b) → c.count + binders (get_or x.qs two any) ≤ 4
    unfolding binders
    right_room x =
        let o = bin_open forms patterns q p b x k one two w i k₀ k₁ k₂ i₁ i₂ j in
        let m = room_at forms patterns q p b x (bin_p o.conn (get_or x.qs one any) (get_or x.qs two any)) o.pattern in
        let n = bound x.trees (get_or x.qs one any) (fits (get_or x.qs one any) (tree x.trees (left w))) (left_answer x) in
        omega (arith, m, n)

    abbrev right_inner : Tried forms patterns q p b → Tried forms patterns two (right w) c
    right_inner x =
        let o = bin_open forms patterns q p b x k one two w i k₀ k₁ k₂ i₁ i₂ j in
        let P = o.part (sym jk ∙ s) in
        inner forms patterns q p b x two (right w) c o.low' P.2 (right_room x)

    pub right_low : Tried forms patterns q p b → two < q
    right_low x = (bin_open forms patterns q p b x k one two w i k₀ k₁ k₂ i₁ i₂ j).low'

    pub right_tried : Tried forms patterns q p b → Tried forms patterns two r c
    right_tried x = rw jr (right_inner x)

    join : (fs : List Form) (a a₁ a₂ : Pattern) (o₁ o₂ : Maybe (List Form)) (f : Option Parts) → binders a ≡ binders a₁ + binders a₂ → Fitted fs a₁ b (Some c) o₁ → Fitted fs a₂ c f o₂ → Fitted fs a b f (join_fits o₁ o₂)
    unfolding Fitted join_fits
    join fs a a₁ a₂ none o₂ f e h g = absurd h
    join fs a a₁ a₂ (some xs) none (Some d) e h g = absurd g
    join fs a a₁ a₂ (some xs) none None e h g = tt
    join fs a a₁ a₂ (some xs) (some ys) None e h g = absurd g
    join fs a a₁ a₂ (some xs) (some ys) (Some d) e h g = (
      h.0 ++ g.0,
      g.1 ∙ ap (λ (z : Parts). extend z g.0) h.1 ∙ extend_extend b h.0 g.0,
      named_append fs h.0 g.0 xs ys h.2 g.2,
      length-append h.0 g.0 ∙ rw (h.3, g.3, e),
    )

    pub both_fit : (f : Option Parts) → FitsSo forms patterns two r c f → FitsSo forms patterns q p b f
    unfolding binders
    both_fit f G = record { meets = λ x. go x }
      where
        G' : FitsSo forms patterns two (right w) c f
        G' = rw jr at G

        go : (x : Tried forms patterns q p b) → Fitted x.trees (get_or x.qs q any) b f (fits (get_or x.qs q any) (tree x.trees p))
        go x =
            let o = bin_open forms patterns q p b x k one two w i k₀ k₁ k₂ i₁ i₂ j in
            let P = o.part (sym jk ∙ s) in
            rw P.0 (join x.trees (get_or x.qs q any) (get_or x.qs one any) (get_or x.qs two any) (fits (get_or x.qs one any) (tree x.trees (left w))) (fits (get_or x.qs two any) (tree x.trees (right w))) f
            (ap binders o.pattern) (left_answer x) (G'.meets (right_inner x)))

-- a pattern that binds, and one that is a proposition itself
module _ (forms patterns : List ℕ) (q p : ℕ) (b : Parts) where
  any_at : (x : Tried forms patterns q p b) → get_or patterns (5 * q) 0 ≡ 0 → get_or x.qs q any ≡ any
  unfolding pattern_by
  any_at x e = says forms patterns q p b x 0 (cell x.rows q 1) (cell x.rows q 2) (kind_cell forms patterns q p b x 0 (sym e)) refl refl

  pub any_room : Tried forms patterns q p b → (k : ℕ) → k ≡ get_or patterns (5 * q) 0 → k ≡ 0 → b.count < 4
  unfolding binders
  any_room x k i e = let r = room_at forms patterns q p b x any (any_at x (sym i ∙ e)) in omega arith

  pub any_fits : (k : ℕ) (c : Parts) → k ≡ get_or patterns (5 * q) 0 → k ≡ 0 → c ≡ with b p → FitsSo forms patterns q p b (Some c)
  unfolding Fitted fits binders extend
  any_fits k c i e f = record {
    meets = λ x. rw (any_at x (sym i ∙ e)) (p ∷ [], f, record { trees = refl; low = (x.proposition, tt) }, refl);
  }

  exact_by : (fs : List Form) (P : Form) (t : Bool) → Fitted fs (exactly P) b (told t b) (pick t (some []) none)
  unfolding Fitted pick extend binders
  exact_by fs P true = ([], refl, record { trees = refl; low = tt }, refl)
  exact_by fs P false = tt

  pub exact_fits : (k one : ℕ) (f : Option Parts) → k ≡ get_or patterns (5 * q) 0 → one ≡ get_or patterns (5 * q + 1) 0 → k ≡ 1 → f ≡ exactly_so one p b → FitsSo forms patterns q p b f
  unfolding fits pattern_by Operands
  exact_fits k one f i i₁ e g = record {
    meets = λ x.
        let c = kind_cell forms patterns q p b x 1 (sym (sym i ∙ e)) in
        let o = one_cell forms patterns q p b x one i₁ in
        let l : one < length x.trees = rw o at (parts forms patterns q p b x 1 c) in
        let a : get_or x.qs q any ≡ exactly (tree x.trees one) = says forms patterns q p b x 1 one (cell x.rows q 2) c o refl in
        let n = x.legible.table.count in
        let h = x.proposition in
        rw (g, a, same_at (take x.words forms) x.trees x.legible.table one p (omega arith) (omega arith)) (exact_by x.trees (tree x.trees one) (eqb one p));
  }

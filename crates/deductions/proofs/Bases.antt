-- A base is a set on a stack: it grows from the top, and lemmas may join it in any order.
use Rattle.std.specs.Prelude.{Option, Some, None}
use Prim.Native.Nat.{ℕ, ◌+◌, ◌≤◌, ◌<◌}
use mathlib.Core.Path.{◌≡◌, refl, sym, ap, ap₂, ◌∙◌}
use mathlib.Core.Bool.{Bool, ◌||◌}
use mathlib.Core.List.{List, [], ◌∷◌, ◌++◌}
use native.Mathlib.Omega.{arith}
use native.Mathlib.Numerals.{add-one}
use native.Mathlib.Decide.{dec_lt}
use lib.ListN.{length, get_or, set, length-append}
use lib.Seq.{get_or-set_same, get_or-set_other}
use Rattle.language.specs.Form.{Form, same, member}
use Rattle.language.specs.Run.{Derived, joined}
use Rattle.forms.specs.Table.{tree}
use Rattle.forms.proofs.Growth.{tree_more}
use Rattle.rules.specs.Base.{Alike, base_of}
use Rattle.rules.proofs.Sets.{turned, base_same}
use Rattle.deductions.specs.Machine.{joined_at, joining, LowLemma}
use Rattle.deductions.specs.Asked.{Based}
use Rattle.deductions.specs.Meets.{Lemmas}

-- sets

-- a proposition joined before lemmas or after them
joined_front : (ds : List Derived) (q : Form) (β : List Form) → Alike (joined ds (q ∷ β)) (q ∷ joined ds β)
unfolding joined member
joined_front [] q β p = refl
joined_front (d ∷ ds) q β p =
    joined_front ds d.conclusion (q ∷ β) p
    ∙ ap (λ (b : Bool). same p d.conclusion || b) (joined_front ds q β p)
    ∙ turned (same p d.conclusion) (same p q) (member p (joined ds β))
    ∙ sym (ap (λ (b : Bool). same p q || b) (joined_front ds d.conclusion β p))

-- the table grows, the stack is the same below
pub based_grew : (fs gs : List Form) (s u : List ℕ) (b : ℕ) (β : List Form) → ((j : ℕ) → j < b → get_or u j 0 ≡ get_or s j 0) → Based fs s b β → Based (fs ++ gs) u b β
based_grew fs gs s u b β h B =
    let same : base_of (fs ++ gs) u b ≡ base_of fs s b = base_same fs (fs ++ gs) s u b (λ j l. ap (tree (fs ++ gs)) (h j l) ∙ tree_more fs gs (get_or s j 0) (B.low j l)) in
    record {
      low = λ j l. let k = B.low j l in let e = h j l in let n = length-append fs gs in omega arith;
      alike = λ p. B.alike p ∙ ap (member p) (sym same);
    }

-- a number is put on top
pub based_push : (fs : List Form) (s : List ℕ) (b p : ℕ) (β : List Form) → b < length s → p < length fs → Based fs s b β → Based fs (set s b p) (b + 1) (tree fs p ∷ β)
unfolding base_of member
based_push fs s b p β h l B =
    let top : get_or (set s b p) b 0 ≡ p = get_or-set_same s b p 0 h in
    let under : (j : ℕ) → j < b → get_or (set s b p) j 0 ≡ get_or s j 0 = λ j g. get_or-set_other s b j p 0 (λ e. omega arith) in
    let same : base_of fs (set s b p) b ≡ base_of fs s b = base_same fs fs s (set s b p) b (λ j g. ap (tree fs) (under j g)) in
    record {
      low = low_at top under;
      alike = λ q. rw add-one (ap (λ (c : Bool). Form·same q (tree fs p) || c) (B.alike q) ∙ ap₂ (λ (x : Form) (γ : List Form). Form·same q x || member q γ) (ap (tree fs) (sym top)) (sym same));
    }
  where
    Form·same : Form → Form → Bool
    Form·same a b = same a b

    low_at : get_or (set s b p) b 0 ≡ p → ((j : ℕ) → j < b → get_or (set s b p) j 0 ≡ get_or s j 0) → (j : ℕ) → j < b + 1 → get_or (set s b p) j 0 < length fs
    low_at top under j g = go (dec_lt j b)
      where
        go : Dec (j < b) → get_or (set s b p) j 0 < length fs
        go (yes k) = let e = under j k in let w = B.low j k in omega arith
        go (no k) = let e : j ≡ b = omega arith in rw (e, top) l

based_like : (fs : List Form) (s : List ℕ) (b : ℕ) (β γ : List Form) → Alike γ β → Based fs s b β → Based fs s b γ
based_like fs s b β γ h B = record { low = B.low; alike = λ p. h p ∙ B.alike p }

-- a lemma joins what is there
pub based_lemma : (fs : List Form) (s : List ℕ) (b : ℕ) (β : List Form) (l : Option ℕ) (ds : List Derived) → b + joining l ≤ length s → Lemmas fs l ds → Based fs s b β → Based fs (joined_at s b l) (b + joining l) (joined ds β)
unfolding Lemmas joined
based_lemma fs s b β (Some p) ds h (d, e, i) B = rw (e, ← i.tree) (based_push fs s b p β (omega arith) i.low B)
based_lemma fs s b β None ds h e B = let z : b + 0 ≡ b = omega arith in rw (e, z) B

-- a lemma joins after those that follow it
pub based_front : (fs : List Form) (s : List ℕ) (b : ℕ) (β : List Form) (l : Option ℕ) (ds es : List Derived) → b + joining l ≤ length s → Lemmas fs l ds → Based fs s b (joined es β)
    → Based fs (joined_at s b l) (b + joining l) (joined (ds ++ es) β)
unfolding Lemmas joined
based_front fs s b β (Some p) ds es h (d, e, i) B =
    rw e (based_like fs (set s b p) (b + 1) (d.conclusion ∷ joined es β) (joined es (d.conclusion ∷ β)) (joined_front es d.conclusion β)
    (rw (← i.tree) (based_push fs s b p (joined es β) (omega arith) i.low B)))
based_front fs s b β None ds es h e B = let z : b + 0 ≡ b = omega arith in rw (e, z) B

-- what a lemma leaves below, and the stack's length
pub joined_below : (s : List ℕ) (b : ℕ) (l : Option ℕ) (j : ℕ) → j < b → get_or (joined_at s b l) j 0 ≡ get_or s j 0
joined_below s b (Some p) j h = get_or-set_other s b j p 0 (λ e. omega arith)
joined_below s b None j h = refl

-- a lemma's number is small
pub lemma_small : (fs : List Form) (l : Option ℕ) (ds : List Derived) → length fs ≤ 16384 → Lemmas fs l ds → LowLemma l
unfolding Lemmas
lemma_small fs (Some p) ds h (d, e, i) = let k = i.low in omega arith
lemma_small fs None ds h e = tt

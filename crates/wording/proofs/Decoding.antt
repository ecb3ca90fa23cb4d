-- Decimal bytes read character by character: what the text says from the start is what it says from here on, and so is what is written on the page.
use Prim.Native.Nat.{ℕ, ◌+◌, ◌≤◌, ◌<◌}
use native.Mathlib.Numerals.{add-one}
use mathlib.Core.Path.{◌≡◌, refl, sym, ap, ◌∙◌}
use mathlib.Core.List.{List, [], ◌∷◌, ◌++◌, append_assoc}
use lib.ListN.{length, get_or, drop, drop_of_length-le}
use lib.Seq.{drop-cons}
use Rattle.wording.specs.Page.{Page, page, write}
use Rattle.wording.specs.declared.Reading.{Reading}
use Rattle.wording.specs.Decimals.{SoFar, next, ends, heard, spoken, Reads}
use Rattle.wording.proofs.Writing.{write_append}

-- two pieces one after another are read as one
pub heard_append : (xs ys : List ℕ) (d : SoFar) → heard (xs ++ ys) d ≡ heard ys (heard xs d)
unfolding heard
heard_append [] ys d = refl
heard_append (x ∷ xs) ys d = heard_append xs ys (next x d)

pub spoken_append : (xs ys : List ℕ) (d : SoFar) → spoken (xs ++ ys) d ≡ spoken xs d ++ spoken ys (heard xs d)
unfolding heard spoken
spoken_append [] ys d = refl
spoken_append (x ∷ xs) ys d =
    ap (λ (l : List ℕ). ends x d ++ l) (spoken_append xs ys (next x d)) ∙ sym (append_assoc (ends x d) (spoken xs (next x d)) (spoken ys (heard xs (next x d))))

pub reads_append : (xs ys : List ℕ) (x y z : Reading) (t₀ t₁ t₂ : List ℕ) → Reads xs x y t₀ t₁ → Reads ys y z t₁ t₂ → Reads (xs ++ ys) x z t₀ t₂
reads_append xs ys x y z t₀ t₁ t₂ a b =
    record {
      answer = b.answer ∙ ap (heard ys) a.answer ∙ sym (heard_append xs ys x.said);
      bytes =
          b.bytes
          ∙ ap (λ (d : SoFar). write (spoken ys d) (page t₁ y.bytes)) a.answer
          ∙ ap (write (spoken ys (heard xs x.said))) a.bytes
          ∙ sym (write_append (spoken xs x.said) (spoken ys (heard xs x.said)) (page t₀ x.bytes))
          ∙ ap (λ (l : List ℕ). write l (page t₀ x.bytes)) (sym (spoken_append xs ys x.said));
    }

-- two readings of a piece are the same, and so are the pages
pub reads_once : (piece : List ℕ) (x r r' : Reading) (t₀ t t' : List ℕ) → Reads piece x r t₀ t → Reads piece x r' t₀ t' → (r ≡ r') × (t ≡ t')
reads_once piece x r r' t₀ t t' a b =
    let p = a.bytes ∙ sym b.bytes in
    (reading_by r.said r'.said r.bytes r'.bytes (a.answer ∙ sym b.answer) (ap (λ (q : Page). q.used) p), ap (λ (q : Page). q.text) p)
  where
    reading_by : (d d' : SoFar) (n n' : ℕ) → d ≡ d' → n ≡ n' → ◌≡◌ {A = Reading} (record { said = d; bytes = n }) (record { said = d'; bytes = n' })
    reading_by d d' n n' e f = rw (e, f)

-- i characters are read
pub record At (text : List ℕ) (x r : Reading) (t₀ t : List ℕ) (i : ℕ) : Type 0 where
  pub same : heard text x.said ≡ heard (drop i text) r.said
  pub written : write (spoken text x.said) (page t₀ x.bytes) ≡ write (spoken (drop i text) r.said) (page t r.bytes)

module _ (text : List ℕ) (x : Reading) (t₀ : List ℕ) where
  pub at_start : At text x x t₀ t₀ 0
  at_start = record { same = refl; written = refl }

  module _ (r : Reading) (t : List ℕ) (i : ℕ) (h : At text x r t₀ t i) where
    pub at_end : length text ≤ i → Reads text x r t₀ t
    unfolding heard spoken write
    at_end l =
        let e = drop_of_length-le text {i = i} l in
        record { answer = sym (h.same ∙ rw e); bytes = sym (h.written ∙ rw e) }

    module _ (c : ℕ) (r' : Reading) (t' : List ℕ) (e : c ≡ get_or text i 0) (l : i < length text) (f : r'.said ≡ next c r.said)
        (g : page t' r'.bytes ≡ write (ends c r.said) (page t r.bytes)) where
      abbrev rest : List ℕ
      rest = drop (i + 1) text

      here : drop i text ≡ c ∷ rest
      here = rw (add-one i, e) (drop-cons text i 0 l)

      onward : write (spoken (c ∷ rest) r.said) (page t r.bytes) ≡ write (spoken rest r'.said) (page t' r'.bytes)
      unfolding spoken
      onward = rw (f, g) (write_append (ends c r.said) (spoken rest (next c r.said)) (page t r.bytes))

      pub at_more : At text x r' t₀ t' (i + 1)
      unfolding heard
      at_more =
          record {
            same = h.same ∙ rw (here, f);
            written = h.written ∙ ap (λ (l : List ℕ). write (spoken l r.said) (page t r.bytes)) here ∙ onward;
          }

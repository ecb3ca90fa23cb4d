-- The listing of a proof and its conclusion: an empty listing, grown by what the proof needs, then by the conclusion.
use Prim.Native.Nat.{ℕ, zero, suc, ◌<◌}
use mathlib.Core.Path.{◌≡◌, refl, sym, ap, ◌∙◌}
use mathlib.Core.Bool.{false}
use mathlib.Core.List.{List, [], ◌++◌}
use native.Mathlib.Omega.{arith}
use lib.ListN.{length, get_or, take, drop, replicate, length-replicate, get_or-replicate, get_or-append}
use lib.Seq.{length-take-le, take_at}
use Rattle.language.specs.Form.{Form, member}
use Rattle.language.specs.Certificate.{needed, listing}
use Rattle.forms.specs.Table.{tree}
use Rattle.certificates.specs.declared.Needed.{Needed}
use Rattle.certificates.specs.Marks.{mark, zeros, Listable, Lists}
use Rattle.certificates.specs.Told.{Telling, Needs}
use Rattle.certificates.specs.Certified.{Writing, Orders}
use Rattle.certificates.proofs.Growing.{mark_zero}

zeros_all : (n : ℕ) → zeros (replicate n 0) ≡ n
unfolding zeros
zeros_all zero = refl
zeros_all (suc n) = ap suc (zeros_all n)

member_none : (p : Form) → member p [] ≡ false
unfolding member
member_none p = refl

module _ (forms : List ℕ) (n : ℕ) (tokens : List ℕ) (m conclusion : ℕ) (t₀ : List ℕ) where
  -- a wiped listing lists nothing
  module _ (t₁ : List ℕ) (w : t₁ ≡ replicate n 0 ++ drop n t₀) (k : length t₁ ≡ length t₀) where
    pub wiped_marks : (fs : List Form) (j : ℕ) → j < n → get_or t₁ j 0 ≡ mark (tree fs j) []
    wiped_marks fs j h =
        ap (λ (t : List ℕ). get_or t j 0) w
        ∙ get_or-append (replicate n 0) (drop n t₀) 0 j (omega (arith, length-replicate {A = ℕ} n 0))
        ∙ get_or-replicate n j 0 0 h
        ∙ sym (mark_zero (tree fs j) [] (member_none (tree fs j)))

    pub wiped_rest : zeros (take n t₁) ≡ n
    wiped_rest = ap (λ (t : List ℕ). zeros (take n t)) w ∙ ap zeros (take_at (replicate n 0) (drop n t₀) n (length-replicate n 0)) ∙ zeros_all n

    abbrev pub telling : Writing forms n tokens m conclusion t₀ → Telling forms n tokens m t₁
    telling x = record {
      trees = x.trees;
      proof = x.derived.proof;
      tells = x.tells;
      ready = record {
        table = x.table;
        size = x.table.count ∙ length-take-le n forms x.whole;
        marked = record { marks = wiped_marks x.trees; order = λ i h. absurd (omega arith); rest = omega (arith, wiped_rest) };
        room = omega (arith, x.room);
        count = refl;
      };
      inside = x.inside;
      short = omega (arith, x.inside, x.short);
    }

    module _ (t₂ : List ℕ) (r : Needed) (N : Needs forms n tokens m t₁ t₂ r) where
      abbrev pub concluding : Writing forms n tokens m conclusion t₀ → Listable forms n conclusion t₂ r.count
      concluding x = record {
        trees = x.trees;
        before = needed x.derived.proof [];
        ready = N.lists (telling x);
        low = omega (arith, x.concludes.low, x.table.count, length-take-le n forms x.whole);
      }

      pub orders : (t₃ : List ℕ) (c : ℕ) → Lists forms n conclusion r.count t₂ t₃ c → Orders forms n tokens m conclusion t₀ t₃ (record { count = c; rules = r.rules })
      unfolding listing
      orders t₃ c L = record {
        lists = λ x. rw x.concludes.tree at (L.meets (concluding x));
        counts = λ x. N.counts (telling x);
      }

-- The records of a listing, one after another: what was emitted and the records from here on make up all of them.
use Prim.Native.Nat.{ℕ, zero, suc, ◌+◌, ◌*◌, ◌-◌, ◌≤◌, ◌<◌}
use mathlib.Core.Path.{◌≡◌, refl, sym, ap, subst, ◌∙◌}
use mathlib.Core.Bool.{Bool}
use mathlib.Core.List.{List, ◌∷◌, ◌++◌}
use native.Mathlib.Omega.{arith}
use native.Mathlib.Numerals.{add-one}
use lib.ListN.{length, get_or, take, drop, length-append, drop_of_length-le}
use lib.Seq.{get_or-take, drop-cons}
use Rattle.language.specs.Form.{Form, verum}
use Rattle.language.specs.Numbers.{groups}
use Rattle.language.specs.Certificate.{record_of, records, listing}
use Rattle.theorems.proofs.Members.{get_d_in}
use Rattle.theorems.proofs.Closed.{PartsIn}
use Rattle.forms.specs.Word.{code, kind, left, right}
use Rattle.forms.specs.Table.{formed, Row}
use Rattle.bindings.specs.Stands.{Is}
use Rattle.certificates.specs.Emitted.{Fits, Emitted, placed, part_bytes, word_bytes, PartsPlaced}
use Rattle.certificates.specs.Told.{Recording, Records}
use Rattle.certificates.proofs.Emitting.{groups_few, emitted_long, Amid, amid_start, amid_more, amid_end, amid_fits}
use Rattle.certificates.proofs.Marking.{words_long, few}
use Rattle.certificates.proofs.Placing.{placing, listing_closed, record_is, parts_placed}

-- a record takes nine bytes at most
part_few : (t : List ℕ) (k w : ℕ) → length (part_bytes (placed t) k w) ≤ 6
unfolding part_bytes
part_few t zero w = omega (arith, groups_few (left w))
part_few t (suc zero) w = omega arith
part_few t (suc (suc zero)) w = omega arith
part_few t (suc (suc (suc zero))) w = omega (arith, groups_few (get_or t (left w) 0 - 1))
part_few t (suc (suc (suc (suc k)))) w =
    omega (arith, length-append (placed t (left w)) (placed t (right w)), groups_few (get_or t (left w) 0 - 1), groups_few (get_or t (right w) 0 - 1))

word_few : (t : List ℕ) (w : ℕ) → length (word_bytes t w) ≤ 9
unfolding word_bytes
word_few t w =
    omega (arith, length-append (groups (kind w)) (part_bytes (placed t) (kind w) w), groups_few (kind w), part_few t (kind w) w)

-- the first i records are emitted
pub record RecordsAt (forms : List ℕ) (n : ℕ) (t : List ℕ) (k : ℕ) (b : Bool) (at : ℕ) (out₀ out : List ℕ) (i next : ℕ) : Type 0 where
  pub near : next ≤ at + 9 * i
  pub within : i ≤ k
  pub long : length out ≡ length out₀
  pub amid : (x : Recording forms n t k b at out₀) →
      Amid b out₀ at (records (listing x.derived) (listing x.derived)) out next (records (listing x.derived) (drop i (listing x.derived)))

-- the loop over them: its start, one record more, its end
module _ (forms : List ℕ) (n : ℕ) (t : List ℕ) (k : ℕ) (b : Bool) (at : ℕ) (out₀ : List ℕ) where
  pub records_start : RecordsAt forms n t k b at out₀ out₀ 0 at
  records_start = record { near = omega arith; within = omega arith; long = refl; amid = λ x. amid_start }

  module _ (out : List ℕ) (i next : ℕ) (A : RecordsAt forms n t k b at out₀ out i next) where
    pub records_end : k ≤ i → Records forms n t k b at out₀ out next
    unfolding records
    records_end h = record {
      near = omega (arith, A.near, A.within);
      emitted = λ x.
          amid_end (rw (drop_of_length-le (listing x.derived) {i = i} (omega (arith, x.ready.count))) at (A.amid x));
    }

    -- the next record: its proposition, by the number p in the listing's order, and its word
    module _ (h : i < k) (p : ℕ) (jp : p ≡ get_or t (n + i) 0) (w : ℕ) (jw : w ≡ get_or forms p 0) where
      module _ (x : Recording forms n t k b at out₀) where
        abbrev l : List Form
        l = listing x.derived

        inside : i < length l
        inside = omega (arith, x.ready.count)

        abbrev P : Form
        P = get_or l i verum

        is : Is x.trees p P
        is = rw jp (x.ready.marked.order i inside)

        low : p < n
        low = omega (arith, is.low, x.ready.size)

        row : Row (take n forms) x.trees p
        row = x.ready.table.rows p (omega (arith, low, words_long forms n x.trees l t k x.ready))

        says : w ≡ code row.says
        says = jw ∙ sym (get_or-take n forms p 0 low) ∙ row.word

        shape : formed x.trees row.says ≡ P
        shape = sym row.tree ∙ is.tree

        small : p ≤ 16384
        small = omega (arith, low, few forms n x.trees l t k x.ready)

        parts : PartsIn l (formed x.trees row.says)
        parts = rw shape (listing_closed x.derived P (get_d_in l i inside))

        bytes_are : word_bytes t w ≡ record_of l P
        bytes_are =
            ap (word_bytes t) says
            ∙ record_is x.trees l t (placing forms n x.trees l t k x.ready) p is.low small row.says row.below parts
            ∙ ap (record_of l) shape

        there : PartsPlaced t w
        there = rw says (parts_placed x.trees l t (placing forms n x.trees l t k x.ready) p is.low small row.says row.below parts)

        rest_is : records l (drop i l) ≡ word_bytes t w ++ records l (drop (i + 1) l)
        unfolding records
        rest_is =
            ap (records l) (drop-cons l i verum inside ∙ ap (λ (j : ℕ). P ∷ drop j l) (sym (add-one i)))
            ∙ ap (λ (xs : List ℕ). xs ++ records l (drop (i + 1) l)) (sym bytes_are)

        next_amid : Amid b out₀ at (records l l) out next (word_bytes t w ++ records l (drop (i + 1) l))
        next_amid = subst (Amid b out₀ at (records l l) out next) rest_is (A.amid x)

      pub record_fits : Recording forms n t k b at out₀ → PartsPlaced t w × Fits b next (word_bytes t w) out × (next ≤ 1000000)
      record_fits x = (
        there x,
        amid_fits x.fits (word_bytes t w) (records (l x) (drop (i + 1) (l x))) (next_amid x),
        omega (arith, A.near, x.near, inside x, few forms n x.trees (l x) t k x.ready, x.ready.marked.rest),
      )

      pub records_more : (out' : List ℕ) (r : ℕ) → Emitted b out next (word_bytes t w) out' r → RecordsAt forms n t k b at out₀ out' (i + 1) r
      records_more out' r e = record {
        near = omega (arith, A.near, e.past, word_few t w);
        within = omega arith;
        long = emitted_long e ∙ A.long;
        amid = λ x. amid_more (word_bytes t w) (records (l x) (drop (i + 1) (l x))) (next_amid x) e;
      }

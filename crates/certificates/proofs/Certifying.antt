-- The whole certificate: its four parts one after another, measured first and then written where there is room.
use Prim.Native.Nat.{ℕ, ◌≤◌, ◌<◌}
use mathlib.Core.Path.{◌≡◌, refl, sym, subst, ◌∙◌}
use mathlib.Core.Bool.{Bool, true, false}
use mathlib.Core.List.{List, [], ◌++◌}
use native.Mathlib.Omega.{arith}
use lib.ListN.{length}
use borrow.Author.Tests.{le-leb, lt-leb}
use Rattle.language.specs.Form.{Form}
use Rattle.language.specs.Numbers.{groups, pick}
use Rattle.language.specs.Certificate.{index_of, records, proof_bytes, listing, certificate}
use Rattle.language.specs.Doors.{fronted}
use Rattle.theorems.proofs.Listing.{listing_concludes}
use Rattle.words.proofs.Runs.{front_sets}
use Rattle.certificates.specs.declared.Needed.{Needed}
use Rattle.std.specs.Prelude.{Some, None}
use Rattle.certificates.specs.Emitted.{Fits, Emitted, placed, Placed}
use Rattle.certificates.specs.Told.{Recording, Records, Proving, Proofs, Emitting, Emits}
use Rattle.certificates.specs.Certified.{Writing, Orders, Writes}
use Rattle.certificates.proofs.Emitting.{groups_few, Amid, amid_start, amid_more, amid_fits, amid_fits_last, amid_last}
use Rattle.certificates.proofs.Marking.{few}
use Rattle.certificates.proofs.Placing.{placing, placed_is, is_placed}

-- each part has room where the whole has, and all four are the certificate
module _ (forms : List ℕ) (n : ℕ) (tokens : List ℕ) (m conclusion : ℕ) (t : List ℕ) (k : ℕ) (b : Bool) (out₀ : List ℕ) where
  module _ (x : Emitting forms n tokens m conclusion t k b out₀) where
    abbrev l : List Form
    l = listing x.derived

    -- what is to come after the count, after the records and after the proof
    abbrev last : List ℕ
    last = groups (index_of x.derived.conclusion (listing x.derived))

    abbrev after_records : List ℕ
    after_records = proof_bytes (listing x.derived) x.derived.proof ++ groups (index_of x.derived.conclusion (listing x.derived))

    abbrev after_count : List ℕ
    after_count =
        records (listing x.derived) (listing x.derived)
        ++ (proof_bytes (listing x.derived) x.derived.proof ++ groups (index_of x.derived.conclusion (listing x.derived)))

    short : k ≤ 16384
    short = omega (arith, few forms n x.trees l t k x.ready, x.ready.marked.rest, x.ready.count)

    before_count : Amid b out₀ 0 (certificate x.derived) out₀ 0 (groups k ++ after_count)
    unfolding certificate
    before_count = rw (← x.ready.count) amid_start

  pub count_fits : Emitting forms n tokens m conclusion t k b out₀ → Fits b 0 (groups k) out₀ × (k ≤ 65535) × (0 ≤ 1000010)
  count_fits x = (amid_fits x.fits (groups k) (after_count x) (before_count x), omega (arith, short x), omega arith)

  module _ (o₁ : List ℕ) (a : ℕ) (e₁ : Emitted b out₀ 0 (groups k) o₁ a) where
    before_records : (x : Emitting forms n tokens m conclusion t k b out₀) → Amid b out₀ 0 (certificate x.derived) o₁ a (after_count x)
    before_records x = amid_more (groups k) (after_count x) (before_count x) e₁

    pub records_fit : (x : Emitting forms n tokens m conclusion t k b out₀) → Fits b a (records (l x) (l x)) o₁
    records_fit x = amid_fits x.fits (records (l x) (l x)) (after_records x) (before_records x)

    pub near_records : a ≤ 3
    near_records = omega (arith, e₁.past, groups_few k)

    abbrev pub recording : Emitting forms n tokens m conclusion t k b out₀ → Recording forms n t k b a o₁
    recording x = record { trees = x.trees; derived = x.derived; ready = x.ready; fits = records_fit x; near = omega (arith, near_records) }

    module _ (o₂ : List ℕ) (c : ℕ) (e₂ : Records forms n t k b a o₁ o₂ c) where
      before_proof : (x : Emitting forms n tokens m conclusion t k b out₀) → Amid b out₀ 0 (certificate x.derived) o₂ c (after_records x)
      before_proof x = amid_more (records (l x) (l x)) (after_records x) (before_records x) (e₂.emitted (recording x))

      pub proof_fits : (x : Emitting forms n tokens m conclusion t k b out₀) → Fits b c (proof_bytes (l x) x.derived.proof) o₂
      proof_fits x = amid_fits x.fits (proof_bytes (l x) x.derived.proof) (last x) (before_proof x)

      pub near_proof : Emitting forms n tokens m conclusion t k b out₀ → c ≤ 147459
      near_proof x = omega (arith, near_records, e₂.near, short x)

      abbrev pub proving : Emitting forms n tokens m conclusion t k b out₀ → Proving tokens m t b c o₂
      proving x = record {
        trees = x.trees;
        derived = x.derived;
        tells = x.tells;
        placing = placing forms n x.trees (listing x.derived) t k x.ready;
        inside = x.inside;
        short = x.short;
        fits = proof_fits x;
        near = omega (arith, near_proof x);
      }

      module _ (o₃ : List ℕ) (d : ℕ) (e₃ : Proofs tokens m t b c o₂ o₃ d) where
        place_is : (x : Emitting forms n tokens m conclusion t k b out₀) → placed t conclusion ≡ last x
        place_is x =
            placed_is x.trees (l x) t (placing forms n x.trees (l x) t k x.ready) conclusion x.derived.conclusion x.concludes (listing_concludes x.derived)

        before_last : (x : Emitting forms n tokens m conclusion t k b out₀) → Amid b out₀ 0 (certificate x.derived) o₃ d (placed t conclusion)
        before_last x =
            subst (Amid b out₀ 0 (certificate x.derived) o₃ d) (sym (place_is x))
            (amid_more (proof_bytes (l x) x.derived.proof) (last x) (before_proof x) (e₃.emitted (proving x)))

        pub conclusion_fits : Emitting forms n tokens m conclusion t k b out₀ → Placed t conclusion × Fits b d (placed t conclusion) o₃ × (d ≤ 1000010)
        conclusion_fits x = (
          is_placed x.trees (l x) t (placing forms n x.trees (l x) t k x.ready) conclusion x.derived.conclusion x.concludes (listing_concludes x.derived),
          amid_fits_last x.fits (placed t conclusion) (before_last x),
          omega (arith, near_proof x, e₃.near, x.short),
        )

        pub emits : (o₄ : List ℕ) (r : ℕ) → Emitted b o₃ d (placed t conclusion) o₄ r → Emits forms n tokens m conclusion t k b out₀ o₄ r
        emits o₄ r e₄ = record { emitted = λ x. amid_last (placed t conclusion) (before_last x) e₄ }

-- measured, then written or not
module _ (forms : List ℕ) (n : ℕ) (tokens : List ℕ) (m conclusion : ℕ) (t₀ t : List ℕ) (r : Needed) (O : Orders forms n tokens m conclusion t₀ t r) where
  abbrev emitting : (b : Bool) (out : List ℕ) (x : Writing forms n tokens m conclusion t₀) → Fits b 0 (certificate x.derived) out → Emitting forms n tokens m conclusion t r.count b out
  emitting b out x f = record {
    trees = x.trees;
    derived = x.derived;
    tells = x.tells;
    concludes = x.concludes;
    ready = O.lists x;
    inside = x.inside;
    short = omega (arith, x.inside, x.short);
    fits = f;
  }

  module _ (k : ℕ) (E : Emits forms n tokens m conclusion t r.count false [] [] k) (out₀ : List ℕ) where
    length_is : (x : Writing forms n tokens m conclusion t₀) → k ≡ length (certificate x.derived)
    length_is x = omega (arith, (E.emitted (emitting false [] x tt)).past)

    pub writing : k ≤ length out₀ → Writing forms n tokens m conclusion t₀ → Emitting forms n tokens m conclusion t r.count true out₀
    writing h x = emitting true out₀ x (omega (arith, length_is x))

    pub written : k ≤ length out₀ → (out : List ℕ) (s : ℕ) → Emits forms n tokens m conclusion t r.count true out₀ out s → Writes forms n tokens m conclusion t₀ out₀ (Some (record { length = k; inferences = r.rules })) out
    unfolding fronted pick
    written h out s F = record {
      certified = λ x.
          let room : length (certificate x.derived) ≤ length out₀ = omega (arith, length_is x) in
          let e = F.emitted (emitting true out₀ x (omega (arith, room))) in
          record {
            answer = rw (le-leb _ _ room, length_is x, O.counts x) refl;
            output = rw (le-leb _ _ room) (e.output ∙ front_sets (certificate x.derived) out₀ room);
          };
    }

    pub too_short : length out₀ < k → Writes forms n tokens m conclusion t₀ out₀ None out₀
    unfolding pick
    too_short h = record {
      certified = λ x.
          let lack : length out₀ < length (certificate x.derived) = omega (arith, length_is x) in
          record { answer = rw (lt-leb _ _ lack) refl; output = rw (lt-leb _ _ lack) refl };
    }

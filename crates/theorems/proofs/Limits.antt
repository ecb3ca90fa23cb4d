-- What a run derives is small enough to be written: at most 7,168 nodes, 512 nested, 4,608 propositions.
use Prim.Native.Nat.{ℕ, ◌+◌, ◌*◌, ◌≤◌}
use native.Mathlib.Omega.{arith}
use mathlib.Core.Path.{◌≡◌}
use mathlib.Core.List.{List, ◌∷◌}
use lib.ListN.{length}
use Rattle.language.specs.Form.{Form, atom, verum, falsum, neg}
use Rattle.language.specs.Syntax.{expr, prop, Sheet, phrase_at}
use Rattle.language.specs.Values.{empty}
use Rattle.language.specs.Run.{Derived}
use Rattle.language.specs.Derives.{Derives}
use Rattle.language.specs.Certificate.{listing}
use Rattle.theorems.proofs.Lists.{clash}
use Rattle.theorems.proofs.Members.{◌∈◌, in_head, in_cons}
use Rattle.theorems.proofs.Closed.{Closed, Small, closed_cons, small_cons}
use Rattle.theorems.proofs.RoundTrip.{Writable}
use Rattle.theorems.proofs.Bounds.{derives_works, Narrow, derives_nodes, derives_nesting}
use Rattle.theorems.proofs.Pool.{Pool}
use Rattle.theorems.proofs.Reach.{derives_reach}
use Rattle.theorems.proofs.Counting.{listing_within}

-- what holds of a sheet that is read
pub record WellFormed (S : Sheet) : Type 0 where
  pub closed : Closed S.props
  pub small : Small S.props
  pub few : length S.props ≤ 512
  pub named : (k : ℕ) (p : Form) → phrase_at S.phrases k ≡ expr (prop p) → p ∈ S.props
  pub narrow : Narrow S.phrases

module _ {S : Sheet} (ok : WellFormed S) where
  abbrev first_pool : List Form
  first_pool = neg falsum ∷ (falsum ∷ (verum ∷ S.props))

  first_is_pool : Pool S.phrases first_pool
  first_is_pool =
      let v = verum ∷ S.props in
      let f = falsum ∷ v in
      record {
        closed = closed_cons (neg falsum) f (closed_cons falsum v (closed_cons verum S.props ok.closed tt) tt) (in_head falsum v);
        small = small_cons (neg falsum) f
            (small_cons falsum v
            (small_cons verum S.props ok.small (λ a e. absurd (clash (cc))))
            (λ a e. absurd (clash (cc))))
            (λ a e. absurd (clash (cc)));
        named = λ k p e. in_cons (neg falsum) f p (in_cons falsum v p (in_cons verum S.props p (ok.named k p e)));
        has_verum = in_cons (neg falsum) f verum (in_cons falsum v verum (in_head verum S.props));
        has_falsum = in_cons (neg falsum) f falsum (in_head falsum v);
        has_not_falsum = in_head (neg falsum) f;
      }

  module _ {n k w : ℕ} {β : List Form} {d : Derived} (x : Derives S.phrases n empty β k d w) where
    -- the propositions of the sheet, and at most four for each evaluation
    pub listing_bound : (length (listing d) ≤ length S.props + 4 * w) × Small (listing d)
    listing_bound =
        let r = derives_reach x first_pool first_is_pool tt in
        let l = listing_within d r.pool r.is_pool.closed r.holds in
        (omega (arith, r.room, l.1, derives_works x), λ a h. r.is_pool.small a (l.0 (atom a) h))

    pub derived_writable : n ≤ 64 → w ≤ 1024 → Writable d
    derived_writable levels work =
        record {
          few = omega (arith, listing_bound.0, ok.few);
          small = listing_bound.1;
          short = omega (arith, derives_nodes x);
          shallow = omega (arith, derives_nesting ok.narrow x);
        }

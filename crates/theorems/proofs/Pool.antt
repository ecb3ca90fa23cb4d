-- Everything that a run can name: a list of propositions, closed under parts, and what is one step away from it.
use Prim.Native.Nat.{ℕ, ◌+◌, ◌≤◌}
use native.Mathlib.Omega.{arith}
use mathlib.Core.Path.{◌≡◌}
use mathlib.Core.List.{List, ◌∷◌}
use mathlib.Core.Bool.{Bool, true, false, ◌&&◌}
use lib.ListN.{length, get_or}
use Rattle.language.specs.Form.{Conn, Form, conj, disj, cond, bicond, atom, verum, falsum, neg, bin, same, same_conn}
use Rattle.language.specs.Rules.{Ruled, gives, misshapen, provided, as_bin, as_neg, table, ruled}
use Rattle.language.specs.Syntax.{Phrase, expr, phrase_at, prop}
use Rattle.language.specs.Run.{constructed}
use Rattle.theorems.specs.Lists.{All}
use Rattle.theorems.proofs.Lists.{all_get_d, ◌&◌, clash}
use Rattle.theorems.proofs.Members.{◌∈◌, ◌⊆◌, in_head, in_cons}
use Rattle.theorems.proofs.Closed.{PartsIn, Closed, Small, closed_cons, small_cons}

-- what a run of these phrases may name at some moment
pub record Pool (fs : List Phrase) (L : List Form) : Type 0 where
  pub closed : Closed L
  pub small : Small L
  pub named : (k : ℕ) (p : Form) → phrase_at fs k ≡ expr (prop p) → p ∈ L
  pub has_verum : verum ∈ L
  pub has_falsum : falsum ∈ L
  pub has_not_falsum : neg falsum ∈ L

-- a proposition of the pool, or one step away from it
pub data Next (L : List Form) : Form → Type 0 where
  old : {p : Form} → p ∈ L → Next L p
  negation : {p : Form} → p ∈ L → Next L (neg p)
  joint : {c : Conn} {p q : Form} → p ∈ L → q ∈ L → Next L (bin c p q)

-- a pool of at most k more that has G
pub record Reached (fs : List Phrase) (L : List Form) (k : ℕ) (G : List Form → Type 0) : Type 0 where
  pub pool : List Form
  pub is_pool : Pool fs pool
  pub keeps : L ⊆ pool
  pub room : length pool ≤ length L + k
  pub holds : G pool

module _ {fs : List Phrase} {G : List Form → Type 0} {L : List Form} where
  pub reach_here : Pool fs L → G L → Reached fs L 0 G
  reach_here pool g = record { pool = L; is_pool = pool; keeps = λ p h. h; room = omega arith; holds = g }

  pub reach_more : {i j : ℕ} → i ≤ j → Reached fs L i G → Reached fs L j G
  reach_more l r = record { pool = r.pool; is_pool = r.is_pool; keeps = r.keeps; room = omega (arith, r.room); holds = r.holds }

pub reach_then : {fs : List Phrase} {G H : List Form → Type 0} {L : List Form} {i j : ℕ} → Reached fs L i G →
    ((M : List Form) → Pool fs M → L ⊆ M → G M → Reached fs M j H) → Reached fs L (i + j) H
reach_then r f =
    let t = f r.pool r.is_pool r.keeps r.holds in
    record { pool = t.pool; is_pool = t.is_pool; keeps = λ p h. t.keeps p (r.keeps p h); room = omega (arith, r.room, t.room); holds = t.holds }

module _ {fs : List Phrase} {L : List Form} (pool : Pool fs L) where
  grow : (p : Form) → ((a : ℕ) → atom a ≡ p → a ≤ 255) → PartsIn L p → Reached fs L 1 (λ M. p ∈ M)
  grow p small h =
      record {
        pool = p ∷ L;
        is_pool = record {
          closed = closed_cons p L pool.closed h;
          small = small_cons p L pool.small small;
          named = λ k q e. in_cons p L q (pool.named k q e);
          has_verum = in_cons p L verum pool.has_verum;
          has_falsum = in_cons p L falsum pool.has_falsum;
          has_not_falsum = in_cons p L (neg falsum) pool.has_not_falsum;
        };
        keeps = in_cons p L;
        room = omega arith;
        holds = in_head p L;
      }

  pub reach_next : {p : Form} → Next L p → Reached fs L 1 (λ M. p ∈ M)
  reach_next (old h) = reach_more (omega arith) (reach_here pool h)
  reach_next (negation {p = p} h) = grow (neg p) (λ a e. absurd (clash (cc))) h
  reach_next (joint {c = c} {p = p} {q = q} h i) = grow (bin c p q) (λ a e. absurd (clash (cc))) (h, i)

  -- arguments, constructors, rules
  argument_in : (ps : List Form) (i : ℕ) → All (λ p. p ∈ L) ps → get_or ps i verum ∈ L
  argument_in ps i h = all_get_d (λ p. p ∈ L) ps i verum h pool.has_verum

  pub constructed_next : (c : ℕ) (ps : List Form) → All (λ p. p ∈ L) ps → Next L (constructed c ps)
  unfolding constructed
  constructed_next ℕ.zero ps h = negation (argument_in ps 0 h)
  constructed_next (ℕ.suc c) ps h = joint (argument_in ps 0 h) (argument_in ps 1 h)

-- a rule whose conclusion, if it has one, is next; a data type, so that `GivesNext L r` shows r
pub data GivesNext (L : List Form) : Ruled → Type 0 where
  new : {premises : List Form} {q : Form} → Next L q → GivesNext L (gives premises q)
  nothing : GivesNext L misshapen

pub gives_next : {L premises : List Form} {q : Form} → GivesNext L (gives premises q) → Next L q
gives_next (new h) = h

module _ {fs : List Phrase} {L : List Form} (pool : Pool fs L) where
  provided_next : (t : Bool) (r : Ruled) → GivesNext L r → GivesNext L (provided t r)
  unfolding provided
  provided_next true r h = h
  provided_next false r h = nothing

  as_bin_next : (c : Conn) (x : Form) (f : Form → Form → Ruled) → x ∈ L →
      ((p q : Form) → p ∈ L → q ∈ L → GivesNext L (f p q)) → GivesNext L (as_bin c x f)
  unfolding as_bin
  as_bin_next c (atom a) f h g = nothing
  as_bin_next c verum f h g = nothing
  as_bin_next c falsum f h g = nothing
  as_bin_next c (neg p) f h g = nothing
  as_bin_next c (bin d p q) f h g = let w = pool.closed (bin d p q) h in provided_next (same_conn c d) (f p q) (g p q w.0 w.1)

  as_neg_next : (x : Form) (f : Form → Ruled) → x ∈ L → ((p : Form) → p ∈ L → GivesNext L (f p)) → GivesNext L (as_neg x f)
  unfolding as_neg
  as_neg_next (atom a) f h g = nothing
  as_neg_next verum f h g = nothing
  as_neg_next falsum f h g = nothing
  as_neg_next (neg p) f h g = g p (pool.closed (neg p) h)
  as_neg_next (bin c p q) f h g = nothing

  table_next : (x y z : Form) → x ∈ L → y ∈ L → z ∈ L → All (GivesNext L) (table x y z)
  unfolding table
  table_next x y z hx hy hz =
      new (old hx)
      & as_bin_next cond x _ hx (λ p q hp hq. provided_next (same p y) _ (new (old hq)))
      & as_bin_next cond x _ hx (λ p q hp hq. as_neg_next y _ hy (λ q' hq'. provided_next (same q q') _ (new (negation hp))))
      & as_neg_next x _ hx (λ p hp. as_neg_next p _ hp (λ q hq. new (old hq)))
      & new (joint hx hy)
      & as_bin_next conj x _ hx (λ p q hp hq. new (old hp))
      & as_bin_next conj x _ hx (λ p q hp hq. new (old hq))
      & new (joint hx hy)
      & new (joint hx hy)
      & as_bin_next disj x _ hx (λ p q hp hq. as_bin_next cond y _ hy (λ p' r hp' hr. provided_next (same p p') _
      (as_bin_next cond z _ hz (λ q' r' hq' hr'. provided_next (same q q' && same r r') _ (new (old hr))))))
      & as_bin_next cond x _ hx (λ p q hp hq. as_bin_next cond y _ hy (λ q' p' hq' hp'. provided_next (same p p' && same q q') _ (new (joint hp hq))))
      & as_bin_next bicond x _ hx (λ p q hp hq. new (joint hp hq))
      & as_bin_next bicond x _ hx (λ p q hp hq. new (joint hq hp))
      & new (old pool.has_verum)
      & as_neg_next y _ hy (λ p hp. provided_next (same x p) _ (new (old pool.has_falsum)))
      & new (old pool.has_not_falsum)
      & tt

  pub ruled_next : (r : ℕ) (ps : List Form) → All (λ p. p ∈ L) ps → GivesNext L (ruled r ps)
  unfolding ruled
  ruled_next r ps h =
      all_get_d (GivesNext L) (table (get_or ps 0 verum) (get_or ps 1 verum) (get_or ps 2 verum)) r misshapen
      (table_next (get_or ps 0 verum) (get_or ps 1 verum) (get_or ps 2 verum) (argument_in pool ps 0 h) (argument_in pool ps 1 h) (argument_in pool ps 2 h))
      nothing

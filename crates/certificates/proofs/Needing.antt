-- The pass that lists what a proof needs: at each place, what was listed and what is ahead lists make up the whole.
use Prim.Native.Nat.{ℕ, suc, ◌+◌, ◌-◌, ◌≤◌, ◌<◌}
use mathlib.Core.Path.{◌≡◌, refl, sym, ap, subst, ◌∙◌}
use mathlib.Core.List.{List, [], ◌∷◌, append-nil}
use native.Mathlib.Omega.{arith}
use native.Mathlib.Decide.{dec_lt}
use lib.ListN.{length, get_or, take, drop}
use lib.Seq.{get_or-take, get_or-drop, drop-drop}
use Rattle.language.specs.Form.{Form}
use Rattle.language.specs.Plain.{Plain, inferences}
use Rattle.language.specs.Certificate.{listed, listed_all, needed}
use Rattle.theorems.proofs.Members.{◌∈◌}
use Rattle.theorems.proofs.Listing.{Names as Naming, names_map, needed_has}
use Rattle.bindings.specs.Stands.{Is}
use Rattle.certificates.specs.declared.Head.{Head}
use Rattle.certificates.specs.Marks.{Ready, Listable, Lists}
use Rattle.certificates.specs.Emitted.{head_by}
use Rattle.certificates.specs.Told.{Telling, Needs}
use Rattle.certificates.proofs.Ahead.{Ahead, end, proof_ahead, needed_each, inferences_each, Begins, begins, named_next, names_end, proofs_end, token_next, tokens_end}

-- a list of no length has nothing
pub length_none : (ps : List Form) → length ps ≤ 0 → ps ≡ []
length_none [] h = refl
length_none (p ∷ ps) h = absurd (omega arith)

-- nothing is asked of the propositions that are named
abbrev Any : Form → Type 0
Any p = Unit {0}

names_any : (D : Plain) → Naming Any D
names_any D = names_map (λ p. p ∈ needed D []) Any (λ p h. tt) D (needed_has D [])

-- l is listed, in t; what is ahead from token i on lists the rest of what D needs and has the rest of its rules
pub record ListingAt (fs : List Form) (D : Plain) (forms : List ℕ) (n : ℕ) (tokens : List ℕ) (m : ℕ) (t : List ℕ) (i left count rules : ℕ) : Type 0 where
  pub names : List Form
  pub proofs : List Plain
  pub before : List Form
  pub ahead : Ahead fs Any names proofs (drop i (take m tokens))
  pub named : length names ≡ left
  pub ready : Ready forms n fs before t count
  pub lists : needed_each proofs (listed_all names before) ≡ needed D []
  pub counts : rules + inferences_each proofs ≡ inferences D

-- so it is for whatever the tokens tell
pub record Needing (forms : List ℕ) (n : ℕ) (tokens : List ℕ) (m : ℕ) (t₀ t : List ℕ) (i left count rules : ℕ) : Type 0 where
  pub few : rules ≤ i
  pub long : length t ≡ length t₀
  pub at : (x : Telling forms n tokens m t₀) → ListingAt x.trees x.proof forms n tokens m t i left count rules

-- a place's own token and the next, as what is ahead has them
module _ (fs : List Form) (Q : Form → Type 0) (tokens : List ℕ) (m : ℕ) (inside : m ≤ length tokens) (Ds : List Plain) (i : ℕ) (h : i < m) (a : Ahead fs Q [] Ds (drop i (take m tokens))) where
  rest_long : length (drop i (take m tokens)) ≡ suc (length (drop (i + 1) (take m tokens)))
  rest_long = ap length (token_next tokens m inside i h)

  second_token : 1 < length (drop i (take m tokens)) → get_or tokens (i + 1) 0 ≡ get_or (drop i (take m tokens)) 1 0
  second_token g = go (dec_lt (i + 1) m)
    where
      go : Dec (i + 1 < m) → get_or tokens (i + 1) 0 ≡ get_or (drop i (take m tokens)) 1 0
      go (yes l) = sym (get_or-drop i (take m tokens) 1 0 ∙ get_or-take m tokens (i + 1) 0 l)
      go (no l) = absurd (omega (arith, g, rest_long, ap length (tokens_end tokens m inside (i + 1) (omega (arith, l)))))

  pub begins_at : Begins fs Q Ds (drop i (take m tokens)) (get_or tokens i 0) (get_or tokens (i + 1) 0)
  begins_at =
      begins fs Q Ds (drop i (take m tokens)) (get_or tokens i 0) (get_or tokens (i + 1) 0) a (omega (arith, rest_long))
      (sym (ap (λ (xs : List ℕ). get_or xs 0 0) (token_next tokens m inside i h))) second_token

module _ (fs : List Form) (Q : Form → Type 0) (tokens : List ℕ) (m : ℕ) (inside : m ≤ length tokens) (Ds : List Plain) (i : ℕ) where
  -- where a proposition is to come, the place's token names it
  pub record Named (ps : List Form) : Type 0 where
    pub first : Form
    pub others : List Form
    pub cut : ps ≡ first ∷ others
    pub is : Is fs (get_or tokens i 0) first
    pub has : Q first
    pub ahead : Ahead fs Q others Ds (drop (i + 1) (take m tokens))

  pub named_at : (ps : List Form) → i < m → 0 < length ps → Ahead fs Q ps Ds (drop i (take m tokens)) → Named ps
  named_at [] h g a = absurd (omega arith)
  named_at (p ∷ ps) h g a =
      let r = named_next fs Q p ps Ds (get_or tokens i 0) (drop (i + 1) (take m tokens)) (subst (Ahead fs Q (p ∷ ps) Ds) (token_next tokens m inside i h) a) in
      record { first = p; others = ps; cut = refl; is = r.0; has = r.1; ahead = r.2 }

-- the pass: its start, a proposition, the beginning of a node, its end
module _ (forms : List ℕ) (n : ℕ) (tokens : List ℕ) (m : ℕ) (t₀ : List ℕ) where
  pub needing_start : Needing forms n tokens m t₀ t₀ 0 0 0 0
  unfolding needed_each inferences_each listed_all
  needing_start = record {
    few = omega arith;
    long = refl;
    at = λ x. record {
      names = [];
      proofs = x.proof ∷ [];
      before = [];
      ahead = rw append-nil at (proof_ahead x.trees Any x.proof (take m tokens) [] [] x.tells (names_any x.proof) end);
      named = refl;
      ready = x.ready;
      lists = refl;
      counts = omega arith;
    };
  }

  module _ (t : List ℕ) (i left count rules : ℕ) (N : Needing forms n tokens m t₀ t i left count rules) where
    pub needing_end : m ≤ i → Needs forms n tokens m t₀ t (record { count = count; rules = record { 0 = rules } })
    unfolding needed_each listed_all inferences_each
    needing_end h = record { lists = λ x. lists x (N.at x); counts = λ x. counts x (N.at x) }
      where
        none : (x : Telling forms n tokens m t₀) (L : ListingAt x.trees x.proof forms n tokens m t i left count rules) → Ahead x.trees Any L.names L.proofs []
        none x L = subst (Ahead x.trees Any L.names L.proofs) (tokens_end tokens m x.inside i h) L.ahead

        lists : (x : Telling forms n tokens m t₀) → ListingAt x.trees x.proof forms n tokens m t i left count rules → Ready forms n x.trees (needed x.proof []) t count
        lists x L = rw (← done) L.ready
          where
            done : L.before ≡ needed x.proof []
            done =
                rw (names_end x.trees Any L.names L.proofs (none x L), proofs_end x.trees Any L.names L.proofs (none x L)) at L.lists

        counts : (x : Telling forms n tokens m t₀) → ListingAt x.trees x.proof forms n tokens m t i left count rules → rules ≡ inferences x.proof
        counts x L = omega (arith, rw (proofs_end x.trees Any L.names L.proofs (none x L)) at L.counts)

    module _ (h : i < m) where
      -- a proposition to come is listed next
      module _ (g : 0 < left) (p : ℕ) (jp : p ≡ get_or tokens i 0) where
        pub next : (x : Telling forms n tokens m t₀) → Named x.trees Any tokens m x.inside (N.at x).proofs i (N.at x).names
        next x = named_at x.trees Any tokens m x.inside (N.at x).proofs i (N.at x).names h (omega (arith, (N.at x).named)) (N.at x).ahead

        abbrev pub name_listable : Telling forms n tokens m t₀ → Listable forms n p t count
        name_listable x = record {
          trees = x.trees;
          before = (N.at x).before;
          ready = (N.at x).ready;
          low = omega (arith, (next x).is.low, (N.at x).ready.size, jp);
        }

        pub needing_name : (t' : List ℕ) (r : ℕ) → length t' ≡ length t → Lists forms n p count t t' r → Needing forms n tokens m t₀ t' (i + 1) (left - 1) r rules
        unfolding listed_all
        needing_name t' r k F = record {
          few = omega (arith, N.few);
          long = k ∙ N.long;
          at = λ x. record {
            names = (next x).others;
            proofs = (N.at x).proofs;
            before = listed (next x).first (N.at x).before;
            ahead = (next x).ahead;
            named = omega (arith, ap length (next x).cut, (N.at x).named, g);
            ready = rw (rw (← jp) at (next x).is.tree) at (F.meets (name_listable x));
            lists = rw (next x).cut at (N.at x).lists;
            counts = (N.at x).counts;
          };
        }

      -- where none is to come, the next node begins
      pub needing_head : left ≤ 0 → (r : Head) → r ≡ head_by (get_or tokens i 0) (get_or tokens (i + 1) 0) → 1 ≤ r.width → r.rules.0 ≤ 1 →
          Needing forms n tokens m t₀ t (i + r.width) r.names count (rules + r.rules.0)
      unfolding listed_all
      needing_head g r e w k = record {
        few = omega (arith, N.few);
        long = N.long;
        at = λ x. go x (N.at x);
      }
        where
          go : (x : Telling forms n tokens m t₀) → ListingAt x.trees x.proof forms n tokens m t i left count rules → ListingAt x.trees x.proof forms n tokens m t (i + r.width) r.names count (rules + r.rules.0)
          go x L =
              let none : L.names ≡ [] = length_none L.names (omega (arith, L.named)) in
              let B = begins_at x.trees Any tokens m x.inside L.proofs i h (subst (λ (ps : List Form). Ahead x.trees Any ps L.proofs (drop i (take m tokens))) none L.ahead) in
              rw e (record {
                names = B.names;
                proofs = B.proofs;
                before = L.before;
                ahead = subst (Ahead x.trees Any B.names B.proofs) (drop-drop (head_by (get_or tokens i 0) (get_or tokens (i + 1) 0)).width i (take m tokens)) B.ahead;
                named = B.named;
                ready = L.ready;
                lists = sym (B.lists L.before) ∙ (rw none at L.lists);
                counts = omega (arith, B.counts, L.counts);
              })

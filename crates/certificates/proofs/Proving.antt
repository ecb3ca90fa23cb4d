-- The proof, token by token: what was emitted and what is ahead writes make up all of it.
use Prim.Native.Nat.{ℕ, zero, suc, ◌+◌, ◌*◌, ◌-◌, ◌≤◌, ◌<◌}
use mathlib.Core.Path.{◌≡◌, refl, sym, ap, subst, ◌∙◌}
use mathlib.Core.Bool.{Bool}
use mathlib.Core.List.{List, [], ◌∷◌, ◌++◌, append_assoc, append-nil}
use native.Mathlib.Omega.{arith}
use lib.ListN.{length, get_or, take, drop, length-append}
use lib.Seq.{drop-drop}
use Rattle.language.specs.Form.{Form}
use Rattle.language.specs.Numbers.{groups}
use Rattle.language.specs.Plain.{Plain}
use Rattle.language.specs.Certificate.{index_of, references, proof_bytes, listing}
use Rattle.theorems.proofs.Members.{◌∈◌}
use Rattle.theorems.proofs.Listing.{listing_names}
use Rattle.certificates.specs.declared.Head.{Head}
use Rattle.certificates.specs.Emitted.{Fits, Emitted, placed, Placed, head_by, rule_bytes, head_bytes, HeadFits}
use Rattle.certificates.specs.Told.{Proving, Proofs}
use Rattle.certificates.proofs.Emitting.{groups_few, emitted_long, Amid, amid_start, amid_more, amid_end, amid_fits}
use Rattle.certificates.proofs.Ahead.{Ahead, end, proof_ahead, proofs_bytes, ahead_bytes, Begins, names_end, proofs_end, tokens_end}
use Rattle.certificates.proofs.Needing.{length_none, begins_at, Named, named_at}
use Rattle.certificates.proofs.Placing.{placed_is, is_placed}

-- a node's beginning takes three bytes a token at most
head_few : (x y : ℕ) → length (head_bytes x y) ≤ 3 * (head_by x y).width
unfolding head_bytes rule_bytes head_by
head_few zero y = omega (arith, length-append (groups 0) (groups y), groups_few 0, groups_few y)
head_few (suc zero) y = omega (arith, length-append (groups 1) [], groups_few 1)
head_few (suc (suc x)) y = omega (arith, length-append (groups (suc (suc x))) [], groups_few (suc (suc x)))

-- what is ahead from token i on, and that it writes the rest of the proof's bytes
pub record ProofAt (fs l : List Form) (D : Plain) (tokens : List ℕ) (m : ℕ) (b : Bool) (at : ℕ) (out₀ out : List ℕ) (i left next : ℕ) : Type 0 where
  pub names : List Form
  pub proofs : List Plain
  pub ahead : Ahead fs (λ p. p ∈ l) names proofs (drop i (take m tokens))
  pub named : length names ≡ left
  pub amid : Amid b out₀ at (proof_bytes l D) out next (ahead_bytes l names proofs)

-- so it is for whatever the tokens tell; the place is never far
pub record ProofsAt (tokens : List ℕ) (m : ℕ) (t : List ℕ) (b : Bool) (at : ℕ) (out₀ out : List ℕ) (i left next : ℕ) : Type 0 where
  pub near : next ≤ at + 3 * i
  pub within : i ≤ m + 1
  pub long : length out ≡ length out₀
  pub place : (x : Proving tokens m t b at out₀) → ProofAt x.trees (listing x.derived) x.derived.proof tokens m b at out₀ out i left next

-- the pass: its start, a proposition, the beginning of a node, its end
module _ (tokens : List ℕ) (m : ℕ) (t : List ℕ) (b : Bool) (at : ℕ) (out₀ : List ℕ) where
  module _ (x : Proving tokens m t b at out₀) where
    abbrev l : List Form
    l = listing x.derived

    abbrev In : Form → Type 0
    In p = p ∈ listing x.derived

  pub proofs_start : ProofsAt tokens m t b at out₀ out₀ 0 0 at
  unfolding proofs_bytes references
  proofs_start = record {
    near = omega arith;
    within = omega arith;
    long = refl;
    place = λ x. record {
      names = [];
      proofs = x.derived.proof ∷ [];
      ahead = rw append-nil at (proof_ahead x.trees (In x) x.derived.proof (take m tokens) [] [] x.tells (listing_names x.derived) end);
      named = refl;
      amid = subst (Amid b out₀ at (proof_bytes (l x) x.derived.proof) out₀ at) (sym (append-nil (proof_bytes (l x) x.derived.proof))) amid_start;
    };
  }

  module _ (out : List ℕ) (i left next : ℕ) (A : ProofsAt tokens m t b at out₀ out i left next) where
    pub proofs_end_at : m ≤ i → Proofs tokens m t b at out₀ out next
    unfolding proofs_bytes references
    proofs_end_at h = record { near = omega (arith, A.near, A.within); emitted = λ x. go x (A.place x) }
      where
        go : (x : Proving tokens m t b at out₀) → ProofAt x.trees (l x) x.derived.proof tokens m b at out₀ out i left next → Emitted b out₀ at (proof_bytes (l x) x.derived.proof) out next
        go x L =
            let a : Ahead x.trees (In x) L.names L.proofs [] = subst (Ahead x.trees (In x) L.names L.proofs) (tokens_end tokens m x.inside i h) L.ahead in
            amid_end (rw (names_end x.trees (In x) L.names L.proofs a, proofs_end x.trees (In x) L.names L.proofs a) at L.amid)

    module _ (h : i < m) where
      -- a proposition to come is written by its place
      module _ (g : 0 < left) (p : ℕ) (jp : p ≡ get_or tokens i 0) where
        module _ (x : Proving tokens m t b at out₀) where
          step : Named x.trees (In x) tokens m x.inside (A.place x).proofs i (A.place x).names
          step = named_at x.trees (In x) tokens m x.inside (A.place x).proofs i (A.place x).names h (omega (arith, (A.place x).named)) (A.place x).ahead

          there : Placed t p
          there = rw jp (is_placed x.trees (l x) t x.placing (get_or tokens i 0) step.first step.is step.has)

          bytes_are : placed t p ≡ groups (index_of step.first (l x))
          bytes_are = ap (placed t) jp ∙ placed_is x.trees (l x) t x.placing (get_or tokens i 0) step.first step.is step.has

          rest_is : ahead_bytes (l x) (A.place x).names (A.place x).proofs ≡ placed t p ++ ahead_bytes (l x) step.others (A.place x).proofs
          unfolding references
          rest_is =
              ap (λ (ps : List Form). ahead_bytes (l x) ps (A.place x).proofs) step.cut
              ∙ append_assoc (groups (index_of step.first (l x))) (references (l x) step.others) (proofs_bytes (l x) (A.place x).proofs)
              ∙ ap (λ (xs : List ℕ). xs ++ ahead_bytes (l x) step.others (A.place x).proofs) (sym bytes_are)

          next_amid : Amid b out₀ at (proof_bytes (l x) x.derived.proof) out next (placed t p ++ ahead_bytes (l x) step.others (A.place x).proofs)
          next_amid = subst (Amid b out₀ at (proof_bytes (l x) x.derived.proof) out next) rest_is (A.place x).amid

        pub place_fits : Proving tokens m t b at out₀ → Placed t p × Fits b next (placed t p) out × (next ≤ 1000010)
        place_fits x = (
          there x,
          amid_fits x.fits (placed t p) (ahead_bytes (l x) (step x).others (A.place x).proofs) (next_amid x),
          omega (arith, A.near, x.near, x.short),
        )

        pub proofs_name : (out' : List ℕ) (r : ℕ) → Emitted b out next (placed t p) out' r → ProofsAt tokens m t b at out₀ out' (i + 1) (left - 1) r
        proofs_name out' r e = record {
          near = omega (arith, A.near, e.past, groups_few (get_or t p 0 - 1));
          within = omega arith;
          long = emitted_long e ∙ A.long;
          place = λ x. record {
            names = (step x).others;
            proofs = (A.place x).proofs;
            ahead = (step x).ahead;
            named = omega (arith, ap length (step x).cut, (A.place x).named, g);
            amid = amid_more (placed t p) (ahead_bytes (l x) (step x).others (A.place x).proofs) (next_amid x) e;
          };
        }

      -- where none is to come, the next node begins
      module _ (g : left ≤ 0) where
        abbrev x₀ : ℕ
        x₀ = get_or tokens i 0

        abbrev x₁ : ℕ
        x₁ = get_or tokens (i + 1) 0

        module _ (x : Proving tokens m t b at out₀) where
          none : (A.place x).names ≡ []
          none = length_none (A.place x).names (omega (arith, (A.place x).named))

          node : Begins x.trees (In x) (A.place x).proofs (drop i (take m tokens)) x₀ x₁
          node =
              begins_at x.trees (In x) tokens m x.inside (A.place x).proofs i h
              (subst (λ (ps : List Form). Ahead x.trees (In x) ps (A.place x).proofs (drop i (take m tokens))) none (A.place x).ahead)

          node_amid : Amid b out₀ at (proof_bytes (l x) x.derived.proof) out next (head_bytes x₀ x₁ ++ ahead_bytes (l x) node.names node.proofs)
          unfolding references
          node_amid =
              subst (Amid b out₀ at (proof_bytes (l x) x.derived.proof) out next)
              (ap (λ (ps : List Form). ahead_bytes (l x) ps (A.place x).proofs) none ∙ node.writes (l x)) (A.place x).amid

        pub head_fits_at : Proving tokens m t b at out₀ → HeadFits x₀ x₁ b next out × (i ≤ 16384) × (next ≤ 1000000)
        head_fits_at x = (
          record { kind = (node x).kind; rule = (node x).ruled; fits = amid_fits x.fits (head_bytes x₀ x₁) (ahead_bytes (l x) (node x).names (node x).proofs) (node_amid x) },
          omega (arith, x.short),
          omega (arith, A.near, x.near, x.short),
        )

        pub proofs_head : (r : Head) → r ≡ head_by x₀ x₁ → r.width ≤ 2 → (out' : List ℕ) (s : ℕ) → Emitted b out next (head_bytes x₀ x₁) out' s →
            ProofsAt tokens m t b at out₀ out' (i + r.width) r.names s
        proofs_head r e w out' s f = record {
          near = omega (arith, A.near, f.past, head_few x₀ x₁, ap (λ (y : Head). y.width) e);
          within = omega (arith, w);
          long = emitted_long f ∙ A.long;
          place = λ x. rw e (record {
            names = (node x).names;
            proofs = (node x).proofs;
            ahead = subst (Ahead x.trees (In x) (node x).names (node x).proofs) (drop-drop (head_by x₀ x₁).width i (take m tokens)) (node x).ahead;
            named = (node x).named;
            amid = amid_more (head_bytes x₀ x₁) (ahead_bytes (l x) (node x).names (node x).proofs) (node_amid x) f;
          });
        }

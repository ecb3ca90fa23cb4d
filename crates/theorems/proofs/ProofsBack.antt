-- A plain proof's bytes are read back as the proof that was written, each rule at its offset.
use Prim.Native.Nat.{ℕ, ◌+◌, ◌≤◌, ◌<◌, pred}
use native.Mathlib.Omega.{arith}
use mathlib.Core.Path.{◌≡◌, refl, sym, ap, ap₂, ◌∙◌}
use mathlib.Core.List.{List, [], ◌∷◌, ◌++◌, append-nil}
use lib.ListN.{length, get_or, length-append}
use borrow.Author.Tests.{lt-ltb}
use Rattle.language.specs.Refusals.{out_of_range, certificate_over}
use Rattle.language.specs.Form.{Form}
use Rattle.language.specs.Numbers.{Got, got, no}
use Rattle.language.specs.Plain.{Plain, infer, seq, under}
use Rattle.language.specs.Certificate.{references, proof_bytes}
use Rattle.language.specs.Check.{Node, rule_n, seq_n, under_n, plain, Counted, rule_node, inner, node}
use Rattle.theorems.specs.Demands.{nodes, nesting}
use Rattle.theorems.proofs.Members.{◌∈◌}
use Rattle.theorems.proofs.Reading.{got_is, got_then, got_check}
use Rattle.theorems.proofs.Checking.{Regular}
use Rattle.theorems.proofs.ReadBack.{Has, has_left, has_right, byte_at, after_byte, from_number}
use Rattle.theorems.proofs.Listing.{Names}
use Rattle.theorems.proofs.RecordsBack.{ref, reference_at, references_at}

counted_is : (N : Node) {i j x y : ℕ} → i ≡ j → x ≡ y →
    ◌≡◌ {A = Got Counted} (got (record { node = N; nodes = i }) x) (got (record { node = N; nodes = j }) y)
counted_is N p q = cc

-- a proof written at a place, as it is read there
unfoldable pub placed : List Form → Plain → ℕ → Node
placed l (infer r ps) at = rule_n at r ps
placed l (seq a b) at = seq_n (placed l a (at + 1)) (placed l b (at + 1 + length (proof_bytes l a)))
placed l (under p a) at = under_n p (placed l a (at + 1 + length (ref l p)))

pub plain_placed : (l : List Form) (D : Plain) (at : ℕ) → plain (placed l D at) ≡ D
unfolding plain placed
plain_placed l (infer r ps) at = refl
plain_placed l (seq a b) at = ap₂ seq (plain_placed l a _) (plain_placed l b _)
plain_placed l (under p a) at = ap (under p) (plain_placed l a _)

module _ (s : List ℕ) (l : List Form) (few : length l ≤ 65535) where
  -- the kind and the limits, then the rest
  node_step : (n used at kind : ℕ) (xs : List ℕ) → 0 < n → used < 7168 → kind ≤ 2 → Has s at (kind ∷ xs) →
      node n s l used at ≡ get_or (inner (node (pred n) s l) s l used at) kind (λ u b. no out_of_range at) used (at + 1)
  unfolding node
  node_step ℕ.zero used at kind xs n u k w = absurd (omega arith)
  node_step (ℕ.suc n) used at kind xs _ u k w =
      got_then _ (from_number s at 0 2 (omega arith) k (byte_at kind xs (omega arith) w)) ∙ got_check certificate_over at _ (lt-ltb used 7168 u)

  pub node_at : (D : Plain) (n used at : ℕ) → Regular D → Names (λ p. p ∈ l) D → nesting D ≤ n → used + nodes D ≤ 7168 → Has s at (proof_bytes l D) →
      node n s l used at ≡ got (record { node = placed l D at; nodes = used + nodes D }) (at + length (proof_bytes l D))
  unfolding inner rule_node placed nodes nesting proof_bytes
  node_at (infer r ps) n used at reg h deep much w =
      let w' = after_byte 0 (r ∷ references l ps) w in
      node_step n used at 0 (r ∷ references l ps) (omega arith) (omega arith) (omega arith) w
      ∙ got_then _ (from_number s (at + 1) 0 15 (omega arith) reg.0 (byte_at r (references l ps) (omega (arith, reg.0)) w'))
      ∙ rw (← reg.1) (got_then _ (references_at s l few ps [] h (after_byte r (references l ps) w')) ∙ got_is refl (omega arith))
  node_at (seq a b) n used at reg h deep much w =
      let w' = after_byte 1 (proof_bytes l a ++ proof_bytes l b) w in
      node_step n used at 1 (proof_bytes l a ++ proof_bytes l b) (omega arith) (omega arith) (omega arith) w
      ∙ got_then _ (node_at a (pred n) (used + 1) (at + 1) reg.0 h.0 (omega arith) (omega arith) (has_left (proof_bytes l a) (proof_bytes l b) w'))
      ∙ got_then _ (node_at b (pred n) (used + 1 + nodes a) (at + 1 + length (proof_bytes l a)) reg.1 h.1 (omega arith) (omega arith) (has_right (proof_bytes l a) (proof_bytes l b) w'))
      ∙ counted_is _ (omega arith) (simp length-append (omega arith))
  node_at (under p a) n used at reg h deep much w =
      let w' = after_byte 2 (ref l p ++ proof_bytes l a) w in
      node_step n used at 2 (ref l p ++ proof_bytes l a) (omega arith) (omega arith) (omega arith) w
      ∙ got_then _ (reference_at s l few l [] (sym (append-nil l)) p h.0 (has_left (ref l p) (proof_bytes l a) w'))
      ∙ got_then _ (node_at a (pred n) (used + 1) (at + 1 + length (ref l p)) reg h.1 (omega arith) (omega arith) (has_right (ref l p) (proof_bytes l a) w'))
      ∙ counted_is _ (omega arith) (simp length-append (omega arith))

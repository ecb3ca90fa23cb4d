-- Lists of propositions that are closed under parts, and whose atoms are small.
use Prim.Native.Nat.{ℕ, ◌≤◌}
use mathlib.Core.Path.{◌≡◌}
use mathlib.Core.List.{List, [], ◌∷◌, ◌++◌}
use Rattle.language.specs.Form.{Form, atom, verum, falsum, neg, bin}
use Rattle.theorems.proofs.Members.{◌∈◌, ◌⊆◌, in_cons, cons_cases, in_front, snoc_cases}

-- the parts of a proposition have Q
abbrev pub Parts : (Form → Type 0) → Form → Type 0
Parts Q (atom a) = Unit {0}
Parts Q verum = Unit {0}
Parts Q falsum = Unit {0}
Parts Q (neg p) = Q p
Parts Q (bin c p q) = Q p × Q q

pub parts_map : (Q R : Form → Type 0) → ((p : Form) → Q p → R p) → (p : Form) → Parts Q p → Parts R p
parts_map Q R f (atom a) h = tt
parts_map Q R f verum h = tt
parts_map Q R f falsum h = tt
parts_map Q R f (neg p) h = f p h
parts_map Q R f (bin c p q) h = (f p h.0, f q h.1)

-- closed under parts; with small atoms only
abbrev pub PartsIn : List Form → Form → Type 0
PartsIn l p = Parts (λ q. q ∈ l) p

abbrev pub Closed : List Form → Type 0
Closed l = (p : Form) → p ∈ l → PartsIn l p

abbrev pub Small : List Form → Type 0
Small l = (a : ℕ) → atom a ∈ l → a ≤ 255

pub parts_grow : (l m : List Form) → l ⊆ m → (p : Form) → PartsIn l p → PartsIn m p
parts_grow l m k p h = parts_map (λ q. q ∈ l) (λ q. q ∈ m) k p h

pub closed_cons : (p : Form) (l : List Form) → Closed l → PartsIn l p → Closed (p ∷ l)
closed_cons p l closed h q w = parts_grow l (p ∷ l) (in_cons p l) q (cons_cases p l q w (λ e. rw e h) (closed q))

pub closed_snoc : (l : List Form) (p : Form) → Closed l → PartsIn l p → Closed (l ++ (p ∷ []))
closed_snoc l p closed h q w = parts_grow l (l ++ (p ∷ [])) (λ r. in_front r l (p ∷ [])) q (snoc_cases l p q w (closed q) (λ e. rw e h))

pub small_cons : (p : Form) (l : List Form) → Small l → ((a : ℕ) → atom a ≡ p → a ≤ 255) → Small (p ∷ l)
small_cons p l small h a w = cons_cases p l (atom a) w (h a) (small a)

pub small_snoc : (l : List Form) (p : Form) → Small l → ((a : ℕ) → atom a ≡ p → a ≤ 255) → Small (l ++ (p ∷ []))
small_snoc l p small h a w = snoc_cases l p (atom a) w (small a) (h a)

-- Propositions equal by shape, and membership in a list of them: in front, behind, and in a larger list.
use Prim.Native.Nat.{ℕ, ◌<◌}
use native.Mathlib.Decide.{ℕ_discrete}
use native.Mathlib.Omega.{arith}
use mathlib.Core.Path.{◌≡◌, refl, sym}
use mathlib.Core.List.{List, [], ◌∷◌, ◌++◌}
use mathlib.Core.Bool.{Bool, true, false, ◌||◌, decide_iff, and-eq-true_iff, or_assoc, or-true, false≢true}
use lib.ListN.{length, get_or}
use Rattle.language.specs.Form.{Conn, Conn-discrete, Form, Form-discrete, verum, same, same_conn, member, members}

-- equal by shape
pub same_is : {p q : Form} → same p q ≡ true → p ≡ q
unfolding same
same_is {p} {q} e = (decide_iff (Form-discrete ℕ_discrete Conn-discrete p q)).0 e

pub same_self : (p : Form) → same p p ≡ true
unfolding same
same_self p = (decide_iff (Form-discrete ℕ_discrete Conn-discrete p p)).1 refl

pub not_same : (p q : Form) → (p ≡ q → ⊥) → same p q ≡ false
not_same p q n = by_test (same p q) refl
  where
    by_test : (t : Bool) → same p q ≡ t → t ≡ false
    by_test true e = absurd (n (same_is e))
    by_test false e = refl

pub same_conn_is : {c d : Conn} → same_conn c d ≡ true → c ≡ d
unfolding same_conn
same_conn_is {c} {d} e = (decide_iff (Conn-discrete c d)).0 e

infix 20 ◌∈◌
infix 20 ◌⊆◌
abbrev pub ◌∈◌ : Form → List Form → Type 0
p ∈ l = member p l ≡ true

abbrev pub ◌⊆◌ : List Form → List Form → Type 0
l ⊆ m = (p : Form) → p ∈ l → p ∈ m

pub not_in_nil : (p : Form) → p ∈ [] → ⊥
unfolding member
not_in_nil p h = false≢true h

-- one in front
module _ (p : Form) (l : List Form) where
  pub in_head : p ∈ (p ∷ l)
  unfolding member
  in_head = rw (same_self p)

  pub in_cons : l ⊆ (p ∷ l)
  unfolding member
  in_cons q h = rw h (or-true (same q p))

  pub cons_cases : {C : Type 0} (q : Form) → q ∈ (p ∷ l) → (q ≡ p → C) → (q ∈ l → C) → C
  unfolding member
  cons_cases {C} q h f g = by_test (same q p) refl h
    where
      by_test : (t : Bool) → same q p ≡ t → (t || member q l) ≡ true → C
      by_test true e h = f (same_is e)
      by_test false e h = g h

pub cons_grows : (p : Form) (l m : List Form) → l ⊆ m → (p ∷ l) ⊆ (p ∷ m)
cons_grows p l m k q w = cons_cases p l q w (λ e. rw e (in_head p m)) (λ i. in_cons p m q (k q i))

-- what is numbered below the count is in the list
pub get_d_in : (l : List Form) (i : ℕ) → i < length l → get_or l i verum ∈ l
get_d_in [] i h = absurd (omega arith)
get_d_in (p ∷ l) ℕ.zero h = in_head p l
get_d_in (p ∷ l) (ℕ.suc i) h = in_cons p l (get_or l i verum) (get_d_in l i (omega arith))

-- one list behind another
pub member_append : (p : Form) (l m : List Form) → member p (l ++ m) ≡ (member p l || member p m)
unfolding member
member_append p [] m = refl
member_append p (q ∷ l) m = rw (member_append p l m) (sym (or_assoc (same p q) (member p l) (member p m)))

pub in_front : (p : Form) (l m : List Form) → p ∈ l → p ∈ (l ++ m)
in_front p l m h = rw (member_append p l m, h)

pub in_back : (p : Form) (l m : List Form) → p ∈ m → p ∈ (l ++ m)
in_back p l m h = rw (member_append p l m, h) (or-true (member p l))

pub append_cases : {C : Type 0} (p : Form) (l m : List Form) → p ∈ (l ++ m) → (p ∈ l → C) → (p ∈ m → C) → C
append_cases {C} p l m h f g = by_test (member p l) refl (rw (member_append p l m) at h)
  where
    by_test : (t : Bool) → member p l ≡ t → (t || member p m) ≡ true → C
    by_test true e h = f e
    by_test false e h = g h

-- one behind
module _ (l : List Form) (p : Form) where
  pub in_last : p ∈ (l ++ (p ∷ []))
  in_last = in_back p l (p ∷ []) (in_head p [])

  pub snoc_cases : {C : Type 0} (q : Form) → q ∈ (l ++ (p ∷ [])) → (q ∈ l → C) → (q ≡ p → C) → C
  snoc_cases q w f g = append_cases q l (p ∷ []) w f (λ w. cons_cases p [] q w g (λ n. absurd (not_in_nil q n)))

-- several at once
pub members_one : (p : Form) (ps β : List Form) → members (p ∷ ps) β ≡ true → (p ∈ β) × (members ps β ≡ true)
unfolding members
members_one p ps β = (and-eq-true_iff (member p β) (members ps β)).0

pub members_and : (p : Form) (ps β : List Form) → p ∈ β → members ps β ≡ true → members (p ∷ ps) β ≡ true
unfolding members
members_and p ps β h g = (and-eq-true_iff (member p β) (members ps β)).1 (h, g)

pub members_grow : (ps β γ : List Form) → β ⊆ γ → members ps β ≡ true → members ps γ ≡ true
unfolding members
members_grow [] β γ k h = refl
members_grow (p ∷ ps) β γ k h = let (one, rest) = members_one p ps β h in members_and p ps γ (k p one) (members_grow ps β γ k rest)

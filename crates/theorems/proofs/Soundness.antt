-- The rules are sound: what a plain proof concludes holds in every valve state in which its base holds.
-- Each row of the table of rules asks for shapes, and at those shapes it is a truth table.
use Prim.Native.Nat.{ℕ}
use mathlib.Core.Path.{◌≡◌, refl, sym, ◌∙◌, ap}
use mathlib.Core.List.{List, [], ◌∷◌}
use mathlib.Core.Bool.{Bool, true, false, ◌&&◌, ◌||◌, not, beq, and-eq-true_iff}
use lib.ListN.{get_or}
use Rattle.language.specs.Form.{Conn, Form, conj, disj, cond, bicond, atom, verum, falsum, neg, bin, same, same_conn, members, State, joins, holds, holds_all}
use Rattle.language.specs.Rules.{Ruled, gives, misshapen, provided, as_bin, as_neg, table, ruled}
use Rattle.language.specs.Plain.{Plain, Proves, by_rule, in_turn, assuming}
use Rattle.theorems.specs.Lists.{All}
use Rattle.theorems.proofs.Lists.{all_get_d, ◌&◌}
use Rattle.theorems.proofs.Members.{same_is, same_conn_is, ◌∈◌, not_in_nil, cons_cases, members_one}

infixr 20 ◌⇒◌
abbrev ◌⇒◌ : Bool → Bool → Bool
a ⇒ b = not a || b

modus_ponens : {a b : Bool} → a ⇒ b ≡ true → a ≡ true → b ≡ true
modus_ponens {b} f h = sym (ap (λ x. x ⇒ b) h) ∙ f

implies : (a b : Bool) → (a ≡ true → b ≡ true) → a ⇒ b ≡ true
implies true b f = f refl
implies false b f = refl

-- truth tables
abbrev every : (Bool → Bool) → Bool
every f = f true && f false

valid₁ : (f : Bool → Bool) → every f ≡ true → (a : Bool) → f a ≡ true
valid₁ f h true = ((and-eq-true_iff (f true) (f false)).0 h).0
valid₁ f h false = ((and-eq-true_iff (f true) (f false)).0 h).1

valid₂ : (f : Bool → Bool → Bool) → every (λ a. every (f a)) ≡ true → (a b : Bool) → f a b ≡ true
valid₂ f h a = valid₁ (f a) (valid₁ (λ a. every (f a)) h a)

valid₃ : (f : Bool → Bool → Bool → Bool) → every (λ a. every (λ b. every (f a b))) ≡ true → (a b c : Bool) → f a b c ≡ true
valid₃ f h a b = valid₁ (f a b) (valid₂ (λ a b. every (f a b)) h a b)

-- a row of the table is sound at σ
data Sound (σ : State) : Ruled → Type 0 where
  silent : Sound σ misshapen
  sound : {ps : List Form} {q : Form} → holds_all σ ps ⇒ holds σ q ≡ true → Sound σ (gives ps q)

module _ (σ : State) where
  abbrev ⟦◌⟧ : Form → Bool
  ⟦◌⟧ = holds σ

  on_true : (b : Bool) {r : Ruled} → (b ≡ true → Sound σ r) → Sound σ (provided b r)
  unfolding provided
  on_true true s = s refl
  on_true false s = silent

  on_same : (p q : Form) {r : Ruled} → (p ≡ q → Sound σ r) → Sound σ (provided (same p q) r)
  on_same p q s = on_true (same p q) (λ e. s (same_is e))

  on_both : (p q p' q' : Form) {r : Ruled} → (p ≡ q → p' ≡ q' → Sound σ r) → Sound σ (provided (same p q && same p' q') r)
  on_both p q p' q' s =
      on_true (same p q && same p' q') (λ e. let (a, b) = (and-eq-true_iff (same p q) (same p' q')).0 e in s (same_is a) (same_is b))

  on_neg : (x : Form) {f : Form → Ruled} → ((p : Form) → x ≡ neg p → Sound σ (f p)) → Sound σ (as_neg x f)
  unfolding as_neg
  on_neg (atom a) s = silent
  on_neg verum s = silent
  on_neg falsum s = silent
  on_neg (neg p) s = s p refl
  on_neg (bin c p q) s = silent

  on_bin : {c : Conn} (x : Form) {f : Form → Form → Ruled} → ((p q : Form) → x ≡ bin c p q → Sound σ (f p q)) → Sound σ (as_bin c x f)
  unfolding as_bin
  on_bin (atom a) s = silent
  on_bin verum s = silent
  on_bin falsum s = silent
  on_bin (neg p) s = silent
  on_bin {c} (bin d p q) s = on_true (same_conn c d) (λ e. s p q (ap (λ x. bin x p q) (sym (same_conn_is e))))

  -- row by row: its shapes, then its truth table
  table_sound : (x y z : Form) → All (Sound σ) (table x y z)
  unfolding table holds holds_all joins
  table_sound x y z =
      sound (valid₁ (λ a. a && true ⇒ a) refl ⟦ x ⟧)
      & on_bin {c = cond} x (λ p q e. on_same p y (λ f.
      sound (rw (e, ← f) (valid₂ (λ a b. (a ⇒ b) && (a && true) ⇒ b) refl ⟦ p ⟧ ⟦ q ⟧))))
      & on_bin {c = cond} x (λ p q e. on_neg y (λ q' f. on_same q q' (λ g.
      sound (rw (e, f, ← g) (valid₂ (λ a b. (a ⇒ b) && (not b && true) ⇒ not a) refl ⟦ p ⟧ ⟦ q ⟧)))))
      & on_neg x (λ p e. on_neg p (λ q f.
      sound (rw (e, f) (valid₁ (λ a. not (not a) && true ⇒ a) refl ⟦ q ⟧))))
      & sound (valid₂ (λ a b. a && (b && true) ⇒ a && b) refl ⟦ x ⟧ ⟦ y ⟧)
      & on_bin {c = conj} x (λ p q e. sound (rw e (valid₂ (λ a b. a && b && true ⇒ a) refl ⟦ p ⟧ ⟦ q ⟧)))
      & on_bin {c = conj} x (λ p q e. sound (rw e (valid₂ (λ a b. a && b && true ⇒ b) refl ⟦ p ⟧ ⟦ q ⟧)))
      & sound (valid₂ (λ a b. a && true ⇒ a || b) refl ⟦ x ⟧ ⟦ y ⟧)
      & sound (valid₂ (λ a b. b && true ⇒ a || b) refl ⟦ x ⟧ ⟦ y ⟧)
      & on_bin {c = disj} x (λ p q e. on_bin {c = cond} y (λ p' r f. on_same p p' (λ g. on_bin {c = cond} z (λ q' r' h. on_both q q' r r' (λ i j.
      sound (rw (e, f, h, ← g, ← i, ← j)
      (valid₃ (λ a b c. (a || b) && ((a ⇒ c) && ((b ⇒ c) && true)) ⇒ c) refl ⟦ p ⟧ ⟦ q ⟧ ⟦ r ⟧)))))))
      & on_bin {c = cond} x (λ p q e. on_bin {c = cond} y (λ q' p' f. on_both p p' q q' (λ g h.
      sound (rw (e, f, ← g, ← h) (valid₂ (λ a b. (a ⇒ b) && ((b ⇒ a) && true) ⇒ beq a b) refl ⟦ p ⟧ ⟦ q ⟧)))))
      & on_bin {c = bicond} x (λ p q e. sound (rw e (valid₂ (λ a b. beq a b && true ⇒ (a ⇒ b)) refl ⟦ p ⟧ ⟦ q ⟧)))
      & on_bin {c = bicond} x (λ p q e. sound (rw e (valid₂ (λ a b. beq a b && true ⇒ (b ⇒ a)) refl ⟦ p ⟧ ⟦ q ⟧)))
      & sound refl
      & on_neg y (λ p e. on_same x p (λ f.
      sound (rw (e, ← f) (valid₁ (λ a. a && (not a && true) ⇒ false) refl ⟦ x ⟧))))
      & sound refl
      & tt

  ruled_sound : (r : ℕ) (ps : List Form) → Sound σ (ruled r ps)
  unfolding ruled
  ruled_sound r ps =
      let x = get_or ps 0 verum in
      let y = get_or ps 1 verum in
      let z = get_or ps 2 verum in
      all_get_d (Sound σ) (table x y z) r misshapen (table_sound x y z) silent

  concludes : {ps : List Form} {q : Form} → Sound σ (gives ps q) → holds_all σ ps ≡ true → holds σ q ≡ true
  concludes (sound h) = modus_ponens h

  -- what is in a base that holds, holds
  all_hold : (p : Form) (β : List Form) → holds_all σ (p ∷ β) ≡ true → (holds σ p ≡ true) × (holds_all σ β ≡ true)
  unfolding holds_all
  all_hold p β = (and-eq-true_iff ⟦ p ⟧ (holds_all σ β)).0

  one_more : (p : Form) (β : List Form) → holds σ p ≡ true → holds_all σ β ≡ true → holds_all σ (p ∷ β) ≡ true
  unfolding holds_all
  one_more p β h g = (and-eq-true_iff ⟦ p ⟧ (holds_all σ β)).1 (h, g)

  member_holds : (p : Form) (β : List Form) → p ∈ β → holds_all σ β ≡ true → holds σ p ≡ true
  member_holds p [] m h = absurd (not_in_nil p m)
  member_holds p (q ∷ β) m h = let (one, rest) = all_hold q β h in cons_cases q β p m (λ e. rw e one) (λ n. member_holds p β n rest)

  members_hold : (ps β : List Form) → members ps β ≡ true → holds_all σ β ≡ true → holds_all σ ps ≡ true
  unfolding holds_all
  members_hold [] β m h = refl
  members_hold (p ∷ ps) β m h = let (one, rest) = members_one p ps β m in one_more p ps (member_holds p β one h) (members_hold ps β rest h)

  pub proves_sound : {β : List Form} {D : Plain} {P : Form} → Proves β D P → holds_all σ β ≡ true → holds σ P ≡ true
  unfolding holds joins
  proves_sound (by_rule {β} {ps} {premises} {r} n e m) h = concludes (rw e at (ruled_sound r ps)) (members_hold premises β m h)
  proves_sound {β} (in_turn {p} a b) h = proves_sound b (one_more p β (proves_sound a h) h)
  proves_sound {β} (assuming {p} {q} a) h = implies ⟦ p ⟧ ⟦ q ⟧ (λ e. proves_sound a (one_more p β e h))

-- What is refused of a certificate's bytes is refused with a number from 3 on; 3 to 7 have numbers of their own there.
use Prim.Native.Nat.{ℕ, ◌+◌, ◌≤◌}
use mathlib.Core.Path.{◌≡◌}
use mathlib.Core.Bool.{Bool, true, false}
use mathlib.Core.List.{List, [], ◌∷◌}
use native.Mathlib.Omega.{arith}
use lib.ListN.{length, get_or}
use borrow.Author.Tests.{lt-leb}
use Rattle.language.specs.Numbered.{number_of}
use Rattle.language.specs.declared.refusal.Why.{Why}
use Rattle.language.specs.declared.refusal.Why.TheVariants.{BytesEnd, NotShortest, OutOfRange, WrongReference, BytesAfter}
use Rattle.theorems.proofs.Refusals.{number_once}
use Rattle.theorems.proofs.Lists.{clash}
use Rattle.language.specs.Refusals.{bytes_end, not_shortest, out_of_range, wrong_reference, bytes_after, certificate_over}
use Rattle.language.specs.Form.{Conn, Form, conj, disj, cond, bicond, bin}
use Rattle.language.specs.Rules.{arity}
use Rattle.language.specs.Numbers.{Got, got, no, then, check, pick, third, second, number, from, below, times, record_at}
use Rattle.language.specs.Read.{reference, proposition_kinds, proposition}
use Rattle.language.specs.Check.{rule_node, inner, node}
use Rattle.checker.specs.Walk.{rest_by, two_at, under_at}
use Rattle.checker.specs.Tally.{proof_at, own_number}

-- no refusal below 3
pub data Late {A : Type 0} : Got A → Type 0 where
  given : {a : A} {at : ℕ} → Late (got a at)
  refused : {n p : ℕ} → 3 ≤ n → Late (no n p)

pub late_no : {A : Type 0} {g : Got A} {n p : ℕ} → Late g → g ≡ no n p → 3 ≤ n
late_no given e = absurd (clash cc)
late_no {n} (refused {n = m} h) e = let x : m ≡ n = cc in omega arith

late_then : {A B : Type 0} {g : Got A} {f : A → ℕ → Got B} → Late g → ((a : A) (at : ℕ) → Late (f a at)) → Late (then g f)
unfolding then
late_then (given {a = a} {at = at}) k = k a at
late_then (refused h) k = refused h

late_check : {A : Type 0} (t : Bool) (n p : ℕ) {g : Got A} → 3 ≤ n → Late g → Late (check t n p g)
unfolding check
late_check true n p h k = k
late_check false n p h k = refused h

late_pick : {A : Type 0} (t : Bool) {g h : Got A} → Late g → Late h → Late (pick t g h)
unfolding pick
late_pick true k m = k
late_pick false k m = m

-- numbers
late_third : (s : List ℕ) (at low : ℕ) → Late (third s at low)
unfolding third
late_third s at low = late_check _ bytes_end _ (omega arith) (late_check _ not_shortest _ (omega arith) given)

late_second : (s : List ℕ) (at low : ℕ) → Late (second s at low)
unfolding second
late_second s at low = late_check _ bytes_end _ (omega arith) (late_pick _ (late_check _ not_shortest _ (omega arith) given) (late_third s at _))

late_number : (s : List ℕ) (at : ℕ) → Late (number s at)
unfolding number
late_number s at = late_check _ bytes_end _ (omega arith) (late_pick _ given (late_second s at _))

pub late_from : (low top : ℕ) (s : List ℕ) (at : ℕ) → Late (from low top s at)
unfolding from
late_from low top s at = late_then (late_number s at) (λ v next. late_check _ out_of_range _ (omega arith) given)

late_below : (n : ℕ) (s : List ℕ) (at : ℕ) → Late (below n s at)
unfolding below
late_below n s at = late_then (late_number s at) (λ v next. late_check _ wrong_reference _ (omega arith) given)

late_times : {A : Type 0} (r : List A → ℕ → Got A) → ((acc : List A) (at : ℕ) → Late (r acc at)) → (n : ℕ) (acc : List A) (at : ℕ) → Late (times n r acc at)
unfolding times
late_times r h ℕ.zero acc at = given
late_times r h (ℕ.suc n) acc at = late_then (h acc at) (λ a next. late_times r h n _ next)

-- propositions
late_reference : (s : List ℕ) (ps : List Form) (at : ℕ) → Late (reference s ps at)
unfolding reference
late_reference s ps at = late_then (late_below (length ps) s at) (λ p next. given)

abbrev AllLate : {A : Type 0} → List (ℕ → Got A) → Type 0
AllLate [] = Unit {0}
AllLate (r ∷ rs) = ((at : ℕ) → Late (r at)) × AllLate rs

late_reader : {A : Type 0} (rs : List (ℕ → Got A)) → AllLate rs → (k p at : ℕ) → Late (get_or rs k (λ a. no out_of_range p) at)
late_reader [] h k p at = refused (omega arith)
late_reader (r ∷ rs) h ℕ.zero p at = h.0 at
late_reader (r ∷ rs) h (ℕ.suc k) p at = late_reader rs h.1 k p at

late_proposition : (s : List ℕ) (ps : List Form) (at : ℕ) → Late (proposition s ps at)
unfolding proposition proposition_kinds record_at
late_proposition s ps at =
    late_then (late_number s at)
    (λ kind. late_reader (proposition_kinds s ps) ((λ a. late_then (late_from 0 255 s a) (λ v b. given)), ((λ a. given), ((λ a. given), ((λ a. late_then (late_reference s ps a) (λ p b. given)), (two conj, (two disj, (two cond, (two bicond, tt)))))))) kind at)
  where
    two : (c : Conn) (a : ℕ) → Late (then (reference s ps a) (λ p b. then (reference s ps b) (λ q. got (bin c p q))))
    two c a = late_then (late_reference s ps a) (λ p b. late_then (late_reference s ps b) (λ q d. given))

pub late_listing : (s : List ℕ) (n at : ℕ) → Late (times n (proposition s) [] at)
late_listing s n at = late_times (proposition s) (late_proposition s) n [] at

-- nodes
late_rule : (s : List ℕ) (ps : List Form) (used at a : ℕ) → Late (rule_node s ps used at a)
unfolding rule_node
late_rule s ps used at a =
    late_then (late_from 0 15 s a)
    (λ r b. late_then (late_times (λ acc. reference s ps) (λ acc. late_reference s ps) (get_or arity r 0) [] b) (λ xs d. given))

late_two : (d : ℕ) (s : List ℕ) (ps : List Form) → ((used at : ℕ) → Late (node d s ps used at)) → (u a : ℕ) → Late (two_at d s a ps u)
unfolding two_at
late_two d s ps h u a = late_then (h (u + 1) a) (λ x b. late_then (h x.nodes b) (λ y e. given))

late_under : (d : ℕ) (s : List ℕ) (ps : List Form) → ((used at : ℕ) → Late (node d s ps used at)) → (u a : ℕ) → Late (under_at d s a ps u)
unfolding under_at
late_under d s ps h u a = late_then (late_reference s ps a) (λ p b. late_then (h (u + 1) b) (λ x e. given))

late_rest : (d : ℕ) (s : List ℕ) (ps : List Form) → ((used at : ℕ) → Late (node d s ps used at)) → (used at kind a : ℕ) → Late (rest_by (node d s ps) s ps used at kind a)
unfolding inner two_at under_at
late_rest d s ps h used at ℕ.zero a = late_rule s ps used at a
late_rest d s ps h used at (ℕ.suc ℕ.zero) a = late_two d s ps h used a
late_rest d s ps h used at (ℕ.suc (ℕ.suc ℕ.zero)) a = late_under d s ps h used a
late_rest d s ps h used at (ℕ.suc (ℕ.suc (ℕ.suc k))) a = refused (omega arith)

late_node : (d : ℕ) (s : List ℕ) (ps : List Form) (used at : ℕ) → Late (node d s ps used at)
unfolding node
late_node ℕ.zero s ps used at = late_then (late_from 0 2 s at) (λ kind a. refused (omega arith))
late_node (ℕ.suc d) s ps used at =
    late_then (late_from 0 2 s at)
    (λ kind a. late_check _ certificate_over _ (omega arith) (late_rest d s ps (late_node d s ps) used at kind a))

pub late_proof : (s : List ℕ) (ps : List Form) (at : ℕ) → Late (proof_at s ps at)
unfolding proof_at
late_proof s ps at =
    late_then (late_node 512 s ps 0 at)
    (λ x c. late_then (late_below (length ps) s c) (λ k end. late_check _ bytes_after _ (omega arith) given))

-- and one that is none of the five of bytes is over 7, and keeps its number
pub kept : (w : Why) → 3 ≤ number_of w → (w ≡ BytesEnd → ⊥) → (w ≡ NotShortest → ⊥) → (w ≡ OutOfRange → ⊥) → (w ≡ WrongReference → ⊥) → (w ≡ BytesAfter → ⊥) → number_of w ≡ own_number (number_of w)
unfolding own_number pick
kept w l a b c d e =
    let a₁ : number_of w ≡ 3 → ⊥ = λ z. a (number_once w BytesEnd z) in
    let b₁ : number_of w ≡ 4 → ⊥ = λ z. b (number_once w NotShortest z) in
    let c₁ : number_of w ≡ 5 → ⊥ = λ z. c (number_once w OutOfRange z) in
    let d₁ : number_of w ≡ 6 → ⊥ = λ z. d (number_once w WrongReference z) in
    let e₁ : number_of w ≡ 7 → ⊥ = λ z. e (number_once w BytesAfter z) in
    rw (lt-leb (number_of w) 7 (omega arith))

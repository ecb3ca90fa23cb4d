-- A sheet that is read is well formed: its propositions are closed under parts, its phrases name them, its calls and blocks are short.
use Prim.Native.Nat.{ℕ, ◌+◌, ◌≤◌}
use native.Mathlib.Omega.{arith}
use mathlib.Core.Path.{◌≡◌}
use mathlib.Core.List.{List, [], ◌∷◌}
use mathlib.Core.Bool.{true, false}
use lib.ListN.{length}
use lib.Dec.{eqb}
use Rattle.language.specs.Refusals.{bytes_after}
use Rattle.language.specs.Form.{Conn, Form, conj, disj, cond, bicond, atom, verum, falsum, neg, bin, member}
use Rattle.language.specs.Syntax.{Pattern, Clause, function, method, Phrase, expr, dedu, phrase_at}
use Rattle.language.specs.Syntax.{Expression, prop, var, con, rule, abstract, call, bind, match, apply, assume, suppose, dlet, by, dmatch}
use Rattle.language.specs.Numbers.{Got, got, then, from, times}
use Rattle.language.specs.Read.{reference, proposition_kinds, proposition, pattern, phrase_ref, expr_ref, dedu_ref, fixed, pair, several, clauses, block_of, phrase_kinds, phrase, sheet}
use Rattle.theorems.specs.Lists.{All}
use Rattle.theorems.proofs.Lists.{all_append, all_get_d, ◌&◌}
use Rattle.theorems.proofs.Members.{◌∈◌, not_in_nil, get_d_in}
use Rattle.theorems.proofs.Closed.{PartsIn, Closed, Small, closed_snoc, small_snoc}
use Rattle.theorems.proofs.Reading.{Ensures, given, refused, ensure, ensures_map, ensures_check, ensures_then, whatever, ensures_from, ensures_below, ensures_times, ensures_record}
use Rattle.theorems.proofs.Bounds.{NarrowPhrase}
use Rattle.theorems.proofs.Limits.{WellFormed}

-- a proposition that can follow l
abbrev Follows : List Form → Form → Type 0
Follows l (atom a) = a ≤ 255
Follows l verum = Unit {0}
Follows l falsum = Unit {0}
Follows l (neg p) = p ∈ l
Follows l (bin c p q) = (p ∈ l) × (q ∈ l)

follows_parts : (l : List Form) (p : Form) → Follows l p → PartsIn l p
follows_parts l (atom a) h = tt
follows_parts l verum h = tt
follows_parts l falsum h = tt
follows_parts l (neg p) h = h
follows_parts l (bin c p q) h = h

follows_small : (l : List Form) (p : Form) → Follows l p → (a : ℕ) → atom a ≡ p → a ≤ 255
follows_small l p h a e = rw (← e) at h

-- part 1: what a reference names is listed, and a proposition that is read follows what was read before it
reference_in : (s : List ℕ) (l : List Form) (at : ℕ) → Ensures (λ p next. p ∈ l) (reference s l at)
unfolding reference
reference_in s l at = ensures_then (ensures_below (length l) s at) λ i b h. given (get_d_in l i h)

proposition_follows : (s : List ℕ) (l : List Form) (at : ℕ) → Ensures (λ p next. Follows l p) (proposition s l at)
unfolding proposition proposition_kinds
proposition_follows s l at =
    ensures_record (λ p next. Follows l p) (proposition_kinds s l) s at (
    (λ b. ensures_then (ensures_from 0 255 s b) λ v c h. given h.1)
    & (λ b. given tt) & (λ b. given tt)
    & (λ b. ensures_then (reference_in s l b) λ p c h. given h)
    & two conj & two disj & two cond & two bicond & tt)
  where
    two : (k : Conn) (b : ℕ) → Ensures (λ p next. Follows l p) (then (reference s l b) (λ p c. then (reference s l c) (λ q. got (bin k p q))))
    two k b = ensures_then (reference_in s l b) λ p c h. ensures_then (reference_in s l c) λ q d g. given (h, g)

propositions_closed : (s : List ℕ) (n at : ℕ) → Ensures (λ l next. (Closed l × Small l) × (length l ≡ 0 + n)) (times n (proposition s) [] at)
unfolding member
propositions_closed s n at =
    ensures_times (λ l. Closed l × Small l) (proposition s)
    (λ l b w. ensures_map (proposition_follows s l b) λ p c h. (closed_snoc l p w.0 (follows_parts l p h), small_snoc l p w.1 (follows_small l p h)))
    n [] at (λ p i. absurd (not_in_nil p i), λ a i. absurd (not_in_nil (atom a) i))

-- part 3: a phrase that names what is listed, and is short
abbrev NamesListed : List Form → Expression → Type 0
NamesListed ps (prop p) = p ∈ ps
NamesListed ps (var k) = Unit {0}
NamesListed ps (con c) = Unit {0}
NamesListed ps (rule r) = Unit {0}
NamesListed ps (abstract s self n b) = Unit {0}
NamesListed ps (call e es) = Unit {0}
NamesListed ps (bind e f) = Unit {0}
NamesListed ps (match e cs) = Unit {0}

abbrev Good : List Form → Phrase → Type 0
Good ps (expr x) = NamesListed ps x
Good ps (dedu d) = NarrowPhrase (dedu d)

-- the readers of operands
several_good : (G : Phrase → Type 0) (s : List ℕ) (low top : ℕ) (r : ℕ → Got ℕ) (f : List ℕ → Phrase) →
    ((xs : List ℕ) → length xs ≤ top → G (f xs)) → (at : ℕ) → Ensures (λ x next. G x) (several s low top r f at)
unfolding several
several_good G s low top r f h at =
    ensures_then (ensures_from low top s at) λ n b l.
    ensures_then (ensures_times (λ xs. Unit {0}) (λ acc. r) (λ acc c k. ensure (r c) (λ p d e. tt)) n [] b tt) λ xs c w.
    given (h xs (omega (arith, l.1, w.1)))

fixed_good : (ps : List Form) (x : Phrase) (at next : ℕ) → Ensures (λ x next. Good ps x) (fixed x at next)
unfolding fixed
fixed_good ps (dedu d) at next = refused
fixed_good ps (expr (prop p)) at next = refused
fixed_good ps (expr (var k)) at next = refused
fixed_good ps (expr (con c)) at next = refused
fixed_good ps (expr (rule r)) at next = refused
fixed_good ps (expr (abstract s true n b)) at next = refused
fixed_good ps (expr (abstract s false n b)) at next = given tt
fixed_good ps (expr (call e es)) at next = refused
fixed_good ps (expr (bind e f)) at next = refused
fixed_good ps (expr (match e cs)) at next = refused

block_of_good : (ps : List Form) (xs : List ℕ) → length xs ≤ 8 → Good ps (block_of xs)
unfolding block_of
block_of_good ps [] h = tt
block_of_good ps (k ∷ ks) h = omega arith

pair_good : (G : Phrase → Type 0) (r r' : ℕ → Got ℕ) (f : ℕ → ℕ → Phrase) → ((x y : ℕ) → G (f x y)) →
    (at : ℕ) → Ensures (λ x next. G x) (pair r r' f at)
unfolding pair
pair_good G r r' f h at = whatever (r at) λ x b. whatever (r' b) λ y c. given (h x y)

clauses_good : (G : Phrase → Type 0) (s : List ℕ) (qs : List Pattern) (r : ℕ → Got ℕ) (f : List Clause → Phrase) → ((cs : List Clause) → G (f cs)) →
    (at : ℕ) → Ensures (λ x next. G x) (clauses s qs r f at)
unfolding clauses
clauses_good G s qs r f h at = whatever (from 1 4 s at) λ n b. whatever (times n _ [] b) λ cs c. given (h cs)

-- kind by kind, in the order of the readers
module _ (s : List ℕ) (ps : List Form) (qs : List Pattern) where
  phrase_good : (fs : List Phrase) (at : ℕ) → Ensures (λ x next. Good ps x) (phrase s ps qs fs at)
  unfolding phrase phrase_kinds
  phrase_good fs at =
      let E = expr_ref s fs in
      let D = dedu_ref s fs in
      let F = phrase_ref s fs in
      let G = Good ps in
      ensures_record (λ x next. G x) (phrase_kinds s ps qs fs at) s at (
      (λ a. ensures_then (reference_in s ps a) λ p b h. given h)
      & (λ a. whatever (from 0 255 s a) λ v b. given tt)
      & (λ a. whatever (from 0 4 s a) λ v b. given tt)
      & (λ a. whatever (from 0 15 s a) λ v b. given tt)
      & pair_good G (from 0 4 s) E (λ n b. expr (abstract function false n b)) (λ n b. tt)
      & pair_good G (from 0 4 s) D (λ n b. expr (abstract method false n b)) (λ n b. tt)
      & (λ a. whatever (E a) λ e. several_good G s 0 4 E (λ xs. expr (call e xs)) (λ xs h. tt))
      & pair_good G E E (λ e f. expr (bind e f)) (λ e f. tt)
      & (λ a. whatever (F a) λ k. fixed_good ps (phrase_at fs k) a)
      & (λ a. whatever (E a) λ e. clauses_good G s qs E (λ cs. expr (match e cs)) (λ cs. tt))
      & (λ a. refused) & (λ a. refused) & (λ a. refused) & (λ a. refused) & (λ a. refused) & (λ a. refused)
      & (λ a. whatever (E a) λ e. several_good G s 0 4 F (λ xs. dedu (apply e xs)) (λ xs h. h))
      & pair_good G E D (λ e d. dedu (assume e d)) (λ e d. tt)
      & pair_good G E D (λ e d. dedu (suppose e d)) (λ e d. tt)
      & pair_good G F D (λ f d. dedu (dlet f d)) (λ f d. tt)
      & pair_good G E D (λ e d. dedu (by e d)) (λ e d. tt)
      & several_good G s 1 8 D block_of (block_of_good ps)
      & (λ a. whatever (F a) λ f. clauses_good G s qs D (λ cs. dedu (dmatch f cs)) (λ cs. tt))
      & tt)

  phrases_good : (n at : ℕ) → Ensures (λ fs next. All (Good ps) fs) (times n (phrase s ps qs) [] at)
  phrases_good n at =
      ensures_map (ensures_times (All (Good ps)) (phrase s ps qs)
      (λ fs b w. ensures_map (phrase_good fs b) λ x c h. all_append (Good ps) fs (x ∷ []) w (h, tt)) n [] at tt) λ fs end w. w.0

-- what is good says what a well-formed sheet asks
good_named : (ps : List Form) (x : Phrase) (p : Form) → Good ps x → x ≡ expr (prop p) → p ∈ ps
good_named ps x p h e = rw e at h

good_narrow : (ps : List Form) (x : Phrase) → Good ps x → NarrowPhrase x
good_narrow ps (expr x) h = tt
good_narrow ps (dedu d) h = h

pub sheet_well_formed : (s : List ℕ) → Ensures (λ S end. WellFormed S) (sheet s)
unfolding sheet
sheet_well_formed s =
    ensures_then (ensures_from 0 512 s 0) λ np a few.
    ensures_then (propositions_closed s np a) λ ps b props.
    whatever (from 0 128 s b) λ nq c.
    whatever (times nq (pattern s ps) [] c) λ qs d.
    whatever (from 1 512 s d) λ nf e.
    ensures_then (phrases_good s ps qs nf e) λ fs f good.
    whatever (from 0 64 s f) λ nb g.
    whatever (times nb _ [] g) λ bs h.
    whatever (dedu_ref s fs h) λ r end.
    ensures_check (eqb end (length s)) bytes_after end λ t.
    let at : (k : ℕ) → Good ps (phrase_at fs k) = λ k. all_get_d (Good ps) fs k (expr (var 0)) good tt in
    given (record {
      closed = props.0.0;
      small = props.0.1;
      few = omega (arith, few.1, props.1);
      named = λ k p e. good_named ps (phrase_at fs k) p (at k) e;
      narrow = λ k. good_narrow ps (phrase_at fs k) (at k);
    })

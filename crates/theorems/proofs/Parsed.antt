-- Each record of a sheet is read of bytes of its own: a proposition, a pattern, a phrase, where the table of propositions may have more at its end.
use Prim.Native.Nat.{ℕ, ◌≤◌, ◌<◌}
use native.Mathlib.Omega.{arith}
use mathlib.Core.Path.{◌≡◌, refl}
use mathlib.Core.List.{List, [], ◌++◌}
use mathlib.Core.Bool.{true, false, ◌&&◌, not}
use lib.ListN.{length, get_or, length-append, get_or-append}
use lib.Dec.{ltb, leb}
use borrow.Author.Tests.{ltb-true, lt-ltb}
use Rattle.language.specs.Form.{Conn, Form, conj, disj, cond, bicond, atom, verum, falsum, neg, bin}
use Rattle.language.specs.Syntax.{Pattern, any, exactly, neg_p, bin_p, Clause, Phrase, expr, dedu, phrase_at}
use Rattle.language.specs.Syntax.{prop, var, con, rule, abstract, function, method, call, bind, match, apply, assume, suppose, dlet, by, dmatch}
use Rattle.language.specs.Numbers.{Got, got, no, then, from, below}
use Rattle.language.specs.Read.{reference, proposition_kinds, proposition, binders, parts, small, pattern_ref, pattern_kinds, pattern, is_deduction, phrase_ref, expr_ref, dedu_ref, fixed, pair, several, clause, clauses, block_of, phrase_kinds, phrase}
use Rattle.theorems.proofs.Reading.{ensured, ensures_below}
use Rattle.theorems.proofs.Frames.{Framed, refused, on_got, on_check, from_here, on_then, framed_number, framed_times, Readers, no_more, and_then, framed_record}

-- a table of propositions with more at its end
pub record Extends (ps qs : List Form) : Type 0 where
  pub past : length ps ≤ length qs
  pub keeps : (i : ℕ) → i < length ps → get_or qs i verum ≡ get_or ps i verum

pub extends_self : (ps : List Form) → Extends ps ps
extends_self ps = record { past = omega arith; keeps = λ i h. refl }

pub extends_append : (ps more : List Form) → Extends ps (ps ++ more)
extends_append ps more =
    record { past = simp length-append (omega arith); keeps = λ i h. get_or-append ps more verum i h }

module _ (s : List ℕ) (at : ℕ) where
  -- numbers in a range, references
  pub framed_from : (low top : ℕ) → Framed (λ o. from low top) s at (from low top s at)
  unfolding from
  framed_from low top =
      from_here (on_then (framed_number s at) (λ v mid e l. on_check (leb low v && leb v top) _ 5 at (λ h. h) (λ h. on_got v l)))

  framed_below : (m n : ℕ) → m ≤ n → Framed (λ o. below n) s at (below m s at)
  unfolding below
  framed_below m n le =
      from_here (on_then (framed_number s at) (λ v mid e l.
      on_check (ltb v m) (ltb v n) 6 at (λ h. let z = ltb-true v m h in lt-ltb v n (omega arith)) (λ h. on_got v l)))

  pub framed_reference : {ps qs : List Form} → Extends ps qs → Framed (λ o t. reference t qs) s at (reference s ps at)
  unfolding reference
  framed_reference {ps} {qs} x =
      on_then (framed_below (length ps) (length qs) x.past) (λ v mid e l.
      let less = ensured (ensures_below (length ps) s at) e in
      rw (x.keeps v less) (on_got (get_or ps v verum) l))

  framed_pattern_ref : (qs : List Pattern) → Framed (λ o t. pattern_ref t qs) s at (pattern_ref s qs at)
  unfolding pattern_ref
  framed_pattern_ref qs = on_then (framed_below (length qs) (length qs) (omega arith)) (λ v mid e l. on_got (get_or qs v any) l)

  framed_phrase_ref : (fs : List Phrase) → Framed (λ o t. phrase_ref t fs) s at (phrase_ref s fs at)
  unfolding phrase_ref
  framed_phrase_ref fs = framed_below (length fs) (length fs) (omega arith)

  framed_expr_ref : (fs : List Phrase) → Framed (λ o t. expr_ref t fs) s at (expr_ref s fs at)
  unfolding expr_ref
  framed_expr_ref fs =
      from_here (on_then (framed_phrase_ref fs) (λ k mid e l. on_check (not (is_deduction (phrase_at fs k))) _ 6 at (λ h. h) (λ h. on_got k l)))

  pub framed_dedu_ref : (fs : List Phrase) → Framed (λ o t. dedu_ref t fs) s at (dedu_ref s fs at)
  unfolding dedu_ref
  framed_dedu_ref fs =
      from_here (on_then (framed_phrase_ref fs) (λ k mid e l. on_check (is_deduction (phrase_at fs k)) _ 6 at (λ h. h) (λ h. on_got k l)))

-- part 1
module _ (s : List ℕ) (ps : List Form) where
  proposition_readers : Readers s (proposition_kinds s ps) (λ o t. proposition_kinds t ps)
  unfolding proposition_kinds
  proposition_readers =
      and_then (λ a l. on_then (framed_from s a 0 255) (λ v b e m. on_got (atom v) m))
      (and_then (λ a l. on_got verum l) (and_then (λ a l. on_got falsum l)
      (and_then (λ a l. on_then (part a) (λ p b e m. on_got (neg p) m))
      (and_then (two conj) (and_then (two disj) (and_then (two cond) (and_then (two bicond) no_more)))))))
    where
      part : (a : ℕ) → Framed (λ o t. reference t ps) s a (reference s ps a)
      part a = framed_reference s a (extends_self ps)

      two : (c : Conn) (a : ℕ) → a ≤ length s →
          Framed (λ o t a. then (reference t ps a) (λ p b. then (reference t ps b) (λ q. got (bin c p q)))) s a
          (then (reference s ps a) (λ p b. then (reference s ps b) (λ q. got (bin c p q))))
      two c a l = on_then (part a) (λ p b e m. on_then (part b) (λ q d f k. on_got (bin c p q) k))

  pub framed_proposition : (at : ℕ) → Framed (λ o t. proposition t ps) s at (proposition s ps at)
  unfolding proposition
  framed_proposition at = framed_record proposition_readers at

-- part 2
module _ (s : List ℕ) {ps ps' : List Form} (x : Extends ps ps') (qs : List Pattern) (at : ℕ) where
  framed_small : (p : Pattern) (a : ℕ) → a ≤ length s → Framed (λ o t. small o p) s a (small at p a)
  unfolding small
  framed_small p a l = on_check (leb (binders p) 4 && leb (parts p) 256) _ 5 at (λ h. h) (λ h. on_got p l)

  pattern_readers : Readers s (pattern_kinds s ps qs at) (λ o t. pattern_kinds t ps' qs o)
  unfolding pattern_kinds
  pattern_readers =
      and_then (framed_small any)
      (and_then (λ a l. on_then (framed_reference s a x) (λ p b e m. framed_small (exactly p) b m))
      (and_then (λ a l. on_then (framed_pattern_ref s a qs) (λ p b e m. framed_small (neg_p p) b m))
      (and_then (two conj) (and_then (two disj) (and_then (two cond) (and_then (two bicond) no_more))))))
    where
      two : (c : Conn) (a : ℕ) → a ≤ length s →
          Framed (λ o t a. then (pattern_ref t qs a) (λ p b. then (pattern_ref t qs b) (λ q. small o (bin_p c p q)))) s a
          (then (pattern_ref s qs a) (λ p b. then (pattern_ref s qs b) (λ q. small at (bin_p c p q))))
      two c a l = on_then (framed_pattern_ref s a qs) (λ p b e m. on_then (framed_pattern_ref s b qs) (λ q d f k. framed_small (bin_p c p q) d k))

pub framed_pattern : (s : List ℕ) {ps ps' : List Form} → Extends ps ps' → (qs : List Pattern) (at : ℕ) →
    Framed (λ o t. pattern t ps' qs) s at (pattern s ps qs at)
unfolding pattern
framed_pattern s x qs at = framed_record (pattern_readers s x qs at) at

-- part 3
module _ (s : List ℕ) where
  -- a reader of references, over s and over any sheet
  abbrev Reads : {A : Type 0} → (ℕ → Got A) → (List ℕ → ℕ → Got A) → Type 0
  Reads r R = (at : ℕ) → at ≤ length s → Framed (λ o. R) s at (r at)

  framed_pair : {r r' : ℕ → Got ℕ} {R R' : List ℕ → ℕ → Got ℕ} → Reads r R → Reads r' R' → (f : ℕ → ℕ → Phrase) → Reads (pair r r' f) (λ t. pair (R t) (R' t) f)
  unfolding pair
  framed_pair h h' f at l = on_then (h at l) (λ x b e m. on_then (h' b m) (λ y c e' k. on_got (f x y) k))

  framed_several : {r : ℕ → Got ℕ} {R : List ℕ → ℕ → Got ℕ} → Reads r R → (low top : ℕ) (f : List ℕ → Phrase) →
      Reads (several s low top r f) (λ t. several t low top (R t) f)
  unfolding several
  framed_several {r} {R} h low top f at l =
      on_then (framed_from s at low top) (λ n b e m. on_then (framed_times s (λ acc. r) (λ t acc. R t) (λ acc. h) n [] b m) (λ xs c e' k. on_got (f xs) k))

  framed_clauses : {r : ℕ → Got ℕ} {R : List ℕ → ℕ → Got ℕ} → Reads r R → (qs : List Pattern) (f : List Clause → Phrase) →
      Reads (clauses s qs r f) (λ t. clauses t qs (R t) f)
  unfolding clauses clause
  framed_clauses {r} {R} h qs f at l =
      on_then (framed_from s at 1 4) (λ n b e m.
      on_then (framed_times s (λ acc. clause s qs r) (λ t acc. clause t qs (R t)) (λ acc. one) n [] b m) (λ cs c e' k. on_got (f cs) k))
    where
      one : Reads (clause s qs r) (λ t. clause t qs (R t))
      one a l = on_then (framed_pattern_ref s a qs) (λ q b e m. on_then (h b m) (λ k c e' m'. on_got (record { pattern = q; body = k }) m'))

  framed_fixed : (x : Phrase) (at b : ℕ) → b ≤ length s → Framed (λ o t. fixed x o) s b (fixed x at b)
  unfolding fixed
  framed_fixed (dedu d) at b l = refused
  framed_fixed (expr (prop p)) at b l = refused
  framed_fixed (expr (var k)) at b l = refused
  framed_fixed (expr (con c)) at b l = refused
  framed_fixed (expr (rule r)) at b l = refused
  framed_fixed (expr (abstract z true n k)) at b l = refused
  framed_fixed (expr (abstract z false n k)) at b l = on_got (expr (abstract z true n k)) l
  framed_fixed (expr (call e es)) at b l = refused
  framed_fixed (expr (bind e f)) at b l = refused
  framed_fixed (expr (match e cs)) at b l = refused

module _ (s : List ℕ) {ps ps' : List Form} (x : Extends ps ps') (qs : List Pattern) (fs : List Phrase) (at : ℕ) where
  phrase_readers : Readers s (phrase_kinds s ps qs fs at) (λ o t. phrase_kinds t ps' qs fs o)
  unfolding phrase_kinds
  phrase_readers =
      and_then (λ a l. on_then (framed_reference s a x) (λ p b e m. on_got (expr (prop p)) m))
      (and_then (λ a l. on_then (framed_from s a 0 255) (λ v b e m. on_got (expr (var v)) m))
      (and_then (λ a l. on_then (framed_from s a 0 4) (λ v b e m. on_got (expr (con v)) m))
      (and_then (λ a l. on_then (framed_from s a 0 15) (λ v b e m. on_got (expr (rule v)) m))
      (and_then (framed_pair s count E (λ n b. expr (abstract function false n b)))
      (and_then (framed_pair s count D (λ n b. expr (abstract method false n b)))
      (and_then (λ a l. on_then (E a l) (λ e b h m. framed_several s E 0 4 (λ es. expr (call e es)) b m))
      (and_then (framed_pair s E E (λ e f. expr (bind e f)))
      (and_then (λ a l. from_here (on_then (F a l) (λ k b e m. framed_fixed s (phrase_at fs k) a b m)))
      (and_then (λ a l. on_then (E a l) (λ e b h m. framed_clauses s E qs (λ cs. expr (match e cs)) b m))
      (and_then out (and_then out (and_then out (and_then out (and_then out (and_then out
      (and_then (λ a l. on_then (E a l) (λ e b h m. framed_several s F 0 4 (λ es. dedu (apply e es)) b m))
      (and_then (framed_pair s E D (λ e d. dedu (assume e d)))
      (and_then (framed_pair s E D (λ e d. dedu (suppose e d)))
      (and_then (framed_pair s F D (λ f d. dedu (dlet f d)))
      (and_then (framed_pair s E D (λ e d. dedu (by e d)))
      (and_then (framed_several s D 1 8 block_of)
      (and_then (λ a l. on_then (F a l) (λ f b h m. framed_clauses s D qs (λ cs. dedu (dmatch f cs)) b m))
      no_more))))))))))))))))))))))
    where
      count : Reads s (from 0 4 s) (λ t. from 0 4 t)
      count a l = framed_from s a 0 4

      E : Reads s (expr_ref s fs) (λ t. expr_ref t fs)
      E a l = framed_expr_ref s a fs

      D : Reads s (dedu_ref s fs) (λ t. dedu_ref t fs)
      D a l = framed_dedu_ref s a fs

      F : Reads s (phrase_ref s fs) (λ t. phrase_ref t fs)
      F a l = framed_phrase_ref s a fs

      out : (a : ℕ) → a ≤ length s → Framed {A = Phrase} (λ o t a. no 5 o) s a (no 5 at)
      out a l = refused

pub framed_phrase : (s : List ℕ) {ps ps' : List Form} → Extends ps ps' → (qs : List Pattern) (fs : List Phrase) (at : ℕ) →
    Framed (λ o t. phrase t ps' qs fs) s at (phrase s ps qs fs at)
unfolding phrase
framed_phrase s x qs fs at = framed_record (phrase_readers s x qs fs at) at

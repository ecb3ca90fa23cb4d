-- The words in use and their trees: the number of the tree at p is p, so two numbers are equal exactly when the shapes are.
--
use Prim.Native.Nat.{ℕ, zero, suc, ◌<◌}
use mathlib.Core.Path.{◌≡◌, refl, sym, ap, subst, ◌∙◌}
use mathlib.Core.Bool.{decide}
use mathlib.Core.List.{List}
use native.Mathlib.Omega.{arith}
use native.Mathlib.Decide.{ℕ_discrete, dec_lt}
use lib.ListN.{length, get_or}
use lib.Dec.{eqb}
use borrow.Author.Tests.{eq-eqb, ne_eqb}
use Rattle.language.specs.Form.{Form, verum, falsum, same, Form-discrete, Conn-discrete}
use Rattle.forms.specs.Word.{Rec, atom_r, verum_r, falsum_r, neg_r, bin_r, code, Below}
use Rattle.forms.specs.Interned.{position, having}
use Rattle.forms.specs.Table.{tree, formed, Table, number_of, growing}
use Rattle.forms.proofs.Positions.{position_has, position_lacks, having_old}
use Rattle.forms.proofs.Records.{said, said_code, code_once}

-- over parts that stand at their numbers, a record's tree stands where its word does, and forming it is interning that word
module _ (ws : List ℕ) (fs : List Form) (n : ℕ) (known : (q : ℕ) → q < n → number_of (tree fs q) ws ≡ q) where
  number_formed : (x : Rec) → Below n x → number_of (formed fs x) ws ≡ position (code x) ws
  unfolding number_of formed Below
  number_formed (atom_r a) l = refl
  number_formed verum_r l = refl
  number_formed falsum_r l = refl
  number_formed (neg_r p) l = rw (known p l)
  number_formed (bin_r c p q) l = rw (known p l.0, known q l.1)

  growing_over : ((q : ℕ) → q < n → growing (tree fs q) ws ≡ ws) → (x : Rec) → Below n x → growing (formed fs x) ws ≡ having (code x) ws
  unfolding growing formed Below
  growing_over there (atom_r a) l = refl
  growing_over there verum_r l = refl
  growing_over there falsum_r l = refl
  growing_over there (neg_r p) l = rw (there p l, known p l)
  growing_over there (bin_r c p q) l = rw (there p l.0, there q l.1, known p l.0, known q l.1)

module _ (ws : List ℕ) (fs : List Form) (T : Table ws fs) where
  -- a word in use stands at one place only
  pub place_of : (w j : ℕ) → j < length ws → get_or ws j 0 ≡ w → position w ws ≡ j
  place_of w j h e = go (dec_lt (position w ws) (length ws))
    where
      go : Dec (position w ws < length ws) → position w ws ≡ j
      go (yes l) = T.once (position w ws) j l h (position_has w ws l ∙ sym e)
      go (no l) = absurd (position_lacks w ws (omega arith) j h e)

  -- the number of the tree at a number is that number
  number_below : (d p : ℕ) → p < d → p < length ws → number_of (tree fs p) ws ≡ p
  number_below zero p h b = absurd (omega arith)
  number_below (suc d) p h b =
      let r = T.rows p b in
      ap (λ (f : Form). number_of f ws) r.tree
      ∙ number_formed ws fs p (λ q g. number_below d q (omega arith) (omega arith)) r.says r.below
      ∙ place_of (code r.says) p b r.word

  pub number_at : (p : ℕ) → p < length ws → number_of (tree fs p) ws ≡ p
  number_at p b = number_below (suc p) p (omega arith) b

  -- equal shapes have equal numbers
  pub distinct : (i j : ℕ) → i < length ws → j < length ws → tree fs i ≡ tree fs j → i ≡ j
  distinct i j hi hj e = sym (number_at i hi) ∙ ap (λ (f : Form). number_of f ws) e ∙ number_at j hj

  pub same_at : (i j : ℕ) → i < length ws → j < length ws → same (tree fs i) (tree fs j) ≡ eqb i j
  unfolding same decide
  same_at i j hi hj = go (Form-discrete ℕ_discrete Conn-discrete (tree fs i) (tree fs j))
    where
      go : (d : Dec (tree fs i ≡ tree fs j)) → decide d ≡ eqb i j
      go (yes e) = sym (eq-eqb i j (distinct i j hi hj e))
      go (no h) = sym (ne_eqb i j (λ e. h (ap (tree fs) e)))

  -- forming a tree that is there changes nothing
  growing_below : (d p : ℕ) → p < d → p < length ws → growing (tree fs p) ws ≡ ws
  growing_below zero p h b = absurd (omega arith)
  growing_below (suc d) p h b =
      let r = T.rows p b in
      let e = place_of (code r.says) p b r.word in
      ap (λ (f : Form). growing f ws) r.tree
      ∙ growing_over ws fs p (λ q g. number_at q (omega arith)) (λ q g. growing_below d q (omega arith) (omega arith)) r.says r.below
      ∙ having_old (code r.says) ws (omega arith)

  pub growing_at : (p : ℕ) → p < length ws → growing (tree fs p) ws ≡ ws
  growing_at p b = growing_below (suc p) p (omega arith) b

  -- forming a record over trees that are there is interning its word
  pub growing_formed : (x : Rec) → Below (length ws) x → growing (formed fs x) ws ≡ having (code x) ws
  growing_formed x l = growing_over ws fs (length ws) number_at growing_at x l

-- true stands at 0 and false at 1
module _ (ws : List ℕ) (fs : List Form) (T : Table ws fs) where
  stands : (j : ℕ) (x : Rec) → j < length ws → Below 0 x → get_or ws j 0 ≡ code x → tree fs j ≡ formed fs x
  stands j x h l e =
      let r = T.rows j h in
      let m = T.small in
      r.tree ∙ ap (formed fs) (code_once j 0 r.says x (omega arith) (omega arith) r.below l (sym r.word ∙ e))

  pub truth_at : tree fs 0 ≡ verum
  unfolding formed Below
  truth_at = let e = T.enough in stands 0 verum_r (omega arith) tt T.truth

  pub falsity_at : tree fs 1 ≡ falsum
  unfolding formed Below
  falsity_at = let e = T.enough in stands 1 falsum_r (omega arith) tt T.falsity

-- the tree at a number is the one that its word says, over earlier records
module _ (ws : List ℕ) (fs : List Form) (T : Table ws fs) (j : ℕ) (h : j < length ws) where
  pub says_said : (T.rows j h).says ≡ said (get_or ws j 0)
  says_said =
      let r = T.rows j h in
      let m = T.small in
      sym (ap said r.word ∙ said_code j r.says (omega arith) r.below)

  pub tree_said : tree fs j ≡ formed fs (said (get_or ws j 0))
  tree_said = (T.rows j h).tree ∙ ap (formed fs) says_said

  pub below_said : Below j (said (get_or ws j 0))
  below_said = subst (Below j) says_said (T.rows j h).below

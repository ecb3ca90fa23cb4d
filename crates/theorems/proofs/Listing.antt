-- What a certificate lists: everything its proof names, each proposition once, after its parts.
use Prim.Native.Nat.{ℕ, suc, ◌+◌, ◌<◌}
use native.Mathlib.Numerals.{add-one}
use native.Mathlib.Omega.{arith}
use mathlib.Core.Path.{◌≡◌, refl, sym, ap}
use mathlib.Core.List.{List, [], ◌∷◌, ◌++◌, append_assoc, append-nil}
use mathlib.Core.Bool.{Bool, true, false, ◌||◌}
use lib.ListN.{length, get_or}
use Rattle.language.specs.Form.{Form, atom, verum, falsum, neg, bin, same, member}
use Rattle.language.specs.Numbers.{pick}
use Rattle.language.specs.Plain.{Plain, infer, seq, under}
use Rattle.language.specs.Run.{Derived}
use Rattle.language.specs.Certificate.{listed, listed_all, needed, index_of, listing}
use Rattle.theorems.specs.Lists.{All}
use Rattle.theorems.proofs.Lists.{all_map}
use Rattle.theorems.proofs.Members.{same_is, not_same, ◌∈◌, ◌⊆◌, not_in_nil, member_append, in_front, in_last}
use Rattle.theorems.proofs.Closed.{Parts, PartsIn}

-- what is listed in l is found in it, and stays at its place however l goes on
pub found : (p : Form) (l m : List Form) → p ∈ l → (index_of p (l ++ m) < length l) × (get_or l (index_of p (l ++ m)) verum ≡ p)
unfolding member index_of pick
found p [] m h = absurd (not_in_nil p h)
found p (q ∷ l) m h = by_head (found p l m) (same p q) refl h
  where
    by_head : (p ∈ l → (index_of p (l ++ m) < length l) × (get_or l (index_of p (l ++ m)) verum ≡ p)) →
        (t : Bool) → same p q ≡ t → (t || member p l) ≡ true →
        (pick t 0 (index_of p (l ++ m) + 1) < suc (length l)) × (get_or (q ∷ l) (pick t 0 (index_of p (l ++ m) + 1)) verum ≡ p)
    by_head later true t h = (omega arith, sym (same_is t))
    by_head later false t h = let w = later h in (omega arith, rw add-one w.1)

-- listing keeps what is listed and lists the proposition
module _ (l m : List Form) (p : Form) where
  grown : (t : Bool) → l ⊆ m → l ⊆ pick t l (m ++ (p ∷ []))
  unfolding pick
  grown true h q w = w
  grown false h q w = in_front q m (p ∷ []) (h q w)

  there : p ∈ pick (member p l) l (m ++ (p ∷ []))
  unfolding pick
  there = by_member (member p l) refl
    where
      by_member : (t : Bool) → member p l ≡ t → p ∈ pick t l (m ++ (p ∷ []))
      by_member true h = h
      by_member false h = in_last m p

pub listed_keeps : (p : Form) (l : List Form) → l ⊆ listed p l
unfolding listed
listed_keeps (atom a) l = grown l l (atom a) (member (atom a) l) (λ q h. h)
listed_keeps verum l = grown l l verum (member verum l) (λ q h. h)
listed_keeps falsum l = grown l l falsum (member falsum l) (λ q h. h)
listed_keeps (neg p) l = grown l (listed p l) (neg p) (member (neg p) l) (listed_keeps p l)
listed_keeps (bin c p q) l =
    grown l (listed q (listed p l)) (bin c p q) (member (bin c p q) l) (λ r h. listed_keeps q (listed p l) r (listed_keeps p l r h))

pub listed_has : (p : Form) (l : List Form) → p ∈ listed p l
unfolding listed
listed_has (atom a) l = there l l (atom a)
listed_has verum l = there l l verum
listed_has falsum l = there l l falsum
listed_has (neg p) l = there l (listed p l) (neg p)
listed_has (bin c p q) l = there l (listed q (listed p l)) (bin c p q)

-- every proposition that a proof names has Q
abbrev pub Names : (Form → Type 0) → Plain → Type 0
Names Q (infer r ps) = All Q ps
Names Q (seq a b) = Names Q a × Names Q b
Names Q (under p a) = Q p × Names Q a

-- listing a proposition lists nothing that is larger
unfoldable pub size : Form → ℕ
size (atom a) = 1
size verum = 1
size falsum = 1
size (neg p) = 1 + size p
size (bin c p q) = 1 + (size p + size q)

module _ (r : Form) where
  grown_fresh : (l m : List Form) (p : Form) (t : Bool) → size p < size r → member r l ≡ false → member r m ≡ false →
      member r (pick t l (m ++ (p ∷ []))) ≡ false
  unfolding pick member
  grown_fresh l m p true s h g = h
  grown_fresh l m p false s h g =
      let n : same r p ≡ false = not_same r p (λ e. let z = ap size e in omega arith) in
      rw (member_append r m (p ∷ []), g, n)

  pub listed_fresh : (p : Form) (l : List Form) → size p < size r → member r l ≡ false → member r (listed p l) ≡ false
  unfolding listed size
  listed_fresh (atom a) l s h = grown_fresh l l (atom a) (member (atom a) l) s h h
  listed_fresh verum l s h = grown_fresh l l verum (member verum l) s h h
  listed_fresh falsum l s h = grown_fresh l l falsum (member falsum l) s h h
  listed_fresh (neg p) l s h =
      grown_fresh l (listed p l) (neg p) (member (neg p) l) s h (listed_fresh p l (omega arith) h)
  listed_fresh (bin c p q) l s h =
      grown_fresh l (listed q (listed p l)) (bin c p q) (member (bin c p q) l) s h
      (listed_fresh q (listed p l) (omega arith) (listed_fresh p l (omega arith) h))

-- What holds of a list and is kept when a new proposition goes behind its parts holds of what listing makes of it.
-- Q is what is known of the propositions that are listed, and so of their parts.
module _ (Q : Form → Type 0) (hereditary : (p : Form) → Q p → Parts Q p)
    (P : List Form → Type 0)
    (one : (l : List Form) (p : Form) → P l → Q p → PartsIn l p → member p l ≡ false → P (l ++ (p ∷ []))) where
  put : (l m : List Form) (p : Form) → P l → (member p l ≡ false → P (m ++ (p ∷ []))) → P (pick (member p l) l (m ++ (p ∷ [])))
  unfolding pick
  put l m p h k = by_member (member p l) refl
    where
      by_member : (t : Bool) → member p l ≡ t → P (pick t l (m ++ (p ∷ [])))
      by_member true e = h
      by_member false e = k e

  listed_ind : (p : Form) (l : List Form) → Q p → P l → P (listed p l)
  unfolding listed size
  listed_ind (atom a) l q h = put l l (atom a) h (λ new. one l (atom a) h q tt new)
  listed_ind verum l q h = put l l verum h (λ new. one l verum h q tt new)
  listed_ind falsum l q h = put l l falsum h (λ new. one l falsum h q tt new)
  listed_ind (neg p) l q h =
      put l (listed p l) (neg p) h (λ new. one (listed p l) (neg p) (listed_ind p l (hereditary (neg p) q) h) q
      (listed_has p l) (listed_fresh (neg p) p l (omega arith) new))
  listed_ind (bin c p r) l q h =
      let q' = hereditary (bin c p r) q in
      put l (listed r (listed p l)) (bin c p r) h (λ new. one (listed r (listed p l)) (bin c p r)
      (listed_ind r (listed p l) q'.1 (listed_ind p l q'.0 h)) q
      (listed_keeps r (listed p l) p (listed_has p l), listed_has r (listed p l))
      (listed_fresh (bin c p r) r (listed p l) (omega arith) (listed_fresh (bin c p r) p l (omega arith) new)))

  listed_all_ind : (ps l : List Form) → All Q ps → P l → P (listed_all ps l)
  unfolding listed_all
  listed_all_ind [] l q h = h
  listed_all_ind (p ∷ ps) l q h = listed_all_ind ps (listed p l) q.1 (listed_ind p l q.0 h)

  needed_ind : (D : Plain) (l : List Form) → Names Q D → P l → P (needed D l)
  unfolding needed
  needed_ind (infer r ps) l q h = listed_all_ind ps l q h
  needed_ind (seq a b) l q h = needed_ind b (needed a l) q.1 (needed_ind a l q.0 h)
  needed_ind (under p a) l q h = needed_ind a (listed p l) q.1 (listed_ind p l q.0 h)

  pub listing_ind : (d : Derived) → Names Q d.proof → Q d.conclusion → P [] → P (listing d)
  unfolding listing
  listing_ind d n q h = listed_ind d.conclusion (needed d.proof []) q (needed_ind d.proof [] n h)

-- all that a proof names is listed
module _ (Q R : Form → Type 0) (f : (p : Form) → Q p → R p) where
  pub names_map : (D : Plain) → Names Q D → Names R D
  names_map (infer r ps) h = all_map Q R f ps h
  names_map (seq a b) h = (names_map a h.0, names_map b h.1)
  names_map (under p a) h = (f p h.0, names_map a h.1)

pub listed_all_keeps : (ps l : List Form) → l ⊆ listed_all ps l
unfolding listed_all
listed_all_keeps [] l q h = h
listed_all_keeps (p ∷ ps) l q h = listed_all_keeps ps (listed p l) q (listed_keeps p l q h)

pub needed_keeps : (D : Plain) (l : List Form) → l ⊆ needed D l
unfolding needed
needed_keeps (infer r ps) l q h = listed_all_keeps ps l q h
needed_keeps (seq a b) l q h = needed_keeps b (needed a l) q (needed_keeps a l q h)
needed_keeps (under p a) l q h = needed_keeps a (listed p l) q (listed_keeps p l q h)

pub listed_all_has : (ps l : List Form) → All (λ p. p ∈ listed_all ps l) ps
unfolding listed_all
listed_all_has [] l = tt
listed_all_has (p ∷ ps) l = (listed_all_keeps ps (listed p l) p (listed_has p l), listed_all_has ps (listed p l))

pub needed_has : (D : Plain) (l : List Form) → Names (λ p. p ∈ needed D l) D
unfolding needed
needed_has (infer r ps) l = listed_all_has ps l
needed_has (seq a b) l = (names_map (λ p. p ∈ needed a l) (λ p. p ∈ needed b (needed a l)) (needed_keeps b (needed a l)) a (needed_has a l), needed_has b (needed a l))
needed_has (under p a) l = (needed_keeps a (listed p l) p (listed_has p l), needed_has a (listed p l))

module _ (d : Derived) where
  pub listing_names : Names (λ p. p ∈ listing d) d.proof
  unfolding listing
  listing_names =
      names_map (λ p. p ∈ needed d.proof []) (λ p. p ∈ listing d) (listed_keeps d.conclusion (needed d.proof [])) d.proof
      (needed_has d.proof [])

  pub listing_concludes : d.conclusion ∈ listing d
  unfolding listing
  listing_concludes = listed_has d.conclusion (needed d.proof [])

-- `Orderly l ps`: the propositions ps go behind l, each new and after its parts
pub data Orderly : List Form → List Form → Type 0 where
  done : {l : List Form} → Orderly l []
  next : {l ps : List Form} {p : Form} → PartsIn l p → member p l ≡ false → Orderly (l ++ (p ∷ [])) ps → Orderly l (p ∷ ps)

orderly_snoc : {l ps : List Form} (p : Form) → Orderly l ps → PartsIn (l ++ ps) p → member p (l ++ ps) ≡ false → Orderly l (ps ++ (p ∷ []))
orderly_snoc {l} p done h new = next (rw append-nil at h) (rw append-nil at new) done
orderly_snoc {l} p (next {ps = ps} {p = q} h new o) h' new' =
    next h new (orderly_snoc p o (rw append_assoc h') (rw append_assoc new'))

-- every proposition has parts of which nothing is asked
pub any_parts : (p : Form) → Unit {0} → Parts (λ q. Unit {0}) p
any_parts (atom a) u = tt
any_parts verum u = tt
any_parts falsum u = tt
any_parts (neg p) u = tt
any_parts (bin c p q) u = (tt, tt)

pub listing_orderly : (d : Derived) → Orderly [] (listing d)
listing_orderly d =
    listing_ind (λ p. Unit {0}) any_parts (Orderly []) (λ l p o q h new. orderly_snoc p o h new) d
    (names_map (λ p. p ∈ listing d) (λ p. Unit {0}) (λ p h. tt) d.proof (listing_names d)) tt done

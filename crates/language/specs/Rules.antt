-- The sixteen rules: how many arguments each takes, the premises it asks and what it gives.
use Rattle.std.specs.Prelude.{ℕ, List, [], ◌∷◌, Bool, true, false, ◌&&◌, get_or}
use Rattle.language.specs.Form.{Conn, Form, conj, disj, cond, bicond, atom, verum, falsum, neg, bin, same, same_conn}

-- how many arguments a rule takes, by its number
abbrev pub arity : List ℕ
arity = 1 ∷ (2 ∷ (2 ∷ (1 ∷ (2 ∷ (1 ∷ (1 ∷ (2 ∷ (2 ∷ (3 ∷ (2 ∷ (1 ∷ (1 ∷ (0 ∷ (2 ∷ (0 ∷ [])))))))))))))))

-- a rule at its arguments: premises and conclusion, or that the arguments have not its shapes
pub data Ruled : Type 0 where
  gives : List Form → Form → Ruled
  misshapen : Ruled

-- what is given where a test holds
unfoldable pub provided : Bool → Ruled → Ruled
provided true r = r
provided false r = misshapen

-- what is given of the two parts of an argument that has the connective c
unfoldable pub as_bin : Conn → Form → (Form → Form → Ruled) → Ruled
unfolding same_conn provided
as_bin c (atom a) f = misshapen
as_bin c verum f = misshapen
as_bin c falsum f = misshapen
as_bin c (neg p) f = misshapen
as_bin c (bin d p q) f = provided (same_conn c d) (f p q)

-- what is given of the part of an argument that is a negation
unfoldable pub as_neg : Form → (Form → Ruled) → Ruled
as_neg (atom a) f = misshapen
as_neg verum f = misshapen
as_neg falsum f = misshapen
as_neg (neg p) f = f p
as_neg (bin c p q) f = misshapen

-- document 01's table, a row for each rule in its order, at arguments x, y, z
unfoldable pub table : Form → Form → Form → List Ruled
unfolding same provided as_bin as_neg
table x y z =
    -- claim, modus-ponens, modus-tollens, double-negation
    gives (x ∷ []) x
    ∷ (as_bin cond x (λ p q. provided (same p y) (gives (x ∷ (y ∷ [])) q))
    ∷ (as_bin cond x (λ p q. as_neg y (λ q'. provided (same q q') (gives (x ∷ (y ∷ [])) (neg p))))
    ∷ (as_neg x (λ p. as_neg p (λ q. gives (x ∷ []) q))
    -- both, left-and, right-and, left-either, right-either
    ∷ (gives (x ∷ (y ∷ [])) (bin conj x y)
    ∷ (as_bin conj x (λ p q. gives (x ∷ []) p)
    ∷ (as_bin conj x (λ p q. gives (x ∷ []) q)
    ∷ (gives (x ∷ []) (bin disj x y)
    ∷ (gives (y ∷ []) (bin disj x y)
    -- constructive-dilemma, equivalence, left-iff, right-iff
    ∷ (as_bin disj x (λ p q. as_bin cond y (λ p' r. provided (same p p')
    (as_bin cond z (λ q' r'. provided (same q q' && same r r') (gives (x ∷ (y ∷ (z ∷ []))) r)))))
    ∷ (as_bin cond x (λ p q. as_bin cond y (λ q' p'. provided (same p p' && same q q') (gives (x ∷ (y ∷ [])) (bin bicond p q))))
    ∷ (as_bin bicond x (λ p q. gives (x ∷ []) (bin cond p q))
    ∷ (as_bin bicond x (λ p q. gives (x ∷ []) (bin cond q p))
    -- true-intro, absurd, false-elim
    ∷ (gives [] verum
    ∷ (as_neg y (λ p. provided (same x p) (gives (x ∷ (y ∷ [])) falsum))
    ∷ (gives [] (neg falsum) ∷ [])))))))))))))))

-- rule r at its arguments
unfoldable pub ruled : ℕ → List Form → Ruled
unfolding table
ruled r ps = get_or (table (get_or ps 0 verum) (get_or ps 1 verum) (get_or ps 2 verum)) r misshapen

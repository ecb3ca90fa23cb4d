-- What applying a rule leaves and answers, by the way the code took.
use Prim.Native.Nat.{ℕ, zero, suc, ◌/◌, ◌%◌, ◌≤◌, ◌<◌, ◌^◌}
use mathlib.Core.Path.{◌≡◌, refl, sym, ap, subst, ◌∙◌}
use mathlib.Core.Bool.{Bool, true, false, ◌&&◌, ◌||◌}
use mathlib.Core.List.{List, [], ◌∷◌, ◌++◌, append-nil}
use native.Mathlib.Omega.{arith}
use native.Mathlib.Nat.{le_refl}
use lib.ListN.{length, get_or, take, get_or-map}
use lib.Seq.{length-take-le}
use lib.Dec.{eqb}
use Rattle.language.specs.Form.{Form, verum, member, members}
use Rattle.language.specs.Rules.{Ruled, gives, table, ruled}
use Rattle.words.proofs.Fronts.{front_own}
use Rattle.forms.specs.declared.Formed.{Formed}
use Rattle.forms.specs.Word.{Rec, atom_r, verum_r, falsum_r, neg_r, bin_r, code, Below}
use Rattle.forms.specs.Interned.{position, having, Interned}
use Rattle.forms.specs.Table.{tree, formed, Table, number_of, growing}
use Rattle.forms.proofs.Records.{kind_c_to}
use Rattle.forms.proofs.Positions.{having_paid}
use Rattle.forms.proofs.Trees.{same_at, number_at, growing_at, growing_formed}
use Rattle.forms.proofs.Growth.{interned}
use Rattle.std.specs.Prelude.{Option, Some, None, Result, Ok, Err}
use Rattle.language.specs.declared.refusal.Why.{Why}
use Rattle.language.specs.declared.refusal.Why.TheVariants.{WrongShapes, PremiseMissing}
use Rattle.rules.specs.declared.Conclusion.{Conclusion}
use Rattle.rules.specs.declared.Conclusion.TheVariants.{Known, New}
use Rattle.rules.specs.Shapes.{Safe, shaped, rows}
use Rattle.rules.specs.Base.{base_of, within, asked, premises, grounds}
use Rattle.rules.specs.Applied.{Ready, Outcome, whether, outcome, Comes, Ruling}
use Rattle.rules.proofs.Looks.{parts_at}
use Rattle.rules.proofs.Says.{Says, agree_at, premises_of, rules_agree}

-- ---- the premises in the base

-- a list with P in front where it is asked for
asking : Bool → Form → List Form → List Form
asking true P ps = ps
asking false P ps = P ∷ ps

premised : Form → Form → Form → ℕ → List Form
premised X Y Z m = asking (eqb (m % 2) 0) X (asking (eqb (m / 2 % 2) 0) Y (asking (eqb (m / 4) 0) Z []))

premises_at : (X Y Z : Form) (r : ℕ) → get_or (premises_of X Y Z) r [] ≡ premised X Y Z (get_or premises r 0)
unfolding premised asking
premises_at X Y Z r = get_or-map (premised X Y Z) premises r 0

members_asking : (b : Bool) (P : Form) (ps β : List Form) → members (asking b P ps) β ≡ (b || member P β) && members ps β
unfolding members asking
members_asking true P ps β = refl
members_asking false P ps β = refl

members_last : (b : Bool) (P : Form) (β : List Form) → members (asking b P []) β ≡ b || member P β
unfolding members asking
members_last true P β = refl
members_last false P β = and_true (member P β)
  where
    and_true : (b : Bool) → b && true ≡ b
    and_true true = refl
    and_true false = refl

module _ (n : ℕ) (t : List ℕ) (room : n ≤ length t) (fs : List Form) (T : Table (take n t) fs) (s : List ℕ) where
  within_is : (p : ℕ) → p < n → (b : ℕ) → ((j : ℕ) → j < b → get_or s j 0 < n) → member (tree fs p) (base_of fs s b) ≡ within p s b
  unfolding member base_of within
  within_is p h zero g = refl
  within_is p h (suc b) g =
      let l = length-take-le n t room in
      let k = g b (le_refl (suc b)) in
      rw (same_at (take n t) fs T p (get_or s b 0) (omega arith) (omega arith), within_is p h b (λ j m. g j (omega arith)))

  module _ (x y z : ℕ) (hx : x < n) (hy : y < n) (hz : z < n) (b : ℕ) (g : (j : ℕ) → j < b → get_or s j 0 < n) where
    met_are : (m : ℕ) → members (premised (tree fs x) (tree fs y) (tree fs z) m) (base_of fs s b) ≡ asked (m % 2) x s b && (asked (m / 2 % 2) y s b && asked (m / 4) z s b)
    unfolding premised
    met_are m = three (eqb (m % 2) 0) (eqb (m / 2 % 2) 0) (eqb (m / 4) 0)
      where
        three : (i j k : Bool) → members (asking i (tree fs x) (asking j (tree fs y) (asking k (tree fs z) []))) (base_of fs s b) ≡ (i || within x s b) && ((j || within y s b) && (k || within z s b))
        three i j k =
            rw (← within_is x hx b g, ← within_is y hy b g, ← within_is z hz b g)
            (members_asking i (tree fs x) _ (base_of fs s b)
            ∙ ap (λ (u : Bool). (i || member (tree fs x) (base_of fs s b)) && u)
            (members_asking j (tree fs y) _ (base_of fs s b)
            ∙ ap (λ (u : Bool). (j || member (tree fs y) (base_of fs s b)) && u) (members_last k (tree fs z) (base_of fs s b))))

    pub grounds_are : (r : ℕ) → members (get_or (premises_of (tree fs x) (tree fs y) (tree fs z)) r []) (base_of fs s b) ≡ grounds s b r x y z
    grounds_are r = ap (λ (u : List Form). members u (base_of fs s b)) (premises_at (tree fs x) (tree fs y) (tree fs z) r) ∙ met_are (get_or premises r 0)

-- ---- what the code may do

-- a record's word fits a cell
code_fits : (n : ℕ) (x : Rec) → n ≤ 16384 → Below n x → code x < 2 ^ 32
unfolding Below
code_fits n (atom_r a) h l = omega arith
code_fits n verum_r h l = omega arith
code_fits n falsum_r h l = omega arith
code_fits n (neg_r p) h l = omega arith
code_fits n (bin_r c p q) h l = let k = kind_c_to c in omega arith

module _ (t : List ℕ) (n : ℕ) (s : List ℕ) (b r x y z : ℕ) (ready : Ready t n s b x y z) where
  room : n ≤ length t
  room = let h = ready.room in omega arith

  small : n ≤ 16384
  small = let h = ready.room in omega arith

  pub safe : Safe t x y
  safe =
      let h = ready.room in
      let a = ready.arguments in
      record {
        small = (omega arith, omega arith);
        narrow = record { right = λ e. let l = parts_at n t room small _ ready.formed.table x a.0 e in omega arith };
      }

  module _ (fs : List Form) (T : Table (take n t) fs) where
    abbrev ws : List ℕ
    ws = take n t

    abbrev β : List Form
    β = base_of fs s b

    abbrev ps : List Form
    ps = get_or (premises_of (tree fs x) (tree fs y) (tree fs z)) r []

    abbrev R : Ruled
    R = ruled r (tree fs x ∷ (tree fs y ∷ (tree fs z ∷ [])))

    count : length ws ≡ n
    count = length-take-le n t room

    -- the shape at the numbers says the rule at the trees
    pub says : (u : Option Conclusion) → shaped t r x y z ≡ u → Says fs n ps u R
    unfolding shaped ruled
    says u e =
        let a = ready.arguments in
        let l = count in
        let two = T.enough in
        subst (λ (u : Option Conclusion). Says fs n ps u R) e
        (agree_at fs n (premises_of (tree fs x) (tree fs y) (tree fs z)) (rows t x y z) (table (tree fs x) (tree fs y) (tree fs z))
        (rules_agree n t room small fs T x y z a.0 a.1 a.2 (omega arith)) r)

    premises_met : members ps β ≡ grounds s b r x y z
    premises_met = let a = ready.arguments in grounds_are n t room fs T s x y z a.0 a.1 a.2 b ready.based r

    -- the table as it was
    same_table : (o : Outcome) (a : Result Formed Why) (q : Form) → o ≡ record { answer = a; words = ws; conclusion = q } → ((f : Formed) → a ≡ Ok f → (f.at < f.size) × (tree fs f.at ≡ q)) → Comes o n fs t t a
    same_table o a q e h =
        let l = count in
        subst (λ (o : Outcome). Comes o n fs t t a) (sym e)
        (record {
          answer = refl;
          words = sym (front_own n t);
          more = [];
          table = rw (append-nil fs) T;
          paid = omega arith;
          is = λ f g. rw (append-nil fs) (h f g);
        })

    unfit : shaped t r x y z ≡ None → Comes (outcome R β ws) n fs t t (Err WrongShapes)
    unfolding Says outcome
    unfit e = same_table _ (Err WrongShapes) verum (ap (λ (u : Ruled). outcome u β ws) (says None e)) (λ f g. absurd cc)

    -- a conclusion, and whether the premises are in the base
    given : (q : Form) (v : Bool) → R ≡ gives ps q → grounds s b r x y z ≡ v → outcome R β ws ≡ whether v q ws
    unfolding outcome
    given q v e g = ap (λ (u : Ruled). outcome u β ws) e ∙ ap (λ (v : Bool). whether v q ws) (premises_met ∙ g)

    absent : (q : Form) → R ≡ gives ps q → grounds s b r x y z ≡ false → Comes (outcome R β ws) n fs t t (Err PremiseMissing)
    unfolding whether
    absent q e g = same_table _ (Err PremiseMissing) q (given q false e g) (λ f h. absurd cc)

    missing : (u : Conclusion) → shaped t r x y z ≡ Some u → grounds s b r x y z ≡ false → Comes (outcome R β ws) n fs t t (Err PremiseMissing)
    unfolding Says
    missing (Known p) e g = absent (tree fs p) (says (Some (Known p)) e).1 g
    missing (New w) e g = let k = says (Some (New w)) e in absent (formed fs k.0) k.3 g

    known_given : (p : ℕ) → shaped t r x y z ≡ Some (Known p) → grounds s b r x y z ≡ true → Comes (outcome R β ws) n fs t t (Ok (record { at = p; size = n }))
    unfolding Says whether
    known_given p e g =
        let k = says (Some (Known p)) e in
        let l = count in
        let h : p < length ws = omega (arith, k.0) in
        same_table _ (Ok (record { at = p; size = n })) (tree fs p) (given (tree fs p) true k.1 g ∙ rw (growing_at ws fs T p h, number_at ws fs T p h, l))
        (λ f d. let z : f ≡ record { at = p; size = n } = cc in rw z (omega arith, refl))

    -- a new conclusion, interned
    new_given : (w : ℕ) (u : List ℕ) (f : Formed) → shaped t r x y z ≡ Some (New w) → grounds s b r x y z ≡ true → Interned w n t u f → Comes (outcome R β ws) n fs t u (Ok f)
    unfolding Says whether
    new_given w u f e g i = go (says (Some (New w)) e)
      where
        go : Says fs n ps (Some (New w)) R → Comes (outcome R β ws) n fs t u (Ok f)
        go k =
            let l = count in
            let h = ready.room in
            let q = k.0 in
            let d : Below (length ws) q = rw l k.2 in
            let G = interned ws fs T q d (omega arith) in
            let j = rw k.1 at i in
            let grew : growing (formed fs q) ws ≡ having (code q) ws = growing_formed ws fs T q d in
            let numbered : number_of (formed fs q) (having (code q) ws) ≡ position (code q) ws =
            rw (← G.is) (number_at (having (code q) ws) (fs ++ G.more) G.table (position (code q) ws) G.low) in
            let out : outcome R β ws ≡ record { answer = Ok (record { at = position (code q) ws; size = length (having (code q) ws) }); words = having (code q) ws; conclusion = formed fs q } =
            given (formed fs q) true k.3 g ∙ rw (grew, numbered) in
            subst (λ (o : Outcome). Comes o n fs t u (Ok f)) (sym out)
            (record {
              answer = rw (j.at, j.size);
              words = j.words;
              more = G.more;
              table = G.table;
              paid = let v = having_paid (code q) ws in omega arith;
              is = λ g d.
                  let z : g ≡ record { at = position (code q) ws; size = length (having (code q) ws) } = cc in
                  rw z (G.low, G.is);
            })

  -- the four ways of the code
  pub ruling_unfit : shaped t r x y z ≡ None → Ruling t n s b r x y z t (Err WrongShapes)
  ruling_unfit e = record { rules = λ fs T. unfit fs T e }

  pub ruling_known : (p : ℕ) → shaped t r x y z ≡ Some (Known p) → grounds s b r x y z ≡ true → Ruling t n s b r x y z t (Ok (record { at = p; size = n }))
  ruling_known p e g = record { rules = λ fs T. known_given fs T p e g }

  pub ruling_new : (w : ℕ) (u : List ℕ) (f : Formed) → shaped t r x y z ≡ Some (New w) → grounds s b r x y z ≡ true → Interned w n t u f → Ruling t n s b r x y z u (Ok f)
  ruling_new w u f e g i = record { rules = λ fs T. new_given fs T w u f e g i }

  pub ruling_missing : (u : Conclusion) → shaped t r x y z ≡ Some u → grounds s b r x y z ≡ false → Ruling t n s b r x y z t (Err PremiseMissing)
  ruling_missing u e g = record { rules = λ fs T. missing fs T u e g }

  -- a new conclusion's word fits a cell
  pub new_fits : (w : ℕ) → shaped t r x y z ≡ Some (New w) → w < 2 ^ 32
  unfolding Says
  new_fits w e =
      let k = says ready.formed.trees ready.formed.table (Some (New w)) e in
      rw k.1 (code_fits n k.0 small k.2)

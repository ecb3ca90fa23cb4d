-- Tokens read from left to right: at each place so many propositions are still to come, and behind them so many proofs.
use Prim.Native.Nat.{ℕ, suc, ◌+◌, ◌≤◌, ◌<◌}
use mathlib.Core.Path.{◌≡◌, refl, sym, ap, ◌∙◌}
use mathlib.Core.List.{List, [], ◌∷◌, ◌++◌, append_assoc, append-nil}
use native.Mathlib.Omega.{arith}
use native.Mathlib.Numerals.{add-one}
use lib.ListN.{length, get_or, take, drop, drop_of_length-le}
use lib.Seq.{length-take-le, get_or-take, drop-cons}
use Rattle.language.specs.Form.{Form}
use Rattle.language.specs.Numbers.{groups}
use Rattle.language.specs.Rules.{arity}
use Rattle.language.specs.Plain.{Plain, infer, seq, under, inferences}
use Rattle.language.specs.Certificate.{listed, listed_all, needed, index_of, references, proof_bytes}
use Rattle.theorems.specs.Lists.{All}
use Rattle.theorems.proofs.Listing.{Names as Naming}
use Rattle.theorems.proofs.Spelling.{one_group}
use Rattle.bindings.specs.Stands.{Is}
use Rattle.tokens.specs.Tells.{Names, Tells}
use Rattle.certificates.specs.Emitted.{head_by, rule_bytes, head_bytes}

-- `Ahead ps Ds ts`: the tokens ts are numbers of the propositions ps, then the proofs Ds; every proposition that they name has Q
pub data Ahead (fs : List Form) (Q : Form → Type 0) : List Form → List Plain → List ℕ → Type 0 where
  end : Ahead fs Q [] [] []
  name : {x : ℕ} {p : Form} {ps : List Form} {Ds : List Plain} {ts : List ℕ} → Is fs x p → Q p → Ahead fs Q ps Ds ts → Ahead fs Q (p ∷ ps) Ds (x ∷ ts)
  rule : {r : ℕ} {ps : List Form} {Ds : List Plain} {ts : List ℕ} → r < 16 → length ps ≡ get_or arity r 0 → Ahead fs Q ps Ds ts → Ahead fs Q [] (infer r ps ∷ Ds) (0 ∷ (r ∷ ts))
  pair : {a b : Plain} {Ds : List Plain} {ts : List ℕ} → Ahead fs Q [] (a ∷ (b ∷ Ds)) ts → Ahead fs Q [] (seq a b ∷ Ds) (1 ∷ ts)
  hypothesis : {p : Form} {a : Plain} {Ds : List Plain} {ts : List ℕ} → Ahead fs Q (p ∷ []) (a ∷ Ds) ts → Ahead fs Q [] (under p a ∷ Ds) (2 ∷ ts)

-- tokens that tell a proof are that proof ahead
module _ (fs : List Form) (Q : Form → Type 0) where
  names_ahead : (ns : List ℕ) (ps : List Form) (Ds : List Plain) (ts : List ℕ) → Names fs ns ps → All Q ps → Ahead fs Q [] Ds ts → Ahead fs Q ps Ds (ns ++ ts)
  unfolding Names
  names_ahead [] [] Ds ts n q a = a
  names_ahead [] (p ∷ ps) Ds ts n q a = absurd n
  names_ahead (x ∷ ns) [] Ds ts n q a = absurd n
  names_ahead (x ∷ ns) (p ∷ ps) Ds ts n q a = name n.0 q.0 (names_ahead ns ps Ds ts n.1 q.1 a)

  names_many : (ns : List ℕ) (ps : List Form) → Names fs ns ps → length ps ≡ length ns
  unfolding Names
  names_many [] [] n = refl
  names_many [] (p ∷ ps) n = absurd n
  names_many (x ∷ ns) [] n = absurd n
  names_many (x ∷ ns) (p ∷ ps) n = ap suc (names_many ns ps n.1)

  pub proof_ahead : (D : Plain) (us : List ℕ) (Ds : List Plain) (ts : List ℕ) → Tells fs D us → Naming Q D → Ahead fs Q [] Ds ts → Ahead fs Q [] (D ∷ Ds) (us ++ ts)
  unfolding Tells
  proof_ahead (infer r ps) us Ds ts x q a =
      let ns : List ℕ = x.0 in
      rw x.1 (rule x.4 (names_many ns ps x.2 ∙ x.3) (names_ahead ns ps Ds ts x.2 q a))
  proof_ahead (seq d e) us Ds ts x q a =
      let xs : List ℕ = x.0 in
      let ys : List ℕ = x.1 in
      rw (x.2, append_assoc xs ys ts) (pair (proof_ahead d xs (e ∷ Ds) (ys ++ ts) x.3 q.0 (proof_ahead e ys Ds ts x.4 q.1 a)))
  proof_ahead (under p d) us Ds ts x q a =
      rw x.2 (hypothesis (name x.3 q.0 (proof_ahead d x.1 Ds ts x.4 q.1 a)))

-- what is ahead lists, counts and writes
unfoldable pub needed_each : List Plain → List Form → List Form
needed_each [] l = l
needed_each (D ∷ Ds) l = needed_each Ds (needed D l)

unfoldable pub inferences_each : List Plain → ℕ
inferences_each [] = 0
inferences_each (D ∷ Ds) = inferences D + inferences_each Ds

unfoldable pub proofs_bytes : List Form → List Plain → List ℕ
proofs_bytes l [] = []
proofs_bytes l (D ∷ Ds) = proof_bytes l D ++ proofs_bytes l Ds

abbrev pub ahead_bytes : List Form → List Form → List Plain → List ℕ
ahead_bytes l ps Ds = references l ps ++ proofs_bytes l Ds

-- each kind of node writes its beginning and what follows it
module _ (l : List Form) where
  rule_writes : (r : ℕ) (ps : List Form) (Ds : List Plain) → r < 16 → proofs_bytes l (infer r ps ∷ Ds) ≡ head_bytes 0 r ++ ahead_bytes l ps Ds
  unfolding proofs_bytes proof_bytes head_bytes rule_bytes
  rule_writes r ps Ds h =
      sym (ap (λ (xs : List ℕ). xs ++ ahead_bytes l ps Ds) (ap (λ (xs : List ℕ). xs ++ groups r) (one_group 0 (omega arith)) ∙ ap (λ (xs : List ℕ). 0 ∷ xs) (one_group r (omega arith))))

  pair_writes : (a b : Plain) (Ds : List Plain) → proofs_bytes l (seq a b ∷ Ds) ≡ head_bytes 1 0 ++ ahead_bytes l [] (a ∷ (b ∷ Ds))
  unfolding proofs_bytes proof_bytes head_bytes rule_bytes references
  pair_writes a b Ds =
      ap (λ (xs : List ℕ). 1 ∷ xs) (append_assoc (proof_bytes l a) (proof_bytes l b) (proofs_bytes l Ds))
      ∙ sym (ap (λ (xs : List ℕ). (xs ++ []) ++ ahead_bytes l [] (a ∷ (b ∷ Ds))) (one_group 1 (omega arith)))

  hypothesis_writes : (p : Form) (a : Plain) (Ds : List Plain) → proofs_bytes l (under p a ∷ Ds) ≡ head_bytes 2 0 ++ ahead_bytes l (p ∷ []) (a ∷ Ds)
  unfolding proofs_bytes proof_bytes head_bytes rule_bytes references
  hypothesis_writes p a Ds =
      ap (λ (xs : List ℕ). 2 ∷ xs) (append_assoc (groups (index_of p l)) (proof_bytes l a) (proofs_bytes l Ds) ∙ ap (λ (xs : List ℕ). xs ++ (proof_bytes l a ++ proofs_bytes l Ds)) (sym (append-nil (groups (index_of p l)))))
      ∙ sym (ap (λ (xs : List ℕ). (xs ++ []) ++ ahead_bytes l (p ∷ []) (a ∷ Ds)) (one_group 2 (omega arith)))

-- the next node: it begins with the tokens x and, of a rule, y, and what follows them is ahead
pub record Begins (fs : List Form) (Q : Form → Type 0) (Ds : List Plain) (ts : List ℕ) (x y : ℕ) : Type 0 where
  pub names : List Form
  pub proofs : List Plain
  pub ahead : Ahead fs Q names proofs (drop (head_by x y).width ts)
  pub named : length names ≡ (head_by x y).names
  pub lists : (l : List Form) → needed_each Ds l ≡ needed_each proofs (listed_all names l)
  pub counts : inferences_each Ds ≡ (head_by x y).rules.0 + inferences_each proofs
  pub writes : (l : List Form) → proofs_bytes l Ds ≡ head_bytes x y ++ ahead_bytes l names proofs
  pub kind : x ≤ 2
  pub ruled : x ≡ 0 → y < 16

module _ (fs : List Form) (Q : Form → Type 0) where
  pub begins : (Ds : List Plain) (ts : List ℕ) (x y : ℕ) → Ahead fs Q [] Ds ts → 0 < length ts → x ≡ get_or ts 0 0 → (1 < length ts → y ≡ get_or ts 1 0) → Begins fs Q Ds ts x y
  unfolding head_by needed_each inferences_each proofs_bytes needed inferences proof_bytes listed_all listed references head_bytes rule_bytes index_of
  begins Ds ts x y end h i j = absurd (omega arith)
  begins Ds ts x y (rule {r} {ps} {Ds = Es} {ts = us} low k a) h i j =
      let e : y ≡ r = j (omega arith) in
      rw (i, e) (record {
        names = ps;
        proofs = Es;
        ahead = a;
        named = k;
        lists = λ l. refl;
        counts = omega arith;
        writes = λ l. rule_writes l r ps Es low;
        kind = omega arith;
        ruled = λ z. low;
      })
  begins Ds ts x y (pair {a} {b} {Ds = Es} {ts = us} s) h i j =
      rw i (record {
        names = [];
        proofs = a ∷ (b ∷ Es);
        ahead = s;
        named = refl;
        lists = λ l. refl;
        counts = omega arith;
        writes = λ l. pair_writes l a b Es;
        kind = omega arith;
        ruled = λ z. absurd (omega (arith, z));
      })
  begins Ds ts x y (hypothesis {p} {a} {Ds = Es} {ts = us} s) h i j =
      rw i (record {
        names = p ∷ [];
        proofs = a ∷ Es;
        ahead = s;
        named = refl;
        lists = λ l. refl;
        counts = omega arith;
        writes = λ l. hypothesis_writes l p a Es;
        kind = omega arith;
        ruled = λ z. absurd (omega (arith, z));
      })

  -- a proposition ahead is named next
  pub named_next : (p : Form) (ps : List Form) (Ds : List Plain) (x : ℕ) (ts : List ℕ) → Ahead fs Q (p ∷ ps) Ds (x ∷ ts) → Is fs x p × Q p × Ahead fs Q ps Ds ts
  named_next p ps Ds x ts (name i q a) = (i, q, a)

  -- where no token is left, nothing is ahead
  pub names_end : (ps : List Form) (Ds : List Plain) → Ahead fs Q ps Ds [] → ps ≡ []
  names_end ps Ds end = refl

  pub proofs_end : (ps : List Form) (Ds : List Plain) → Ahead fs Q ps Ds [] → Ds ≡ []
  proofs_end ps Ds end = refl

-- the tokens from a place on
module _ (tokens : List ℕ) (m : ℕ) (inside : m ≤ length tokens) where
  long : length (take m tokens) ≡ m
  long = length-take-le m tokens inside

  pub token_next : (i : ℕ) → i < m → drop i (take m tokens) ≡ get_or tokens i 0 ∷ drop (i + 1) (take m tokens)
  token_next i h =
      drop-cons (take m tokens) i 0 (omega (arith, long))
      ∙ rw (get_or-take m tokens i 0 h, add-one i) refl

  pub tokens_end : (i : ℕ) → m ≤ i → drop i (take m tokens) ≡ []
  tokens_end i h = drop_of_length-le (take m tokens) {i = i} (omega (arith, long))

-- What the rows of phrases say, kind by kind: which operands a row may have, and which expression it is, where the code reads its numbers.
use Prim.Native.Nat.{ℕ, zero, suc, ◌+◌, ◌*◌, ◌≤◌, ◌<◌}
use mathlib.Core.Path.{◌≡◌, refl, sym, ap, subst, ◌∙◌}
use mathlib.Core.Bool.{Bool, true, false, ◌||◌}
use mathlib.Core.List.{List, [], ◌∷◌, ◌++◌}
use native.Mathlib.Omega.{arith}
use lib.ListN.{length, get_or, take, drop, replicate, length-append, length-drop, get_or-append}
use lib.Seq.{get_or-take, get_or-drop}
use lib.Dec.{eqb}
use borrow.Author.Tests.{eqb-true}
use Rattle.language.specs.Form.{Form}
use Rattle.language.specs.Syntax.{Pattern, any, Sort, function, method, Phrase, expr, phrase_at}
use Rattle.language.specs.Syntax.{prop, var, con, rule, abstract, call, bind, match}
use Rattle.forms.specs.Table.{tree}
use Rattle.forms.proofs.Growth.{tree_more}
use Rattle.records.specs.Rows.{cell, flat, phrase_cells, pattern_by, pattern_of, phrase_of, clauses_of, sort_of}
use Rattle.theorems.specs.Lists.{All}
use Rattle.theorems.proofs.Lists.{all_at}
use Rattle.reader.specs.Stands.{Earlier, Expr, Dedu, ClauseOf, PatternRow, any_row, exactly_row, not_row, join_row, PatternRows, PhraseRows, PhraseRow}
use Rattle.reader.specs.Stands.{prop_row, var_row, con_row, rule_row, function_row, method_row, call_row, let_row, fix_row as fix_cells, match_row, apply_row, assume_row, suppose_row, dlet_row, by_row, block_row, dmatch_row}
use Rattle.reader.proofs.Laying.{phrase_at_wide}
use Rattle.bindings.specs.Stands.{kind_of_sort}
use Rattle.patterns.proofs.Clauses.{clauses_by}
use Rattle.expressions.specs.Machine.{Shared, M, kind, one, two, listed}
use Rattle.expressions.specs.Asked.{Text, Row, World}

-- members of lists
clause_at : (nq : ℕ) (G : ℕ → Type 0) (cs : List (List ℕ)) (i : ℕ) → All (ClauseOf nq G) cs → i < length cs → (get_or (flat cs) (2 * i) 0 < nq) × G (get_or (flat cs) (2 * i + 1) 0)
unfolding flat
clause_at nq G [] i h l = absurd (omega arith)
clause_at nq G (c ∷ cs) zero ((q, j, e, a, g), hs) l = rw e (a, g)
clause_at nq G (c ∷ cs) (suc i) ((q, j, e, a, g), hs) l =
    let z : 2 * suc i ≡ suc (suc (2 * i)) = omega arith in
    let y : 2 * suc i + 1 ≡ suc (suc (2 * i + 1)) = omega arith in
    rw (y, z, e) (clause_at nq G cs i hs (omega arith))

flat_long : (nq : ℕ) (G : ℕ → Type 0) (cs : List (List ℕ)) → All (ClauseOf nq G) cs → length (flat cs) ≡ 2 * length cs
unfolding flat
flat_long nq G [] h = refl
flat_long nq G (c ∷ cs) ((q, j, e, _, _), hs) =
    let l = flat_long nq G cs hs in
    let z = length-append c (flat cs) in
    let m : length c ≡ 2 = ap length e in
    omega arith

-- past its first cells a row has its operands
past_2 : (a b : ℕ) (xs : List ℕ) (i : ℕ) → i < length xs → i ≤ 9 → get_or (phrase_cells (a ∷ (b ∷ xs))) (2 + i) 0 ≡ get_or xs i 0
unfolding phrase_cells
past_2 a b xs i l h =
    let z : 2 + i ≡ suc (suc i) = omega arith in
    get_or-take 12 ((a ∷ (b ∷ xs)) ++ replicate 12 0) (2 + i) 0 (omega arith)
    ∙ get_or-append (a ∷ (b ∷ xs)) (replicate 12 0) 0 (2 + i) (omega arith)
    ∙ ap (λ (n : ℕ). get_or (a ∷ (b ∷ xs)) n 0) z

past_3 : (a b c : ℕ) (xs : List ℕ) (i : ℕ) → i < length xs → i ≤ 8 → get_or (phrase_cells (a ∷ (b ∷ (c ∷ xs)))) (3 + i) 0 ≡ get_or xs i 0
past_3 a b c xs i l h =
    let z : 3 + i ≡ 2 + suc i = omega arith in
    ap (λ (n : ℕ). get_or (phrase_cells (a ∷ (b ∷ (c ∷ xs)))) n 0) z ∙ past_2 a b (c ∷ xs) (suc i) (omega arith) (omega arith)

-- so many operands of a row, and so many clauses
abbrev pub Several : ℕ → List ℕ → ℕ → (ℕ → Type 0) → Type 0
Several n row from G = (i : ℕ) → i < n → G (get_or row (from + i) 0)

abbrev pub Clauses : ℕ → ℕ → List ℕ → (ℕ → Type 0) → Type 0
Clauses nq n row G = (i : ℕ) → i < n → (get_or row (3 + 2 * i) 0 < nq) × G (get_or row (4 + 2 * i) 0)

-- what the operands of row k are, by its kind
unfoldable pub Operands : ℕ → ℕ → List (List ℕ) → ℕ → List ℕ → ℕ → Type 0
Operands words nq rows k row c =
    let x = get_or row 1 0 in
    let y = get_or row 2 0 in
    let E = Expr rows k in
    let D = Dedu rows k in
    let F = Earlier rows k in
    get_or
    ((x < words)
    ∷ ((x ≤ 255)
    ∷ ((x ≤ 4)
    ∷ ((x ≤ 15)
    ∷ (((x ≤ 4) × E y)
    ∷ (((x ≤ 4) × D y)
    ∷ ((E x × (y ≤ 4) × Several y row 3 E)
    ∷ ((E x × E y)
    ∷ (((x < k) × (eqb (cell rows x 0) 4 || eqb (cell rows x 0) 5 ≡ true))
    ∷ ((E x × (1 ≤ y) × (y ≤ 4) × Clauses nq y row E)
    ∷ (⊥ ∷ (⊥ ∷ (⊥ ∷ (⊥ ∷ (⊥ ∷ (⊥
    ∷ ((E x × (y ≤ 4) × Several y row 3 F)
    ∷ ((E x × D y)
    ∷ ((E x × D y)
    ∷ ((F x × D y)
    ∷ ((E x × D y)
    ∷ (((1 ≤ x) × (x ≤ 8) × Several x row 2 D)
    ∷ ((F x × (1 ≤ y) × (y ≤ 4) × Clauses nq y row D)
    ∷ [])))))))))))))))))))))))
    c ⊥

several : (G : ℕ → Type 0) (a b n : ℕ) (xs : List ℕ) → length xs ≡ n → n ≤ 4 → All G xs → Several n (phrase_cells (a ∷ (b ∷ (n ∷ xs)))) 3 G
several G a b n xs l h g i q = rw (past_3 a b n xs i (omega arith) (omega arith)) (all_at G xs i 0 g (omega arith))

clauses : (nq : ℕ) (G : ℕ → Type 0) (a b n : ℕ) (cs : List (List ℕ)) → length cs ≡ n → n ≤ 4 → All (ClauseOf nq G) cs → Clauses nq n (phrase_cells (a ∷ (b ∷ (n ∷ flat cs)))) G
clauses nq G a b n cs l h g i q =
    let f = flat_long nq G cs g in
    let z : 4 + 2 * i ≡ 3 + (2 * i + 1) = omega arith in
    rw (z, past_3 a b n (flat cs) (2 * i) (omega arith) (omega arith), past_3 a b n (flat cs) (2 * i + 1) (omega arith) (omega arith))
    (clause_at nq G cs i g (omega arith))

pub operands : {words nq k : ℕ} {rows : List (List ℕ)} {row : List ℕ} → PhraseRow words nq rows k row → Operands words nq rows k row (get_or row 0 0)
unfolding Operands phrase_cells
operands (prop_row a) = a
operands (var_row a) = a
operands (con_row a) = a
operands (rule_row a) = a
operands (function_row a b) = (a, b)
operands (method_row a b) = (a, b)
operands {k = k} {rows = rows} (call_row {e} {n} xs a l b c) = (a, b, several (Expr rows k) 6 e n xs l b c)
operands (let_row a b) = (a, b)
operands (fix_cells a b) = (a, b)
operands {nq = nq} {k = k} {rows = rows} (match_row {e} {n} cs a l b c d) = (a, b, c, clauses nq (Expr rows k) 9 e n cs l c d)
operands {k = k} {rows = rows} (apply_row {e} {n} xs a l b c) = (a, b, several (Earlier rows k) 16 e n xs l b c)
operands (assume_row a b) = (a, b)
operands (suppose_row a b) = (a, b)
operands (dlet_row a b) = (a, b)
operands (by_row a b) = (a, b)
operands {k = k} {rows = rows} (block_row {n} xs l a b c) = (a, b, λ i q. rw (past_2 21 n xs i (omega arith) (omega arith)) (all_at (Dedu rows k) xs i 0 c (omega arith)))
operands {nq = nq} {k = k} {rows = rows} (dmatch_row {f} {n} cs a l b c d) = (a, b, c, clauses nq (Dedu rows k) 22 f n cs l c d)

-- an expression's kind is 9 at most
low_kind : {words nq k : ℕ} {rows : List (List ℕ)} {row : List ℕ} → PhraseRow words nq rows k row → get_or row 0 0 < 16 → get_or row 0 0 ≤ 9
unfolding phrase_cells
low_kind (prop_row a) h = omega arith
low_kind (var_row a) h = omega arith
low_kind (con_row a) h = omega arith
low_kind (rule_row a) h = omega arith
low_kind (function_row a b) h = omega arith
low_kind (method_row a b) h = omega arith
low_kind (call_row xs a l b c) h = omega arith
low_kind (let_row a b) h = omega arith
low_kind (fix_cells a b) h = omega arith
low_kind (match_row cs a l b c d) h = omega arith
low_kind (apply_row xs a l b c) h = omega arith
low_kind (assume_row a b) h = omega arith
low_kind (suppose_row a b) h = omega arith
low_kind (dlet_row a b) h = omega arith
low_kind (by_row a b) h = omega arith
low_kind (block_row xs l a b c) h = omega arith
low_kind (dmatch_row cs a l b c d) h = omega arith

-- rows say the same where the table has grown
module _ (fs gs : List Form) where
  more_words : {nq k : ℕ} {rows : List (List ℕ)} {row : List ℕ} → PhraseRow (length fs) nq rows k row → PhraseRow (length (fs ++ gs)) nq rows k row
  more_words (prop_row {p} a) = let n = length-append fs gs in prop_row {p = p} (omega arith)
  more_words (var_row a) = var_row a
  more_words (con_row a) = con_row a
  more_words (rule_row a) = rule_row a
  more_words (function_row a b) = function_row a b
  more_words (method_row a b) = method_row a b
  more_words (call_row xs a l b c) = call_row xs a l b c
  more_words (let_row a b) = let_row a b
  more_words (fix_cells a b) = fix_cells a b
  more_words (match_row cs a l b c d) = match_row cs a l b c d
  more_words (apply_row xs a l b c) = apply_row xs a l b c
  more_words (assume_row a b) = assume_row a b
  more_words (suppose_row a b) = suppose_row a b
  more_words (dlet_row a b) = dlet_row a b
  more_words (by_row a b) = by_row a b
  more_words (block_row xs l a b c) = block_row xs l a b c
  more_words (dmatch_row cs a l b c d) = dmatch_row cs a l b c d

  same_phrase : {nq k : ℕ} {rows : List (List ℕ)} {row : List ℕ} (qs : List Pattern) → PhraseRow (length fs) nq rows k row → phrase_of (fs ++ gs) qs rows row ≡ phrase_of fs qs rows row
  unfolding phrase_of phrase_cells
  same_phrase qs (prop_row {p} a) = rw (tree_more fs gs p a)
  same_phrase qs (var_row a) = refl
  same_phrase qs (con_row a) = refl
  same_phrase qs (rule_row a) = refl
  same_phrase qs (function_row a b) = refl
  same_phrase qs (method_row a b) = refl
  same_phrase qs (call_row xs a l b c) = refl
  same_phrase qs (let_row a b) = refl
  same_phrase qs (fix_cells a b) = refl
  same_phrase qs (match_row cs a l b c d) = refl
  same_phrase qs (apply_row xs a l b c) = refl
  same_phrase qs (assume_row a b) = refl
  same_phrase qs (suppose_row a b) = refl
  same_phrase qs (dlet_row a b) = refl
  same_phrase qs (by_row a b) = refl
  same_phrase qs (block_row xs l a b c) = refl
  same_phrase qs (dmatch_row cs a l b c d) = refl

  pub phrases_more : {qs : List Pattern} {ph : List Phrase} {rows : List (List ℕ)} → PhraseRows fs qs ph rows → PhraseRows (fs ++ gs) qs ph rows
  phrases_more {qs} R = record {
    count = R.count;
    sound = λ k h. more_words (R.sound k h);
    says = λ k h. R.says k h ∙ sym (same_phrase qs (R.sound k h));
  }

  more_patterns : {k : ℕ} {row : List ℕ} → PatternRow (length fs) k row → PatternRow (length (fs ++ gs)) k row
  more_patterns any_row = any_row
  more_patterns (exactly_row {p} h) = let n = length-append fs gs in exactly_row {p = p} (omega arith)
  more_patterns (not_row q) = not_row q
  more_patterns (join_row a b p q) = join_row a b p q

  same_pattern : {k : ℕ} {row : List ℕ} (qs : List Pattern) → PatternRow (length fs) k row → pattern_of (fs ++ gs) qs row ≡ pattern_of fs qs row
  unfolding pattern_of pattern_by
  same_pattern qs any_row = refl
  same_pattern qs (exactly_row {p} h) = rw (tree_more fs gs p h)
  same_pattern qs (not_row q) = refl
  same_pattern {k} qs (join_row {c} {p} {q} a b _ _) = go c a b
    where
      go : (c : ℕ) → 3 ≤ c → c ≤ 6 → pattern_by c (tree (fs ++ gs) p) (get_or qs p any) (get_or qs q any) ≡ pattern_by c (tree fs p) (get_or qs p any) (get_or qs q any)
      go zero a b = absurd (omega arith)
      go (suc zero) a b = absurd (omega arith)
      go (suc (suc c)) a b = refl

  pub patterns_more : {qs : List Pattern} {rows : List (List ℕ)} → PatternRows fs qs rows → PatternRows (fs ++ gs) qs rows
  patterns_more {qs} R = record {
    count = R.count;
    sound = λ k h. more_patterns (R.sound k h);
    says = λ k h. R.says k h ∙ sym (same_pattern qs (R.sound k h));
    binds = R.binds;
    sized = R.sized;
    few = R.few;
    small = R.small;
  }

-- numbers read one by one are a list's
pub listed_by : (ph : List ℕ) (n i : ℕ) (ys : List ℕ) → n ≤ length ys → ((j : ℕ) → j < n → get_or ph (i + j) 0 ≡ get_or ys j 0) → listed ph i n ≡ take n ys
unfolding listed
listed_by ph zero i ys h e = refl
listed_by ph (suc n) i [] h e = absurd (omega arith)
listed_by ph (suc n) i (y ∷ ys) h e =
    let z : i + 0 ≡ i = omega arith in
    let e₀ : get_or ph i 0 ≡ y = rw z at (e 0 (omega arith)) in
    let f : (j : ℕ) → j < n → get_or ph (i + 1 + j) 0 ≡ get_or ys j 0 = λ j l. let q : i + 1 + j ≡ i + suc j = omega arith in rw q (e (suc j) (omega arith)) in
    rw (e₀, listed_by ph n (i + 1) ys (omega arith) f)

-- the numbers of row k where the code reads them, and the phrase that they say
module _ (x : Text) (fs : List Form) (s : Shared) (m : M) (W : World x fs s m) (k : ℕ) (low : k < length x.rows) where
  pub cell_at : (j : ℕ) → j < 12 → get_or s.phrases (12 * k + j) 0 ≡ cell x.rows k j
  cell_at j h = W.holds.cells k j low h

  pub kind_at : kind s.phrases k ≡ cell x.rows k 0
  kind_at = let z : 12 * k + 0 ≡ 12 * k = omega arith in ap (λ (i : ℕ). get_or s.phrases i 0) (sym z) ∙ cell_at 0 (omega arith)

  pub row_inside : 12 * k + 12 ≤ length s.phrases
  row_inside = let i = W.holds.inside in omega arith

  pub operands_at : (c : ℕ) → kind s.phrases k ≡ c → Operands (length fs) (length x.patterns) x.rows k (get_or x.rows k []) c
  operands_at c e = subst (Operands (length fs) (length x.patterns) x.rows k (get_or x.rows k [])) (sym kind_at ∙ e) (operands (W.says.sound k low))

  -- an operand that is an earlier expression is a phrase's number
  pub earlier : (j : ℕ) → Expr x.rows k j → Row x j
  earlier j (l, c) = (omega arith, c)

  pub kind_is : (c : ℕ) → kind s.phrases k ≡ c → cell x.rows k 0 ≡ c
  kind_is c e = sym kind_at ∙ e

  abbrev row : List ℕ
  row = get_or x.rows k []

  pub says_prop : kind s.phrases k ≡ 0 → phrase_at x.phrases k ≡ expr (prop (tree fs (one s.phrases k)))
  unfolding phrase_of
  says_prop e = W.says.says k low ∙ rw (kind_is 0 e, cell_at 1 (omega arith))

  pub says_var : kind s.phrases k ≡ 1 → phrase_at x.phrases k ≡ expr (var (one s.phrases k))
  unfolding phrase_of
  says_var e = W.says.says k low ∙ rw (kind_is 1 e, cell_at 1 (omega arith))

  pub says_con : kind s.phrases k ≡ 2 → phrase_at x.phrases k ≡ expr (con (one s.phrases k))
  unfolding phrase_of
  says_con e = W.says.says k low ∙ rw (kind_is 2 e, cell_at 1 (omega arith))

  pub says_rule : kind s.phrases k ≡ 3 → phrase_at x.phrases k ≡ expr (rule (one s.phrases k))
  unfolding phrase_of
  says_rule e = W.says.says k low ∙ rw (kind_is 3 e, cell_at 1 (omega arith))

  pub says_closure : (S : Sort) → kind s.phrases k ≡ kind_of_sort S → phrase_at x.phrases k ≡ expr (abstract S false (cell x.rows k 1) (cell x.rows k 2))
  unfolding phrase_of
  says_closure function e = W.says.says k low ∙ rw (kind_is 4 e)
  says_closure method e = W.says.says k low ∙ rw (kind_is 5 e)

  pub says_let : kind s.phrases k ≡ 7 → phrase_at x.phrases k ≡ expr (bind (one s.phrases k) (two s.phrases k))
  unfolding phrase_of
  says_let e = W.says.says k low ∙ rw (kind_is 7 e, cell_at 1 (omega arith), cell_at 2 (omega arith))

  pub says_fix : kind s.phrases k ≡ 8 → let a = one s.phrases k in
      phrase_at x.phrases k ≡ expr (abstract (sort_of (cell x.rows a 0)) true (cell x.rows a 1) (cell x.rows a 2))
  unfolding phrase_of
  says_fix e = W.says.says k low ∙ rw (kind_is 8 e, cell_at 1 (omega arith))

  pub wide : length row ≡ 12
  wide = phrase_at_wide W.says k low

  -- from the number after the first i on
  pub rest_at : (i j : ℕ) → i + j < 12 → get_or s.phrases (12 * k + i + j) 0 ≡ get_or (drop i row) j 0
  rest_at i j h =
      let z : 12 * k + i + j ≡ 12 * k + (i + j) = omega arith in
      ap (λ (q : ℕ). get_or s.phrases q 0) z ∙ cell_at (i + j) h ∙ sym (get_or-drop i row j 0)

  pub says_call : kind s.phrases k ≡ 6 → phrase_at x.phrases k ≡ expr (call (one s.phrases k) (listed s.phrases (12 * k + 3) (two s.phrases k)))
  unfolding phrase_of Operands
  says_call e =
      let n : two s.phrases k ≡ cell x.rows k 2 = cell_at 2 (omega arith) in
      let few = (operands_at 6 e).1 in
      let long : length (drop 3 row) ≡ 9 = length-drop 3 row ∙ rw wide in
      let l = listed_by s.phrases (cell x.rows k 2) (12 * k + 3) (drop 3 row) (omega (arith, few, long)) (λ j h. rest_at 3 j (omega (arith, few, h))) in
      W.says.says k low ∙ rw (kind_is 6 e, cell_at 1 (omega arith), n, l)

  pub says_match : kind s.phrases k ≡ 9 → phrase_at x.phrases k ≡ expr (match (one s.phrases k) (clauses_of x.patterns (two s.phrases k) (drop (12 * k + 3) s.phrases)))
  unfolding phrase_of Operands
  says_match e =
      let n : two s.phrases k ≡ cell x.rows k 2 = cell_at 2 (omega arith) in
      let few = (operands_at 9 e).2 in
      let l = clauses_by x.patterns (cell x.rows k 2) (drop (12 * k + 3) s.phrases) (drop 3 row) (λ j h. get_or-drop (12 * k + 3) s.phrases j 0 ∙ rest_at 3 j (omega (arith, few, h))) in
      W.says.says k low ∙ rw (kind_is 9 e, cell_at 1 (omega arith), n, l)

abbrev one_if : Bool → ℕ
one_if true = 1
one_if false = 0

-- what the code needs of each kind
module _ (x : Text) (fs : List Form) (s : Shared) (m : M) (W : World x fs s m) (k : ℕ) (h : Row x k) where
  pub kind_low : kind s.phrases k ≤ 9
  kind_low = rw (kind_at x fs s m W k h.0) (low_kind (W.says.sound k h.0) h.1)

  -- the operator of a call, how many arguments it has, and each of them
  pub operator_row : kind s.phrases k ≡ 6 → Row x (one s.phrases k)
  unfolding Operands
  operator_row e = rw (cell_at x fs s m W k h.0 1 (omega arith)) (earlier x fs s m W k h.0 _ (operands_at x fs s m W k h.0 6 e).0)

  pub few_arguments : kind s.phrases k ≡ 6 → two s.phrases k ≤ 4
  unfolding Operands
  few_arguments e = rw (cell_at x fs s m W k h.0 2 (omega arith)) (operands_at x fs s m W k h.0 6 e).1

  pub argument_rows : kind s.phrases k ≡ 6 → (i : ℕ) → i < two s.phrases k → Row x (get_or s.phrases (12 * k + 3 + i) 0)
  unfolding Operands
  argument_rows e i l =
      let o = operands_at x fs s m W k h.0 6 e in
      let few = o.1 in
      let n = cell_at x fs s m W k h.0 2 (omega arith) in
      let z : 12 * k + 3 + i ≡ 12 * k + (3 + i) = omega arith in
      rw (z, cell_at x fs s m W k h.0 (3 + i) (omega (arith, few, n, l))) (earlier x fs s m W k h.0 _ (o.2 i (omega (arith, n, l))))

  -- both parts of a let
  pub first_row : kind s.phrases k ≡ 7 → Row x (one s.phrases k)
  unfolding Operands
  first_row e = rw (cell_at x fs s m W k h.0 1 (omega arith)) (earlier x fs s m W k h.0 _ (operands_at x fs s m W k h.0 7 e).0)

  pub second_row : kind s.phrases k ≡ 7 → Row x (two s.phrases k)
  unfolding Operands
  second_row e = rw (cell_at x fs s m W k h.0 2 (omega arith)) (earlier x fs s m W k h.0 _ (operands_at x fs s m W k h.0 7 e).1)

  -- the first phrase of a match, how many clauses it has, each pattern and each body
  pub subject_row : kind s.phrases k ≡ 9 → Row x (one s.phrases k)
  unfolding Operands
  subject_row e = rw (cell_at x fs s m W k h.0 1 (omega arith)) (earlier x fs s m W k h.0 _ (operands_at x fs s m W k h.0 9 e).0)

  pub few_clauses : kind s.phrases k ≡ 9 → two s.phrases k ≤ 4
  unfolding Operands
  few_clauses e = rw (cell_at x fs s m W k h.0 2 (omega arith)) (operands_at x fs s m W k h.0 9 e).2

  pub clause_rows : kind s.phrases k ≡ 9 → (i : ℕ) → i < two s.phrases k →
      (get_or s.phrases (12 * k + 3 + 2 * i) 0 < length x.pattern_rows) × Row x (get_or s.phrases (12 * k + 3 + 2 * i + 1) 0)
  unfolding Operands
  clause_rows e i l =
      let o = operands_at x fs s m W k h.0 9 e in
      let few = o.2 in
      let n = cell_at x fs s m W k h.0 2 (omega arith) in
      let z : 12 * k + 3 + 2 * i ≡ 12 * k + (3 + 2 * i) = omega arith in
      let y : 12 * k + 3 + 2 * i + 1 ≡ 12 * k + (4 + 2 * i) = omega arith in
      let c = o.3 i (omega (arith, n, l)) in
      let q = W.legible.says.count in
      let p = c.0 in (
        rw (z, cell_at x fs s m W k h.0 (3 + 2 * i) (omega (arith, few, n, l))) (omega (arith, p, q)),
        rw (y, cell_at x fs s m W k h.0 (4 + 2 * i) (omega (arith, few, n, l))) (earlier x fs s m W k h.0 _ c.1),
      )

  -- a proposition's, a constructor's, a rule's number
  pub prop_low : kind s.phrases k ≡ 0 → one s.phrases k < length fs
  unfolding Operands
  prop_low e = rw (cell_at x fs s m W k h.0 1 (omega arith)) (operands_at x fs s m W k h.0 0 e)

  pub con_low : kind s.phrases k ≡ 2 → one s.phrases k ≤ 4
  unfolding Operands
  con_low e = rw (cell_at x fs s m W k h.0 1 (omega arith)) (operands_at x fs s m W k h.0 2 e)

  pub rule_low : kind s.phrases k ≡ 3 → one s.phrases k ≤ 15
  unfolding Operands
  rule_low e = rw (cell_at x fs s m W k h.0 1 (omega arith)) (operands_at x fs s m W k h.0 3 e)

  -- a fix is over a function or a method
  either : (c : ℕ) → eqb c 4 || eqb c 5 ≡ true → (S : Sort) × (c ≡ kind_of_sort S)
  either c e = go (eqb c 4) (eqb c 5) refl refl e
    where
      go : (a b : Bool) → eqb c 4 ≡ a → eqb c 5 ≡ b → a || b ≡ true → (S : Sort) × (c ≡ kind_of_sort S)
      go true b f g e = (function, eqb-true c 4 f)
      go false true f g e = (method, eqb-true c 5 g)
      go false false f g e = absurd (let z : ◌≡◌ {A = ℕ} 0 1 = ap (λ (t : Bool). one_if t) e in omega arith)

  pub fix_row : kind s.phrases k ≡ 8 → (one s.phrases k < length x.rows) × ((S : Sort) × (cell x.rows (one s.phrases k) 0 ≡ kind_of_sort S))
  unfolding Operands
  fix_row e =
      let o = operands_at x fs s m W k h.0 8 e in
      let l = o.0 in
      let g = h.0 in
      rw (cell_at x fs s m W k h.0 1 (omega arith)) (omega (arith, l, g), either (cell x.rows (cell x.rows k 1) 0) o.1)

-- the body of a function is an expression
pub body_row : (x : Text) (fs : List Form) (s : Shared) (m : M) → World x fs s m → (a b : ℕ) → a < length x.rows → cell x.rows a 0 ≡ 4 → b ≡ cell x.rows a 2 → Row x b
unfolding Operands
body_row x fs s m W a b h e i = rw i (earlier x fs s m W a h _ (operands_at x fs s m W a h 4 (kind_at x fs s m W a h ∙ e)).1)

-- Rows: how patterns and phrases lie in numbers, and what a row says. A pattern is five numbers, a phrase twelve, the kind first.
use Rattle.std.specs.Prelude.{ℕ, List, [], ◌∷◌, ◌++◌, Bool, true, false, get_or, take, drop, replicate, eqb}
use Rattle.language.specs.Form.{Form, conj, disj, cond, bicond}
use Rattle.language.specs.Syntax.{Pattern, any, exactly, neg_p, bin_p, Clause, Sort, function, method, Phrase, expr, dedu}
use Rattle.language.specs.Syntax.{prop, var, con, rule, abstract, call, bind, match, apply, assume, suppose, dlet, by, block, dmatch}
use Rattle.forms.specs.Table.{tree}

-- number j of row k
abbrev pub cell : List (List ℕ) → ℕ → ℕ → ℕ
cell rows k j = get_or (get_or rows k []) j 0

-- rows one after another, as a buffer has them
unfoldable pub flat : List (List ℕ) → List ℕ
flat [] = []
flat (r ∷ rs) = r ++ flat rs

-- a pattern's row: kind, two operands, how many it binds, how many parts it has
abbrev pub pattern_cells : ℕ → ℕ → ℕ → ℕ → ℕ → List ℕ
pattern_cells k l r m n = k ∷ (l ∷ (r ∷ (m ∷ (n ∷ []))))

-- a phrase's row: kind and operands, zeros to the end
unfoldable pub phrase_cells : List ℕ → List ℕ
phrase_cells xs = take 12 (xs ++ replicate 12 0)

-- the pattern of a kind, over the proposition and the two patterns that its operands may name
unfoldable pub pattern_by : ℕ → Form → Pattern → Pattern → Pattern
pattern_by kind p x y =
    get_or
    (any ∷ (exactly p ∷ (neg_p x ∷ (bin_p conj x y ∷ (bin_p disj x y ∷ (bin_p cond x y ∷ (bin_p bicond x y ∷ [])))))))
    kind any

-- the pattern that a row says, over the trees of the table and the patterns before it
unfoldable pub pattern_of : List Form → List Pattern → List ℕ → Pattern
unfolding pattern_by
pattern_of fs qs row = pattern_by (get_or row 0 0) (tree fs (get_or row 1 0)) (get_or qs (get_or row 1 0) any) (get_or qs (get_or row 2 0) any)

-- a function's kind is 4, a method's 5
unfoldable pub sort_by : Bool → Sort
sort_by true = method
sort_by false = function

abbrev pub sort_of : ℕ → Sort
sort_of kind = sort_by (eqb kind 5)

-- so many clauses, each a pattern's number and a phrase's
unfoldable pub clauses_of : List Pattern → ℕ → List ℕ → List Clause
clauses_of qs ℕ.zero xs = []
clauses_of qs (ℕ.suc n) xs = record { pattern = get_or qs (get_or xs 0 0) any; body = get_or xs 1 0 } ∷ clauses_of qs n (drop 2 xs)

-- a block of steps
unfoldable pub block_by : List ℕ → Phrase
block_by [] = expr (var 0)
block_by (k ∷ ks) = dedu (block k ks)

-- the phrase that a row says, over the trees of the table, the patterns, and the rows before it
unfoldable pub phrase_of : List Form → List Pattern → List (List ℕ) → List ℕ → Phrase
unfolding sort_by clauses_of block_by
phrase_of fs qs rows row =
    let one = get_or row 1 0 in
    let two = get_or row 2 0 in
    let none : Phrase = expr (var 0) in
    get_or
    (expr (prop (tree fs one))
    ∷ (expr (var one)
    ∷ (expr (con one)
    ∷ (expr (rule one)
    ∷ (expr (abstract function false one two)
    ∷ (expr (abstract method false one two)
    ∷ (expr (call one (take two (drop 3 row)))
    ∷ (expr (bind one two)
    ∷ (expr (abstract (sort_of (cell rows one 0)) true (cell rows one 1) (cell rows one 2))
    ∷ (expr (match one (clauses_of qs two (drop 3 row)))
    ∷ (none ∷ (none ∷ (none ∷ (none ∷ (none ∷ (none
    ∷ (dedu (apply one (take two (drop 3 row)))
    ∷ (dedu (assume one two)
    ∷ (dedu (suppose one two)
    ∷ (dedu (dlet one two)
    ∷ (dedu (by one two)
    ∷ (block_by (take one (drop 2 row))
    ∷ (dedu (dmatch one (clauses_of qs two (drop 3 row)))
    ∷ [])))))))))))))))))))))))
    (get_or row 0 0) none
